-- Proofs of the goals that `no_wakeup_is_lost` leaves.
use Rattle.oneshot_ends.proofs.NoLostWakeup.{senders_gave_tokens, no_sleeper_is_forgotten, futures_wake_no_thread, senders_woke_tasks, no_task_is_forgotten}
use Rattle.oneshot_ends.proofs.laws.no_wakeup_is_lost.Goals as goal

pub returns-clause-tokens : goal.returns-clause-tokens
returns-clause-tokens g c = senders_gave_tokens g.P.Promise.keeps

pub returns-clause-sleepers : goal.returns-clause-sleepers
returns-clause-sleepers g c = no_sleeper_is_forgotten g.P.Promise.keeps

pub returns-clause-futures : goal.returns-clause-futures
returns-clause-futures g c = futures_wake_no_thread g.P.Promise.keeps

pub returns-clause-tasks : goal.returns-clause-tasks
returns-clause-tasks g c = senders_woke_tasks g.P.Promise.keeps

pub returns-clause-registered : goal.returns-clause-registered
returns-clause-registered g c = no_task_is_forgotten g.P.Promise.keeps
