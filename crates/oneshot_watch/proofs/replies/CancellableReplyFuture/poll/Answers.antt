-- Proofs of the goals of `poll` that its must-fail edits break. `search` finds them too. Over a wrong body an answer
-- fails sooner, and the prover offers no other.
use Rattle.std.proofs.Common.{rules}
use Rattle.oneshot_watch.proofs.replies.CancellableReplyFuture.poll.Goals as goal

pub returns-clause-leaves : goal.returns-clause-leaves
returns-clause-leaves g c = search rules

pub returns-clause-registered : goal.returns-clause-registered
returns-clause-registered g c = search rules

pub returns-clause-run : goal.returns-clause-run
returns-clause-run g c = search rules

pub returns-clause-stays_closed : goal.returns-clause-stays_closed
returns-clause-stays_closed g c = search rules

pub returns-clause-stays_open : goal.returns-clause-stays_open
returns-clause-stays_open g c = search rules

pub returns-clause-took : goal.returns-clause-took
returns-clause-took g c = search rules

pub returns-clause-woken : goal.returns-clause-woken
returns-clause-woken g c = search rules
