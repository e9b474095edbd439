-- Proofs of the goals of `poll` that its must-fail edits break. `search` finds them too. Over a wrong body an answer
-- fails sooner, and the prover offers no other.
use Rattle.std.proofs.Common.{rules}
use Rattle.oneshot_watch.proofs.future.AsyncWatchFuture.poll.Goals as goal

pub returns-clause-gone : goal.returns-clause-gone
returns-clause-gone g c = search rules

pub returns-clause-gone_run : goal.returns-clause-gone_run
returns-clause-gone_run g c = search rules
