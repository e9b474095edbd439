-- Proofs of the goals of `is_gone` that its must-fail edits break. `search` finds them too. Over a wrong body an answer
-- fails sooner, and the prover offers no other.
use Rattle.std.proofs.Common.{rules}
use Rattle.oneshot_watch.proofs.watching.Watch.is_gone.Goals as goal

pub returns-clause-stays_gone : goal.returns-clause-stays_gone
returns-clause-stays_gone g c = search rules

pub returns-clause-there : goal.returns-clause-there
returns-clause-there g c = search rules

pub returns-clause-there_run : goal.returns-clause-there_run
returns-clause-there_run g c = search rules
