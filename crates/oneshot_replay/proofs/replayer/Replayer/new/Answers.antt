-- Proofs of the goals of `new` that its must-fail edits break. `search` finds them too. Over a wrong body an answer
-- fails sooner, and the prover offers no other.
use Rattle.std.proofs.Common.{rules}
use Rattle.oneshot_replay.proofs.replayer.Replayer.new.Goals as goal

pub returns-clause-begins : goal.returns-clause-begins
returns-clause-begins g c = search rules

pub returns-clause-message : goal.returns-clause-message
returns-clause-message g c = search rules
