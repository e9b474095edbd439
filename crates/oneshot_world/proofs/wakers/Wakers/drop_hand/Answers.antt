-- Proofs of the goals of `drop_hand` that its must-fail edits break. `search` finds them too. Over a wrong body
-- an answer fails sooner, and the prover offers no other.
use Rattle.std.proofs.Common.{rules}
use Rattle.oneshot_world.proofs.wakers.Wakers.drop_hand.Goals as goal

pub returns-clause-leaves : goal.returns-clause-leaves
returns-clause-leaves c = search rules

pub returns-clause-waker : goal.returns-clause-waker
returns-clause-waker c = search rules
