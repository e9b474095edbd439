-- A proof of one goal of `keep_hand`. `search` finds it too. With a file of answers the prover
-- offers none for a wrong body.
use Rattle.std.proofs.Common.{rules}
use Rattle.oneshot_world.proofs.wakers.Wakers.keep_hand.Goals as goal

pub returns-then-future : goal.returns-then-future
returns-then-future c = search rules
