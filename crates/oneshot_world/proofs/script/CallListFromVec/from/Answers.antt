-- A proof of one goal of `from`. `search` finds it too. With a file of answers the prover offers none for a wrong body.
use Rattle.std.proofs.Common.{rules}
use Rattle.oneshot_world.proofs.script.CallListFromVec.from.Goals as goal

pub returns : goal.returns
returns c = search rules
