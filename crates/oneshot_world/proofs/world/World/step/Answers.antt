-- A proof of one goal of `step`. `search` finds it too. With a file of answers the prover offers none for a wrong body.
use Rattle.std.proofs.Common.{rules}
use Rattle.oneshot_world.proofs.world.World.step.Goals as goal

pub returns-in-Sender : goal.returns-in-Sender
returns-in-Sender c = search rules
