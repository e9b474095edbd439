-- A proof of one goal of `move_of`. `search` finds it too. With a file of answers the prover
-- offers none for a wrong body.
use Rattle.std.proofs.Common.{rules}
use Rattle.oneshot_text.proofs.schedule.move_of.Goals as goal

pub returns-in-111 : goal.returns-in-111
returns-in-111 c = search rules
