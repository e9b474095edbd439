-- A proof of one goal of `found_text`. `search` finds it too. With a file of answers the prover
-- offers none for a wrong body.
use Rattle.std.proofs.Common.{rules}
use Rattle.oneshot_text.proofs.show.entry.found_text.Goals as goal

pub returns-in-Over-true : goal.returns-in-Over-true
returns-in-Over-true c = search rules
