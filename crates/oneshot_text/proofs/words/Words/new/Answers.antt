-- Proofs of the goals that `new` of `Words` leaves.
use Rattle.std.proofs.Common.{arith}
use Rattle.oneshot_text.proofs.Cut.{length-parts}
use Rattle.oneshot_text.proofs.words.Words.new.Goals as goal

pub invariant_of-result : goal.invariant_of-result
invariant_of-result c = omega (arith, length-parts 32 c.args.text.now)
