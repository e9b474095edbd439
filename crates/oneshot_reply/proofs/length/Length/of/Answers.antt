-- A proof of one goal of `of`. `search` finds it too. With a file of answers the prover offers none for a wrong body.
use Rattle.std.proofs.Common.{rules}
use Rattle.oneshot_reply.proofs.length.Length.of.Goals as goal

pub invariant_of-result : goal.invariant_of-result
invariant_of-result c = search rules
