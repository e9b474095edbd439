-- A proof of one goal of `is_over`. `search` finds it too. With a file of answers the prover offers none for a wrong
-- body.
use Rattle.std.proofs.Common.{rules}
use Rattle.oneshot_ends.proofs.patience.Patience.is_over.Goals as goal

pub returns : goal.returns
returns g c = search rules
