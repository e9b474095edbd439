-- A proof of one goal of `drop`. `search` finds it too. With a file of answers the prover offers none for a wrong
-- body.
use Rattle.std.proofs.Common.{rules}
use Rattle.oneshot_ends.proofs.future.AsyncReceiver.drop.Goals as goal

pub dropped-requires : goal.dropped-requires
dropped-requires g c = search rules
