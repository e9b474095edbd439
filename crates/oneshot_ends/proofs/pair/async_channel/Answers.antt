-- A proof of one goal of `async_channel`. `search` finds it too. With a file of answers the prover offers none for a
-- wrong body.
use Rattle.std.proofs.Common.{rules}
use Rattle.oneshot_ends.proofs.pair.async_channel.Goals as goal

pub returns-clause-one_channel : goal.returns-clause-one_channel
returns-clause-one_channel g c = search rules
