-- A proof of one goal of `entries`. `search` finds it too. With a file of answers the prover
-- offers none for a wrong body.
use Rattle.std.proofs.Common.{rules}
use Rattle.oneshot_replay.proofs.trace.Trace.entries.Goals as goal

pub returns : goal.returns
returns g c = search rules
