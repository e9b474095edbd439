-- A proof of one goal of `into_future`. `search` finds it too. With a file of answers the prover
-- offers none for a wrong body.
use Rattle.std.proofs.Common.{rules}
use Rattle.oneshot_watch.proofs.watching.Watch.into_future.Goals as goal

pub returns-clause-log : goal.returns-clause-log
returns-clause-log g c = search rules
