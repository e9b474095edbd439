-- A proof of one goal of `message`. `search` finds it too. With a file of answers the prover
-- offers none for a wrong body.
use Rattle.std.proofs.Common.{rules}
use Rattle.oneshot_text.proofs.request.Request.message.Goals as goal

pub returns-in-Send : goal.returns-in-Send
returns-in-Send c = search rules
