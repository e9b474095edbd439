-- A proof of one goal of `fixed_text`. `search` finds it too. With a file of answers the prover
-- offers none for a wrong body.
use Rattle.std.proofs.Common.{rules}
use Rattle.oneshot_text.proofs.show.reply.ReplyText.fixed_text.Goals as goal

pub returns-clause-text : goal.returns-clause-text
returns-clause-text c = search rules
