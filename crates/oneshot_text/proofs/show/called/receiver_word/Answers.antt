-- A proof of one goal of `receiver_word`. `search` finds it too. With a file of answers the prover
-- offers none for a wrong body.
use Rattle.std.proofs.Common.{rules}
use Rattle.oneshot_text.proofs.show.called.receiver_word.Goals as goal

pub returns-in-HasMessage : goal.returns-in-HasMessage
returns-in-HasMessage c = search rules
