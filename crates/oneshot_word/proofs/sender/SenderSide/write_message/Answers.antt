-- Proofs of the goals that `write_message` of `SenderSide` leaves.
use Rattle.oneshot_word.proofs.Names.{held_keeps}
use Rattle.oneshot_word.proofs.sender.SenderSide.write_message.Goals as goal

pub trade_message-old-requires-clause-promise : goal.trade_message-old-requires-clause-promise
trade_message-old-requires-clause-promise g c = held_keeps _ c.requires.promise
