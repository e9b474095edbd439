-- Proofs of the goals that `take_message` of `SenderSide` leaves.
use Rattle.oneshot_word.proofs.Names.{vacant_keeps}
use Rattle.oneshot_word.proofs.sender.SenderSide.take_message.Goals as goal

pub trade_message-requires-clause-promise : goal.trade_message-requires-clause-promise
trade_message-requires-clause-promise g c = vacant_keeps
