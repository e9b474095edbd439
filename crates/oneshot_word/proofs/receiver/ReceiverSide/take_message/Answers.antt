-- Proofs of the goals that `take_message` of `ReceiverSide` leaves.
use Rattle.oneshot_word.proofs.Names.{sym, ◌∙◌, vacant_keeps, holds_none}
use Rattle.oneshot_word.proofs.MessagePasses.{holds_so}
use Rattle.oneshot_word.proofs.SlotReads.{message_reads}
use Rattle.oneshot_word.proofs.receiver.ReceiverSide.take_message.Goals as goal

pub trade_message-requires-clause-promise : goal.trade_message-requires-clause-promise
trade_message-requires-clause-promise g c = vacant_keeps

pub trade_message-requires-clause-passed : goal.trade_message-requires-clause-passed
trade_message-requires-clause-passed g c = holds_none

pub returns-clause-passed : goal.returns-clause-passed
returns-clause-passed g c =
    holds_so c.trade_message.ensures.taken (sym (message_reads c.trade_message.ensures.was) ∙ c.into_message.ensures)
