-- Proofs of the goals that `take_waker` of `ReceiverSide` leaves.
use Rattle.oneshot_word.proofs.Names.{◌∙◌}
use Rattle.oneshot_word.proofs.SlotReads.{waker_reads}
use Rattle.oneshot_word.proofs.receiver.ReceiverSide.take_waker.Goals as goal

pub into_waker-requires : goal.into_waker-requires
into_waker-requires g c = (c.requires.0, waker_reads c.trade_waker.ensures.was ∙ c.requires.1)
