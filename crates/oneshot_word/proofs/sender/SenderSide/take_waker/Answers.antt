-- Proofs of the goals that `take_waker` of `SenderSide` leaves.
use Rattle.oneshot_word.proofs.Names.{sym, ◌∙◌, claims_none}
use Rattle.oneshot_word.proofs.WakerPasses.{claims_so}
use Rattle.oneshot_word.proofs.SlotReads.{waker_reads}
use Rattle.oneshot_word.proofs.sender.SenderSide.take_waker.Goals as goal

pub trade_waker-requires-clause-handed : goal.trade_waker-requires-clause-handed
trade_waker-requires-clause-handed g c = claims_none

pub returns-clause-handed : goal.returns-clause-handed
returns-clause-handed g c =
    claims_so c.trade_waker.ensures.taken (sym (waker_reads c.trade_waker.ensures.was) ∙ c.into_waker.ensures)

pub into_waker-requires : goal.into_waker-requires
into_waker-requires g c = (c.requires.0, waker_reads c.trade_waker.ensures.was ∙ c.requires.1)
