-- Proofs of the goals that `load` of `ReceiverSide` leaves.
use Rattle.oneshot_word.proofs.Names.{rules, sym, subst, Load, ReceiverCan}
use Rattle.oneshot_word.proofs.EachStep.{receiver_allowed}
use Rattle.oneshot_word.proofs.receiver.ReceiverSide.load.Goals as goal

pub load-requires : goal.load-requires
load-requires g c = (
  search rules,
  search rules,
  receiver_allowed g.P.Promise.keeps _ _ Load _ _ c.self.invariant.0
      (subst (λ s. ReceiverCan s Load) (sym c.self.view_is) c.requires),
)
