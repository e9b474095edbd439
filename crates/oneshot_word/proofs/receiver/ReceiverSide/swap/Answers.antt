-- Proofs of the goals that `swap` of `ReceiverSide` leaves.
use Rattle.oneshot_word.proofs.Names.{rules, sym, subst, Swap, ReceiverCan}
use Rattle.oneshot_word.proofs.EachStep.{receiver_allowed}
use Rattle.oneshot_word.proofs.receiver.ReceiverSide.swap.Goals as goal

pub swap-requires : goal.swap-requires
swap-requires g c = (
  search rules,
  search rules,
  receiver_allowed g.P.Promise.keeps _ _ (Swap c.args.new) _ _ c.self.invariant.0
      (subst (λ s. ReceiverCan s (Swap c.args.new)) (sym c.self.view_is) c.requires),
)
