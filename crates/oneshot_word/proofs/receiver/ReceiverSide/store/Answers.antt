-- Proofs of the goals that `store` of `ReceiverSide` leaves.
use Rattle.oneshot_word.proofs.Names.{rules, sym, subst, Store, ReceiverCan}
use Rattle.oneshot_word.proofs.EachStep.{receiver_allowed}
use Rattle.oneshot_word.proofs.receiver.ReceiverSide.store.Goals as goal

pub swap-requires : goal.swap-requires
swap-requires g c = (
  search rules,
  search rules,
  receiver_allowed g.P.Promise.keeps _ _ (Store c.args.new) _ _ c.self.invariant.0
      (subst (λ s. ReceiverCan s (Store c.args.new)) (sym c.self.view_is) c.requires),
)
