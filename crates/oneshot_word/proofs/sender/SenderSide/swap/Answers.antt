-- Proofs of the goals that `swap` of `SenderSide` leaves.
use Rattle.oneshot_word.proofs.Names.{rules, sym, subst, Swap, SenderCan}
use Rattle.oneshot_word.proofs.EachStep.{sender_allowed}
use Rattle.oneshot_word.proofs.sender.SenderSide.swap.Goals as goal

pub swap-requires : goal.swap-requires
swap-requires g c = (
  search rules,
  search rules,
  sender_allowed g.P.Promise.keeps _ _ (Swap c.args.new) _ _ c.self.invariant.0
      (subst (λ s. SenderCan s (Swap c.args.new)) (sym c.self.view_is) c.requires),
)
