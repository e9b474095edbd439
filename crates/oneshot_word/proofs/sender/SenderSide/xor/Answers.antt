-- Proofs of the goals that `xor` of `SenderSide` leaves.
use Rattle.oneshot_word.proofs.Names.{rules, sym, subst, Xor, SenderCan}
use Rattle.oneshot_word.proofs.EachStep.{sender_allowed}
use Rattle.oneshot_word.proofs.sender.SenderSide.xor.Goals as goal

pub fetch_xor-requires : goal.fetch_xor-requires
fetch_xor-requires g c = (
  search rules,
  search rules,
  sender_allowed g.P.Promise.keeps _ _ Xor _ _ c.self.invariant.0
      (subst (λ s. SenderCan s Xor) (sym c.self.view_is) c.requires),
)
