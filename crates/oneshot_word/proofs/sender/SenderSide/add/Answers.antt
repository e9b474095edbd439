-- Proofs of the goals that `add` of `SenderSide` leaves.
use Rattle.oneshot_word.proofs.Names.{rules, sym, subst, Add, SenderCan}
use Rattle.oneshot_word.proofs.EachStep.{sender_allowed}
use Rattle.oneshot_word.proofs.sender.SenderSide.add.Goals as goal

pub fetch_add-requires : goal.fetch_add-requires
fetch_add-requires g c = (
  search rules,
  search rules,
  sender_allowed g.P.Promise.keeps _ _ Add _ _ c.self.invariant.0
      (subst (λ s. SenderCan s Add) (sym c.self.view_is) c.requires),
)
