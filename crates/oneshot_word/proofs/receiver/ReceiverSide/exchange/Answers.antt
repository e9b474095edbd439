-- Proofs of the goals that `exchange` of `ReceiverSide` leaves.
use Rattle.oneshot_word.proofs.Names.{rules, sym, subst, Exchange, ReceiverCan}
use Rattle.oneshot_word.proofs.EachStep.{receiver_allowed}
use Rattle.oneshot_word.proofs.receiver.ReceiverSide.exchange.Goals as goal

pub compare_exchange-requires : goal.compare_exchange-requires
compare_exchange-requires g c = (
  search rules,
  search rules,
  receiver_allowed g.P.Promise.keeps _ _ (Exchange c.args.expected c.args.new) _ _
      c.self.invariant.0 (subst (λ s. ReceiverCan s (Exchange c.args.expected c.args.new)) (sym c.self.view_is)
      c.requires),
)
