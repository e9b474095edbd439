-- Proofs of the goals that `a_receiver_is_in_an_order` leaves.
use Rattle.oneshot_word.proofs.Names.{subst, IsOrdered}
use Rattle.oneshot_word.specs.declared.rule.Role.TheVariants.{Receiver}
use Rattle.oneshot_word.proofs.laws.a_receiver_is_in_an_order.Goals as goal

pub returns : goal.returns
returns g c = subst (λ s. IsOrdered Receiver s.log) c.side.view_is c.side.invariant.0.ordered
