-- Proofs of the goals that `open` leaves.
use Rattle.oneshot_word.proofs.Names.{sym, subst, IsAt, SenderSeat, ReceiverSeat}
use Rattle.oneshot_word.proofs.TableOpens.{sender_seated, receiver_seated}
use Rattle.oneshot_word.proofs.opening.open.Goals as goal

pub new-sender-requires : goal.new-sender-requires
new-sender-requires g c = (
  subst (SenderSeat g.P.Promise.keeps) (sym c.in_ok-made.ensures.sender) (sender_seated g.P.Promise.keeps _),
  subst (λ made. IsAt made.shared.table_id c.in_ok-made.seat.table_id) (sym c.in-Ok.ensures.0)
      c.in_ok-made.ensures.sender_at,
)

pub invariant_of-receiver : goal.invariant_of-receiver
invariant_of-receiver g c = (
  subst (ReceiverSeat g.P.Promise.keeps) (sym c.in_ok-made.ensures.receiver) (receiver_seated g.P.Promise.keeps _),
  subst (λ made. IsAt made.shared.table_id c.in_ok-made.other.table_id) (sym c.in-Ok.ensures.1)
      c.in_ok-made.ensures.receiver_at,
)
