-- Proofs of the goals that `trade_message` of `ReceiverSide` leaves.
use Rattle.oneshot_word.proofs.Names.{◌≢◌, rules, sym, subst, away, HoldsTaken, Keeps, message_of, message_in, waker_in, MessageSlot, ReceiverSeat}
use Rattle.oneshot_word.proofs.SlotReads.{fits_message}
use Rattle.oneshot_word.proofs.SlotTrades.{receiver_message_front, Traded, receiver_message_traded, message_side}
use Rattle.oneshot_word.proofs.receiver.ReceiverSide.trade_message.Given as given
use Rattle.oneshot_word.proofs.receiver.ReceiverSide.trade_message.Goals as goal

pub exchange-requires : goal.exchange-requires
exchange-requires g c = (
  search rules,
  receiver_message_front c.self.inside.seat.me c.self.invariant.0
      (subst (λ s. s.message ≢ away) (sym c.self.view_is) c.requires.its_own),
)

traded : (g : given.Over) (c : goal.After-exchange g)
    → Traded (λ s. MessageSlot (g.P.Promise.keeps c.self.inside.seat.me.0.about) s (message_in c.self.inside.seat.me.1))
    (ReceiverSeat g.P.Promise.keeps) c.self.inside.seat.me c.exchange.new.seat.me c.exchange.result
    (message_of c.args.new) (waker_in c.self.inside.seat.me.1)
traded g c =
    receiver_message_traded c.self.inside.seat.me c.exchange.new.seat.me c.self.invariant.0
    (subst (λ s. s.message ≢ away) (sym c.self.view_is) c.requires.its_own)
    (fits_message c.args.new c.requires.no_waker
    (subst (λ s. Keeps (g.P.Promise.keeps s.about) (message_of c.args.new)) (sym c.self.view_is) c.requires.promise))
    (subst (λ s. HoldsTaken s.passed (message_of c.args.new)) (sym c.self.view_is) c.requires.passed)
    c.exchange.ensures.2 c.exchange.ensures.3

pub invariant_of-self : goal.invariant_of-self
invariant_of-self g c = ((traded g c).seat, search rules)

pub returns-clause-was : goal.returns-clause-was
returns-clause-was g c =
    subst (λ s. MessageSlot (g.P.Promise.keeps s.about) c.exchange.result s.message) c.self.view_is (traded g c).was

pub returns-clause-has : goal.returns-clause-has
returns-clause-has g c =
    message_side c.self.inside.seat.table_id c.exchange.new.seat.table_id c.self.inside.seat.me c.exchange.new.seat.me
    c.args.self.now c.self.view_is (search rules) (traded g c)

pub returns-clause-taken : goal.returns-clause-taken
returns-clause-taken g c = subst (λ s. HoldsTaken s.passed s.message) c.self.view_is c.self.invariant.0.passed
