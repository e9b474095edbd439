-- Proofs of the goals that `trade_waker` of `ReceiverSide` leaves.
use Rattle.oneshot_word.proofs.Names.{◌≢◌, rules, sym, ap, subst, away, waker_of, message_in, waker_in, WakerSlot, ReceiverSeat}
use Rattle.oneshot_word.proofs.SlotReads.{fits_waker}
use Rattle.oneshot_word.proofs.SlotTrades.{receiver_waker_front, Traded, receiver_waker_traded, waker_side}
use Rattle.oneshot_word.proofs.receiver.ReceiverSide.trade_waker.Given as given
use Rattle.oneshot_word.proofs.receiver.ReceiverSide.trade_waker.Goals as goal

pub exchange-old-requires : goal.exchange-old-requires
exchange-old-requires g c = (
  search rules,
  receiver_waker_front c.self.inside.seat.me c.turn.new.self.me c.self.invariant.0
      (subst (λ s. s.waker ≢ away) (sym c.self.view_is) c.requires.its_own) c.turn.ensures.2,
)

traded : (g : given.Over) (c : goal.After-turn-2 g)
    → Traded (λ s. WakerSlot s (waker_in c.self.inside.seat.me.1)) (ReceiverSeat g.P.Promise.keeps)
    c.self.inside.seat.me c.turn-2.new.self.me c.exchange-old.result (message_in c.self.inside.seat.me.1)
    (waker_of c.args.new)
traded g c =
    receiver_waker_traded c.self.inside.seat.me c.turn.new.self.me c.exchange-old.new.seat.me c.turn-2.new.self.me
    c.self.invariant.0 (subst (λ s. s.waker ≢ away) (sym c.self.view_is) c.requires.its_own)
    (fits_waker c.args.new c.requires.no_message)
    record {
      turn = c.turn.ensures.2;
      front = c.exchange-old.ensures.2;
      trade = c.exchange-old.ensures.3;
      back =
          c.turn-2.ensures.2;
    }

pub invariant_of-self : goal.invariant_of-self
invariant_of-self g c = ((traded g c).seat, search rules)

pub returns-clause-was : goal.returns-clause-was
returns-clause-was g c = rw (ap (λ s. s.waker) (sym c.self.view_is)) (traded g c).was

pub returns-clause-has : goal.returns-clause-has
returns-clause-has g c =
    waker_side c.self.inside.seat.table_id c.turn-2.new.self.table_id c.self.inside.seat.me c.turn-2.new.self.me
    c.args.self.now c.self.view_is (search rules) (traded g c)
