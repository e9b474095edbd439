-- Proofs of the goals that `trade_message` of `SenderSide` leaves.
use Rattle.std.proofs.Common.{refl}
use Rattle.oneshot_word.proofs.Names.{◌≢◌, rules, sym, subst, away, Keeps, message_of, message_in, waker_in, MessageSlot, SenderSeat}
use Rattle.oneshot_word.proofs.SlotReads.{fits_message}
use Rattle.oneshot_word.proofs.SlotTrades.{sender_message_front, Traded, sender_message_traded, message_side}
use Rattle.oneshot_word.proofs.sender.SenderSide.trade_message.Given as given
use Rattle.oneshot_word.proofs.sender.SenderSide.trade_message.Goals as goal

pub exchange-old-requires : goal.exchange-old-requires
exchange-old-requires g c = (
  search rules,
  sender_message_front c.self.inside.seat.me c.turn.new.self.me c.self.invariant.0
      (subst (λ s. s.message ≢ away) (sym c.self.view_is) c.requires.its_own) c.turn.ensures.2,
)

traded : (g : given.Over) (c : goal.After-turn-2 g)
    → Traded (λ s. MessageSlot (g.P.Promise.keeps c.self.inside.seat.me.0.about) s (message_in c.self.inside.seat.me.1))
    (SenderSeat g.P.Promise.keeps) c.self.inside.seat.me c.turn-2.new.self.me c.exchange-old.result
    (message_of c.args.new) (waker_in c.self.inside.seat.me.1)
traded g c =
    sender_message_traded c.self.inside.seat.me c.turn.new.self.me c.exchange-old.new.seat.me c.turn-2.new.self.me
    c.self.invariant.0 (subst (λ s. s.message ≢ away) (sym c.self.view_is) c.requires.its_own)
    (fits_message c.args.new c.requires.no_waker
    (subst (λ s. Keeps (g.P.Promise.keeps s.about) (message_of c.args.new)) (sym c.self.view_is) c.requires.promise))
    record {
      turn = c.turn.ensures.2;
      front = c.exchange-old.ensures.2;
      trade = c.exchange-old.ensures.3;
      back =
          c.turn-2.ensures.2;
    }

pub invariant_of-self : goal.invariant_of-self
invariant_of-self g c = (refl, tt, ((traded g c).seat, search rules))

pub returns-clause-was : goal.returns-clause-was
returns-clause-was g c =
    subst (λ s. MessageSlot (g.P.Promise.keeps s.about) c.exchange-old.result s.message) c.self.view_is (traded g c).was

pub returns-clause-has : goal.returns-clause-has
returns-clause-has g c =
    message_side c.self.inside.seat.table_id c.turn-2.new.self.table_id c.self.inside.seat.me c.turn-2.new.self.me
    c.args.self.now c.self.view_is (search rules) (traded g c)
