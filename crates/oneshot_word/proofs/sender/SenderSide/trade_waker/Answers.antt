-- Proofs of the goals that `trade_waker` of `SenderSide` leaves.
use Rattle.std.proofs.Common.{refl}
use Rattle.oneshot_word.proofs.Names.{◌≢◌, rules, sym, ap, subst, away, waker_of, HoldsClaimed, message_in, waker_in, WakerSlot, SenderSeat}
use Rattle.oneshot_word.proofs.SlotReads.{fits_waker}
use Rattle.oneshot_word.proofs.SlotTrades.{sender_waker_front, Traded, sender_waker_traded, waker_side}
use Rattle.oneshot_word.proofs.sender.SenderSide.trade_waker.Given as given
use Rattle.oneshot_word.proofs.sender.SenderSide.trade_waker.Goals as goal

pub exchange-requires : goal.exchange-requires
exchange-requires g c = (
  search rules,
  sender_waker_front c.self.inside.seat.me c.self.invariant.0
      (subst (λ s. s.waker ≢ away) (sym c.self.view_is) c.requires.its_own),
)

traded : (g : given.Over) (c : goal.After-exchange g)
    → Traded (λ s. WakerSlot s (waker_in c.self.inside.seat.me.1)) (SenderSeat g.P.Promise.keeps) c.self.inside.seat.me
    c.exchange.new.seat.me c.exchange.result (message_in c.self.inside.seat.me.1) (waker_of c.args.new)
traded g c =
    sender_waker_traded c.self.inside.seat.me c.exchange.new.seat.me c.self.invariant.0
    (subst (λ s. s.waker ≢ away) (sym c.self.view_is) c.requires.its_own)
    (fits_waker c.args.new c.requires.no_message)
    (subst (λ s. HoldsClaimed s.handed (waker_of c.args.new)) (sym c.self.view_is) c.requires.handed)
    c.exchange.ensures.2 c.exchange.ensures.3

pub invariant_of-self : goal.invariant_of-self
invariant_of-self g c = (refl, tt, ((traded g c).seat, search rules))

pub returns-clause-was : goal.returns-clause-was
returns-clause-was g c = rw (ap (λ s. s.waker) (sym c.self.view_is)) (traded g c).was

pub returns-clause-has : goal.returns-clause-has
returns-clause-has g c =
    waker_side c.self.inside.seat.table_id c.exchange.new.seat.table_id c.self.inside.seat.me c.exchange.new.seat.me
    c.args.self.now c.self.view_is (search rules) (traded g c)

pub returns-clause-taken : goal.returns-clause-taken
returns-clause-taken g c = subst (λ s. HoldsClaimed s.handed s.waker) c.self.view_is c.self.invariant.0.handed
