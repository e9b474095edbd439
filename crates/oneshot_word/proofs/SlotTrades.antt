-- A trade of a slot's content: the end has the new content there, and its other slot stays.
use Rattle.std.proofs.Common.{◌≡◌, ℕ, Bool, List, [], ◌∷◌, Option, refl}
use Rattle.oneshot_word.proofs.Names.{◌≢◌, sym, ap, ◌∙◌, subst, TableId, Me, rest, turned, Noted, Held, away, AnyWaker, any, Slot, View, Role, Carried, message_in, waker_in, MessageSlot, WakerSlot}
use Rattle.oneshot_word.proofs.Names.{slot_vacant, not_carried, carried, Front, message_first, waker_first, SeatOf, seat_of, GivesOnce, has_given, gave_none, HoldsTaken, HoldsClaimed, SeatIs}
use Rattle.oneshot_word.proofs.Names.{SenderSeat, ReceiverSeat, Side, side_of}
use Rattle.oneshot_word.proofs.SlotReads.{Reads, reads, as_seat}

-- while the sender has the slot it has given none, whatever it puts there
gives_none : {T : Type 0} {given : Option T} {m m' : Held T} → GivesOnce given m → m ≢ away → GivesOnce given m'
gives_none has_given its = absurd (its refl)
gives_none gave_none its = gave_none

module _ {T H K : Type 0} where
  -- what is carried, with `new` in front
  abbrev pub renewed : ℕ → Carried T H K → Slot T H K → Carried T H K
  renewed place c new = (place, new) ∷ rest c

  -- `front` has the slot in front, with a content that fits, and with the new content the end carries `after`
  record Trade (place : ℕ) (Fits : Slot T H K → Type 0) (Has : Carried T H K → Type 0)
      (front after : Carried T H K) : Type 0 where
    was : Slot T H K
    fits : Fits was
    in_front : front ≡ renewed place front was
    has : Has after

  -- a slot in front, and one that is turned to the front and back
  abbrev TradeHere : ℕ → (Slot T H K → Type 0) → (Carried T H K → Type 0) → Carried T H K → Slot T H K → Type 0
  TradeHere place Fits Has c new = Trade place Fits Has c (renewed place c new)

  abbrev TradeBehind : ℕ → (Slot T H K → Type 0) → (Carried T H K → Type 0) → Carried T H K → Slot T H K → Type 0
  TradeBehind place Fits Has c new = Trade place Fits Has (turned c) (turned (renewed place (turned c) new))

  -- if the sender's seat has both slots, the waker's is in front
  sender_trades_message : {kept : T → Type 0} {o : Option (Bool × Bool)} {c : Carried T H K} {new : Slot T H K}
      {m m' : Held T} {w : Held (AnyWaker H K)} → SeatOf kept any waker_first o c m w → m ≢ away → MessageSlot kept new
      m'
      → TradeBehind 0 (λ s. MessageSlot kept s m) (λ c. SeatOf kept any waker_first o c m' w) c new
  sender_trades_message (seat_of (carried {s} slot) not_carried) its new =
      record { was = s; fits = slot; in_front = refl; has = seat_of (carried new) not_carried }
  sender_trades_message (seat_of (carried {s} slot) (carried other)) its new =
      record { was = s; fits = slot; in_front = refl; has = seat_of (carried new) (carried other) }
  sender_trades_message _ its new = absurd (its refl)

  sender_trades_waker : {kept : T → Type 0} {o : Option (Bool × Bool)} {c : Carried T H K} {new : Slot T H K}
      {m : Held T} {w w' : Held (AnyWaker H K)} → SeatOf kept any waker_first o c m w → w ≢ away → WakerSlot new w'
      → TradeHere 1 (λ s. WakerSlot s w) (λ c. SeatOf kept any waker_first o c m w') c new
  sender_trades_waker (seat_of slot (carried {s = t} other)) its new =
      record { was = t; fits = other; in_front = refl; has = seat_of slot (carried new) }
  sender_trades_waker _ its new = absurd (its refl)

  -- if the receiver's seat has both, the message's is
  receiver_trades_message : {kept : T → Type 0} {o : Option (Bool × Bool)} {c : Carried T H K} {new : Slot T H K}
      {m m' : Held T} {w : Held (AnyWaker H K)} → SeatOf kept any message_first o c m w → m ≢ away → MessageSlot kept
      new m'
      → TradeHere 0 (λ s. MessageSlot kept s m) (λ c. SeatOf kept any message_first o c m' w) c new
  receiver_trades_message (seat_of (carried {s} slot) other) its new =
      record { was = s; fits = slot; in_front = refl; has = seat_of (carried new) other }
  receiver_trades_message _ its new = absurd (its refl)

  receiver_trades_waker : {kept : T → Type 0} {o : Option (Bool × Bool)} {c : Carried T H K} {new : Slot T H K}
      {m : Held T} {w w' : Held (AnyWaker H K)} → SeatOf kept any message_first o c m w → w ≢ away → WakerSlot new w'
      → TradeBehind 1 (λ s. WakerSlot s w) (λ c. SeatOf kept any message_first o c m w') c new
  receiver_trades_waker (seat_of not_carried (carried {s = t} other)) its new =
      record { was = t; fits = other; in_front = refl; has = seat_of not_carried (carried new) }
  receiver_trades_waker (seat_of (carried slot) (carried {s = t} other)) its new =
      record { was = t; fits = other; in_front = refl; has = seat_of (carried slot) (carried new) }
  receiver_trades_waker _ its new = absurd (its refl)

  -- only one content can be in front
  slot_in_front : Slot T H K → Carried T H K → Slot T H K
  slot_in_front otherwise [] = otherwise
  slot_in_front otherwise (x ∷ xs) = x.1

  same_front : {place : ℕ} {c : Carried T H K} {s t : Slot T H K} → c ≡ renewed place c s → c ≡ renewed place c t
      → s ≡ t
  unfolding slot_in_front
  same_front {s} here there = ap (slot_in_front s) (sym here ∙ there)

  -- what a trade that returned `old` leaves, as the seats show it
  pub record Traded {P : Type 0} (Fits : Slot T H K → Type 0) (Seat : Me (Slot T H K) (View T H K P) → Type 0)
      (before after : Me (Slot T H K) (View T H K P)) (old : Slot T H K) (m : Held T) (w : Held (AnyWaker H K)) : Type
      0 where
    pub was : Fits old
    pub seat : Seat after
    pub view : after.0 ≡ before.0
    pub message : message_in after.1 ≡ m
    pub waker : waker_in after.1 ≡ w

  -- the end's seat then
  record Seated {P : Type 0} (Seat : Me (Slot T H K) (View T H K P) → Type 0) (v : View T H K P) (c : Carried T H K)
      (m : Held T) (w : Held (AnyWaker H K)) : Type 0 where
    seat : Seat (v, c)
    reads : Reads c m w

  seated : {P : Type 0} {keeps : P → T → Type 0} {whose : Role} {front : Front}
      {owns : List Noted → Option (Bool × Bool)} {Passed : Option T → Held T → Type 0}
      {Handed : Option (AnyWaker H K) → Held (AnyWaker H K) → Type 0}
      (before : Me (Slot T H K) (View T H K P)) (c : Carried T H K) {m : Held T}
      {w : Held (AnyWaker H K)} → SeatIs keeps whose front owns Passed Handed before
      → SeatOf (keeps before.0.about) any front (owns before.0.log) c m w → Passed before.0.passed m
      → Handed before.0.handed w → Seated (SeatIs keeps whose front owns Passed Handed) before.0 c m w
  seated {owns} {Passed} {Handed} before c seat has passed handed =
      record {
        seat = as_seat {owns = owns} {Passed = Passed} {Handed = Handed} {me = (before.0, c)} seat.role has passed
            handed
            seat.ordered;
        reads = reads has;
      }

  trade_done : {P : Type 0} {place : ℕ} {Fits : Slot T H K → Type 0} {Seat : Me (Slot T H K) (View T H K P) → Type 0}
      {Has : Carried T H K → Type 0} {front c : Carried T H K} {old : Slot T H K} {m : Held T} {w : Held (AnyWaker H K)}
      (before after : Me (Slot T H K) (View T H K P)) → Trade place Fits Has front c → Seated Seat before.0 c m w
      → front ≡ renewed place front old → after ≡ (before.0, c) → Traded Fits Seat before after old m w
  trade_done {P} {Fits} {Seat} before after t s here is =
      record {
        was = subst Fits (same_front t.in_front here) t.fits;
        seat = subst Seat (sym is) s.seat;
        view = ap (λ (m : Me (Slot T H K) (View T H K P)). m.0) is;
        message = ap (λ (m : Me (Slot T H K) (View T H K P)). message_in m.1) is ∙ s.reads.0;
        waker = ap (λ (m : Me (Slot T H K) (View T H K P)). waker_in m.1) is ∙ s.reads.1;
      }

  -- the seats of a trade of the slot behind: as it was, turned, traded, and turned back
  pub record Turned {P : Type 0} (place : ℕ) (before there traded after : Me (Slot T H K) (View T H K P))
      (old new : Slot T H K) : Type 0 where
    pub turn : there ≡ (before.0, turned before.1)
    pub front : there.1 ≡ renewed place there.1 old
    pub trade : traded ≡ (there.0, renewed place there.1 new)
    pub back : after ≡ (traded.0, turned traded.1)

  turned_front : {P : Type 0} {place : ℕ} {before there traded after : Me (Slot T H K) (View T H K P)}
      {old new : Slot T H K} → Turned place before there traded after old new
      → turned before.1 ≡ renewed place (turned before.1) old
  turned_front {P} {place} {old} t =
      subst (λ (l : Carried T H K). l ≡ renewed place l old)
      (ap (λ (m : Me (Slot T H K) (View T H K P)). m.1) t.turn) t.front

  turned_back : {P : Type 0} {place : ℕ} {before there traded after : Me (Slot T H K) (View T H K P)}
      {old new : Slot T H K}
      → Turned place before there traded after old new
      → after ≡ (before.0, turned (renewed place (turned before.1) new))
  turned_back {P} {place} {new} t =
      t.back ∙ ap (λ (m : Me (Slot T H K) (View T H K P)). (m.0, turned m.1)) t.trade
      ∙ ap (λ (m : Me (Slot T H K) (View T H K P)). (m.0, turned (renewed place m.1 new))) t.turn

  -- what is in front once a seat is turned
  front_there : {P : Type 0} {place : ℕ} {Fits : Slot T H K → Type 0} {Has : Carried T H K → Type 0} {c : Carried T H K}
      (before there : Me (Slot T H K) (View T H K P)) → Trade place Fits Has (turned before.1) c
      → there ≡ (before.0, turned before.1) → (old : Slot T H K) × (there.1 ≡ renewed place there.1 old)
  front_there {P} {place} before there t turn = (
    t.was,
    subst (λ (l : Carried T H K). l ≡ renewed place l t.was)
        (sym (ap (λ (m : Me (Slot T H K) (View T H K P)). m.1) turn)) t.in_front,
  )

  pub sender_message_front : {P : Type 0} {keeps : P → T → Type 0} (before there : Me (Slot T H K) (View T H K P))
      → SenderSeat keeps before → message_in before.1 ≢ away → there ≡ (before.0, turned before.1)
      → (old : Slot T H K) × (there.1 ≡ renewed 0 there.1 old)
  sender_message_front before there seat its turn =
      front_there before there (sender_trades_message seat.has its slot_vacant) turn

  pub sender_message_traded : {P : Type 0} {keeps : P → T → Type 0}
      (before there traded after : Me (Slot T H K) (View T H K P)) {old new : Slot T H K} {m : Held T}
      → SenderSeat keeps before → message_in before.1 ≢ away → MessageSlot (keeps before.0.about) new m
      → Turned 0 before there traded after old new
      → Traded (λ s. MessageSlot (keeps before.0.about) s (message_in before.1)) (SenderSeat keeps) before after old m
      (waker_in before.1)
  sender_message_traded before there traded after seat its fits turns =
      let t = sender_trades_message seat.has its fits in
      trade_done before after t (seated before _ seat t.has (gives_none seat.passed its) seat.handed)
      (turned_front turns)
      (turned_back turns)

  pub sender_waker_front : {P : Type 0} {keeps : P → T → Type 0} (before : Me (Slot T H K) (View T H K P))
      → SenderSeat keeps before → waker_in before.1 ≢ away → (old : Slot T H K) × (before.1 ≡ renewed 1 before.1 old)
  sender_waker_front before seat its = let t = sender_trades_waker seat.has its slot_vacant in (t.was, t.in_front)

  pub sender_waker_traded : {P : Type 0} {keeps : P → T → Type 0} (before after : Me (Slot T H K) (View T H K P))
      {old new : Slot T H K} {w : Held (AnyWaker H K)} → SenderSeat keeps before → waker_in before.1 ≢ away
      → WakerSlot new w → HoldsClaimed before.0.handed w → before.1 ≡ renewed 1 before.1 old → after ≡
      (before.0, renewed 1 before.1 new)
      → Traded (λ s. WakerSlot s (waker_in before.1)) (SenderSeat keeps) before after old (message_in before.1) w
  sender_waker_traded before after seat its fits holds front is =
      let t = sender_trades_waker seat.has its fits in
      trade_done before after t (seated before _ seat t.has seat.passed holds) front is

  pub receiver_message_front : {P : Type 0} {keeps : P → T → Type 0} (before : Me (Slot T H K) (View T H K P))
      → ReceiverSeat keeps before → message_in before.1 ≢ away
      → (old : Slot T H K) × (before.1 ≡ renewed 0 before.1 old)
  receiver_message_front before seat its =
      let t = receiver_trades_message seat.has its slot_vacant in (t.was, t.in_front)

  pub receiver_message_traded : {P : Type 0} {keeps : P → T → Type 0} (before after : Me (Slot T H K) (View T H K P))
      {old new : Slot T H K} {m : Held T} → ReceiverSeat keeps before → message_in before.1 ≢ away
      → MessageSlot (keeps before.0.about) new m → HoldsTaken before.0.passed m → before.1 ≡ renewed 0 before.1 old
      → after ≡ (before.0, renewed 0 before.1 new)
      → Traded (λ s. MessageSlot (keeps before.0.about) s (message_in before.1)) (ReceiverSeat keeps) before after old m
      (waker_in before.1)
  receiver_message_traded before after seat its fits holds front is =
      let t = receiver_trades_message seat.has its fits in
      trade_done before after t (seated before _ seat t.has holds seat.handed) front is

  pub receiver_waker_front : {P : Type 0} {keeps : P → T → Type 0} (before there : Me (Slot T H K) (View T H K P))
      → ReceiverSeat keeps before → waker_in before.1 ≢ away → there ≡ (before.0, turned before.1)
      → (old : Slot T H K) × (there.1 ≡ renewed 1 there.1 old)
  receiver_waker_front before there seat its turn =
      front_there before there (receiver_trades_waker seat.has its slot_vacant) turn

  pub receiver_waker_traded : {P : Type 0} {keeps : P → T → Type 0}
      (before there traded after : Me (Slot T H K) (View T H K P)) {old new : Slot T H K} {w : Held (AnyWaker H K)}
      → ReceiverSeat keeps before → waker_in before.1 ≢ away → WakerSlot new w
      → Turned 1 before there traded after old new
      → Traded (λ s. WakerSlot s (waker_in before.1)) (ReceiverSeat keeps) before after old (message_in before.1) w
  receiver_waker_traded before there traded after seat its fits turns =
      let t = receiver_trades_waker seat.has its fits in
      trade_done before after t (seated before _ seat t.has seat.passed tt) (turned_front turns) (turned_back turns)

  -- and what the ends' sides then show
  pub message_side : {P : Type 0} {Fits : Slot T H K → Type 0} {Seat : Me (Slot T H K) (View T H K P) → Type 0}
      (table table' : TableId) (before after : Me (Slot T H K) (View T H K P)) {old : Slot T H K} {m : Held T}
      (now : Side T (AnyWaker H K) P) → side_of table before ≡ now → table' ≡ table
      → Traded Fits Seat before after old m (waker_in before.1) → side_of table' after ≡ record now { message = m }
  message_side {P} table table' before after now is same t =
      λ i. record {
        table = (same ∙ ap (λ (s : Side T (AnyWaker H K) P). s.table) is) i;
        log = (ap (λ (v : View T H K P). v.log) t.view ∙ ap (λ (s : Side T (AnyWaker H K) P). s.log) is) i;
        passed = (ap (λ (v : View T H K P). v.passed) t.view ∙ ap (λ (s : Side T (AnyWaker H K) P). s.passed) is) i;
        handed = (ap (λ (v : View T H K P). v.handed) t.view ∙ ap (λ (s : Side T (AnyWaker H K) P). s.handed) is) i;
        about = (ap (λ (v : View T H K P). v.about) t.view ∙ ap (λ (s : Side T (AnyWaker H K) P). s.about) is) i;
        message = t.message i;
        waker = (t.waker ∙ ap (λ (s : Side T (AnyWaker H K) P). s.waker) is) i;
      }

  pub waker_side : {P : Type 0} {Fits : Slot T H K → Type 0} {Seat : Me (Slot T H K) (View T H K P) → Type 0}
      (table table' : TableId) (before after : Me (Slot T H K) (View T H K P)) {old : Slot T H K}
      {w : Held (AnyWaker H K)}
      (now : Side T (AnyWaker H K) P) → side_of table before ≡ now → table' ≡ table
      → Traded Fits Seat before after old (message_in before.1) w → side_of table' after ≡ record now { waker = w }
  waker_side {P} table table' before after now is same t =
      λ i. record {
        table = (same ∙ ap (λ (s : Side T (AnyWaker H K) P). s.table) is) i;
        log = (ap (λ (v : View T H K P). v.log) t.view ∙ ap (λ (s : Side T (AnyWaker H K) P). s.log) is) i;
        message = (t.message ∙ ap (λ (s : Side T (AnyWaker H K) P). s.message) is) i;
        waker = t.waker i;
        passed = (ap (λ (v : View T H K P). v.passed) t.view ∙ ap (λ (s : Side T (AnyWaker H K) P). s.passed) is) i;
        handed = (ap (λ (v : View T H K P). v.handed) t.view ∙ ap (λ (s : Side T (AnyWaker H K) P). s.handed) is) i;
        about = (ap (λ (v : View T H K P). v.about) t.view ∙ ap (λ (s : Side T (AnyWaker H K) P). s.about) is) i;
      }
