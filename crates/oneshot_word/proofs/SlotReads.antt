-- What a seat carries is what its end sees, and which content fits each slot.
use Rattle.std.proofs.Common.{◌≡◌, Bool, List, Option, refl}
use Rattle.oneshot_word.proofs.Names.{sym, subst, Me, Noted, Held, vacant, held, AnyWaker, Slot, Empty, Message, Thread, Task, View, Role, Keeps, held_keeps, with_waker, Carried, message_of}
use Rattle.oneshot_word.proofs.Names.{waker_of, message_in, waker_in, SlotOf, MessageSlot, WakerSlot, any, slot_vacant, slot_held, not_carried, carried, Front, message_first, waker_first, SeatOf}
use Rattle.oneshot_word.proofs.Names.{seat_of, IsOrdered, SeatIs}
use Rattle.oneshot_word.specs.declared.any_waker.AnyWaker.TheVariants as R

pub reads_back : (T : Type 0) {H K : Type 0} (k : AnyWaker H K) → waker_of (with_waker {T = T} k) ≡ held k
reads_back T (R.Thread half) = refl
reads_back T (R.Task copy) = refl

module _ {T H K : Type 0} where
  pub message_reads : {kept : T → Type 0} {s : Slot T H K} {m : Held T} → MessageSlot kept s m → message_of s ≡ m
  message_reads slot_vacant = refl
  message_reads (slot_held x _) = refl

  pub waker_reads : {fits : AnyWaker H K → Type 0} {t : Slot T H K} {w : Held (AnyWaker H K)}
      → SlotOf fits with_waker t w → waker_of t ≡ w
  waker_reads slot_vacant = refl
  waker_reads (slot_held k _) = reads_back T k

  -- a content that is no waker fits the message's slot, and one that is no message the waker's
  pub fits_message : {kept : T → Type 0} (s : Slot T H K) → waker_of s ≡ vacant → Keeps kept (message_of s)
      → MessageSlot kept s (message_of s)
  fits_message Empty e k = slot_vacant
  fits_message (Message x) e (held_keeps _ k) = slot_held x k
  fits_message _ e k = absurd (cc)

  pub fits_waker : (s : Slot T H K) → message_of s ≡ vacant → WakerSlot s (waker_of s)
  fits_waker Empty e = slot_vacant
  fits_waker (Message x) e = absurd (cc)
  fits_waker (Thread half) e = slot_held (R.Thread half) tt
  fits_waker (Task copy) e = slot_held (R.Task copy) tt

  -- the slots in what a seat carries are those that its end sees
  abbrev pub Reads : Carried T H K → Held T → Held (AnyWaker H K) → Type 0
  Reads c m w = (message_in c ≡ m) × (waker_in c ≡ w)

  pub reads : {kept : T → Type 0} {fits : AnyWaker H K → Type 0} {front : Front} {o : Option (Bool × Bool)}
      {c : Carried T H K} {m : Held T}
      {w : Held (AnyWaker H K)} → SeatOf kept fits front o c m w → Reads c m w
  reads {front = message_first} (seat_of not_carried not_carried) = (refl, refl)
  reads {front = message_first} (seat_of not_carried (carried other)) = (refl, waker_reads other)
  reads {front = message_first} (seat_of (carried slot) not_carried) = (message_reads slot, refl)
  reads {front = message_first} (seat_of (carried slot) (carried other)) = (message_reads slot, waker_reads other)
  reads {front = waker_first} (seat_of not_carried not_carried) = (refl, refl)
  reads {front = waker_first} (seat_of not_carried (carried other)) = (refl, waker_reads other)
  reads {front = waker_first} (seat_of (carried slot) not_carried) = (message_reads slot, refl)
  reads {front = waker_first} (seat_of (carried slot) (carried other)) = (message_reads slot, waker_reads other)

  pub as_read : (c : Carried T H K) {m : Held T} {w : Held (AnyWaker H K)} (P : Held T → Held (AnyWaker H K) → Type 0)
      → Reads c m w → P m w → P (message_in c) (waker_in c)
  as_read c {m} P reads p = subst (λ m. P m (waker_in c)) (sym reads.0) (subst (λ w. P m w) (sym reads.1) p)

  -- so it is the seat of the end
  pub as_seat : {P : Type 0} {keeps : P → T → Type 0} {whose : Role} {front : Front}
      {owns : List Noted → Option (Bool × Bool)} {Passed : Option T → Held T → Type 0}
      {Handed : Option (AnyWaker H K) → Held (AnyWaker H K) → Type 0} {me : Me (Slot T H K) (View T H K P)} {m : Held T}
      {w : Held (AnyWaker H K)}
      → me.0.role ≡ whose → SeatOf (keeps me.0.about) any front (owns me.0.log) me.1 m w → Passed me.0.passed m
      → Handed me.0.handed w → IsOrdered whose me.0.log → SeatIs keeps whose front owns Passed Handed me
  as_seat {keeps} {front} {owns} {Passed} {Handed} {me} role has passed handed ordered =
      record {
        role = role;
        has = as_read me.1 (λ m w. SeatOf (keeps me.0.about) any front (owns me.0.log) me.1 m w)
            (reads has) has;
        passed = subst (Passed me.0.passed) (sym (reads has).0) passed;
        handed = subst (Handed me.0.handed) (sym (reads has).1) handed;
        ordered = ordered;
      }
