-- The message that has passed after an operation: the sender gave it, and it is at home or the receiver took it.
use Rattle.std.proofs.Common.{◌≡◌, ℕ, Bool, true, false, Option, Some, None, refl}
use Rattle.std.specs.Prelude.{is_some}
use Rattle.oneshot_machine.specs.TableRows.{is_same_seen}
use Rattle.oneshot_machine.proofs.EachPhase.{in_each_receiver_row}
use Rattle.oneshot_word.proofs.Names.{sym, ap, ◌∙◌, subst, not, ◌||◌, saw, Word, In, Op, Row, Slots, Share, none, empty, filled, SenderAt, fresh, owes, finished, found_gone, overtaken, no_sender}
use Rattle.oneshot_word.proofs.Names.{sender_owns, ReceiverAt, receiver_moves, Held, away, vacant, held, SenderMay, may, SlotChange, stays_away, stays_vacant, stays_held, gives_room, gives_thing}
use Rattle.oneshot_word.proofs.Names.{gets_room, gets_thing, AnyWaker, Slot, Message, Home, message_home, Lies, lies_out, lies_bare, lies_filled, IsGiven, IsTaken, took_none, took_it, Carried, Front}
use Rattle.oneshot_word.proofs.Names.{slot_vacant, slot_held, not_carried, carried, SeatOf, seat_of, GivesOnce, has_given, gave_none, HoldsTaken, holds_no_slot, holds_none, holds_it, gave, took}
use Rattle.oneshot_word.proofs.Names.{MESSAGE}

-- a message that keeps the promise, and that the sender gives if it gives up its slot
abbrev pub Offers : {T P : Type 0} → (P → T → Type 0) → P → Held T → T → Type 0
Offers keeps q m x = keeps q x × (gave m away None ≡ Some x)

module _ {T H K : Type 0} where
  -- a value that satisfies one predicate satisfies the other
  pub lies_as : {X : Type 0} {kept kept' : X → Type 0} {put : X → Slot T H K} {share : Share} {h : Home T H K}
      → ((x : X) → kept x → kept' x) → Lies kept put share h → Lies kept' put share h
  lies_as so lies_out = lies_out
  lies_as so lies_bare = lies_bare
  lies_as so (lies_filled x k) = lies_filled x (so x k)

  pub seat_as : {kept kept' : T → Type 0} {fits : AnyWaker H K → Type 0} {front : Front} {o : Option (Bool × Bool)}
      {c : Carried T H K} {m : Held T}
      {w : Held (AnyWaker H K)} → ((x : T) → m ≡ held x → kept x → kept' x) → SeatOf kept fits front o c m w
      → SeatOf kept' fits front o c m w
  seat_as so (seat_of not_carried waker) = seat_of not_carried waker
  seat_as so (seat_of (carried slot_vacant) waker) = seat_of (carried slot_vacant) waker
  seat_as so (seat_of (carried (slot_held x k)) waker) = seat_of (carried (slot_held x (so x refl k))) waker

  pub seat_keeps : {kept : T → Type 0} {fits : AnyWaker H K → Type 0} {front : Front} {o : Option (Bool × Bool)}
      {c : Carried T H K} {m : Held T}
      {w : Held (AnyWaker H K)} {x : T} → SeatOf kept fits front o c m w → m ≡ held x → kept x
  seat_keeps (seat_of not_carried waker) is = absurd (cc is)
  seat_keeps (seat_of (carried slot_vacant) waker) is = absurd (cc is)
  seat_keeps {kept} (seat_of (carried (slot_held y k)) waker) is = subst kept (cc is) k

  -- a sender that may perform an operation has given nothing
  pub gave_no : {kept : T → Type 0} {fits : AnyWaker H K → Type 0} {front : Front} (p : SenderAt) {op : Op}
      {c : Carried T H K} {m : Held T}
      {w : Held (AnyWaker H K)} {given : Option T} → SenderMay p op m w → SeatOf kept fits front (sender_owns p) c m w
      → GivesOnce given m → given ≡ None
  gave_no fresh asks (seat_of (carried slot_vacant) waker) gave_none = refl
  gave_no fresh asks (seat_of (carried (slot_held x k)) waker) gave_none = refl
  gave_no (owes by) asks (seat_of (carried slot_vacant) waker) gave_none = refl
  gave_no (owes by) asks (seat_of (carried (slot_held x k)) waker) gave_none = refl
  gave_no (finished by) (may row _ _) seat once = elim row [ ]
  gave_no (found_gone by) (may row _ _) seat once = elim row [ ]
  gave_no (overtaken by) (may row _ _) seat once = elim row [ ]
  gave_no no_sender (may row _ _) seat once = elim row [ ]

  -- a message at home is the one it gave: either the sender has the slot, or none is there
  pub gave_what_lies : {P : Type 0} (keeps : P → T → Type 0) (q : P) {kept : T → Type 0} {fits : AnyWaker H K → Type 0}
      {front : Front}
      (p : SenderAt) (r : ReceiverAt) {c : Carried T H K} (m : Held T) {m' : Held T} {w : Held (AnyWaker H K)}
      {h : Home T H K} → SeatOf kept fits front (sender_owns p) c m' w → Lies (Offers keeps q m) Message
      (message_home p r) h
      → Lies (IsGiven keeps q (gave m m' None)) Message (message_home p r) h
  gave_what_lies keeps q fresh r m seat lies_out = lies_out
  gave_what_lies keeps q (owes by) r m seat lies_out = lies_out
  gave_what_lies keeps q (finished by) r m (seat_of not_carried waker) lies = lies
  gave_what_lies keeps q (found_gone by) r m seat lies_out = lies_out
  gave_what_lies keeps q (overtaken by) r m seat lies_out = lies_out
  gave_what_lies keeps q no_sender r m seat lies = elim seat [ ]

-- a slot that an end does not give up
abbrev pub is_kept_slot : Share → Share → Bool
is_kept_slot empty none = false
is_kept_slot filled none = false
is_kept_slot _ _ = true

abbrev keeps_slot : Row ReceiverAt → Bool
keeps_slot (op, before, word, next, after) = is_kept_slot before.0 after.0

-- it gets a message exactly by an operation that finds MESSAGE, and may find it again once it has one
abbrev pub is_found_so : Share → Share → Bool → Bool
is_found_so none filled found = found
is_found_so filled filled found = true
is_found_so _ _ found = not found

abbrev finds_so : Row ReceiverAt → Bool
finds_so (op, before, word, next, after) = is_found_so before.0 after.0 (is_same_seen (saw op word) (Word MESSAGE))

pub finds_it_so : (q : ReceiverAt) {next : ReceiverAt} (op : Op) {before after : Slots} (word : ℕ)
    → In (op, before, word, next, after) (receiver_moves q)
    → is_found_so before.0 after.0 (is_same_seen (saw op word) (Word MESSAGE)) ≡ true
finds_it_so q op word row = in_each_receiver_row (λ q. finds_so) refl q row

-- the receiver never gives up the message's slot
pub keeps_its_slot : (q : ReceiverAt) {next : ReceiverAt} {op : Op} {before after : Slots} {word : ℕ}
    → In (op, before, word, next, after) (receiver_moves q) → is_kept_slot before.0 after.0 ≡ true
keeps_its_slot q row = in_each_receiver_row (λ q. keeps_slot) refl q row

unfound : (had found : Bool) → not found ≡ true → had ≡ (had || found)
unfound true false e = refl
unfound false false e = refl
unfound had true e = absurd (cc)

module _ {T : Type 0} where
  -- what the sender has given after an operation, and its slot
  pub gives_once : (m m' : Held T) → GivesOnce (gave m m' None) m'
  gives_once m away = has_given
  gives_once (held x) vacant = gave_none
  gives_once (held x) (held y) = gave_none
  gives_once _ _ = gave_none

  -- while the sender has given none, the receiver has taken none
  pub none_taken : {given : Option T} {taken : Option T} (later : Option T) → IsTaken given taken → given ≡ None
      → IsTaken later taken
  none_taken later took_none e = took_none
  none_taken later (took_it m same) e = let is = sym e ∙ same in absurd (cc is)

  -- what is in the slot is what was taken
  pub holds_so : {taken : Option T} {slot : Held T} {m : T} → HoldsTaken taken slot → slot ≡ held m → taken ≡ Some m
  holds_so holds_no_slot is = absurd (cc is)
  holds_so holds_none is = absurd (cc is)
  holds_so (holds_it m) is = ap Some (cc is)

  -- the message that the receiver holds is the one given
  pub holds_given : {given taken : Option T} {m : Held T} {x : T} → HoldsTaken taken m → IsTaken given taken
      → m ≡ held x → given ≡ Some x
  holds_given holds_no_slot same is = absurd (cc is)
  holds_given holds_none same is = absurd (cc is)
  holds_given (holds_it m) (took_it _ same) is = same ∙ ap Some (cc is)

  -- what the receiver has taken after an operation, and its slot, which it does not give up
  pub holds_taken : {s s' : Share} {m m' : Held T} {taken : Option T} → SlotChange s s' m m' → is_kept_slot s s' ≡ true
      → HoldsTaken taken m → HoldsTaken (took m m' taken) m'
  holds_taken stays_away kept holds = holds
  holds_taken stays_vacant kept holds = holds_none
  holds_taken (stays_held x) kept (holds_it _) = holds_it x
  holds_taken gives_room kept holds = absurd (cc)
  holds_taken (gives_thing x) kept holds = absurd (cc)
  holds_taken gets_room kept holds = holds_none
  holds_taken (gets_thing x) kept holds = holds_it x

  -- a receiver without the slot has taken none, so a message that it took stays the one
  pub stays_taken : {s s' : Share} {m m' : Held T} {taken : Option T} → SlotChange s s' m m' → HoldsTaken taken m
      → (x : T)
      → taken ≡ Some x → took m m' taken ≡ Some x
  stays_taken (gets_thing y) holds_no_slot x is = absurd (cc is)
  stays_taken _ holds x is = is

  pub takes_as_found : {s s' : Share} {m m' : Held T} {taken : Option T} (found : Bool) → SlotChange s s' m m'
      → is_found_so s s' found ≡ true → HoldsTaken taken m → is_some (took m m' taken) ≡ (is_some taken || found)
  takes_as_found found (stays_held x) so (holds_it _) = refl
  takes_as_found found (gets_thing x) so holds_no_slot = sym so
  takes_as_found {taken} found _ so holds = unfound (is_some taken) found so

  -- it is the one given, if a message that the receiver gets is
  pub takes_given : {s s' : Share} {m m' : Held T} {given taken : Option T} → SlotChange s s' m m' → IsTaken given taken
      → ((x : T) → m' ≡ held x → given ≡ Some x) → IsTaken given (took m m' taken)
  takes_given (gets_thing x) same gets = took_it x (gets x refl)
  takes_given _ same gets = same
