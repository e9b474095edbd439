-- The examples of seats: each by its parts, and what the counterexamples lack.
use Rattle.std.proofs.Common.{◌≡◌, ℕ, Bool, true, false, [], ◌∷◌, Option, Some, refl, if◌then◌else◌}
use Rattle.oneshot_word.proofs.Names.{ap, subst, TableId, Word, Load, Swap, Add, Reaches, nothing_made, sender_makes, receiver_makes, has_row, Held, vacant, held, head, tail}
use Rattle.oneshot_word.specs.declared.any_waker.AnyWaker.{AnyWaker}
use Rattle.oneshot_word.specs.declared.rule.Slot.TheVariants.{Empty, Message}
use Rattle.oneshot_word.proofs.Names.{Front, slot_vacant, slot_held, MessageSlot, WakerSlot, message_of}
use Rattle.oneshot_contract_examples.specs.SeatExamples.{Kept, Carries, MessagePart, WakerPart, received, SlotsAsSeen, SeatsThatAre, SeatsThatAreNot}
use Rattle.oneshot_word.proofs.Names.{not_carried, carried, message_first, waker_first, SeatOf, seat_of, has_given, gave_none, holds_no_slot, holds_it, claims_no_slot, claims_it, RECEIVING}
use Rattle.oneshot_word.proofs.Names.{UNPARKING}
use Rattle.oneshot_word.proofs.Names.{EMPTY, MESSAGE}
use Rattle.oneshot_word.specs.declared.any_waker.AnyWaker.TheVariants as R
use Rattle.oneshot_word.specs.declared.rule.Role.TheVariants.{Sender, Receiver}
use Rattle.oneshot_word.proofs.MessagePasses.{seat_keeps, holds_so}
use Rattle.oneshot_word.proofs.WakerPasses.{claims_so}
use Rattle.oneshot_contract_examples.specs.ExampleLogs.{claims}

pub slots_as_seen : SlotsAsSeen
slots_as_seen =
    record {
      as_messages = refl;
      as_wakers = refl;
      messages_in = refl;
      wakers_in = refl;
      waker_in_front = refl;
      message_in_front = refl;
      gives = refl;
      keeps_its_own = refl;
      gives_room = refl;
      takes = refl;
      has_taken = refl;
      takes_room = refl;
    }

-- orders with these logs
loads : Reaches [] ((Load, Word EMPTY) ∷ []) EMPTY
loads = receiver_makes Load nothing_made (has_row head)

sends : Reaches ((Add, Word EMPTY) ∷ []) [] MESSAGE
sends = sender_makes Add nothing_made (has_row head)

receives : Reaches ((Add, Word EMPTY) ∷ []) received MESSAGE
receives = receiver_makes Load sends (has_row (tail head))

finds : Reaches claims ((Load, Word EMPTY) ∷ (Swap RECEIVING, Word EMPTY) ∷ []) UNPARKING
finds =
    sender_makes Add (receiver_makes (Swap RECEIVING) loads (has_row (tail (tail (tail head))))) (has_row (tail head))

pub seats_that_are : SeatsThatAre
seats_that_are =
    record {
      at_table = record { table = refl; words = refl; slots = refl };
      new_sender = record {
        role = refl;
        has = seat_of (carried slot_vacant) not_carried;
        passed = gave_none;
        handed = claims_no_slot;
        ordered = (_, _, nothing_made);
      };
      about_to_send = record {
        role = refl;
        has = seat_of (carried (slot_held 7 refl)) not_carried;
        passed = gave_none;
        handed = claims_no_slot;
        ordered = (_, _, nothing_made);
      };
      owes = record {
        role = refl;
        has = seat_of (carried (slot_held 7 refl)) (carried (slot_held (R.Thread 1) tt));
        passed = gave_none;
        handed = claims_it (R.Thread 1);
        ordered = (_, _, finds);
      };
      has_sent = record {
        role = refl;
        has = seat_of not_carried not_carried;
        passed = has_given;
        handed = claims_no_slot;
        ordered = (_, _, sends);
      };
      new_receiver = record {
        role = refl;
        has = seat_of not_carried not_carried;
        passed = holds_no_slot;
        handed = tt;
        ordered = (_, _, nothing_made);
      };
      about_to_wait = record {
        role = refl;
        has = seat_of not_carried (carried (slot_held (R.Task 2) tt));
        passed = holds_no_slot;
        handed = tt;
        ordered = (_, _, loads);
      };
      has_received = record {
        role = refl;
        has = seat_of (carried (slot_held 7 refl)) (carried slot_vacant);
        passed = holds_it 7;
        handed = tt;
        ordered = (_, _, receives);
      };
    }

-- which contents fit the message's slot, and the waker's
abbrev for_message : Kept → Bool
for_message Empty = true
for_message (Message m) = true
for_message _ = false

abbrev for_waker : Kept → Bool
for_waker (Message m) = false
for_waker _ = true

is_for_message : {kept : ℕ → Type 0} {s : Kept} {seen : Held ℕ} → MessageSlot kept s seen → for_message s ≡ true
is_for_message slot_vacant = refl
is_for_message (slot_held m k) = refl

is_seen : {kept : ℕ → Type 0} {s : Kept} {seen : Held ℕ} → MessageSlot kept s seen → message_of s ≡ seen
is_seen slot_vacant = refl
is_seen (slot_held m k) = refl

is_kept : {kept : ℕ → Type 0} {s : Kept} {seen : Held ℕ} {m : ℕ} → MessageSlot kept s seen → seen ≡ held m → kept m
is_kept slot_vacant is = absurd (cc is)
is_kept {kept} (slot_held m k) is = subst kept (cc is) k

is_for_waker : {s : Kept} {seen : Held (AnyWaker ℕ ℕ)} → WakerSlot s seen → for_waker s ≡ true
is_for_waker slot_vacant = refl
is_for_waker (slot_held (R.Thread h) k) = refl
is_for_waker (slot_held (R.Task h) k) = refl

-- the number of the slot in front, or 2 if there is none
abbrev in_front : Carries → ℕ
in_front [] = 2
in_front ((place, s) ∷ c) = place

message_part : {own : Bool} {c : Carries} {seen : Held ℕ} → MessagePart own c seen
    → in_front c ≡ (if own then 0 else 2)
message_part not_carried = refl
message_part (carried s) = refl

waker_part : {own : Bool} {c : Carries} {seen : Held (AnyWaker ℕ ℕ)} → WakerPart own c seen
    → in_front c ≡ (if own then 1 else 2)
waker_part not_carried = refl
waker_part (carried s) = refl

waker_leads : {kept : ℕ → Type 0} {fits : AnyWaker ℕ ℕ → Type 0} {c : Carries} {m : Held ℕ}
    {w : Held (AnyWaker ℕ ℕ)} → SeatOf kept fits waker_first (Some (true, true)) c m w → in_front c ≡ 1
waker_leads (seat_of (carried s) (carried t)) = refl

message_leads : {kept : ℕ → Type 0} {fits : AnyWaker ℕ ℕ → Type 0} {c : Carries} {m : Held ℕ}
    {w : Held (AnyWaker ℕ ℕ)} → SeatOf kept fits message_first (Some (true, true)) c m w → in_front c ≡ 0
message_leads (seat_of (carried s) (carried t)) = refl

message_alone : {kept : ℕ → Type 0} {fits : AnyWaker ℕ ℕ → Type 0} {c : Carries} {m : Held ℕ}
    {w : Held (AnyWaker ℕ ℕ)} → SeatOf kept fits waker_first (Some (true, false)) c m w → in_front c ≡ 0
message_alone (seat_of (carried s) not_carried) = refl

carries_none : {kept : ℕ → Type 0} {fits : AnyWaker ℕ ℕ → Type 0} (front : Front) {c : Carries} {m : Held ℕ}
    {w : Held (AnyWaker ℕ ℕ)}
    → SeatOf kept fits front (Some (false, false)) c m w → in_front c ≡ 2
carries_none message_first (seat_of not_carried not_carried) = refl
carries_none waker_first (seat_of not_carried not_carried) = refl

pub seats_that_are_not : SeatsThatAreNot
seats_that_are_not =
    record {
      breaks_its_promise = λ slot. let is : 8 ≡ 7 = is_kept slot refl in cc is;
      waker_for_message = λ slot. let is : false ≡ true = is_for_message slot in cc is;
      message_for_waker = λ slot. let is : false ≡ true = is_for_waker slot in cc is;
      seen_as_room = λ slot. let is : ◌≡◌ {A = Held ℕ} (held 7) vacant = is_seen slot in cc is;
      lost_its_slot = λ part. let is : 2 ≡ 0 = message_part part in cc is;
      has_anothers = λ part. let is : 0 ≡ 2 = message_part part in cc is;
      has_the_wakers = λ part. let is : 1 ≡ 0 = message_part part in cc is;
      has_the_messages = λ part. let is : 0 ≡ 1 = waker_part part in cc is;
      message_before_waker = λ both. let is : 0 ≡ 1 = waker_leads both in cc is;
      waker_before_message = λ both. let is : 1 ≡ 0 = message_leads both in cc is;
      of_no_end = λ both. elim both [ ];
      gives_again = λ once. elim once [ ];
      gives_more = λ once. elim once [ ];
      holds_another = λ holds. let is : Some 8 ≡ Some 7 = holds_so holds refl in cc is;
      holds_untaken = λ holds. elim holds [ ];
      took_without_its_slot = λ holds. elim holds [ ];
      is_the_receivers = λ seat. let is : Receiver ≡ Sender = seat.role in cc is;
      is_the_senders = λ seat. let is : Sender ≡ Receiver = seat.role in cc is;
      has_no_slot = λ seat. let is : 2 ≡ 0 = message_alone seat.has in cc is;
      kept_its_slot = λ seat. let is : 0 ≡ 2 = carries_none waker_first seat.has in cc is;
      took_its_slot = λ seat. let is : 0 ≡ 2 = carries_none message_first seat.has in cc is;
      sends_another = λ seat. let is : 8 ≡ 7 = seat_keeps seat.has refl in cc is;
      has_given = λ seat. elim seat.passed [ ];
      has_anothers_waker = λ seat.
          let is : ◌≡◌ {A = Option (AnyWaker ℕ ℕ)} (Some (R.Thread 2)) (Some (R.Thread 1)) = claims_so seat.handed
          refl in cc is;
      has_an_untaken_waker = λ seat. elim seat.handed [ ];
      took_another = λ seat. let is : Some 8 ≡ Some 7 = holds_so seat.passed refl in cc is;
      at_another = λ at. let is : 6 ≡ 5 = ap (λ (t : TableId). t.block) at.table in cc is;
      of_two_words = λ at. let is : 2 ≡ 1 = at.words in cc is;
      of_one_slot = λ at. let is : 1 ≡ 2 = at.slots in cc is;
    }
