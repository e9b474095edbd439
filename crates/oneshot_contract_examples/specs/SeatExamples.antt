-- Examples and counterexamples of what a seat carries and knows.
-- The channel is about the value 7, and only the message 7 keeps its promise.
use Rattle.std.specs.Prelude.{◌≡◌, ℕ, true, false, map, List, [], ◌∷◌, ◌++◌, Bool, Option, Some, None}
use Rattle.atomic_table.specs.Seated.{TableId}
use Rattle.atomic_table.specs.Table.{Me}
use Rattle.oneshot_machine.specs.declared.machine.Seen.TheVariants.{Word}
use Rattle.oneshot_machine.specs.declared.states.Op.TheVariants.{Load, Add}
use Rattle.oneshot_machine.specs.declared.states.TheConstants.{EMPTY, MESSAGE}
use Rattle.oneshot_machine.specs.Noted.{Noted}
use Rattle.oneshot_machine.specs.Slots.{Held, away, vacant, held}
use Rattle.oneshot_word.specs.declared.any_waker.AnyWaker.{AnyWaker}
use Rattle.oneshot_word.specs.declared.any_waker.AnyWaker.TheVariants as R
use Rattle.oneshot_word.specs.declared.rule.Role.{Role}
use Rattle.oneshot_word.specs.declared.rule.Role.TheVariants.{Sender, Receiver}
use Rattle.oneshot_word.specs.declared.rule.Slot.{Slot}
use Rattle.oneshot_word.specs.declared.rule.Slot.TheVariants.{Empty, Message, Thread, Task}
use Rattle.oneshot_word.specs.declared.rule.View.{View}
use Rattle.oneshot_word.specs.Seats.{view, any, with_waker, Carried, message_of, waker_of, message_in, waker_in, MessageSlot, WakerSlot, Part, message_first, waker_first, carried_as, SeatOf}
use Rattle.oneshot_word.specs.Seats.{IsAt}
use Rattle.oneshot_word.specs.Seats.{GivesOnce, HoldsTaken, SenderSeat, ReceiverSeat, gave, took}
use Rattle.oneshot_contract_examples.specs.ExampleLogs.{claims, loaded}

abbrev pub keeps : ℕ → ℕ → Type 0
keeps q m = m ≡ q

-- slots, and what a seat carries: the message's slot, or the waker's with a thread's half or a task's copy
abbrev pub Kept : Type 0
Kept = Slot ℕ ℕ ℕ

abbrev pub each_slot : List Kept
each_slot = Empty ∷ Message 7 ∷ Thread 1 ∷ Task 2 ∷ []

abbrev pub message_at : ℕ → Kept
message_at m = Message m

abbrev pub half : Kept
half = Thread 1

abbrev pub Carries : Type 0
Carries = Carried ℕ ℕ ℕ

abbrev pub room : ℕ → Carries
room place = (place, Empty) ∷ []

abbrev pub with_message : ℕ → Carries
with_message m = (0, Message m) ∷ []

abbrev pub with_half : Carries
with_half = (1, Thread 1) ∷ []

abbrev pub with_copy : Carries
with_copy = (1, Task 2) ∷ []

abbrev pub some_carried : List Carries
some_carried =
    []
    ∷ room 0
    ∷ room 1
    ∷ with_message 7
    ∷ with_half
    ∷ (with_half ++ with_message 7)
    ∷ (with_message 7 ++ with_copy)
    ∷ []

-- what a seat carries of each slot
abbrev pub MessagePart : Bool → Carries → Held ℕ → Type 0
MessagePart = Part (keeps 7) 0 Message

abbrev pub WakerPart : Bool → Carries → Held (AnyWaker ℕ ℕ) → Type 0
WakerPart = Part any 1 with_waker

-- the logs of a sender that found the receiver here, or a waker; and of a receiver that found nothing, or the
-- message
abbrev pub sent_at_once : List Noted
sent_at_once = (Add, Word EMPTY) ∷ []

abbrev pub received : List Noted
received = (Load, Word MESSAGE) ∷ []

-- a seat with a view and with what it carries, and a table
abbrev pub seat : Role → List Noted → Option ℕ → Carries → Me Kept (View ℕ ℕ ℕ ℕ)
seat role log passed carries = (view 7 role log passed None, carries)

-- the same, which took or gave this waker
abbrev pub handing : Option (AnyWaker ℕ ℕ) → Me Kept (View ℕ ℕ ℕ ℕ) → Me Kept (View ℕ ℕ ℕ ℕ)
handing k me = (record me.0 { handed = k }, me.1)

abbrev pub table : ℕ → ℕ → ℕ → TableId
table words slots block =
    record {
      words = words;
      slots = slots;
      views_name = 0;
      atom = 0;
      block = block;
      offset = 0;
      slot_names = [];
    }

pub record SlotsAsSeen : Type 0 where
  pub as_messages : map message_of each_slot ≡ vacant ∷ held 7 ∷ vacant ∷ vacant ∷ []
  pub as_wakers : map waker_of each_slot
      ≡ vacant ∷ vacant ∷ held (R.Thread 1) ∷ held (R.Task 2) ∷ []
  pub messages_in : map message_in some_carried ≡ away ∷ vacant ∷ away ∷ held 7 ∷ away ∷ held 7 ∷ held 7 ∷ []
  pub wakers_in : map waker_in some_carried
      ≡ away ∷ away ∷ vacant ∷ away ∷ held (R.Thread 1) ∷ held (R.Thread 1) ∷ held (R.Task 2) ∷ []
  pub waker_in_front : carried_as waker_first (with_message 7) with_half ≡ (1, Thread 1) ∷ (0, Message 7) ∷ []
  pub message_in_front : carried_as message_first (with_message 7) with_half ≡ (0, Message 7) ∷ (1, Thread 1) ∷ []
  -- what has passed after an operation
  pub gives : gave {T = ℕ} (held 7) away None ≡ Some 7
  pub keeps_its_own : gave {T = ℕ} (held 7) (held 7) None ≡ None
  pub gives_room : gave {T = ℕ} vacant away None ≡ None
  pub takes : took {T = ℕ} away (held 7) None ≡ Some 7
  pub has_taken : took {T = ℕ} (held 7) (held 7) (Some 7) ≡ Some 7
  pub takes_room : took {T = ℕ} away vacant None ≡ None

pub record SeatsThatAre : Type 0 where
  pub at_table : IsAt (table 1 2 5) (table 1 2 5)
  -- a sender: new, about to send, with the waker that it found, and once it has sent
  pub new_sender : SenderSeat keeps (seat Sender [] None (room 0))
  pub about_to_send : SenderSeat keeps (seat Sender [] None (with_message 7))
  pub owes : SenderSeat keeps (handing (Some (R.Thread 1)) (seat Sender claims None (with_half ++ with_message 7)))
  pub has_sent : SenderSeat keeps (seat Sender sent_at_once (Some 7) [])
  -- a receiver: new, about to wait, and once it has the message
  pub new_receiver : ReceiverSeat keeps (seat Receiver [] None [])
  pub about_to_wait : ReceiverSeat keeps (seat Receiver loaded None with_copy)
  pub has_received : ReceiverSeat keeps (seat Receiver received (Some 7) (with_message 7 ++ room 1))

pub record SeatsThatAreNot : Type 0 where
  -- slots: a message that breaks its promise, a waker in the message's slot, the reverse, and a full
  -- slot seen as empty
  pub breaks_its_promise : MessageSlot (keeps 7) (message_at 8) (held 8) → ⊥
  pub waker_for_message : {seen : Held ℕ} → MessageSlot (keeps 7) half seen → ⊥
  pub message_for_waker : {seen : Held (AnyWaker ℕ ℕ)} → WakerSlot (message_at 7) seen → ⊥
  pub seen_as_room : MessageSlot (keeps 7) (message_at 7) vacant → ⊥
  -- parts: an owned slot that is not carried, a carried slot that is not owned, and a slot of the wrong
  -- number
  pub lost_its_slot : {seen : Held ℕ} → MessagePart true [] seen → ⊥
  pub has_anothers : {seen : Held ℕ} → MessagePart false (room 0) seen → ⊥
  pub has_the_wakers : {seen : Held ℕ} → MessagePart true (room 1) seen → ⊥
  pub has_the_messages : {seen : Held (AnyWaker ℕ ℕ)} → WakerPart true (room 0) seen → ⊥
  -- both slots: the one that was taken first in front, and a seat of no end
  pub message_before_waker : SeatOf (keeps 7) any waker_first (Some (true, true)) (with_message 7 ++ with_half)
      (held 7) (held (R.Thread 1)) → ⊥
  pub waker_before_message : SeatOf (keeps 7) any message_first (Some (true, true)) (with_half ++ with_message 7)
      (held 7) (held (R.Thread 1)) → ⊥
  pub of_no_end : SeatOf {H = ℕ} {K = ℕ} (keeps 7) any waker_first None [] away away → ⊥
  -- what passed: a sender that gave and still has its slot, and a receiver that holds what it did not take
  pub gives_again : GivesOnce {T = ℕ} (Some 7) (held 7) → ⊥
  pub gives_more : GivesOnce {T = ℕ} (Some 7) vacant → ⊥
  pub holds_another : HoldsTaken {T = ℕ} (Some 8) (held 7) → ⊥
  pub holds_untaken : HoldsTaken {T = ℕ} None (held 7) → ⊥
  pub took_without_its_slot : HoldsTaken {T = ℕ} (Some 7) away → ⊥
  -- seats: of the other end, without its slot, with the other's slot, or with a message that it may not have
  pub is_the_receivers : SenderSeat keeps (seat Receiver [] None (room 0)) → ⊥
  pub is_the_senders : ReceiverSeat keeps (seat Sender [] None []) → ⊥
  pub has_no_slot : SenderSeat keeps (seat Sender [] None []) → ⊥
  pub kept_its_slot : SenderSeat keeps (seat Sender sent_at_once (Some 7) (with_message 7)) → ⊥
  pub took_its_slot : ReceiverSeat keeps (seat Receiver [] None (room 0)) → ⊥
  pub sends_another : SenderSeat keeps (seat Sender [] None (with_message 8)) → ⊥
  pub has_given : SenderSeat keeps (seat Sender [] (Some 7) (with_message 7)) → ⊥
  pub has_anothers_waker : SenderSeat keeps
      (handing (Some (R.Thread 2)) (seat Sender claims None (with_half ++ with_message 7))) → ⊥
  pub has_an_untaken_waker : SenderSeat keeps (seat Sender claims None (with_half ++ with_message 7)) → ⊥
  pub took_another : ReceiverSeat keeps (seat Receiver received (Some 8) (with_message 7 ++ room 1)) → ⊥
  -- another table, or one of another size
  pub at_another : IsAt (table 1 2 5) (table 1 2 6) → ⊥
  pub of_two_words : IsAt (table 2 2 5) (table 2 2 5) → ⊥
  pub of_one_slot : IsAt (table 1 1 5) (table 1 1 5) → ⊥
