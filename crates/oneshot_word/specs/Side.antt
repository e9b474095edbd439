-- What contracts see of an end's side, which operations it allows, and what each does.
use Rattle.std.specs.Prelude.{◌≡◌, ℕ, List, [], ◌∷◌, ◌++◌, Option, Some, None}
use Rattle.atomic_table.specs.Seated.{TableId}
use Rattle.atomic_table.specs.Table.{Me}
use Rattle.oneshot_machine.specs.declared.states.Op.{Op}
use Rattle.oneshot_machine.specs.Noted.{Noted, saw}
use Rattle.oneshot_machine.specs.Phases.{sender_at, sender_moves, receiver_at, receiver_moves, Row}
use Rattle.oneshot_machine.specs.Slots.{Held, away, vacant, held, SenderMay, ReceiverMay, Finds}
use Rattle.oneshot_word.specs.declared.any_waker.AnyWaker.{AnyWaker}
use Rattle.oneshot_word.specs.declared.rule.Slot.{Slot}
use Rattle.oneshot_word.specs.declared.rule.View.{View}
use Rattle.oneshot_word.specs.Seats.{message_in, waker_in, gave, took, TakesAsFound, TakesNone}

-- the table, the log of the end's operations on the word, and the two slots as the end sees them
pub record Side (T W P : Type 0) : Type 0 where
  pub table : TableId
  pub log : List Noted
  pub message : Held T
  pub waker : Held W
  -- the message that the end gave to the table or took from it, once it has
  pub passed : Option T
  -- the waker that the end last gave to the table, or took from it
  pub handed : Option W
  -- the value that the channel is about
  pub about : P

-- what a seat at this table shows
abbrev pub side_of : {T H K P : Type 0} → TableId → Me (Slot T H K) (View T H K P) → Side T (AnyWaker H K) P
side_of table me =
    record {
      table = table;
      log = me.0.log;
      message = message_in me.1;
      waker = waker_in me.1;
      passed = me.0.passed;
      handed = me.0.handed;
      about = me.0.about;
    }

-- Both ends of a new table: neither has performed an operation, no message and no waker has passed, and the
-- sender has the message's slot, which is empty.
pub record AreEnds {T W P : Type 0} (about : P) (sender receiver : Side T W P) : Type 0 where
  pub sender_about : sender.about ≡ about
  pub receiver_about : receiver.about ≡ about
  pub table : sender.table ≡ receiver.table
  pub sender_log : sender.log ≡ []
  pub sender_slots : (sender.message ≡ vacant) × (sender.waker ≡ away)
  pub sender_passed : sender.passed ≡ None
  pub sender_handed : sender.handed ≡ None
  pub receiver_log : receiver.log ≡ []
  pub receiver_slots : (receiver.message ≡ away) × (receiver.waker ≡ away)
  pub receiver_passed : receiver.passed ≡ None
  pub receiver_handed : receiver.handed ≡ None

module _ {T W P : Type 0} where
  -- the phases' table allows the operation after the end's log
  abbrev pub SenderCan : Side T W P → Op → Type 0
  SenderCan s op = SenderMay (sender_at s.log) op s.message s.waker

  abbrev pub ReceiverCan : Side T W P → Op → Type 0
  ReceiverCan s op = ReceiverMay (receiver_at s.log) op s.message s.waker

-- The end performed the operation, which found this word. The operation is appended to its log, and its slots,
-- the message and the waker that passed are as the phases' table has them for this word. A message that had
-- passed stays the one that has, and a waker that the end gets is the one that passed last.
pub record Did {T W P At : Type 0} (at : List Noted → At) (moves : At → List (Row At))
    (passes : Held T → Held T → Option T → Option T) (hands : Held W → Held W → Option W → Option W)
    (Takes : Op → ℕ → Option T → Option T → Type 0)
    (before : Side T W P) (op : Op) (word : ℕ) (after : Side T W P) : Type 0 where
  pub about : after.about ≡ before.about
  pub table : after.table ≡ before.table
  pub list : after.log ≡ before.log ++ (op, saw op word) ∷ []
  pub finds : Finds moves (at before.log) op word before.message before.waker after.message after.waker
  pub passed : after.passed ≡ passes before.message after.message before.passed
  pub stays : (x : T) → before.passed ≡ Some x → after.passed ≡ Some x
  pub takes : Takes op word before.passed after.passed
  pub handed : after.handed ≡ hands before.waker after.waker before.handed
  pub gets : (k : W) → before.waker ≡ away → after.waker ≡ held k → after.handed ≡ Some k

module _ {T W P : Type 0} where
  abbrev pub SenderDid : Side T W P → Op → ℕ → Side T W P → Type 0
  SenderDid = Did sender_at sender_moves gave took TakesNone

  abbrev pub ReceiverDid : Side T W P → Op → ℕ → Side T W P → Type 0
  ReceiverDid = Did receiver_at receiver_moves took gave TakesAsFound
