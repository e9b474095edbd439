-- The state of a ground: its log and both slots at a phase, and the operations that it may perform there.
use Rattle.std.specs.Prelude.{◌≡◌, ℕ, Bool, true, false, ◌&&◌, if◌then◌else◌, List, [], ◌∷◌}
use Rattle.oneshot_machine.specs.declared.states.Op.{Op}
use Rattle.oneshot_machine.specs.Logs.{Log, sender_of, receiver_of}
use Rattle.oneshot_machine.specs.Phases.{SenderAt, sender_moves, ReceiverAt, receiver_moves, Share, none, empty, filled, Slots, Row}
use Rattle.oneshot_machine.specs.Slots.{Held, IsSlot, SenderMay, SenderFinds, ReceiverMay, ReceiverFinds}

-- a ground's log, and both slots as its end sees them
pub record GroundState (T W : Type 0) : Type 0 where
  pub log : Log T W
  pub message : Held T
  pub waker : Held W

module _ {T W : Type 0} where
  -- a ground may perform this operation on the word
  abbrev pub SenderAsks : Op → GroundState T W → Type 0
  SenderAsks op s = SenderMay (sender_of s.log) op s.message s.waker

  abbrev pub ReceiverAsks : Op → GroundState T W → Type 0
  ReceiverAsks op s = ReceiverMay (receiver_of s.log) op s.message s.waker

  -- between the two states it performed this operation, which found this word
  abbrev pub SenderMakes : Op → ℕ → GroundState T W → GroundState T W → Type 0
  SenderMakes op word before after =
      SenderFinds (sender_of before.log) op word before.message before.waker after.message after.waker

  abbrev pub ReceiverMakes : Op → ℕ → GroundState T W → GroundState T W → Type 0
  ReceiverMakes op word before after =
      ReceiverFinds (receiver_of before.log) op word before.message before.waker after.message after.waker

abbrev pub is_unfilled : Share → Bool
is_unfilled none = true
is_unfilled empty = true
is_unfilled filled = false

-- the slots of the first row that needs no slot filled, or else these
abbrev pub unfilled_or : {At : Type 0} → Slots → List (Row At) → Slots
unfilled_or slots [] = slots
unfilled_or slots (row ∷ rows) =
    if is_unfilled row.1.0 && is_unfilled row.1.1 then row.1 else unfilled_or slots rows

-- The slots of an end at a phase with these rows, once its waker is out of its slot and before it puts anything into a
-- slot there: those of the first row that needs no slot filled, or else of the first row. No contract names a phase
-- without rows.
abbrev pub slots_by : {At : Type 0} → List (Row At) → Slots
slots_by [] = (none, none)
slots_by (row ∷ rows) = unfilled_or row.1 (row ∷ rows)

abbrev pub sender_slots : SenderAt → Slots
sender_slots at = slots_by (sender_moves at)

abbrev pub receiver_slots : ReceiverAt → Slots
receiver_slots at = slots_by (receiver_moves at)

-- a ground at this phase, with these shares of its slots
pub record StandsWith {At T W : Type 0} (of : Log T W → At) (at : At) (slots : Slots) (s : GroundState T W)
    : Type 0 where
  pub phase : of s.log ≡ at
  pub message : IsSlot slots.0 s.message
  pub waker : IsSlot slots.1 s.waker

module _ {T W : Type 0} where
  -- a ground at this phase, with its slots as the table has them there
  abbrev pub SenderStands : SenderAt → GroundState T W → Type 0
  SenderStands at = StandsWith sender_of at (sender_slots at)

  abbrev pub Stands : ReceiverAt → GroundState T W → Type 0
  Stands at = StandsWith receiver_of at (receiver_slots at)

-- a ground at one of these phases, with its slots as the table has them there
pub record StandsIn {T W : Type 0} (Phases : ReceiverAt → Type 0) (s : GroundState T W) : Type 0 where
  pub at : ReceiverAt
  pub is_one : Phases at
  pub stands : Stands at s
