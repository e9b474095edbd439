-- What the ground of a real end shows: a state whose log has only the end's operations on the word.
use Rattle.std.specs.Prelude.{◌≡◌, ⊤, ℕ, Bool, true, false, List, [], ◌∷◌, ◌++◌, map, Option, Some, None}
use Rattle.atomic_table.specs.Seated.{TableId}
use Rattle.oneshot_machine.specs.declared.machine.Step.TheVariants.{Word}
use Rattle.oneshot_machine.specs.Logs.{Event}
use Rattle.oneshot_machine.specs.Phases.{fresh, ReceiverAt, untouched, receiver_owns, Slots}
use Rattle.oneshot_machine.specs.Slots.{Held, away, vacant, held, IsSlot}
use Rattle.oneshot_machine.specs.Noted.{Noted}
use Rattle.oneshot_drive.specs.Grounds.{GroundState, sender_slots, receiver_slots}
use Rattle.oneshot_word.specs.Side.{Side}

-- a table as the list of numbers that identify it
abbrev pub channel_of : TableId → List ℕ
channel_of table =
    table.words
    ∷ table.slots
    ∷ table.views_name
    ∷ table.atom
    ∷ table.block
    ∷ table.offset
    ∷ table.slot_names

-- a slot that holds this, or is vacant
abbrev pub slot_of : {X : Type 0} → Option X → Held X
slot_of None = vacant
slot_of (Some x) = held x

-- an end that freed the block has no slot
abbrev pub unless_freed : {X : Type 0} → Bool → Held X → Held X
unless_freed true slot = away
unless_freed false slot = slot

-- an end's side, with the slots that it still has
abbrev pub left_of : {T W P : Type 0} → Bool → Side T W P → Side T W P
left_of freed s = record s { message = unless_freed freed s.message; waker = unless_freed freed s.waker }

-- only a receiver that owns both slots frees the block
abbrev pub MayBeFreed : Bool → ReceiverAt → Type 0
MayBeFreed false at = ⊤
MayBeFreed true at = receiver_owns at ≡ Some (true, true)

module _ {T W : Type 0} where
  abbrev pub event_of : Noted → Event T W
  event_of x = record { step = Word x.0; seen = x.1; message = None; waker = None }

  abbrev pub events_of : List Noted → List (Event T W)
  events_of = map event_of

-- The state of a ground over an end's side. Its channel is these names and the table, and it shows the waker's
-- slot by `shown`.
abbrev pub state_beside : {T W V P : Type 0} → (Held W → Held V) → List ℕ → Side T W P → GroundState T V
state_beside shown names s =
    record {
      log = record { whole = false; channel = names ++ channel_of s.table; list = events_of s.log };
      message = s.message;
      waker = shown s.waker;
    }

module _ {T W P : Type 0} where
  -- the state of a ground that shows the waker's slot as it is
  abbrev pub state_of : Side T W P → GroundState T W
  state_of = state_beside (λ slot. slot) []

  -- the same of a ground that was lent under these names
  abbrev pub lent : List ℕ → Side T W P → GroundState T W
  lent = state_beside (λ slot. slot)

  -- a side that has performed no operation, with these shares of the slots
  pub record IsNew (slots : Slots) (s : Side T W P) : Type 0 where
    pub log : s.log ≡ []
    pub message : IsSlot slots.0 s.message
    pub waker : IsSlot slots.1 s.waker
    pub passed : s.passed ≡ None

  -- a new side of each end, with the shares of its first phase
  abbrev pub IsNewSender : Side T W P → Type 0
  IsNewSender = IsNew (sender_slots fresh)

  abbrev pub IsNewReceiver : Side T W P → Type 0
  IsNewReceiver = IsNew (receiver_slots untouched)
