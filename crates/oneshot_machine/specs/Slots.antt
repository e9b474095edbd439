-- What a row of the phases' table states of an end's slots, before its operation and after it.
use Rattle.std.specs.Prelude.{ℕ, Bool, true, false, List, ◌∷◌, Option, Some}
use Rattle.oneshot_machine.specs.declared.states.Op.{Op}
use Rattle.oneshot_machine.specs.Phases.{SenderAt, sender_moves, sender_owns, ReceiverAt, receiver_moves, receiver_owns, Share, none, empty, filled, Slots, Row}

-- a slot as an end has it: not the end's, empty, or with this content
pub data Held (X : Type 0) : Type 0 where
  away : Held X
  vacant : Held X
  held : X → Held X

-- The message's slot comes first in the relations below, then the waker's.

-- the end has this share of the slot
pub data IsSlot {X : Type 0} : Share → Held X → Type 0 where
  is_away : IsSlot none away
  is_vacant : IsSlot empty vacant
  is_held : (x : X) → IsSlot filled (held x)

-- a slot before and after an operation: it stays as it is, or the end gives it up, or gets it
pub data SlotChange {X : Type 0} : Share → Share → Held X → Held X → Type 0 where
  stays_away : SlotChange none none away away
  stays_vacant : SlotChange empty empty vacant vacant
  stays_held : (x : X) → SlotChange filled filled (held x) (held x)
  gives_room : SlotChange empty none vacant away
  gives_thing : (x : X) → SlotChange filled none (held x) away
  gets_room : SlotChange none empty away vacant
  gets_thing : (x : X) → SlotChange none filled away (held x)

-- a row is in a table
pub data In {X : Type 0} : X → List X → Type 0 where
  head : {x : X} {xs : List X} → In x (x ∷ xs)
  tail : {x y : X} {xs : List X} → In x xs → In x (y ∷ xs)

module _ {At T W : Type 0} (rows : At → List (Row At)) where
  -- at this phase the table has the operation, for these slots
  pub data May : At → Op → Held T → Held W → Type 0 where
    may : {at : At} {op : Op} {before after : Slots} {word : ℕ} {next : At} {m : Held T} {w : Held W}
        → In (op, before, word, next, after) (rows at)
        → IsSlot before.0 m → IsSlot before.1 w → May at op m w

  -- it may find this word, and changes the first two slots into the last two
  pub data Finds : At → Op → ℕ → Held T → Held W → Held T → Held W → Type 0 where
    finds : {at : At} {op : Op} {before after : Slots} {word : ℕ} {next : At} {m m' : Held T} {w w' : Held W}
        → In (op, before, word, next, after) (rows at)
        → SlotChange before.0 after.0 m m' → SlotChange before.1 after.1 w w' → Finds at op word m w m' w'

module _ {T W : Type 0} where
  abbrev pub SenderMay : SenderAt → Op → Held T → Held W → Type 0
  SenderMay = May sender_moves

  abbrev pub SenderFinds : SenderAt → Op → ℕ → Held T → Held W → Held T → Held W → Type 0
  SenderFinds = Finds sender_moves

  abbrev pub ReceiverMay : ReceiverAt → Op → Held T → Held W → Type 0
  ReceiverMay = May receiver_moves

  abbrev pub ReceiverFinds : ReceiverAt → Op → ℕ → Held T → Held W → Held T → Held W → Type 0
  ReceiverFinds = Finds receiver_moves

-- a slot that is the end's, or not
pub data IsOwned {X : Type 0} : Bool → Held X → Type 0 where
  not_its_own : IsOwned false away
  own_vacant : IsOwned true vacant
  own_held : (x : X) → IsOwned true (held x)

-- both slots of an end
pub data Owns {T W : Type 0} : Option (Bool × Bool) → Held T → Held W → Type 0 where
  owns : {message waker : Bool} {m : Held T} {w : Held W}
      → IsOwned message m → IsOwned waker w → Owns (Some (message, waker)) m w

module _ {T W : Type 0} where
  -- at this phase these slots are the end's, and no others
  abbrev pub SenderOwns : SenderAt → Held T → Held W → Type 0
  SenderOwns at = Owns (sender_owns at)

  abbrev pub ReceiverOwns : ReceiverAt → Held T → Held W → Type 0
  ReceiverOwns at = Owns (receiver_owns at)
