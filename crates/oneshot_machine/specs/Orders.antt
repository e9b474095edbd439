-- The order of both ends' operations: in it each operation finds the word that the one before it left.
use Rattle.std.specs.Prelude.{ℕ, List, [], ◌∷◌, ◌++◌}
use Rattle.oneshot_machine.specs.declared.states.Op.{Op}
use Rattle.oneshot_machine.specs.Noted.{Noted, saw}
use Rattle.oneshot_machine.specs.Phases.{sender_at, sender_moves, receiver_at, receiver_moves, Slots, Row}
use Rattle.oneshot_machine.specs.Slots.{In}
use Rattle.oneshot_machine.specs.States.{word_after}
use Rattle.oneshot_machine.specs.declared.states.TheConstants.{EMPTY}

-- The operations of the sender's log and of the receiver's have an order, which leaves this word.
pub data InOrder : List Noted → List Noted → ℕ → Type 0 where
  -- a new channel has the word EMPTY
  none_made : InOrder [] [] EMPTY
  -- one end performs one more operation, which finds this word
  by_sender : {xs ys : List Noted} {word : ℕ} (op : Op)
      → InOrder xs ys word → InOrder (xs ++ (op, saw op word) ∷ []) ys (word_after op word)
  by_receiver : {xs ys : List Noted} {word : ℕ} (op : Op)
      → InOrder xs ys word → InOrder xs (ys ++ (op, saw op word) ∷ []) (word_after op word)

-- one of these rows has the operation, and finds this word
pub data HasRow {At : Type 0} (rows : List (Row At)) (op : Op) (word : ℕ) : Type 0 where
  has_row : {before after : Slots} {next : At}
      → In (op, before, word, next, after) rows → HasRow rows op word

-- Such an order in which each operation, with the word that it finds, has a row in its end's phase.
pub data Reaches : List Noted → List Noted → ℕ → Type 0 where
  -- a new channel has the word EMPTY
  nothing_made : Reaches [] [] EMPTY
  -- one end performs one more operation, which has a row in its phase
  sender_makes : {xs ys : List Noted} {word : ℕ} (op : Op)
      → Reaches xs ys word → HasRow (sender_moves (sender_at xs)) op word
      → Reaches (xs ++ (op, saw op word) ∷ []) ys (word_after op word)
  receiver_makes : {xs ys : List Noted} {word : ℕ} (op : Op)
      → Reaches xs ys word → HasRow (receiver_moves (receiver_at ys)) op word
      → Reaches xs (ys ++ (op, saw op word) ∷ []) (word_after op word)

-- each order by the phases' tables is an order
abbrev pub ReachedInOrder : Type 0
ReachedInOrder = (xs ys : List Noted) (word : ℕ) → Reaches xs ys word → InOrder xs ys word
