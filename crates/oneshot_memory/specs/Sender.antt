-- What a contract sees of a sender's ground in memory, and how its word and its slots match its log.
use Rattle.std.specs.Prelude.{◌≡◌, ℕ, Bool, true, false, ◌&&◌, ◌||◌, ◌==◌, if◌then◌else◌, List, [], ◌∷◌, Option, Some, None}
use Rattle.std.specs.List.{list_any}
use Rattle.oneshot_machine.specs.Phases.{sending, dropping, SenderAt, overtaken, sender_moves, sender_owns, Share, none, empty, filled, Row}
use Rattle.oneshot_drive.specs.Grounds.{GroundState}
use Rattle.oneshot_memory.specs.declared.Event.{Event}
use Rattle.oneshot_memory.specs.declared.sender.Meanwhile.{Meanwhile}
use Rattle.oneshot_memory.specs.declared.sender.Meanwhile.TheVariants.{Waits, Stops, Leaves}
use Rattle.oneshot_memory.specs.Memory.{Memory, memory_of, is_code, is_same, owns_just, is_word}
use Rattle.oneshot_memory.specs.Events.{memory_state}
use Rattle.oneshot_machine.specs.declared.states.TheConstants.{RECEIVING, UNPARKING, DISCONNECTED}

-- its log, with both slots as the sender sees them, its word, and what a waiting receiver will do before the
-- sender finishes
pub record Sending (T W : Type 0) : Type 0 where
  pub state : GroundState T W
  pub word : ℕ
  pub meanwhile : Meanwhile

module _ {T W : Type 0} where
  abbrev pub sending_of : List (Event T W) → ℕ → Option T → Option W → Bool → Bool → Meanwhile → Sending T W
  sending_of events word message waker owns_message owns_waker meanwhile =
      record { state = memory_state events message waker owns_message owns_waker; word = word; meanwhile = meanwhile }

abbrev pub is_filled : Share → Bool
is_filled none = false
is_filled empty = false
is_filled filled = true

-- These rows find the word, and the waker is in its slot exactly if the operation that finds the word gets
-- it. Without rows, the sender has no further operation.
abbrev pub finds_waker : List (Row SenderAt) → Memory → Bool
finds_waker [] c = true
finds_waker (row ∷ rows) c =
    list_any (λ (row : Row SenderAt). (row.2 == c.word) && is_same (is_filled row.4.1) c.has_waker) (row ∷ rows)

-- the last word of a sender that owns both slots and has no further operation
abbrev pub last_word : SenderAt → ℕ
last_word (overtaken sending) = 4
last_word (overtaken dropping) = 2
last_word _ = 3

-- The memory of a sender at a phase with this last word and these rows, at which it owns these slots. If it
-- owns the waker's, it may have freed both.
abbrev pub sender_has : ℕ → Option (Bool × Bool) → List (Row SenderAt) → Memory → Bool
sender_has last None rows c = false
sender_has last (Some (message, true)) rows c =
    is_word last rows c.word && (owns_just message true c || owns_just false false c)
sender_has last (Some (message, false)) rows c = owns_just message false c && finds_waker rows c

abbrev pub sender_matches : SenderAt → Memory → Bool
sender_matches p c = is_code c.word && sender_has (last_word p) (sender_owns p) (sender_moves p) c

-- a sender's phase matches its word, which slots it owns, and the message and the waker in the slots
pub record SenderMatches {T W : Type 0} (p : SenderAt) (word : ℕ) (owns_message owns_waker : Bool) (message : Option T)
    (waker : Option W) : Type 0 where
  pub is_so : sender_matches p (memory_of word owns_message owns_waker message waker) ≡ true

-- whether the sender owns both slots after an operation that found this word
abbrev pub keeps_both : ℕ → Bool
keeps_both word = (word == DISCONNECTED) || (word == RECEIVING)

-- the word after the sender took the waker of a waiting receiver, which then did this
abbrev pub word_then : Meanwhile → ℕ → ℕ
word_then Waits word = word
word_then Stops word = if word == UNPARKING then 3 else word
word_then Leaves word = if word == UNPARKING then 2 else word
