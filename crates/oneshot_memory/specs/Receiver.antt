-- What a contract sees of a receiver's ground in memory, and how its word and its slots match its log.
use Rattle.std.specs.Prelude.{◌≡◌, ℕ, Bool, true, false, not, ◌&&◌, ◌||◌, ◌==◌, if◌then◌else◌, List, Option, Some, None, is_some}
use Rattle.std.specs.List.{list_any}
use Rattle.oneshot_machine.specs.declared.machine.Seen.TheVariants as S
use Rattle.oneshot_machine.specs.declared.states.Op.{Op}
use Rattle.oneshot_machine.specs.declared.states.Op.TheVariants.{Load, Store, Swap, Exchange}
use Rattle.oneshot_machine.specs.declared.states.TheConstants.{RECEIVING, UNPARKING, DISCONNECTED, EMPTY, MESSAGE}
use Rattle.oneshot_machine.specs.Phases.{ReceiverAt, receiver_moves, receiver_owns, Share, none, empty, filled, Row, is_row_for}
use Rattle.oneshot_machine.specs.Slots.{Held, away}
use Rattle.oneshot_drive.specs.Grounds.{GroundState}
use Rattle.oneshot_memory.specs.declared.Event.{Event}
use Rattle.oneshot_memory.specs.declared.receiver.Act.{Act}
use Rattle.oneshot_memory.specs.declared.receiver.Act.TheVariants as A
use Rattle.oneshot_memory.specs.Memory.{Memory, memory_of, is_code, is_same, owns_just, is_word}
use Rattle.oneshot_memory.specs.Events.{memory_state}

-- What a test planned for a receiver's ground. The sender acts after `pauses` pauses of the receiver. If
-- it then finds the receiver waiting, it lingers for `lingers` more. The deadline is over after `reads`
-- readings of the clock.
pub record Plan (T : Type 0) : Type 0 where
  pub act : Option (Act T)
  pub pauses : ℕ
  pub lingers : ℕ
  pub reads : ℕ

-- the log of a receiver's ground, with both slots as the receiver sees them, its word, and its plan
pub record Receiving (T W : Type 0) : Type 0 where
  pub state : GroundState T W
  pub word : ℕ
  pub plan : Plan T

module _ {T W : Type 0} where
  abbrev pub receiving_of : List (Event T W) → ℕ → Option T → Option W → Bool → Bool → Plan T → Receiving T W
  receiving_of events word message waker owns_message owns_waker plan =
      record { state = memory_state events message waker owns_message owns_waker; word = word; plan = plan }

abbrev pub is_away_share : Share → Bool
is_away_share none = true
is_away_share empty = false
is_away_share filled = false

-- The receiver's waker is in a slot that it does not own exactly if a load that finds this word leaves it
-- there: the receiver waits, and the sender has not acted yet.
abbrev pub leaves_waker : List (Row ReceiverAt) → ℕ → Bool
leaves_waker rows word = list_any (λ row. is_row_for Load (S.Word word) row && is_away_share row.4.1) rows

-- The memory of a receiver at a phase with these rows, at which it owns these slots. If it owns the
-- message's, it may have freed both. If not, there is a message exactly if the sender sent one.
abbrev pub receiver_has : Option (Bool × Bool) → List (Row ReceiverAt) → Memory → Bool
receiver_has None rows c = false
receiver_has (Some (true, waker)) rows c =
    owns_just true waker c && is_word 2 rows c.word || owns_just false false c
receiver_has (Some (false, waker)) rows c =
    owns_just false waker c
    && is_word 2 rows c.word
    && is_same (c.word == MESSAGE) c.has_message
    && (waker || is_same (leaves_waker rows c.word) c.has_waker)

abbrev pub receiver_matches : ReceiverAt → Memory → Bool
receiver_matches q c = is_code c.word && receiver_has (receiver_owns q) (receiver_moves q) c

-- A receiver's phase matches its word, which slots it owns, and the message and the waker in the slots.
pub record ReceiverMatches {T W : Type 0} (q : ReceiverAt) (word : ℕ) (owns_message owns_waker : Bool)
    (message : Option T) (waker : Option W) : Type 0 where
  pub is_so : receiver_matches q (memory_of word owns_message owns_waker message waker) ≡ true

-- whether the receiver owns the message's slot after an operation that found this word
abbrev pub keeps_message : Op → ℕ → Bool
keeps_message (Store new) word = true
keeps_message _ word = (word == MESSAGE) || (word == DISCONNECTED)

-- the slot has the waker of a waiting receiver, and is not the receiver's
abbrev pub lies : {W : Type 0} → Bool → Option W → Bool
lies owns_waker waker = not owns_waker && is_some waker

-- whether the receiver owns the waker's slot after it; `lying`: the waker of a waiting receiver was in it
abbrev pub keeps_waker : Op → ℕ → Bool → Bool
keeps_waker (Swap new) word lying = not ((word == EMPTY) || (word == UNPARKING))
keeps_waker (Exchange expected new) word lying = not ((word == EMPTY) || (word == UNPARKING))
keeps_waker Load word lying = not lying
keeps_waker _ word lying = true

-- whether with this operation a receiver leaves while the sender is about to finish
abbrev pub overtakes : Op → ℕ → Bool
overtakes (Swap new) word = (new == DISCONNECTED) && (word == UNPARKING)
overtakes _ word = false

-- the waker in its slot after it: a sender that it overtakes has used it up
abbrev pub waker_after : {W : Type 0} → Op → ℕ → Option W → Option W
waker_after op word waker = if overtakes op word then None else waker

-- the words while neither end has acted: nobody waits, or the receiver does
abbrev pub is_quiet : ℕ → Bool
is_quiet word = (word == EMPTY) || (word == RECEIVING)

-- whether both ends are here, by the word and the message's slot
abbrev pub both_here : {T : Type 0} → ℕ → Held T → Bool
both_here word away = is_quiet word
both_here word _ = false

-- the word after the sender's act, which needs both ends to be here
abbrev pub word_by : {T : Type 0} → ℕ → ℕ → Held T → ℕ
word_by new word message = if both_here word message then new else word

-- the word and the message that a sender's act leaves
abbrev pub word_after_act : {T : Type 0} → Act T → ℕ
word_after_act (A.Send x) = 4
word_after_act A.Drop = 2

abbrev pub message_after_act : {T : Type 0} → Act T → Option T
message_after_act (A.Send x) = Some x
message_after_act A.Drop = None
