-- The phases of both ends, and their table: the operations at each, the words found, the next phase and the slots.
use Rattle.std.specs.Prelude.{ℕ, Bool, true, false, List, [], ◌∷◌, ◌&&◌, if◌then◌else◌, Option, Some, None}
use Rattle.oneshot_machine.specs.declared.machine.Seen.{Seen}
use Rattle.oneshot_machine.specs.declared.states.Op.{Op}
use Rattle.oneshot_machine.specs.declared.states.Op.TheVariants.{Load, Store, Swap, Exchange, Add, Xor}
use Rattle.oneshot_machine.specs.declared.states.TheConstants.{RECEIVING, UNPARKING, DISCONNECTED, EMPTY, MESSAGE}
use Rattle.oneshot_machine.specs.TableRows.{is_same_seen}
use Rattle.oneshot_machine.specs.Noted.{Noted, saw, is_same_op}

-- how a sender ends: by its `send` or by its drop
pub data By : Type 0 where
  sending : By
  dropping : By

pub data SenderAt : Type 0 where
  -- it has performed no operation
  fresh : SenderAt
  -- it found RECEIVING: the receiver waits, and the final swap is due
  owes : By → SenderAt
  -- its last operation found the receiver there
  finished : By → SenderAt
  -- its last operation, an add or an xor, found DISCONNECTED: the receiver was gone, and the word is now EMPTY
  found_gone : By → SenderAt
  -- its last operation, the final swap, found DISCONNECTED: the receiver was dropped before it
  overtaken : By → SenderAt
  -- no sender has such a log
  no_sender : SenderAt

-- a receiver that is open
pub data Open : Type 0 where
  -- its last operation is a load that found EMPTY
  after_load : Open
  -- its last operation is the swap that ended its wait: its deadline was over, and it found RECEIVING
  after_timeout : Open

-- a receiver whose waker is stored
pub data Waiting : Type 0 where
  -- by a call that blocks
  blocked : Waiting
  -- by a poll, and no load has found it there since
  polled : Waiting
  -- by a poll, and its last operation is a load that found RECEIVING
  again : Waiting

-- the swaps of a call that blocks
pub data Swapping : Type 0 where
  -- the swap that begins the wait, and leaves RECEIVING
  storing : Swapping
  -- the swap that ends it, and leaves EMPTY
  stopping : Swapping

-- how a receiver found the message: by its own swap, or by an operation that left MESSAGE
pub data Got : Type 0 where
  -- by a load of a receiver that is new or open: a receive takes it, or a future is dropped
  at_once : Got
  -- by a load in a call that waited, which takes it
  waited : Got
  -- by a swap of a call that blocks, which takes it
  swapped : Swapping → Got
  -- by an operation that the calls of a future share with its drop
  by_future : Got
  -- by an operation that only a poll has
  by_poll : Got

-- how the word of a closed receiver became DISCONNECTED
pub data Closing : Type 0 where
  found_closed : Closing
  closed_itself : Closing

pub data ReceiverAt : Type 0 where
  -- it has performed no operation; the sender's phase of this kind is `fresh`
  untouched : ReceiverAt
  idle : Open → ReceiverAt
  -- its waker is stored, unless the sender took it since
  waits : Waiting → ReceiverAt
  -- a future that found that the sender is about to finish
  claimed : ReceiverAt
  -- a future whose exchange left EMPTY again: the stored waker is its own
  withdrew : ReceiverAt
  -- its deadline was over, but its waker is the sender's: it waits for the sender's final swap
  overdue : ReceiverAt
  -- it has the message
  full : Got → ReceiverAt
  -- its swap found DISCONNECTED, and left another word
  overwritten : Swapping → ReceiverAt
  -- it is closed, and the word is DISCONNECTED
  disconnected : Closing → ReceiverAt
  -- a future that is closed, and has not loaded `DISCONNECTED` since
  resolved : Closing → ReceiverAt
  -- it was dropped before the sender's last operation
  gone : ReceiverAt
  -- it was dropped after the sender's last operation
  ended : ReceiverAt
  -- no receiver has such a log
  no_receiver : ReceiverAt

-- the word that a swap of a receiver leaves
abbrev pub swapped_in : Swapping → ℕ
swapped_in storing = RECEIVING
swapped_in stopping = EMPTY

-- the word once a receiver found the message
abbrev pub word_of : Got → ℕ
word_of (swapped by) = swapped_in by
word_of _ = MESSAGE

-- an end's share of a slot: none, or the slot is the end's, and is empty or filled
pub data Share : Type 0 where
  none : Share
  empty : Share
  filled : Share

-- the shares of the message's slot and of the waker's
abbrev pub Slots : Type 0
Slots = Share × Share

-- A row: the operation, the slots that it needs, a word that it may find, the next phase, and the slots then.
-- A slot that is filled before and after keeps its content.
abbrev pub Row : Type 0 → Type 0
Row At = Op × Slots × ℕ × At × Slots

-- the sender's table
abbrev pub sender_moves : SenderAt → List (Row SenderAt)
sender_moves fresh =
    (Add, (filled, none), EMPTY, finished sending, (none, none))
    ∷ (Add, (filled, none), RECEIVING, owes sending, (filled, filled))
    ∷ (Add, (filled, none), DISCONNECTED, found_gone sending, (filled, empty))
    ∷ (Xor, (empty, none), EMPTY, finished dropping, (none, none))
    ∷ (Xor, (empty, none), RECEIVING, owes dropping, (empty, filled))
    ∷ (Xor, (empty, none), DISCONNECTED, found_gone dropping, (empty, empty))
    ∷ []
sender_moves (owes sending) =
    (Swap MESSAGE, (filled, empty), UNPARKING, finished sending, (none, none))
    ∷ (Swap MESSAGE, (filled, empty), EMPTY, finished sending, (none, none))
    ∷ (Swap MESSAGE, (filled, empty), DISCONNECTED, overtaken sending, (filled, empty))
    ∷ []
sender_moves (owes dropping) =
    (Swap DISCONNECTED, (empty, empty), UNPARKING, finished dropping, (none, none))
    ∷ (Swap DISCONNECTED, (empty, empty), EMPTY, finished dropping, (none, none))
    ∷ (Swap DISCONNECTED, (empty, empty), DISCONNECTED, overtaken dropping, (empty, empty))
    ∷ []
sender_moves (finished by) = []
sender_moves (found_gone by) = []
sender_moves (overtaken by) = []
sender_moves no_sender = []

-- the receiver's table
abbrev pub receiver_moves : ReceiverAt → List (Row ReceiverAt)
receiver_moves untouched =
    (Load, (none, none), EMPTY, idle after_load, (none, empty))
    ∷ (Load, (none, none), MESSAGE, full at_once, (filled, empty))
    ∷ (Load, (none, none), DISCONNECTED, disconnected found_closed, (empty, empty))
    ∷ (Swap DISCONNECTED, (none, none), EMPTY, gone, (none, none))
    ∷ (Swap DISCONNECTED, (none, none), MESSAGE, ended, (filled, empty))
    ∷ (Swap DISCONNECTED, (none, none), DISCONNECTED, ended, (empty, empty))
    ∷ []
receiver_moves (idle after_load) =
    (Load, (none, empty), EMPTY, idle after_load, (none, empty))
    ∷ (Load, (none, empty), MESSAGE, full at_once, (filled, empty))
    ∷ (Load, (none, empty), DISCONNECTED, disconnected found_closed, (empty, empty))
    ∷ (Swap RECEIVING, (none, filled), EMPTY, waits blocked, (none, none))
    ∷ (Swap RECEIVING, (none, filled), MESSAGE, full (swapped storing), (filled, filled))
    ∷ (Swap RECEIVING, (none, filled), DISCONNECTED, overwritten storing, (empty, filled))
    ∷ (Exchange EMPTY RECEIVING, (none, filled), EMPTY, waits polled, (none, none))
    ∷ (Exchange EMPTY RECEIVING, (none, filled), MESSAGE, full by_poll, (filled, filled))
    ∷ (Exchange EMPTY RECEIVING, (none, filled), DISCONNECTED, resolved found_closed, (empty, filled))
    ∷ (Swap DISCONNECTED, (none, empty), EMPTY, gone, (none, none))
    ∷ (Swap DISCONNECTED, (none, empty), MESSAGE, ended, (filled, empty))
    ∷ (Swap DISCONNECTED, (none, empty), DISCONNECTED, ended, (empty, empty))
    ∷ []
receiver_moves (idle after_timeout) =
    (Load, (none, empty), EMPTY, idle after_load, (none, empty))
    ∷ (Load, (none, empty), MESSAGE, full at_once, (filled, empty))
    ∷ (Load, (none, empty), DISCONNECTED, disconnected found_closed, (empty, empty))
    ∷ (Swap DISCONNECTED, (none, empty), EMPTY, gone, (none, none))
    ∷ (Swap DISCONNECTED, (none, empty), MESSAGE, ended, (filled, empty))
    ∷ (Swap DISCONNECTED, (none, empty), DISCONNECTED, ended, (empty, empty))
    ∷ []
receiver_moves (waits blocked) =
    (Load, (none, none), RECEIVING, waits blocked, (none, none))
    ∷ (Load, (none, none), UNPARKING, waits blocked, (none, none))
    ∷ (Load, (none, none), MESSAGE, full waited, (filled, empty))
    ∷ (Load, (none, none), DISCONNECTED, disconnected found_closed, (empty, empty))
    ∷ (Swap EMPTY, (none, none), RECEIVING, idle after_timeout, (none, filled))
    ∷ (Swap EMPTY, (none, none), UNPARKING, overdue, (none, none))
    ∷ (Swap EMPTY, (none, none), MESSAGE, full (swapped stopping), (filled, empty))
    ∷ (Swap EMPTY, (none, none), DISCONNECTED, overwritten stopping, (empty, empty))
    ∷ []
receiver_moves (waits polled) =
    (Load, (none, none), RECEIVING, waits again, (none, none))
    ∷ (Load, (none, none), UNPARKING, claimed, (none, none))
    ∷ (Load, (none, none), MESSAGE, full by_future, (filled, empty))
    ∷ (Load, (none, none), DISCONNECTED, disconnected found_closed, (empty, empty))
    ∷ []
receiver_moves (waits again) =
    (Load, (none, none), RECEIVING, waits again, (none, none))
    ∷ (Load, (none, none), UNPARKING, claimed, (none, none))
    ∷ (Load, (none, none), MESSAGE, full by_future, (filled, empty))
    ∷ (Load, (none, none), DISCONNECTED, disconnected found_closed, (empty, empty))
    ∷ (Exchange RECEIVING EMPTY, (none, none), RECEIVING, withdrew, (none, filled))
    ∷ (Exchange RECEIVING EMPTY, (none, none), UNPARKING, claimed, (none, none))
    ∷ (Exchange RECEIVING EMPTY, (none, none), MESSAGE, full by_future, (filled, empty))
    ∷ (Exchange RECEIVING EMPTY, (none, none), DISCONNECTED, disconnected found_closed, (empty, empty))
    ∷ []
receiver_moves claimed =
    (Load, (none, none), UNPARKING, claimed, (none, none))
    ∷ (Load, (none, none), MESSAGE, full by_future, (filled, empty))
    ∷ (Load, (none, none), DISCONNECTED, disconnected found_closed, (empty, empty))
    ∷ (Swap DISCONNECTED, (none, none), UNPARKING, gone, (none, none))
    ∷ (Swap DISCONNECTED, (none, none), MESSAGE, ended, (filled, empty))
    ∷ (Swap DISCONNECTED, (none, none), DISCONNECTED, ended, (empty, empty))
    ∷ []
receiver_moves withdrew =
    (Exchange EMPTY RECEIVING, (none, filled), EMPTY, waits polled, (none, none))
    ∷ (Exchange EMPTY RECEIVING, (none, filled), MESSAGE, full by_poll, (filled, filled))
    ∷ (Exchange EMPTY RECEIVING, (none, filled), DISCONNECTED, resolved found_closed, (empty, filled))
    ∷ (Swap DISCONNECTED, (none, empty), EMPTY, gone, (none, none))
    ∷ (Swap DISCONNECTED, (none, empty), MESSAGE, ended, (filled, empty))
    ∷ (Swap DISCONNECTED, (none, empty), DISCONNECTED, ended, (empty, empty))
    ∷ []
receiver_moves overdue =
    (Load, (none, none), EMPTY, overdue, (none, none))
    ∷ (Load, (none, none), MESSAGE, full waited, (filled, empty))
    ∷ (Load, (none, none), DISCONNECTED, disconnected found_closed, (empty, empty))
    ∷ []
receiver_moves (full at_once) =
    (Store DISCONNECTED, (filled, empty), MESSAGE, disconnected closed_itself, (filled, empty))
    ∷ (Swap DISCONNECTED, (filled, empty), MESSAGE, ended, (filled, empty))
    ∷ []
receiver_moves (full waited) =
    (Store DISCONNECTED, (filled, empty), MESSAGE, disconnected closed_itself, (filled, empty))
    ∷ []
receiver_moves (full (swapped by)) =
    (Store DISCONNECTED, (filled, empty), swapped_in by, disconnected closed_itself, (filled, empty)) ∷ []
receiver_moves (full by_future) =
    (Store DISCONNECTED, (filled, empty), MESSAGE, resolved closed_itself, (filled, empty))
    ∷ (Swap DISCONNECTED, (filled, empty), MESSAGE, ended, (filled, empty))
    ∷ []
receiver_moves (full by_poll) =
    (Store DISCONNECTED, (filled, empty), MESSAGE, resolved closed_itself, (filled, empty)) ∷ []
receiver_moves (overwritten by) =
    (Store DISCONNECTED, (empty, empty), swapped_in by, disconnected closed_itself, (empty, empty)) ∷ []
receiver_moves (disconnected closing) =
    (Load, (empty, empty), DISCONNECTED, disconnected closing, (empty, empty))
    ∷ (Swap DISCONNECTED, (empty, empty), DISCONNECTED, ended, (empty, empty))
    ∷ []
receiver_moves (resolved closing) = (Load, (empty, empty), DISCONNECTED, disconnected closing, (empty, empty)) ∷ []
receiver_moves gone = []
receiver_moves ended = []
receiver_moves no_receiver = []

-- whether the message's slot and the waker's are the end's
abbrev pub sender_owns : SenderAt → Option (Bool × Bool)
sender_owns fresh = Some (true, false)
sender_owns (owes by) = Some (true, true)
sender_owns (finished by) = Some (false, false)
sender_owns (found_gone by) = Some (true, true)
sender_owns (overtaken by) = Some (true, true)
sender_owns no_sender = None

abbrev pub receiver_owns : ReceiverAt → Option (Bool × Bool)
receiver_owns untouched = Some (false, false)
receiver_owns (idle open_at) = Some (false, true)
receiver_owns (waits waiting) = Some (false, false)
receiver_owns claimed = Some (false, false)
receiver_owns withdrew = Some (false, true)
receiver_owns overdue = Some (false, false)
receiver_owns (full got) = Some (true, true)
receiver_owns (overwritten by) = Some (true, true)
receiver_owns (disconnected closing) = Some (true, true)
receiver_owns (resolved closing) = Some (true, true)
receiver_owns gone = Some (false, false)
receiver_owns ended = Some (true, true)
receiver_owns no_receiver = None

-- whether a row is for this operation and what it saw
abbrev pub is_row_for : {At : Type 0} → Op → Seen → Row At → Bool
is_row_for op seen (made, before, word, next, after) = is_same_op made op && is_same_seen (saw made word) seen

-- the phase after an operation that saw this
abbrev pub next_by : {At : Type 0} → At → List (Row At) → Op → Seen → At
next_by nowhere [] op seen = nowhere
next_by nowhere (row ∷ rows) op seen =
    if is_row_for op seen row then row.3 else next_by nowhere rows op seen

abbrev pub sender_next : SenderAt → Op → Seen → SenderAt
sender_next at = next_by no_sender (sender_moves at)

abbrev pub receiver_next : ReceiverAt → Op → Seen → ReceiverAt
receiver_next at = next_by no_receiver (receiver_moves at)

-- the phase after a log that begins at this phase
abbrev pub phase_from : {At : Type 0} → (At → Op → Seen → At) → At → List Noted → At
phase_from next at [] = at
phase_from next at (x ∷ xs) = phase_from next (next at x.0 x.1) xs

abbrev pub sender_at : List Noted → SenderAt
sender_at = phase_from sender_next fresh

abbrev pub receiver_at : List Noted → ReceiverAt
receiver_at = phase_from receiver_next untouched
