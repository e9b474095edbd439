-- What a seat of the table knows and carries, and what a step does to it.
use Rattle.std.specs.Prelude.{◌≡◌, ⊤, ◌≤◌, ℕ, zero, suc, Bool, true, false, ◌||◌, List, [], ◌∷◌, ◌++◌, Option, Some, None, is_some}
use Rattle.atomic_table.specs.Seated.{TableId}
use Rattle.atomic_table.specs.Table.{Me}
use Rattle.oneshot_machine.specs.declared.machine.Seen.TheVariants.{Word}
use Rattle.oneshot_machine.specs.declared.states.Op.{Op}
use Rattle.oneshot_machine.specs.Noted.{Noted, saw}
use Rattle.oneshot_machine.specs.Phases.{sender_at, sender_moves, sender_owns, receiver_at, receiver_moves, receiver_owns, Row}
use Rattle.oneshot_machine.specs.Orders.{Reaches}
use Rattle.oneshot_machine.specs.TableRows.{is_same_seen}
use Rattle.oneshot_machine.specs.Slots.{Held, away, vacant, held, Finds}
use Rattle.oneshot_word.specs.declared.rule.Role.{Role}
use Rattle.oneshot_word.specs.declared.rule.Role.TheVariants.{Sender, Receiver}
use Rattle.oneshot_word.specs.declared.any_waker.AnyWaker.{AnyWaker}
use Rattle.oneshot_word.specs.declared.any_waker.AnyWaker.TheVariants as R
use Rattle.oneshot_word.specs.declared.rule.Slot.{Slot}
use Rattle.oneshot_word.specs.declared.rule.Slot.TheVariants.{Empty, Message, Thread, Task}
use Rattle.oneshot_word.specs.declared.rule.View.{View}
use Rattle.oneshot_machine.specs.declared.states.TheConstants.{MESSAGE}

abbrev pub view : {T H K P : Type 0} → P → Role → List Noted → Option T → Option (AnyWaker H K) → View T H K P
view q r xs m k = record { role = r; log = xs; passed = m; handed = k; about = q }

-- the empty promise
abbrev pub any : {X : Type 0} → X → Type 0
any x = ⊤

-- the content of a slot satisfies `kept`, if there is any
pub data Keeps {X : Type 0} (kept : X → Type 0) : Held X → Type 0 where
  away_keeps : Keeps kept away
  vacant_keeps : Keeps kept vacant
  held_keeps : (x : X) → kept x → Keeps kept (held x)

-- the slots that a seat has taken, each with its value: 0 is the message's, 1 the waker's
abbrev pub Carried : Type 0 → Type 0 → Type 0 → Type 0
Carried T H K = List (ℕ × Slot T H K)

module _ {T H K : Type 0} where
  -- the slot that holds this waker
  abbrev pub with_waker : AnyWaker H K → Slot T H K
  with_waker (R.Thread half) = Thread half
  with_waker (R.Task copy) = Task copy

  -- a slot that a seat carries, as its end sees it
  abbrev pub message_of : Slot T H K → Held T
  message_of Empty = vacant
  message_of (Message m) = held m
  message_of (Thread half) = vacant
  message_of (Task copy) = vacant

  abbrev pub waker_of : Slot T H K → Held (AnyWaker H K)
  waker_of Empty = vacant
  waker_of (Message m) = vacant
  waker_of (Thread half) = held (R.Thread half)
  waker_of (Task copy) = held (R.Task copy)

  abbrev pub message_in : Carried T H K → Held T
  message_in [] = away
  message_in ((zero, s) ∷ c) = message_of s
  message_in ((suc n, s) ∷ c) = message_in c

  abbrev pub waker_in : Carried T H K → Held (AnyWaker H K)
  waker_in [] = away
  waker_in ((zero, s) ∷ c) = waker_in c
  waker_in ((suc n, s) ∷ c) = waker_of s

-- a slot and how its end sees it: empty, or filled by `put` with a value that satisfies `kept`
pub data SlotOf {T H K X : Type 0} (kept : X → Type 0) (put : X → Slot T H K) : Slot T H K → Held X → Type 0 where
  slot_vacant : SlotOf kept put Empty vacant
  slot_held : (x : X) → kept x → SlotOf kept put (put x) (held x)

module _ {T H K : Type 0} where
  -- a message's slot never holds a waker
  abbrev pub MessageSlot : (T → Type 0) → Slot T H K → Held T → Type 0
  MessageSlot kept = SlotOf kept Message

  -- a waker's slot never holds a message
  abbrev pub WakerSlot : Slot T H K → Held (AnyWaker H K) → Type 0
  WakerSlot = SlotOf any with_waker

-- what a seat carries of the slot `place`: the slot if its end owns it, otherwise nothing
pub data Part {T H K X : Type 0} (kept : X → Type 0) (place : ℕ) (put : X → Slot T H K)
    : Bool → Carried T H K → Held X → Type 0 where
  not_carried : Part kept place put false [] away
  carried : {s : Slot T H K} {x : Held X} → SlotOf kept put s x → Part kept place put true ((place, s) ∷ []) x

-- which slot is in front when a seat carries both: the one that it took last
pub data Front : Type 0 where
  message_first : Front
  waker_first : Front

module _ {T H K : Type 0} where
  -- both parts together
  abbrev pub carried_as : Front → Carried T H K → Carried T H K → Carried T H K
  carried_as message_first message waker = message ++ waker
  carried_as waker_first message waker = waker ++ message

  -- what a seat carries if its end owns these slots
  pub data SeatOf (kept : T → Type 0) (fits : AnyWaker H K → Type 0) (front : Front)
      : Option (Bool × Bool) → Carried T H K → Held T → Held (AnyWaker H K) → Type 0 where
    seat_of : {message waker : Bool} {cm cw : Carried T H K} {m : Held T} {w : Held (AnyWaker H K)}
        → Part kept 0 Message message cm m → Part fits 1 with_waker waker cw w
        → SeatOf kept fits front (Some (message, waker)) (carried_as front cm cw) m w

-- a seat at a table of one word and two slots
pub record IsAt (shared seat : TableId) : Type 0 where
  pub table : seat ≡ shared
  pub words : seat.words ≡ 1
  pub slots : seat.slots ≡ 2

module _ {T H K P : Type 0} (about : P) where
  -- the sender's seat at a new table: it has taken the message's slot
  abbrev pub new_sender : Me (Slot T H K) (View T H K P)
  new_sender = (view about Sender [] None None, (0, Empty) ∷ [])

  -- the receiver's seat at a new table
  abbrev pub new_receiver : Me (Slot T H K) (View T H K P)
  new_receiver = (view about Receiver [] None None, [])

-- The message that the sender gave, and its slot: a sender that has the slot has given none. So it gives at
-- most one.
pub data GivesOnce {T : Type 0} : Option T → Held T → Type 0 where
  has_given : {given : Option T} → GivesOnce given away
  gave_none : {slot : Held T} → GivesOnce None slot

-- The message that the receiver took, and its slot: a receiver without the slot has taken none, and a message
-- in the slot is the one that it took. It never gives the slot up, so it takes at most one.
pub data HoldsTaken {T : Type 0} : Option T → Held T → Type 0 where
  holds_no_slot : HoldsTaken None away
  holds_none : {taken : Option T} → HoldsTaken taken vacant
  holds_it : (m : T) → HoldsTaken (Some m) (held m)

-- the waker that the sender took, and its slot, which it gives up: a waker in the slot is the one that it took
pub data HoldsClaimed {W : Type 0} : Option W → Held W → Type 0 where
  claims_no_slot : {woke : Option W} → HoldsClaimed woke away
  claims_none : {woke : Option W} → HoldsClaimed woke vacant
  claims_it : (k : W) → HoldsClaimed (Some k) (held k)

-- no more is known of the waker that the receiver gave, and its slot
abbrev pub unsaid : {W : Type 0} → Option W → Held W → Type 0
unsaid put slot = ⊤

-- the end's log is part of an order of both ends' operations
abbrev pub IsOrdered : Role → List Noted → Type 0
IsOrdered Sender xs = (ys : List Noted) × (word : ℕ) × Reaches xs ys word
IsOrdered Receiver ys = (xs : List Noted) × (word : ℕ) × Reaches xs ys word
IsOrdered _ log = ⊤

-- an end's seat: its owner, what it carries in its end's phase, which message and which waker passed, and that
-- its log has an order
pub record SeatIs {T H K P : Type 0} (keeps : P → T → Type 0) (whose : Role) (front : Front)
    (owns : List Noted → Option (Bool × Bool)) (Passed : Option T → Held T → Type 0)
    (Handed : Option (AnyWaker H K) → Held (AnyWaker H K) → Type 0)
    (me : Me (Slot T H K) (View T H K P)) : Type 0 where
  pub role : me.0.role ≡ whose
  pub has : SeatOf (keeps me.0.about) any front (owns me.0.log) me.1 (message_in me.1) (waker_in me.1)
  pub passed : Passed me.0.passed (message_in me.1)
  pub handed : Handed me.0.handed (waker_in me.1)
  pub ordered : IsOrdered whose me.0.log

module _ {T H K P : Type 0} (keeps : P → T → Type 0) where
  abbrev pub SenderSeat : Me (Slot T H K) (View T H K P) → Type 0
  SenderSeat = SeatIs keeps Sender waker_first (λ xs. sender_owns (sender_at xs)) GivesOnce HoldsClaimed

  abbrev pub ReceiverSeat : Me (Slot T H K) (View T H K P) → Type 0
  ReceiverSeat = SeatIs keeps Receiver message_first (λ ys. receiver_owns (receiver_at ys)) HoldsTaken unsaid

-- What has passed after an operation, by the end's slot before and after it, and by what had passed: a sender
-- gives a message, and a receiver a waker, if its slot was full and is away after.
abbrev pub gave : {T : Type 0} → Held T → Held T → Option T → Option T
gave (held m) away given = Some m
gave _ _ given = given

-- a receiver takes a message, and a sender a waker, if its slot was away and is full after
abbrev pub took : {T : Type 0} → Held T → Held T → Option T → Option T
took away (held m) taken = Some m
took _ _ taken = taken

-- it has taken one if it had before, or if the operation found MESSAGE
abbrev pub TakesAsFound : {T : Type 0} → Op → ℕ → Option T → Option T → Type 0
TakesAsFound op word before after = is_some after ≡ (is_some before || is_same_seen (saw op word) (Word MESSAGE))

-- of a sender, which takes no message, it states nothing
abbrev pub TakesNone : {T : Type 0} → Op → ℕ → Option T → Option T → Type 0
TakesNone op word before after = ⊤

-- a seat before and after an operation that found this word
pub record Stepped {T H K P At : Type 0} (Seat : Me (Slot T H K) (View T H K P) → Type 0)
    (at : List Noted → At) (moves : At → List (Row At)) (passes : Held T → Held T → Option T → Option T)
    (hands : Held (AnyWaker H K) → Held (AnyWaker H K) → Option (AnyWaker H K) → Option (AnyWaker H K))
    (Takes : Op → ℕ → Option T → Option T → Type 0)
    (before : Me (Slot T H K) (View T H K P)) (op : Op) (word : ℕ) (after : Me (Slot T H K) (View T H K P)) : Type 0
  where
    pub about : after.0.about ≡ before.0.about
    pub list : after.0.log ≡ before.0.log ++ (op, saw op word) ∷ []
    pub passed : after.0.passed ≡ passes (message_in before.1) (message_in after.1) before.0.passed
    pub stays : (x : T) → before.0.passed ≡ Some x → after.0.passed ≡ Some x
    pub takes : Takes op word before.0.passed after.0.passed
    pub handed : after.0.handed ≡ hands (waker_in before.1) (waker_in after.1) before.0.handed
    -- a waker that the end gets is the one that passed last
    pub gets : (k : AnyWaker H K) → waker_in before.1 ≡ away → waker_in after.1 ≡ held k → after.0.handed ≡ Some k
    pub seat : Seat after
    -- the log of a store does not have the word
    pub code : word ≤ 4
    pub finds : Finds moves (at before.0.log) op word
        (message_in before.1) (waker_in before.1) (message_in after.1) (waker_in after.1)

module _ {T H K P : Type 0} (keeps : P → T → Type 0) where
  abbrev pub SenderStepped : Me (Slot T H K) (View T H K P) → Op → ℕ → Me (Slot T H K) (View T H K P) → Type 0
  SenderStepped = Stepped (SenderSeat keeps) sender_at sender_moves gave took TakesNone

  abbrev pub ReceiverStepped : Me (Slot T H K) (View T H K P) → Op → ℕ → Me (Slot T H K) (View T H K P) → Type 0
  ReceiverStepped = Stepped (ReceiverSeat keeps) receiver_at receiver_moves took gave TakesAsFound
