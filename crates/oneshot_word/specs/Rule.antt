-- The rule of the table: the order of both ends' operations, where each slot is, and which message passes.
-- It does not state which word belongs to which phases; proofs/RuleImplies.antt lists that.
use Rattle.std.specs.Prelude.{◌≡◌, ℕ, Bool, true, false, ◌||◌, if◌then◌else◌, List, [], ◌∷◌, Option, Some, None}
use mathlib.Core.Option as maybe
use Rattle.oneshot_machine.specs.Noted.{Noted}
use Rattle.oneshot_machine.specs.Orders.{Reaches}
use Rattle.oneshot_machine.specs.Phases.{sending, SenderAt, fresh, finished, sender_at, sender_owns, ReceiverAt, waits, receiver_at, receiver_owns, Share, none, empty, filled}
use Rattle.oneshot_word.specs.declared.rule.Role.TheVariants.{Maker, MakerWithSlot, Sender, Receiver}
use Rattle.oneshot_word.specs.declared.any_waker.AnyWaker.{AnyWaker}
use Rattle.oneshot_word.specs.declared.rule.Slot.{Slot}
use Rattle.oneshot_word.specs.declared.rule.Slot.TheVariants.{Empty, Message}
use Rattle.oneshot_word.specs.declared.rule.View.{View}
use Rattle.oneshot_word.specs.Seats.{view, with_waker}
use Rattle.oneshot_machine.specs.declared.states.TheConstants.{EMPTY}

-- what is at home of a slot: nothing while a seat carries it, otherwise its content
abbrev pub Home : Type 0 → Type 0 → Type 0 → Type 0
Home T H K = maybe.Option (Slot T H K)

module _ {T H K : Type 0} where
  abbrev pub out : Home T H K
  out = maybe.none

  abbrev pub bare : Home T H K
  bare = maybe.some Empty

  abbrev pub has_message : T → Home T H K
  has_message m = maybe.some (Message m)

  abbrev pub has_waker : AnyWaker H K → Home T H K
  has_waker k = maybe.some (with_waker k)

-- A slot that neither end owns is at home. The message's is full once the sender has sent, and the waker's
-- while the receiver waits and the sender has performed no operation.
abbrev pub message_left : SenderAt → Share
message_left (finished sending) = filled
message_left _ = empty

abbrev pub waker_left : SenderAt → ReceiverAt → Share
waker_left fresh (waits waiting) = filled
waker_left _ _ = empty

-- which of both slots an end owns
abbrev pub has_slots : Option (Bool × Bool) → Bool × Bool
has_slots (Some slots) = slots
has_slots None = (false, false)

-- the share of a slot that is at home: none while an end owns it
abbrev pub message_home : SenderAt → ReceiverAt → Share
message_home p q =
    if (has_slots (sender_owns p)).0 || (has_slots (receiver_owns q)).0 then none else message_left p

abbrev pub waker_home : SenderAt → ReceiverAt → Share
waker_home p q =
    if (has_slots (sender_owns p)).1 || (has_slots (receiver_owns q)).1 then none else waker_left p q

-- what is at home of a slot with this share, and a value there satisfies `kept`
pub data Lies {T H K X : Type 0} (kept : X → Type 0) (put : X → Slot T H K) : Share → Home T H K → Type 0 where
  lies_out : Lies kept put none out
  lies_bare : Lies kept put empty bare
  lies_filled : (x : X) → kept x → Lies kept put filled (maybe.some (put x))

-- a message at home keeps its channel's promise, and is the one that the sender gave
abbrev pub IsGiven : {T P : Type 0} → (P → T → Type 0) → P → Option T → T → Type 0
IsGiven keeps q given m = keeps q m × (given ≡ Some m)

-- what the receiver took: no message, or the one that the sender gave
pub data IsTaken {T : Type 0} (given : Option T) : Option T → Type 0 where
  took_none : IsTaken given None
  took_it : (m : T) → given ≡ Some m → IsTaken given (Some m)

-- a waker at home is the one that the receiver gave last
abbrev pub IsPut : {W : Type 0} → Option W → W → Type 0
IsPut put k = put ≡ Some k

abbrev pub has_made : List Noted → Bool
has_made [] = false
has_made (x ∷ xs) = true

-- What the sender took: no waker, or, once it has performed an operation, the one that the receiver gave last. (That
-- the operation found the receiver waiting is an invariant of the seats.)
pub data IsClaimed {W : Type 0} (put : Option W) (xs : List Noted) : Option W → Type 0 where
  claimed_none : IsClaimed put xs None
  claimed_it : (k : W) → put ≡ Some k → has_made xs ≡ true → IsClaimed put xs (Some k)

-- The words, the slots at home and the views of all seats. Each view has the value that the channel is about.
pub data Tied {T H K P : Type 0} (keeps : P → T → Type 0) (q : P)
    : List ℕ → List (Home T H K) → List (View T H K P) → Type 0 where
  -- the table is new
  opened : Tied keeps q (EMPTY ∷ []) (bare ∷ bare ∷ []) (view q Maker [] None None ∷ [])
  -- its maker has the message's slot
  slot_taken : Tied keeps q (EMPTY ∷ []) (out ∷ bare ∷ []) (view q MakerWithSlot [] None None ∷ [])
  -- both ends exist: their operations have an order, each slot is where both phases put it, a message that
  -- is at home or that the receiver took is the one that the sender gave, and a waker that is at home or that
  -- the sender took is the one that the receiver gave last
  runs : {w : ℕ} {h k : Home T H K} (xs ys : List Noted) {given taken : Option T} {put woke : Option (AnyWaker H K)}
      → Reaches xs ys w
      → Lies (IsGiven keeps q given) Message (message_home (sender_at xs) (receiver_at ys)) h
      → Lies (IsPut put) with_waker (waker_home (sender_at xs) (receiver_at ys)) k
      → IsTaken given taken
      → IsClaimed put xs woke
      → Tied keeps q (w ∷ []) (h ∷ k ∷ []) (view q Sender xs given woke ∷ view q Receiver ys taken put ∷ [])
