-- The rule of the table for its readers: rows of both logs, the word, and what is at home of each slot.
-- It follows from `Tied`. The converse is not proved.
use Rattle.std.specs.Prelude.{◌≡◌, ℕ, true, false, List, [], ◌∷◌, Option, Some, None}
use Rattle.oneshot_machine.specs.Noted.{Noted}
use Rattle.oneshot_machine.specs.Phases.{By, sending, dropping}
use Rattle.oneshot_word.specs.declared.any_waker.AnyWaker.{AnyWaker}
use Rattle.oneshot_word.specs.declared.rule.Role.TheVariants.{Maker, MakerWithSlot, Sender, Receiver}
use Rattle.oneshot_word.specs.declared.rule.View.{View}
use Rattle.oneshot_word.specs.EndLogs.{FoundZero, MadeLast, MadeLate, stores_waker, is_overdue, is_gone, wrote_since}
use Rattle.oneshot_word.specs.Rule.{Home, out, bare, has_message, has_waker, Tied}
use Rattle.oneshot_word.specs.Seats.{view}
use Rattle.oneshot_machine.specs.declared.states.TheConstants.{RECEIVING, UNPARKING, DISCONNECTED, EMPTY, MESSAGE}

-- A slot that the sender owns: it has the slot, or the receiver left it empty at home for the sender's next
-- operation.
pub data IsSenders {T H K : Type 0} : Home T H K → Type 0 where
  sender_has_it : IsSenders out
  left_for_sender : IsSenders bare

-- A slot that the receiver owns: it has the slot, or the slot is left empty at home for its next operation.
pub data IsReceivers {T H K : Type 0} : Home T H K → Type 0 where
  receiver_has_it : IsReceivers out
  left_for_receiver : IsReceivers bare

-- the same, but at home it holds the message
pub data IsReceiversFull {T H K : Type 0} : Home T H K → Type 0 where
  receiver_found_it : IsReceiversFull out
  waits_for_receiver : (m : T) → IsReceiversFull (has_message m)

-- a slot that neither end owns, with the receiver's waker in it
pub data IsWords {T H K : Type 0} : Home T H K → Type 0 where
  waker_at_home : (k : AnyWaker H K) → IsWords (has_waker k)

-- the sender's log, the receiver's log, the word, the message's slot and the waker's
pub data Owned {T H K : Type 0} (xs ys : List Noted) : ℕ → Home T H K → Home T H K → Type 0 where
  -- the sender has performed no operation, and the receiver is here and stores no waker
  both_open : {h k : Home T H K} → xs ≡ [] → stores_waker ys ≡ false → is_gone ys ≡ false
      → IsSenders h → IsReceivers k → Owned xs ys EMPTY h k
  -- the sender has performed no operation, and the receiver stores a waker
  waker_stored : {h k : Home T H K} → xs ≡ [] → stores_waker ys ≡ true → is_gone ys ≡ false
      → IsSenders h → IsWords k → Owned xs ys RECEIVING h k
  -- the sender found RECEIVING, and its final swap is to come; the receiver still waits
  waker_claimed : {h k : Home T H K} (by : By) → FoundZero by xs → stores_waker ys ≡ true → is_gone ys ≡ false
      → IsSenders h → IsSenders k → Owned xs ys UNPARKING h k
  -- the sender found RECEIVING, and its final swap is to come; the receiver is overdue
  claimed_overdue : {h k : Home T H K} (by : By) → FoundZero by xs → is_overdue ys ≡ true → is_gone ys ≡ false
      → IsSenders h → IsSenders k → Owned xs ys EMPTY h k
  -- the sender found RECEIVING, and its final swap is to come; the receiver is gone
  claimed_gone : {h k : Home T H K} (by : By) → FoundZero by xs → is_gone ys ≡ true
      → IsSenders h → IsSenders k → Owned xs ys DISCONNECTED h k
  -- the sender has performed no operation, and the receiver is gone
  receiver_gone : {h k : Home T H K} → xs ≡ [] → is_gone ys ≡ true
      → IsSenders h → IsSenders k → Owned xs ys DISCONNECTED h k
  -- the sender performed its last operation after that
  sender_after : {h k : Home T H K} (by : By) {w : ℕ} → MadeLate by w xs → is_gone ys ≡ true
      → IsSenders h → IsSenders k → Owned xs ys w h k
  -- it sent, and the receiver has written nothing since
  sender_sent : {h k : Home T H K} → MadeLast sending xs → wrote_since ys ≡ None
      → IsReceiversFull h → IsReceivers k → Owned xs ys MESSAGE h k
  -- it dropped, and the receiver has written nothing since
  sender_dropped : {h k : Home T H K} → MadeLast dropping xs → wrote_since ys ≡ None
      → IsReceivers h → IsReceivers k → Owned xs ys DISCONNECTED h k
  -- the sender finished while the receiver was here, and the receiver has written since
  written : {h k : Home T H K} (by : By) {w : ℕ} → MadeLast by xs → wrote_since ys ≡ Some w
      → IsReceivers h → IsReceivers k → Owned xs ys w h k

-- the words, the slots at home and the views of all seats
pub data Ruled {T H K P : Type 0} (q : P) : List ℕ → List (Home T H K) → List (View T H K P) → Type 0 where
  -- before there are ends
  maker_alone : Ruled q (EMPTY ∷ []) (bare ∷ bare ∷ []) (view q Maker [] None None ∷ [])
  maker_with_slot_alone : Ruled q (EMPTY ∷ []) (out ∷ bare ∷ []) (view q MakerWithSlot [] None None ∷ [])
  -- from then on
  two_ends : {w : ℕ} {h k : Home T H K} (xs ys : List Noted) {given taken : Option T} {put woke : Option (AnyWaker H K)}
      → Owned xs ys w h k
      → Ruled q (w ∷ []) (h ∷ k ∷ []) (view q Sender xs given woke ∷ view q Receiver ys taken put ∷ [])

-- Every state that the rule allows is in one of the rows.
abbrev pub RuleReads : {T P : Type 0} (H K : Type 0) → (P → T → Type 0) → Type 0
RuleReads {T} {P} H K keeps =
    (q : P) (words : List ℕ) (homes : List (Home T H K)) (views : List (View T H K P)) → Tied keeps q words homes views
    → Ruled q words homes views
