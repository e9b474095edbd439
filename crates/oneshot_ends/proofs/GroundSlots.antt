-- What a ground may do and finds, by its end's side: one that freed the block performs no operation, and any
-- other shows its side as it is.
use Rattle.std.proofs.Common.{◌≡◌, ℕ, Bool, true, false, List, Option, Some, refl, sym, subst, true≢false}
use Rattle.oneshot_machine.specs.declared.states.Op.{Op}
use Rattle.oneshot_machine.specs.Logs.{words}
use Rattle.oneshot_machine.specs.Phases.{sender_moves, sender_at, ReceiverAt, receiver_moves, receiver_owns, receiver_at, Share, Row}
use Rattle.oneshot_machine.specs.Slots.{Held, away, vacant, IsSlot, is_away, May, may, Finds, Owns, owns, own_vacant}
use Rattle.oneshot_machine.specs.Noted.{Noted}
use Rattle.oneshot_drive.specs.Grounds.{SenderAsks, ReceiverAsks}
use Rattle.oneshot_word.specs.Side.{Side, SenderCan, ReceiverCan}
use Rattle.oneshot_ends.specs.Grounds.{MayBeFreed, unless_freed, left_of, events_of, state_of}
use Rattle.oneshot_ends.proofs.EndRows.{is_own, Need, sender_needs, receiver_needs}
use Rattle.oneshot_ends.proofs.GrewByRuns.{words_of}

-- a slot that an end shows as its own is its own
pub own_slot : {X : Type 0} (freed : Bool) (slot : Held X) {shown : Held X} → unless_freed freed slot ≡ shown
    → (away ≡ shown → ⊥) → slot ≡ shown
own_slot false slot is own = is
own_slot true slot is own = absurd (own is)

not_away : {X : Type 0} {share : Share} → IsSlot {X = X} share away → is_own share ≡ true → ⊥
not_away is_away own = true≢false (sym own)

module _ {At : Type 0} (moves : At → List (Row At)) (at : List Noted → At) {T W : Type 0} where
  -- an end whose ground may perform an operation has not freed the block, and may perform it
  unfreed : (freed : Bool) (q : At) (op : Op) (m : Held T) (w : Held W) → (freed ≡ true → Need (moves q))
      → May moves q op (unless_freed freed m) (unless_freed freed w) → (freed ≡ false) × May moves q op m w
  unfreed false q op m w needs asks = (refl, asks)
  unfreed true q op m w needs (may there message waker) = absurd (not_away message (needs refl _ there))

  can : {P : Type 0} (freed : Bool) (s : Side T W P) {now : Side T W P} {op : Op}
      → (freed ≡ true → Need (moves (at s.log))) → left_of freed s ≡ now
      → May moves (at (words (events_of {T = T} {W = W} now.log))) op now.message now.waker
      → (freed ≡ false) × May moves (at s.log) op s.message s.waker
  can freed s {now} {op} needs is asks =
      unfreed freed (at s.log) op s.message s.waker needs
      (subst (λ xs. May moves (at xs) op (unless_freed freed s.message) (unless_freed freed s.waker))
      (words_of T W s.log)
      (subst (λ now. May moves (at (words (events_of {T = T} {W = W} now.log))) op now.message now.waker) (sym is)
      asks))

  -- what the end found, as its ground shows it
  found : {P : Type 0} (freed : Bool) (s next : Side T W P) {now : Side T W P} {op : Op} {word : ℕ}
      → left_of freed s ≡ now → freed ≡ false
      → Finds moves (at s.log) op word s.message s.waker next.message next.waker
      → Finds moves (at (words (events_of {T = T} {W = W} now.log))) op word now.message now.waker
      (unless_freed freed next.message) (unless_freed freed next.waker)
  found freed s next {now} {op} {word} is unfreed makes =
      subst (λ now. Finds moves (at (words (events_of {T = T} {W = W} now.log))) op word now.message now.waker
      (unless_freed freed next.message) (unless_freed freed next.waker)) is
      (subst (λ f. Finds moves (at (words (events_of {T = T} {W = W} s.log))) op word (unless_freed f s.message)
      (unless_freed f s.waker) (unless_freed f next.message) (unless_freed f next.waker)) (sym unfreed)
      (subst (λ xs. Finds moves (at xs) op word s.message s.waker next.message next.waker) (sym (words_of T W s.log))
      makes))

-- a receiver that has not freed the block may be in any phase
pub stays_unfreed : (freed : Bool) (at : ReceiverAt) → freed ≡ false → MayBeFreed freed at
stays_unfreed freed at unfreed = subst (λ f. MayBeFreed f at) (sym unfreed) tt

-- so a sender may perform what its ground may, and the ground shows what it found
module _ {T W P : Type 0} (freed : Bool) (s : Side T W P) {now : Side T W P} {op : Op}
    (is : left_of freed s ≡ now) (asks : SenderAsks op (state_of now)) where
  sender_unfreed : (freed ≡ false) × SenderCan s op
  sender_unfreed = can sender_moves sender_at freed s (λ is. sender_needs (sender_at s.log)) is asks

  pub sender_can : SenderCan s op
  sender_can = sender_unfreed.1

  pub sender_found : {word : ℕ} (next : Side T W P)
      → Finds sender_moves (sender_at s.log) op word s.message s.waker next.message next.waker
      → Finds sender_moves (sender_at (words (events_of {T = T} {W = W} now.log))) op word now.message now.waker
      (unless_freed freed next.message) (unless_freed freed next.waker)
  sender_found next = found sender_moves sender_at freed s next is sender_unfreed.0

-- so may a receiver, which has not freed the block after it either
module _ {T W P : Type 0} (freed : Bool) (s : Side T W P) {now : Side T W P} {op : Op}
    (stands : MayBeFreed freed (receiver_at s.log)) (is : left_of freed s ≡ now) (asks : ReceiverAsks op
    (state_of now)) where
  pub receiver_unfreed : (freed ≡ false) × ReceiverCan s op
  receiver_unfreed =
      can receiver_moves receiver_at freed s
      (λ is. receiver_needs (receiver_at s.log) (subst (λ f. MayBeFreed f (receiver_at s.log)) is stands)) is
      asks

  pub receiver_can : ReceiverCan s op
  receiver_can = receiver_unfreed.1

  pub receiver_stays : (at : ReceiverAt) → MayBeFreed freed at
  receiver_stays at = stays_unfreed freed at receiver_unfreed.0

  pub receiver_found : {word : ℕ} (next : Side T W P)
      → Finds receiver_moves (receiver_at s.log) op word s.message s.waker next.message next.waker
      → Finds receiver_moves (receiver_at (words (events_of {T = T} {W = W} now.log))) op word now.message
      now.waker (unless_freed freed next.message) (unless_freed freed next.waker)
  receiver_found next = found receiver_moves receiver_at freed s next is receiver_unfreed.0

module _ {T W : Type 0} where
  -- a receiver to which both slots are vacant owns both
  both_own : {own : Option (Bool × Bool)} → Owns {T = T} {W = W} own vacant vacant → own ≡ Some (true, true)
  both_own (owns own_vacant own_vacant) = refl

  pub may_free : (freed : Bool) (at : ReceiverAt) (m : Held T) (w : Held W) → Owns (receiver_owns at) m w
      → unless_freed freed m ≡ vacant → unless_freed freed w ≡ vacant → MayBeFreed true at
  may_free freed at m w own message waker =
      both_own
      (subst (λ m. Owns {T = T} {W = W} (receiver_owns at) m vacant) (own_slot freed m message (λ e. cc e))
      (subst (λ w. Owns {T = T} {W = W} (receiver_owns at) m w) (own_slot freed w waker (λ e. cc e)) own))
