-- What the swap that drops a receiver finds, and the runs that it ends.
use Rattle.oneshot_drive.proofs.Names.{◌≡◌, ℕ, [], ◌∷◌, Some, refl, sym, ap, ◌∙◌, subst, ReceiverPos, AsyncDrop, AsyncSwap, Swap, Log, Grows, receiver_of, did, worded, ReceiverAt}
use Rattle.oneshot_drive.proofs.Names.{untouched, idle, after_load}
use Rattle.oneshot_drive.proofs.Names.{after_timeout, claimed, waits, blocked, withdrew, full, at_once, by_future, disconnected, receiver_moves, Share, none, empty, filled, Slots, receiver_step}
use Rattle.oneshot_drive.proofs.Names.{receiver_row, Outcome, Goes, Answers, last, more, Ran, and_then, Held, IsSlot, ReceiverFinds, is_same_op, Each, landings, FoundSo, found_so, GroundState, Rests}
use Rattle.oneshot_drive.proofs.Names.{rests_new, rests_open, rests_closed, AtRest, UNPARKING, DISCONNECTED, EMPTY, MESSAGE}
use Rattle.oneshot_machine.specs.declared.machine.Reply.TheVariants as R
use Rattle.oneshot_machine.specs.declared.machine.Seen.TheVariants as S
use Rattle.oneshot_machine.specs.declared.machine.Step.TheVariants as Steps
use Rattle.oneshot_machine.specs.declared.machine.receiver.ReceiverPos.TheVariants.{Drop}
use Rattle.oneshot_machine.specs.declared.machine.drop.DropPos.TheVariants.{DropMessage, DropFree}

-- the word that it finds, with the slots then
pub data Swapped : ℕ → Slots → Type 0 where
  swapped_empty : Swapped EMPTY (none, none)
  -- a future's, where the sender has its waker
  swapped_sender : Swapped UNPARKING (none, none)
  swapped_message : Swapped MESSAGE (filled, empty)
  swapped_closed : Swapped DISCONNECTED (empty, empty)

swaps : (at : ReceiverAt) → Each (λ n next after. Swapped n after) (landings (Swap DISCONNECTED) (receiver_moves at))
swaps untouched = (swapped_empty, (swapped_message, (swapped_closed, tt)))
swaps (idle after_load) = (swapped_empty, (swapped_message, (swapped_closed, tt)))
swaps (idle after_timeout) = (swapped_empty, (swapped_message, (swapped_closed, tt)))
swaps claimed = (swapped_sender, (swapped_message, (swapped_closed, tt)))
swaps withdrew = (swapped_empty, (swapped_message, (swapped_closed, tt)))
swaps (full at_once) = (swapped_message, tt)
swaps (full by_future) = (swapped_message, tt)
swaps (disconnected c) = (swapped_closed, tt)
swaps (waits blocked) = tt
swaps _ = tt

-- the swap of a receiver that is no future never finds a sender about to finish
rests_swaps : {at : ReceiverAt} → Rests at
    → Each (λ n next after. ¬ (n ≡ UNPARKING)) (landings (Swap DISCONNECTED) (receiver_moves at))
rests_swaps rests_new = ((λ e. cc), ((λ e. cc), ((λ e. cc), tt)))
rests_swaps (rests_open after_load) = ((λ e. cc), ((λ e. cc), ((λ e. cc), tt)))
rests_swaps (rests_open after_timeout) = ((λ e. cc), ((λ e. cc), ((λ e. cc), tt)))
rests_swaps (rests_closed c) = ((λ e. cc), tt)

slots_full : {slots : Slots} → Swapped MESSAGE slots → slots ≡ (filled, empty)
slots_full swapped_message = refl

slots_over : {slots : Slots} → Swapped DISCONNECTED slots → slots ≡ (empty, empty)
slots_over swapped_closed = refl

no_word : {X : Type 0} {n : ℕ} {slots : Slots} → Swapped n slots → ¬ (n ≡ MESSAGE) → ¬ (n ≡ EMPTY)
    → ¬ (n ≡ DISCONNECTED) → ¬ (n ≡ UNPARKING) → X
no_word swapped_message a b c d = absurd (a refl)
no_word swapped_empty a b c d = absurd (b refl)
no_word swapped_closed a b c d = absurd (c refl)
no_word swapped_sender a b c d = absurd (d refl)

-- the row that leaves the block to the sender
left_row : {n : ℕ} {slots : Slots} → Swapped n slots → ¬ (n ≡ MESSAGE) → ¬ (n ≡ DISCONNECTED)
    → receiver_row (AsyncDrop AsyncSwap) (S.Word n) ≡ Some (Answers R.Done)
left_row swapped_message a b = absurd (a refl)
left_row swapped_empty a b = refl
left_row swapped_sender a b = refl
left_row swapped_closed a b = absurd (b refl)

-- a row for a word that is known
pub row_at : (p : ReceiverPos) {o : Outcome ReceiverPos} {n : ℕ} (word : ℕ) → receiver_row p (S.Word word) ≡ Some o
    → n ≡ word → receiver_row p (S.Word n) ≡ Some o
row_at p word leads e = ap (λ n. receiver_row p (S.Word n)) e ∙ leads

module _ {T W : Type 0} where
  module _ {n : ℕ} {at : ReceiverAt} {m m' : Held T} {w w' : Held W}
      (made : ReceiverFinds at (Swap DISCONNECTED) n m w m' w') where
    swapped : FoundSo {At = ReceiverAt} (λ n next after. Swapped n after) n m' w'
    swapped = found_so (is_same_op (Swap DISCONNECTED)) (λ n next after. Swapped n after) refl (swaps at) made

    as_slots : (message waker : Share) → swapped.after ≡ (message, waker) → IsSlot message m' × IsSlot waker w'
    as_slots message waker is =
        (subst (λ slots. IsSlot slots.0 m') is swapped.message, subst (λ slots. IsSlot slots.1 w') is swapped.waker)

    -- it found the message, or that the sender is gone
    pub swapped_full : n ≡ MESSAGE → IsSlot filled m' × IsSlot empty w'
    swapped_full e = as_slots filled empty (slots_full (subst (λ n. Swapped n swapped.after) e swapped.is_so))

    pub swapped_over : n ≡ DISCONNECTED → IsSlot empty m' × IsSlot empty w'
    swapped_over e = as_slots empty empty (slots_over (subst (λ n. Swapped n swapped.after) e swapped.is_so))

    pub swapped_open : ¬ (n ≡ MESSAGE) → ¬ (n ≡ DISCONNECTED)
        → receiver_row (AsyncDrop AsyncSwap) (S.Word n) ≡ Some (Answers R.Done)
    swapped_open = left_row swapped.is_so

    -- it found no other word
    pub swapped_none : {X : Type 0} → ¬ (n ≡ MESSAGE) → ¬ (n ≡ EMPTY) → ¬ (n ≡ DISCONNECTED) → ¬ (n ≡ UNPARKING) → X
    swapped_none = no_word swapped.is_so

  pub past_1 : {b : GroundState T W} {n : ℕ} {m : Held T} {w : Held W} → AtRest b
      → ReceiverFinds (receiver_of b.log) (Swap DISCONNECTED) n b.message b.waker m w → ¬ (n ≡ UNPARKING)
  past_1 rests made =
      (found_so (is_same_op (Swap DISCONNECTED)) (λ n next after. ¬ (n ≡ UNPARKING)) refl
      (subst (λ at. Each (λ n next after. ¬ (n ≡ UNPARKING)) (landings (Swap DISCONNECTED) (receiver_moves at)))
      (sym rests.stands.phase) (rests_swaps rests.is_one)) made).is_so

  -- the runs of both drops, from the position of their swap
  module _ (p : ReceiverPos) (at : Steps.Word (Swap DISCONNECTED) ≡ receiver_step p) (n : ℕ) where
    pub dropped_message : {l k j z : Log T W} → receiver_row p (S.Word n) ≡ Some (Goes (Drop DropMessage))
        → Grows l k (worded (Swap DISCONNECTED) n ∷ []) → Grows k j (did Steps.DropMessage ∷ [])
        → Grows j z (did Steps.Free ∷ [])
        → Ran receiver_step receiver_row p l z R.Done [] []
    dropped_message row s t u =
        record {
          run = worded (Swap DISCONNECTED) n ∷ did Steps.DropMessage ∷ did Steps.Free ∷ [];
          is_run = more (Drop DropMessage) _ _ at row (more (Drop DropFree) _ _ refl refl (last _ refl refl));
          grows = and_then (worded (Swap DISCONNECTED) n ∷ []) _ s (and_then (did Steps.DropMessage ∷ []) _ t u);
          gives = refl;
          gets = refl;
        }

    pub dropped_open : {l k : Log T W} → receiver_row p (S.Word n) ≡ Some (Answers R.Done)
        → Grows l k (worded (Swap DISCONNECTED) n ∷ []) → Ran receiver_step receiver_row p l k R.Done [] []
    dropped_open row s =
        record { run = worded (Swap DISCONNECTED) n ∷ []; is_run = last _ at row; grows = s; gives = refl; gets = refl }

    pub dropped_last : {l k j : Log T W} → receiver_row p (S.Word n) ≡ Some (Goes (Drop DropFree))
        → Grows l k (worded (Swap DISCONNECTED) n ∷ []) → Grows k j (did Steps.Free ∷ [])
        → Ran receiver_step receiver_row p l j R.Done [] []
    dropped_last row s t =
        record {
          run = worded (Swap DISCONNECTED) n ∷ did Steps.Free ∷ [];
          is_run = more (Drop DropFree) _ _ at row (last _ refl refl);
          grows = and_then _ _ s t;
          gives = refl;
          gets = refl;
        }
