-- What a receive that blocks does before it waits: its load, its waker in the slot, and its first swap.
use Rattle.oneshot_drive.proofs.Names.{◌≡◌, ℕ, Bool, true, false, [], ◌∷◌, Option, Some, None, refl, ap, ◌∙◌, subst, Found, ReceiverPos, Ref, Value, StartSwap, RecvSwap, Load, Swap, Log, Grows}
use Rattle.oneshot_drive.proofs.Names.{receiver_of, handed, worded, ReceiverAt, idle, after_load, waits, blocked, swapped, storing, overwritten, receiver_moves, none, empty, filled, receiver_step}
use Rattle.oneshot_drive.proofs.Names.{receiver_row, Outcome, Goes, Held, vacant, held, IsSlot, ReceiverFinds, GroundState, StandsWith, Stands, ReceiverAsks, ReceiverMakes, IsReady, Path, ReceiveBy}
use Rattle.oneshot_drive.proofs.Names.{by_ref, by_value, load_of, write_of, wait_of, end_of, EndsAt, landings, RECEIVING, DISCONNECTED, EMPTY}
use Rattle.oneshot_drive.proofs.Names.{MESSAGE}
use Rattle.oneshot_drive.specs.declared.found.Found.TheVariants as F
use Rattle.oneshot_machine.specs.declared.machine.Seen.TheVariants as S
use Rattle.oneshot_machine.specs.declared.machine.Step.TheVariants as Steps
use Rattle.oneshot_drive.proofs.AfterOperations.{Lands, Lone, lone, at_word, not_at, one_of, asks, lands, wrote_waker, withdrew_waker}
use Rattle.oneshot_drive.proofs.RestLoads.{never}
use Rattle.oneshot_drive.proofs.Stretches.{on, by_word, by_write, by_withdraw}

abbrev swap_of : {timed : Bool} → ReceiveBy timed → ReceiverPos
swap_of (by_ref timed) = Ref (StartSwap timed)
swap_of by_value = Value RecvSwap

-- the words on which it takes its waker back, and what it has found
pub data TakesBack : ℕ → Found → Type 0 where
  over_message : TakesBack MESSAGE F.Message
  over_end : TakesBack DISCONNECTED F.Overwritten

module _ {T W : Type 0} where
  -- `find`: its load
  pub full_at_once : {timed : Bool} {l k : Log T W} (way : ReceiveBy timed) (n : ℕ) → n ≡ MESSAGE
      → Grows l k (worded Load n ∷ [])
      → Path (load_of way) (end_of way F.Message) l k
  full_at_once (by_ref timed) n e s = by_word _ Load n s refl (rw e)
  full_at_once by_value n e s = by_word _ Load n s refl (rw e)

  pub over_at_once : {timed : Bool} {l k : Log T W} (way : ReceiveBy timed) (n : ℕ) → n ≡ DISCONNECTED
      → Grows l k (worded Load n ∷ [])
      → Path (load_of way) (end_of way F.Closed) l k
  over_at_once (by_ref timed) n e s = by_word _ Load n s refl (rw e)
  over_at_once by_value n e s = by_word _ Load n s refl (rw e)

  loads_none : {timed : Bool} {l k : Log T W} (way : ReceiveBy timed) (n : ℕ) → n ≡ EMPTY
      → Grows l k (worded Load n ∷ [])
      → Path (load_of way) (Goes (write_of way)) l k
  loads_none (by_ref timed) n e s = by_word _ Load n s refl (rw e)
  loads_none by_value n e s = by_word _ Load n s refl (rw e)

  pub found_none : {timed : Bool} {o : Outcome ReceiverPos} {l k z : Log T W} (way : ReceiveBy timed) (n : ℕ)
      → n ≡ EMPTY
      → Grows l k (worded Load n ∷ []) → Path (write_of way) o k z → Path (load_of way) o l z
  found_none way n e s path = on (loads_none way n e s) path

  pub ready_waker : {at : ReceiverAt} {m m' : Held T} {w w' : Held W} (hand : Option W) (n : ℕ) → IsReady hand at
      → ReceiverFinds at Load n m w m' w' → n ≡ EMPTY → (k : W) × (hand ≡ Some k)
  ready_waker (Some k) n ready made e = (k, refl)
  ready_waker None n ready made e = never EMPTY refl e (ready refl) made

  -- `store_and_wait`: it swaps, with its waker in the slot
  module _ {b k : GroundState T W} {y : W} (is : Stands (idle after_load) b)
      (write : Grows b.log k.log (handed Steps.WriteWaker y ∷ [])) (message : k.message ≡ b.message)
      (waker : k.waker ≡ held y) where
    has_written : StandsWith receiver_of (idle after_load) (none, filled) k
    has_written = wrote_waker is write message waker

    pub stored_asks : ReceiverAsks (Swap RECEIVING) k
    stored_asks = asks (Swap RECEIVING) has_written refl

    -- where the swap landed
    pub stored : {a : GroundState T W} (n : ℕ) → ReceiverMakes (Swap RECEIVING) n k a
        → Grows k.log a.log (worded (Swap RECEIVING) n ∷ [])
        → Lands receiver_of n a (landings (Swap RECEIVING) (receiver_moves (idle after_load)))
    stored n made grows = lands k (Swap RECEIVING) n has_written.phase made grows

  module _ {n : ℕ} {s : GroundState T W}
      (found : Lands receiver_of n s (landings (Swap RECEIVING) (receiver_moves (idle after_load)))) where
    pub stored_waits : n ≡ EMPTY → Stands (waits blocked) s
    stored_waits e = (lone (at_word EMPTY e found)).stands

    -- the waker is still in its slot, unless the receiver waits
    pub stored_there : ¬ (n ≡ EMPTY) → IsSlot filled s.waker
    stored_there no_empty =
        let there = one_of (λ n next after. after.1 ≡ filled) (refl, (refl, tt)) (not_at EMPTY no_empty found) in
        subst (λ share. IsSlot share s.waker) there.is_so there.stands.waker

    stored_over : ¬ (n ≡ EMPTY) → ¬ (n ≡ MESSAGE)
        → Lone receiver_of n s (DISCONNECTED, overwritten storing, (empty, filled))
    stored_over no_empty no_message = lone (not_at MESSAGE no_message (not_at EMPTY no_empty found))

    pub over_word : ¬ (n ≡ EMPTY) → ¬ (n ≡ MESSAGE) → n ≡ DISCONNECTED
    over_word no_empty no_message = (stored_over no_empty no_message).word

    module _ {z : GroundState T W} {k : W} (back : Grows s.log z.log (handed Steps.Withdraw k ∷ []))
        (message : z.message ≡ s.message) (waker : z.waker ≡ vacant) where
      pub withdrew_full : (timed : Bool) → n ≡ MESSAGE → EndsAt timed F.Message z
      withdrew_full timed e =
          (swapped storing, refl, withdrew_waker (lone (at_word MESSAGE e found)).stands back message waker)

      pub withdrew_over : (timed : Bool) → ¬ (n ≡ EMPTY) → ¬ (n ≡ MESSAGE) → EndsAt timed F.Overwritten z
      withdrew_over timed no_empty no_message =
          (storing, withdrew_waker (stored_over no_empty no_message).stands back message waker)

  writes : {timed : Bool} {l k : Log T W} (way : ReceiveBy timed) (y : W) → Grows l k (handed Steps.WriteWaker y ∷ [])
      → Path (write_of way) (Goes (swap_of way)) l k
  writes (by_ref timed) y s = by_write _ y s refl refl
  writes by_value y s = by_write _ y s refl refl

  swaps_open : {timed : Bool} {l k : Log T W} (way : ReceiveBy timed) (n : ℕ) → n ≡ EMPTY
      → Grows l k (worded (Swap RECEIVING) n ∷ [])
      → Path (swap_of way) (Goes (wait_of way)) l k
  swaps_open (by_ref false) n e s = by_word _ (Swap RECEIVING) n s refl (rw e)
  swaps_open (by_ref true) n e s = by_word _ (Swap RECEIVING) n s refl (rw e)
  swaps_open by_value n e s = by_word _ (Swap RECEIVING) n s refl (rw e)

  -- a swap after which it takes its waker back
  took_back : {p r : ReceiverPos} {o : Outcome ReceiverPos} {k j z : Log T W} (u : W) (n word : ℕ) → n ≡ word
      → Steps.Word (Swap RECEIVING) ≡ receiver_step p → receiver_row p (S.Word word) ≡ Some (Goes r)
      → Steps.Withdraw ≡ receiver_step r → receiver_row r S.Done ≡ Some o → Grows k j (worded (Swap RECEIVING) n ∷ [])
      → Grows j z (handed Steps.Withdraw u ∷ []) → Path p o k z
  took_back {p} {r} u n word e swaps leads withdraws ends s t =
      on (by_word (Goes r) (Swap RECEIVING) n s swaps (ap (λ n. receiver_row p (S.Word n)) e ∙ leads))
      (by_withdraw _ u t withdraws ends)

  swaps_back : {timed : Bool} {word : ℕ} {f : Found} {k j z : Log T W} (way : ReceiveBy timed)
      → TakesBack word f → (u : W)
      (n : ℕ) → n ≡ word → Grows k j (worded (Swap RECEIVING) n ∷ []) → Grows j z (handed Steps.Withdraw u ∷ [])
      → Path (swap_of way) (end_of way f) k z
  swaps_back (by_ref false) over_message u n e s t = took_back u n MESSAGE e refl refl refl refl s t
  swaps_back (by_ref true) over_message u n e s t = took_back u n MESSAGE e refl refl refl refl s t
  swaps_back by_value over_message u n e s t = took_back u n MESSAGE e refl refl refl refl s t
  swaps_back (by_ref false) over_end u n e s t = took_back u n DISCONNECTED e refl refl refl refl s t
  swaps_back (by_ref true) over_end u n e s t = took_back u n DISCONNECTED e refl refl refl refl s t
  swaps_back by_value over_end u n e s t = took_back u n DISCONNECTED e refl refl refl refl s t

  pub stored_path : {timed : Bool} {o : Outcome ReceiverPos} {l k j z : Log T W} (way : ReceiveBy timed) (y : W) (n : ℕ)
      → n ≡ EMPTY → Grows l k (handed Steps.WriteWaker y ∷ []) → Grows k j (worded (Swap RECEIVING) n ∷ [])
      → Path (wait_of way) o j z → Path (write_of way) o l z
  stored_path way y n e s t path = on (writes way y s) (on (swaps_open way n e t) path)

  pub back_path : {timed : Bool} {word : ℕ} {f : Found} {l k j z : Log T W} (way : ReceiveBy timed) → TakesBack word f
      → (y u : W) (n : ℕ) → n ≡ word → Grows l k (handed Steps.WriteWaker y ∷ [])
      → Grows k j (worded (Swap RECEIVING) n ∷ []) → Grows j z (handed Steps.Withdraw u ∷ [])
      → Path (write_of way) (end_of way f) l z
  back_path way over y u n e s t v = on (writes way y s) (swaps_back way over u n e t v)
