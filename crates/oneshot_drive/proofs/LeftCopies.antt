-- What a poll does to leave a copy of its waker: the copy in the slot, its exchange, and that of an earlier copy.
use Rattle.oneshot_drive.proofs.Names.{◌≡◌, ℕ, true, false, [], ◌∷◌, Option, Some, None, refl, sym, ap, ◌∙◌, subst, Found, ReceiverPos, Future, PollCopy, PollWrite, PollExchange}
use Rattle.oneshot_drive.proofs.Names.{PollBackFull, PollBackClosed, AgainCopy, AgainExchange, AgainBack, PollOwn, Exchange, Log, Grows, receiver_of, did, handed, copied, worded, ReceiverAt, idle}
use Rattle.oneshot_drive.proofs.Names.{after_load, waits, polled, again, claimed, withdrew, full, by_future, by_poll, found_closed, disconnected, resolved, receiver_moves, Share, none, empty, filled}
use Rattle.oneshot_drive.proofs.Names.{Slots, receiver_step, receiver_row, Outcome, Goes, Answers, Held, vacant, held, IsSlot, is_held, ReceiverMay, ReceiverFinds, GroundState, StandsWith, Stands}
use Rattle.oneshot_drive.proofs.Names.{ReceiverMakes, Path, LeavesPolled, leaves_waiting, poll_end, EndsPoll, MayLeave, is_room, has_row_for, Each, landings, RECEIVING, UNPARKING, DISCONNECTED, EMPTY}
use Rattle.oneshot_drive.proofs.Names.{MESSAGE}
use Rattle.oneshot_drive.specs.declared.found.Found.TheVariants as F
use Rattle.oneshot_machine.specs.declared.machine.Reply.TheVariants as R
use Rattle.oneshot_machine.specs.declared.machine.Seen.TheVariants as S
use Rattle.oneshot_machine.specs.declared.machine.Step.TheVariants as Steps
use Rattle.oneshot_drive.proofs.AfterOperations.{Lands, Lone, lone, OneOf, one_of, unlisted, at_word, not_at, asks, lands, still, stands_on, withdrew_waker}
use Rattle.oneshot_drive.proofs.Stretches.{on, by_word, by_write, by_withdraw, by_copy, by_refusal, by_own}

-- where the exchange of a copy leads, with the copy in the slot
pub data Left : ℕ → ReceiverAt → Slots → Type 0 where
  left_waiting : Left EMPTY (waits polled) (none, none)
  left_full : Left MESSAGE (full by_poll) (filled, filled)
  left_over : Left DISCONNECTED (resolved found_closed) (empty, filled)

exchange_leaves : (at : ReceiverAt) → Each Left (landings (Exchange EMPTY RECEIVING) (receiver_moves at))
exchange_leaves (idle after_load) = (left_waiting, (left_full, (left_over, tt)))
exchange_leaves withdrew = (left_waiting, (left_full, (left_over, tt)))
exchange_leaves (waits polled) = tt
exchange_leaves (full by_poll) = tt
exchange_leaves _ = tt

module _ {T W : Type 0} where
  -- a copy, or a refusal
  refuses : {p : ReceiverPos} {l k z : Log T W} → Steps.Copy ≡ receiver_step p
      → receiver_row p (S.Refused true) ≡ Some (Goes (Future PollOwn)) → Grows l k (copied None ∷ [])
      → Grows k z (did Steps.WakeOwn ∷ []) → Path p (Answers R.Pending) l z
  refuses at leads s t = on (by_refusal (Goes (Future PollOwn)) s at leads) (by_own _ t refl refl)

  pub copy_refused : {p : ReceiverPos} {l k z : Log T W} (c : Option W) → c ≡ None → Steps.Copy ≡ receiver_step p
      → receiver_row p (S.Refused true) ≡ Some (Goes (Future PollOwn)) → Grows l k (copied c ∷ [])
      → Grows k z (did Steps.WakeOwn ∷ []) → Path p (Answers R.Pending) l z
  copy_refused {l} {k} c no_copy at leads s t = refuses at leads (subst (λ c. Grows l k (copied c ∷ [])) no_copy s) t

  pub copies : {p r : ReceiverPos} {l k : Log T W} (c : Option W) (y : W) → c ≡ Some y → Steps.Copy ≡ receiver_step p
      → receiver_row p (S.Refused false) ≡ Some (Goes r) → Grows l k (copied c ∷ []) → Path p (Goes r) l k
  copies {r} {l} {k} c y made at leads s = by_copy (Goes r) y (subst (λ c. Grows l k (copied c ∷ [])) made s) at leads

  -- a copy, or its refusal, leaves a future's state unchanged
  pub copied_on : {at : ReceiverAt} {b a : GroundState T W} (c : Option W) → Stands at b
      → Grows b.log a.log (copied c ∷ []) → a.message ≡ b.message → a.waker ≡ b.waker → Stands at a
  copied_on c is s message waker = stands_on (copied c ∷ []) refl is s message waker

  -- the poll woke its own task: it ends with nothing found, in the same state
  pub owned_ends : {at : ReceiverAt} {b a : GroundState T W} → LeavesPolled R.Pending at → Stands at b
      → Grows b.log a.log (did Steps.WakeOwn ∷ []) → a.message ≡ b.message → a.waker ≡ b.waker → EndsPoll F.Nothing a
  owned_ends {at} leaves is s message waker =
      record { at = at; is_one = leaves; stands = stands_on (did Steps.WakeOwn ∷ []) refl is s message waker }

  -- `leave`: it may store a copy if the slot is empty
  pub may_leave : {at : ReceiverAt} {share : Share} {s : GroundState T W} → StandsWith receiver_of at (share, empty) s
      → has_row_for (Exchange EMPTY RECEIVING) (share, filled) (receiver_moves at) ≡ true → MayLeave s
  may_leave {s} is has =
      record {
        room = is_room is.waker;
        asks =
            λ copy. asks {s = record { log = s.log; message = s.message; waker = held copy }} (Exchange EMPTY RECEIVING)
            (record { phase = is.phase; message = is.message; waker = is_held copy }) has;
      }

  pub leave_asks : {b : GroundState T W} {k : Log T W} {m : Held T} {w : Held W} (y : W) → MayLeave b
      → Grows b.log k (handed Steps.WriteWaker y ∷ []) → m ≡ b.message → w ≡ held y
      → ReceiverMay (receiver_of k) (Exchange EMPTY RECEIVING) m w
  leave_asks y may s message waker =
      subst (λ (z : ReceiverAt × Held T × Held W). ReceiverMay z.0 (Exchange EMPTY RECEIVING) z.1 z.2)
      (λ i. (sym (still (handed Steps.WriteWaker y ∷ []) refl s) i, sym message i, sym waker i)) (may.asks y)

  pub copy_left : {l k : Log T W} {m m' : Held T} {w w' : Held W} (n : ℕ)
      → ReceiverFinds (receiver_of l) (Exchange EMPTY RECEIVING) n m w m' w'
      → Grows l k (worded (Exchange EMPTY RECEIVING) n ∷ [])
      → OneOf receiver_of n (record { log = k; message = m'; waker = w' }) Left
  copy_left {l} {m} {w} n made grows =
      one_of Left (exchange_leaves (receiver_of l))
      (lands (record { log = l; message = m; waker = w }) (Exchange EMPTY RECEIVING) n refl made grows)

  waits_with : {at : ReceiverAt} {slots : Slots} {s : GroundState T W} → Left EMPTY at slots
      → StandsWith receiver_of at slots s → EndsPoll F.Nothing s
  waits_with left_waiting is = record { at = waits polled; is_one = leaves_waiting; stands = is }

  phase_with : {at : ReceiverAt} {slots : Slots} {s : GroundState T W} → Left EMPTY at slots
      → StandsWith receiver_of at slots s → receiver_of s.log ≡ waits polled
  phase_with left_waiting is = is.phase

  full_with : {at : ReceiverAt} {slots : Slots} {s : GroundState T W} → Left MESSAGE at slots
      → StandsWith receiver_of at slots s → StandsWith receiver_of (full by_poll) (filled, filled) s
  full_with left_full is = is

  over_with : {n : ℕ} {at : ReceiverAt} {slots : Slots} {s : GroundState T W} → Left n at slots
      → StandsWith receiver_of at slots s → ¬ (n ≡ EMPTY) → ¬ (n ≡ MESSAGE)
      → Lone receiver_of n s (DISCONNECTED, resolved found_closed, (empty, filled))
  over_with left_waiting is a b = absurd (a refl)
  over_with left_full is a b = absurd (b refl)
  over_with left_over is a b = record { word = refl; stands = is }

  there_with : {n : ℕ} {at : ReceiverAt} {slots : Slots} {s : GroundState T W} → Left n at slots
      → StandsWith receiver_of at slots s → ¬ (n ≡ EMPTY) → IsSlot filled s.waker
  there_with left_waiting is a = absurd (a refl)
  there_with left_full is a = is.waker
  there_with left_over is a = is.waker

  module _ {n : ℕ} {s : GroundState T W} (found : OneOf receiver_of n s Left) where
    left_with : (word : ℕ) → n ≡ word → Left word found.next found.after
    left_with word e = subst (λ n. Left n found.next found.after) e found.is_so

    pub left_waits : n ≡ EMPTY → EndsPoll F.Nothing s
    left_waits e = waits_with (left_with EMPTY e) found.stands

    pub left_phase : n ≡ EMPTY → receiver_of s.log ≡ waits polled
    left_phase e = phase_with (left_with EMPTY e) found.stands

    pub left_there : ¬ (n ≡ EMPTY) → IsSlot filled s.waker
    left_there a = there_with found.is_so found.stands a

    pub none_left : ¬ (n ≡ EMPTY) → ¬ (n ≡ MESSAGE) → n ≡ DISCONNECTED
    none_left a b = (over_with found.is_so found.stands a b).word

    -- once the copy is taken back
    module _ {z : GroundState T W} {k : W} (back : Grows s.log z.log (handed Steps.Withdraw k ∷ []))
        (message : z.message ≡ s.message) (waker : z.waker ≡ vacant) where
      pub withdrew_full : n ≡ MESSAGE → EndsPoll F.Message z
      withdrew_full e =
          (by_poll, refl, withdrew_waker (full_with (left_with MESSAGE e) found.stands) back message waker)

      pub withdrew_over : ¬ (n ≡ EMPTY) → ¬ (n ≡ MESSAGE) → EndsPoll F.Closed z
      withdrew_over a b =
          record {
            at = resolved found_closed;
            is_one = refl;
            stands = withdrew_waker
                (over_with found.is_so found.stands a b).stands back message waker;
          }

  writes : {l k : Log T W} (y : W) → Grows l k (handed Steps.WriteWaker y ∷ [])
      → Path (Future PollWrite) (Goes (Future PollExchange)) l k
  writes y s = by_write _ y s refl refl

  pub exchanged_to : {l k : Log T W} {p : ReceiverPos} (a b : ℕ) (o : Outcome ReceiverPos) (n found : ℕ)
      → Steps.Word (Exchange a b) ≡ receiver_step p → receiver_row p (S.Word found) ≡ Some o → n ≡ found
      → Grows l k (worded (Exchange a b) n ∷ []) → Path p o l k
  exchanged_to {p} a b o n found at leads e s =
      by_word o (Exchange a b) n s at (ap (λ n. receiver_row p (S.Word n)) e ∙ leads)

  pub leave_waits : {l k j : Log T W} (y : W) (n : ℕ) → n ≡ EMPTY → Grows l k (handed Steps.WriteWaker y ∷ [])
      → Grows k j (worded (Exchange EMPTY RECEIVING) n ∷ []) → Path (Future PollWrite) (poll_end F.Nothing) l j
  leave_waits y n e s t = on (writes y s) (exchanged_to EMPTY RECEIVING _ n EMPTY refl refl e t)

  pub leave_full : {l k j z : Log T W} (y u : W) (n : ℕ) → n ≡ MESSAGE → Grows l k (handed Steps.WriteWaker y ∷ [])
      → Grows k j (worded (Exchange EMPTY RECEIVING) n ∷ []) → Grows j z (handed Steps.Withdraw u ∷ [])
      → Path (Future PollWrite) (poll_end F.Message) l z
  leave_full y u n e s t v =
      on (writes y s) (on (exchanged_to EMPTY RECEIVING (Goes (Future PollBackFull)) n MESSAGE refl refl e t)
      (by_withdraw _ u v refl refl))

  pub leave_over : {l k j z : Log T W} (y u : W) (n : ℕ) → n ≡ DISCONNECTED → Grows l k (handed Steps.WriteWaker y ∷ [])
      → Grows k j (worded (Exchange EMPTY RECEIVING) n ∷ []) → Grows j z (handed Steps.Withdraw u ∷ [])
      → Path (Future PollWrite) (poll_end F.Closed) l z
  leave_over y u n e s t v =
      on (writes y s) (on (exchanged_to EMPTY RECEIVING (Goes (Future PollBackClosed)) n DISCONNECTED refl refl e t)
      (by_withdraw _ u v refl refl))

  -- `leave_again`: where the exchange of the earlier copy landed
  pub backed : {b a : GroundState T W} (n : ℕ) → Stands (waits again) b → ReceiverMakes (Exchange RECEIVING EMPTY) n b a
      → Grows b.log a.log (worded (Exchange RECEIVING EMPTY) n ∷ [])
      → Lands receiver_of n a (landings (Exchange RECEIVING EMPTY) (receiver_moves (waits again)))
  backed {b} n is made grows = lands b (Exchange RECEIVING EMPTY) n is.phase made grows

  pub again_backed : {b k a : GroundState T W} (c : Option W) (n : ℕ) → Stands (waits again) b
      → Grows b.log k.log (copied c ∷ []) → k.message ≡ b.message → k.waker ≡ b.waker
      → ReceiverMakes (Exchange RECEIVING EMPTY) n k a → Grows k.log a.log (worded (Exchange RECEIVING EMPTY) n ∷ [])
      → Lands receiver_of n a (landings (Exchange RECEIVING EMPTY) (receiver_moves (waits again)))
  again_backed c n is s message waker made grows = backed n (copied_on c is s message waker) made grows

  module _ {n : ℕ} {s : GroundState T W}
      (found : Lands receiver_of n s (landings (Exchange RECEIVING EMPTY) (receiver_moves (waits again)))) where
    pub backed_copy : n ≡ RECEIVING → StandsWith receiver_of withdrew (none, filled) s
    backed_copy e = (lone (at_word RECEIVING e found)).stands

    pub backed_sender : n ≡ UNPARKING → Stands claimed s
    backed_sender e = (lone (at_word UNPARKING e found)).stands

    pub backed_full : n ≡ MESSAGE → EndsPoll F.Message s
    backed_full e = (by_future, refl, (lone (at_word MESSAGE e found)).stands)

    pub backed_none : n ≡ DISCONNECTED → EndsPoll F.Closed s
    backed_none e =
        record { at = disconnected found_closed; is_one = refl; stands = (lone (at_word DISCONNECTED e found)).stands }

    -- it found no other word
    pub backed_other : {X : Type 0} → ¬ (n ≡ RECEIVING) → ¬ (n ≡ UNPARKING) → ¬ (n ≡ DISCONNECTED) → ¬ (n ≡ MESSAGE) → X
    backed_other a b c d =
        unlisted (not_at MESSAGE d (not_at DISCONNECTED c (not_at UNPARKING b (not_at RECEIVING a found))))

  module _ {l k : Log T W} (c : Option W) (y : W) (made : c ≡ Some y) (s : Grows l k (copied c ∷ [])) where
    pub again_to : {j : Log T W} (o : Outcome ReceiverPos) (n found : ℕ)
        → receiver_row (Future AgainExchange) (S.Word found) ≡ Some o → n ≡ found
        → Grows k j (worded (Exchange RECEIVING EMPTY) n ∷ []) → Path (Future AgainCopy) o l j
    again_to o n found leads e t =
        on (copies c y made refl refl s) (exchanged_to RECEIVING EMPTY o n found refl leads e t)

    pub again_left : {j i z : Log T W} (f : Found) (n : ℕ) (u : W) → n ≡ RECEIVING
        → Grows k j (worded (Exchange RECEIVING EMPTY) n ∷ [])
        → Grows j i (handed Steps.Withdraw u ∷ []) → Path (Future PollWrite) (poll_end f) i z
        → Path (Future AgainCopy) (poll_end f) l z
    again_left f n u e t v path =
        on (again_to (Goes (Future AgainBack)) n RECEIVING refl e t)
        (on (by_withdraw (Goes (Future PollWrite)) u v refl refl) path)

    pub again_late : {j z : Log T W} (n : ℕ) → n ≡ UNPARKING → Grows k j (worded (Exchange RECEIVING EMPTY) n ∷ [])
        → Grows j z (did Steps.WakeOwn ∷ []) → Path (Future AgainCopy) (poll_end F.Nothing) l z
    again_late n e t v = on (again_to (Goes (Future PollOwn)) n UNPARKING refl e t) (by_own _ v refl refl)

    pub first_left : {z : Log T W} (f : Found) → Path (Future PollWrite) (poll_end f) k z
        → Path (Future PollCopy) (poll_end f) l z
    first_left f path = on (copies c y made refl refl s) path
