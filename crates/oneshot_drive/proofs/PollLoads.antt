-- What a future between two calls finds by its load, and the run of a poll.
use Rattle.oneshot_drive.proofs.Names.{◌≡◌, ℕ, true, [], ◌∷◌, Some, refl, ap, ◌∙◌, subst, Found, ReceiverPos, Try, Future, AsyncDrop, Close, Take, PollLoad}
use Rattle.oneshot_drive.proofs.Names.{AsyncLoad, AsyncSwap, Load, Store, Swap, Log, Grows, receiver_of, did, took, worded, ReceiverAt, idle, after_load, after_timeout, waits}
use Rattle.oneshot_drive.proofs.Names.{again, claimed, full, Got}
use Rattle.oneshot_drive.proofs.Names.{at_once, waited, swapped, by_future, by_poll, Closing, found_closed, closed_itself, disconnected, resolved, receiver_next, receiver_moves, empty, word_of}
use Rattle.oneshot_drive.proofs.Names.{receiver_step, receiver_row, Outcome, Goes, Answers, last, more, ReceiverRan, and_then, GroundState, StandsWith, Stands, StandsIn, receiver_slots, ReceiverAsks}
use Rattle.oneshot_drive.proofs.Names.{ReceiverMakes, Path, rests_new, rests_open, rests_closed, IsClosedAt, Polled, unpolled, left_copy, kept_copy, found_sender, has_resolved, IsPolled, LeavesPolled}
use Rattle.oneshot_drive.proofs.Names.{leaves_uncopied, leaves_waiting, leaves_its_copy, leaves_claimed, EndsPoll, has_row_for, Each, landings, RECEIVING}
use Rattle.oneshot_drive.proofs.Names.{UNPARKING, DISCONNECTED, EMPTY, MESSAGE}
use Rattle.oneshot_drive.specs.declared.found.Found.TheVariants as F
use Rattle.oneshot_machine.specs.declared.machine.Reply.TheVariants as R
use Rattle.oneshot_machine.specs.declared.machine.Seen.TheVariants as S
use Rattle.oneshot_machine.specs.declared.machine.Step.TheVariants as Steps
use Rattle.oneshot_machine.specs.declared.machine.receiver.ReceiverStart.TheVariants as C
use Rattle.oneshot_drive.proofs.AfterOperations.{Came, came, asks, lands}
use Rattle.oneshot_drive.proofs.Stretches.{on, by_word, by_own, ran}

-- it may load
polled_loads : {at : ReceiverAt} → Polled at → has_row_for Load (receiver_slots at) (receiver_moves at) ≡ true
polled_loads (unpolled (rests_open after_load)) = refl
polled_loads _ = refl

-- a receiver at this phase may be dropped
abbrev pub Drops : ReceiverAt → Type 0
Drops at = has_row_for (Swap DISCONNECTED) (receiver_slots at) (receiver_moves at) ≡ true

-- the word that its load finds, and where that leads
pub data Met : ℕ → ReceiverAt → Type 0 where
  met_empty : Met EMPTY (idle after_load)
  met_message : {g : Got} → word_of g ≡ MESSAGE → Drops (full g) → Met MESSAGE (full g)
  met_closed : (c : Closing) → Met DISCONNECTED (disconnected c)
  met_copy : Met RECEIVING (waits again)
  met_sender : Met UNPARKING claimed

meets : {at : ReceiverAt} → Polled at
    → Each (λ n next after. Met n next × (after ≡ receiver_slots next)) (landings Load (receiver_moves at))
meets (unpolled rests_new) = ((met_empty, refl), ((met_message refl refl, refl), ((met_closed found_closed, refl), tt)))
meets (unpolled (rests_open after_load)) =
    ((met_empty, refl), ((met_message refl refl, refl), ((met_closed found_closed, refl), tt)))
meets (unpolled (rests_open after_timeout)) =
    ((met_empty, refl), ((met_message refl refl, refl), ((met_closed found_closed, refl), tt)))
meets (unpolled (rests_closed c)) = ((met_closed c, refl), tt)
meets left_copy =
    ((met_copy, refl), ((met_sender, refl), ((met_message refl refl, refl), ((met_closed found_closed, refl), tt))))
meets kept_copy =
    ((met_copy, refl), ((met_sender, refl), ((met_message refl refl, refl), ((met_closed found_closed, refl), tt))))
meets found_sender = ((met_sender, refl), ((met_message refl refl, refl), ((met_closed found_closed, refl), tt)))
meets (has_resolved c) = ((met_closed c, refl), tt)

-- after its load the drop goes on to its swap, unless the load found a stored copy
ends_met : {n : ℕ} {at : ReceiverAt} → Met n at → ¬ (n ≡ RECEIVING)
    → Drops at × (receiver_row (AsyncDrop AsyncLoad) (S.Word n) ≡ Some (Goes (AsyncDrop AsyncSwap)))
ends_met met_empty a = (refl, refl)
ends_met (met_message word drops) a = (drops, refl)
ends_met (met_closed c) a = (refl, refl)
ends_met met_copy a = absurd (a refl)
ends_met met_sender a = (refl, refl)

no_word : {X : Type 0} {n : ℕ} {at : ReceiverAt} → Met n at
    → ¬ (n ≡ RECEIVING) → ¬ (n ≡ UNPARKING) → ¬ (n ≡ DISCONNECTED) → ¬ (n ≡ EMPTY) → ¬ (n ≡ MESSAGE) → X
no_word met_copy a b c d e = absurd (a refl)
no_word met_sender a b c d e = absurd (b refl)
no_word (met_closed k) a b c d e = absurd (c refl)
no_word met_empty a b c d e = absurd (d refl)
no_word (met_message word drops) a b c d e = absurd (e refl)

-- it is between two calls then
pending_polled : {at : ReceiverAt} → LeavesPolled R.Pending at → Polled at
pending_polled leaves_uncopied = unpolled (rests_open after_load)
pending_polled leaves_waiting = left_copy
pending_polled leaves_its_copy = kept_copy
pending_polled leaves_claimed = found_sender

closed_polled : (at : ReceiverAt) → IsClosedAt at → Polled at
closed_polled (disconnected c) is = unpolled (rests_closed c)
closed_polled (resolved c) is = has_resolved c
closed_polled _ is = absurd (cc is)

module _ {T W : Type 0} where
  open_met : {at : ReceiverAt} {s : GroundState T W} → Met EMPTY at → Stands at s → Stands (idle after_load) s
  open_met met_empty stands = stands

  copy_met : {at : ReceiverAt} {s : GroundState T W} → Met RECEIVING at → Stands at s → Stands (waits again) s
  copy_met met_copy stands = stands

  sender_met : {at : ReceiverAt} {s : GroundState T W} → Met UNPARKING at → Stands at s → Stands claimed s
  sender_met met_sender stands = stands

  full_met : {at : ReceiverAt} {s : GroundState T W} → Met MESSAGE at → Stands at s → EndsPoll F.Message s
  full_met (met_message {g} word drops) stands = (g, word, stands)

  closed_met : {at : ReceiverAt} {s : GroundState T W} → Met DISCONNECTED at → Stands at s → EndsPoll F.Closed s
  closed_met (met_closed k) stands = record { at = disconnected k; is_one = refl; stands = stands }

  pub meet_asks : {s : GroundState T W} → IsPolled s → ReceiverAsks Load s
  meet_asks is = asks Load is.stands (polled_loads is.is_one)

  pub met : {b a : GroundState T W} (n : ℕ) → IsPolled b → ReceiverMakes Load n b a
      → Grows b.log a.log (worded Load n ∷ []) → Came Met n a
  met {b} n is made grows = came Met (meets is.is_one) (lands b Load n is.stands.phase made grows)

  module _ {n : ℕ} {s : GroundState T W} (found : Came Met n s) where
    met_with : (word : ℕ) → n ≡ word → Met word found.at
    met_with word e = subst (λ n. Met n found.at) e found.is_so

    pub met_open : n ≡ EMPTY → Stands (idle after_load) s
    met_open e = open_met (met_with EMPTY e) found.stands

    pub met_copied : n ≡ RECEIVING → Stands (waits again) s
    met_copied e = copy_met (met_with RECEIVING e) found.stands

    pub met_claimed : n ≡ UNPARKING → Stands claimed s
    met_claimed e = sender_met (met_with UNPARKING e) found.stands

    pub met_full : n ≡ MESSAGE → EndsPoll F.Message s
    met_full e = full_met (met_with MESSAGE e) found.stands

    pub met_over : n ≡ DISCONNECTED → EndsPoll F.Closed s
    met_over e = closed_met (met_with DISCONNECTED e) found.stands

    -- it found no other word
    pub met_none : {X : Type 0} → ¬ (n ≡ RECEIVING) → ¬ (n ≡ UNPARKING) → ¬ (n ≡ DISCONNECTED) → ¬ (n ≡ EMPTY)
        → ¬ (n ≡ MESSAGE) → X
    met_none a b c d e = no_word found.is_so a b c d e

    pub met_end : ¬ (n ≡ RECEIVING) → ReceiverAsks (Swap DISCONNECTED) s
        × (receiver_row (AsyncDrop AsyncLoad) (S.Word n) ≡ Some (Goes (AsyncDrop AsyncSwap)))
    met_end a = let ends = ends_met found.is_so a in (asks (Swap DISCONNECTED) found.stands ends.0, ends.1)

  pub loaded_to : {l k : Log T W} {p : ReceiverPos} (o : Outcome ReceiverPos) (n found : ℕ)
      → Steps.Word Load ≡ receiver_step p → receiver_row p (S.Word found) ≡ Some o → n ≡ found
      → Grows l k (worded Load n ∷ []) → Path p o l k
  loaded_to {p} o n found at leads e s = by_word o Load n s at (ap (λ n. receiver_row p (S.Word n)) e ∙ leads)

  pub met_path : {l k z : Log T W} {p : ReceiverPos} {o : Outcome ReceiverPos} (n found : ℕ)
      → receiver_row (Future PollLoad) (S.Word found) ≡ Some (Goes p) → n ≡ found → Grows l k (worded Load n ∷ [])
      → Path p o k z → Path (Future PollLoad) o l z
  met_path {p} n found leads e s path = on (loaded_to (Goes p) n found refl leads e s) path

  -- it finds the sender about to finish, and wakes its own task
  pub met_own : {l k z : Log T W} (n : ℕ) → n ≡ UNPARKING → Grows l k (worded Load n ∷ [])
      → Grows k z (did Steps.WakeOwn ∷ [])
      → Path (Future PollLoad) (Answers R.Pending) l z
  met_own n e s t = met_path n UNPARKING refl e s (by_own _ t refl refl)

  -- `poll`: it closes the channel, and takes the message
  pub taken_rests : {s : GroundState T W} (g : Got)
      → StandsWith receiver_of (receiver_next (full g) (Store DISCONNECTED) S.Done) (empty, empty) s → IsPolled s
  taken_rests at_once is =
      record { at = disconnected closed_itself; is_one = unpolled (rests_closed closed_itself); stands = is }
  taken_rests waited is =
      record { at = disconnected closed_itself; is_one = unpolled (rests_closed closed_itself); stands = is }
  taken_rests (swapped by) is =
      record { at = disconnected closed_itself; is_one = unpolled (rests_closed closed_itself); stands = is }
  taken_rests by_future is = record { at = resolved closed_itself; is_one = has_resolved closed_itself; stands = is }
  taken_rests by_poll is = record { at = resolved closed_itself; is_one = has_resolved closed_itself; stands = is }

  pub poll_ran : {l k j z : Log T W} (n : ℕ) (x : T) → Path (Future PollLoad) (Goes (Try Close)) l k
      → Grows k j (worded (Store DISCONNECTED) n ∷ []) → Grows j z (took x ∷ [])
      → ReceiverRan C.Poll l z R.Message [] (x ∷ [])
  poll_ran n x path s t =
      ran path (worded (Store DISCONNECTED) n ∷ took x ∷ []) (more (Try Take) _ _ refl refl (last _ refl refl))
      (and_then (worded (Store DISCONNECTED) n ∷ []) _ s t) refl refl

  -- or leaves the future open
  pub pending_rests : {s : GroundState T W} → EndsPoll F.Nothing s → IsPolled s
  pending_rests ends = record { at = ends.at; is_one = pending_polled ends.is_one; stands = ends.stands }

  -- or finds it closed
  pub gone_rests : {s : GroundState T W} → StandsIn IsClosedAt s → IsPolled s
  gone_rests is = record { at = is.at; is_one = closed_polled is.at is.is_one; stands = is.stands }

  pub poll_gone : (s : GroundState T W) (f : Found) → EndsPoll f s → ¬ (f ≡ F.Message) → ¬ (f ≡ F.Nothing)
      → (f ≡ F.Closed) × StandsIn IsClosedAt s
  poll_gone s F.Message ends a b = absurd (a refl)
  poll_gone s F.Closed ends a b = (refl, ends)
  poll_gone s F.Overwritten ends a b = absurd ends
  poll_gone s F.Nothing ends a b = absurd (b refl)
