-- What a receive does while its waker is stored: it reads the clock, parks and loads, until a word decides it.
use Rattle.oneshot_drive.proofs.Names.{◌≡◌, ℕ, Bool, true, false, [], ◌∷◌, Some, refl, sym, ap, ◌∙◌, subst, Found, ReceiverPos, Ref, Timed, Value, Park, ParkLoad, Clock, TimedLoad, EndSwap, EndBack}
use Rattle.oneshot_drive.proofs.Names.{LatePark, LateLoad, RecvPark, RecvParkLoad, Load, Swap, Log, Grows, receiver_of, handed, parked, clocked, worded, ReceiverAt, idle}
use Rattle.oneshot_drive.proofs.Names.{after_timeout, waits, blocked}
use Rattle.oneshot_drive.proofs.Names.{overdue, waited, swapped, stopping, found_closed, receiver_moves, none, filled, receiver_row, receiver_rows, receiver_step, Outcome, Goes, row_for, vacant}
use Rattle.oneshot_drive.proofs.Names.{GroundState, StandsWith, Stands, receiver_slots, ReceiverAsks, ReceiverMakes, Path, ReceiveBy, by_ref, by_value, wait_of, asked_of, ref_end, end_of, EndsAt}
use Rattle.oneshot_drive.proofs.Names.{Parks, parks_waiting, parks_overdue, has_row_for, landings, RECEIVING, UNPARKING, DISCONNECTED, EMPTY, MESSAGE}
use Rattle.oneshot_drive.specs.declared.found.Found.TheVariants as F
use Rattle.oneshot_machine.specs.declared.machine.Seen.TheVariants as S
use Rattle.oneshot_machine.specs.declared.machine.Step.TheVariants as Steps
use Rattle.oneshot_drive.proofs.AfterOperations.{Lands, lone, unlisted, at_word, not_at, Came, came, asks, lands, stands_on, withdrew_waker}
use Rattle.oneshot_drive.proofs.Stretches.{on, begun, by_word, by_withdraw, by_park, by_clock}

-- the position of the load after a park, in each way
abbrev woken_of : {timed : Bool} → ReceiveBy timed → ReceiverPos
woken_of (by_ref false) = Ref ParkLoad
woken_of (by_ref true) = Timed TimedLoad
woken_of by_value = Value RecvParkLoad

-- the step there is a load, with the same rows in each way
woken_loads : {timed : Bool} (way : ReceiveBy timed) → Steps.Word Load ≡ receiver_step (woken_of way)
woken_loads (by_ref false) = refl
woken_loads (by_ref true) = refl
woken_loads by_value = refl

woken_rows : {timed : Bool} (way : ReceiveBy timed)
    → receiver_rows (woken_of way)
    ≡ (S.Word MESSAGE, end_of way F.Message) ∷ (S.Word DISCONNECTED, end_of way F.Closed)
    ∷ (S.Word RECEIVING, Goes (wait_of way))
    ∷ (S.Word UNPARKING, Goes (wait_of way)) ∷ []
woken_rows (by_ref false) = refl
woken_rows (by_ref true) = refl
woken_rows by_value = refl

-- the words that decide a waiting receive, and what it has found
pub data Decides : ℕ → Found → Type 0 where
  by_message : Decides MESSAGE F.Message
  by_end : Decides DISCONNECTED F.Closed

decided_row : {timed : Bool} {word : ℕ} {f : Found} (way : ReceiveBy timed) → Decides word f
    → receiver_row (woken_of way) (S.Word word) ≡ Some (end_of way f)
decided_row way by_message = ap (row_for (S.Word MESSAGE)) (woken_rows way)
decided_row way by_end = ap (row_for (S.Word DISCONNECTED)) (woken_rows way)

decided_late : {word : ℕ} {f : Found} → Decides word f
    → receiver_row (Timed LateLoad) (S.Word word) ≡ Some (ref_end f)
decided_late by_message = refl
decided_late by_end = refl

-- the words after which a waiting receive waits on
data Longer : ℕ → ReceiverAt → Type 0 where
  longer : Longer RECEIVING (waits blocked)
  claimed : Longer UNPARKING (waits blocked)

longer_row : {timed : Bool} {n : ℕ} {at : ReceiverAt} (way : ReceiveBy timed) → Longer n at
    → receiver_row (woken_of way) (S.Word n) ≡ Some (Goes (wait_of way))
longer_row way longer = ap (row_for (S.Word RECEIVING)) (woken_rows way)
longer_row way claimed = ap (row_for (S.Word UNPARKING)) (woken_rows way)

longer_waits : {n : ℕ} {at : ReceiverAt} → Longer n at → at ≡ waits blocked
longer_waits longer = refl
longer_waits claimed = refl

module _ {T W : Type 0} where
  -- `is_over`: a reading of the clock, if there is a deadline
  pub asked : {l k : Log T W} {timed : Bool} (way : ReceiveBy timed) (past : Bool) → timed ≡ true
      → Grows l k (clocked past ∷ []) → Path (wait_of way) (Goes (asked_of way past)) l k
  asked (by_ref true) true e s = by_clock _ true s refl refl
  asked (by_ref true) false e s = by_clock _ false s refl refl
  asked _ past e s = absurd (cc)

  pub not_asked : {timed : Bool} (way : ReceiveBy timed) (l : Log T W) → timed ≡ false
      → Path (wait_of way) (Goes (asked_of way false)) l l
  not_asked (by_ref true) l e = absurd (cc)
  not_asked (by_ref false) l e = begun (Ref Park) l
  not_asked by_value l e = begun (Value RecvPark) l

  -- a waiting receive may park with a deadline or without; an overdue one parks without
  pub may_park : {s : GroundState T W} (timed : Bool) → Stands (waits blocked) s → Parks timed (receiver_of s.log)
  may_park timed is = subst (Parks timed) (sym is.phase) (parks_waiting timed blocked)

  pub may_park_late : {s : GroundState T W} → Stands overdue s → Parks false (receiver_of s.log)
  may_park_late is = subst (Parks false) (sym is.phase) parks_overdue

  -- a park leaves its state unchanged, and then it loads
  module _ {at : ReceiverAt} {b k : GroundState T W} (woken : Bool) (is : Stands at b)
      (park : Grows b.log k.log (parked woken ∷ [])) (message : k.message ≡ b.message) (waker : k.waker ≡ b.waker) where
    has_parked : Stands at k
    has_parked = stands_on (parked woken ∷ []) refl is park message waker

    pub parked_asks : has_row_for Load (receiver_slots at) (receiver_moves at) ≡ true → ReceiverAsks Load k
    parked_asks has = asks Load has_parked has

    -- where the load landed
    pub woke : {a : GroundState T W} (n : ℕ) → ReceiverMakes Load n k a → Grows k.log a.log (worded Load n ∷ [])
        → Lands receiver_of n a (landings Load (receiver_moves at))
    woke n made grows = lands k Load n has_parked.phase made grows

  -- `wait`: each word that its load may find

  module _ {n : ℕ} {s : GroundState T W}
      (found : Lands receiver_of n s (landings Load (receiver_moves (waits blocked)))) where
    pub woke_at : {word : ℕ} {f : Found} (timed : Bool) → Decides word f → n ≡ word → EndsAt timed f s
    woke_at timed by_message e = (waited, refl, (lone (at_word MESSAGE e found)).stands)
    woke_at timed by_end e = (found_closed, (lone (at_word DISCONNECTED e found)).stands)

    again : ¬ (n ≡ MESSAGE) → ¬ (n ≡ DISCONNECTED) → Came Longer n s
    again no_message not_closed =
        came Longer ((longer, refl), ((claimed, refl), tt))
        (not_at DISCONNECTED not_closed (not_at MESSAGE no_message found))

    pub woke_again : ¬ (n ≡ MESSAGE) → ¬ (n ≡ DISCONNECTED) → Stands (waits blocked) s
    woke_again no_message not_closed =
        let on = again no_message not_closed in subst (λ at. Stands at s) (longer_waits on.is_so) on.stands

    -- it found no other word
    pub woke_none : {X : Type 0} → ¬ (n ≡ RECEIVING) → ¬ (n ≡ UNPARKING) → ¬ (n ≡ DISCONNECTED) → ¬ (n ≡ MESSAGE) → X
    woke_none a b c d =
        unlisted (not_at MESSAGE d (not_at DISCONNECTED c (not_at UNPARKING b (not_at RECEIVING a found))))

  -- a park, and where the load after it leads
  parks : {timed : Bool} {k j : Log T W} (way : ReceiveBy timed) (woken : Bool) → Grows k j (parked woken ∷ [])
      → Path (asked_of way false) (Goes (woken_of way)) k j
  parks (by_ref false) woken s = by_park _ woken s refl refl refl
  parks (by_ref true) woken s = by_park _ woken s refl refl refl
  parks by_value woken s = by_park _ woken s refl refl refl

  -- it knows that its deadline is not over
  on_time : {timed past : Bool} {l i k : Log T W} (way : ReceiveBy timed) → Path (wait_of way) (Goes (wait_of way)) l i
      → Path (wait_of way) (Goes (asked_of way past)) i k → past ≡ false
      → Path (wait_of way) (Goes (asked_of way false)) l k
  on_time {i} {k} way path asks e = on path (subst (λ past. Path (wait_of way) (Goes (asked_of way past)) i k) e asks)

  module _ {timed past : Bool} {l i k j z : Log T W} (way : ReceiveBy timed)
      (path : Path (wait_of way) (Goes (wait_of way)) l i) (asks : Path (wait_of way) (Goes (asked_of way past)) i k)
      (no : past ≡ false) (woken : Bool) (s : Grows k j (parked woken ∷ [])) (n : ℕ)
      (t : Grows j z (worded Load n ∷ [])) where
    parks_to : (o : Outcome ReceiverPos) → receiver_row (woken_of way) (S.Word n) ≡ Some o → Path (wait_of way) o l z
    parks_to o leads =
        on (on_time way path asks no) (on (parks way woken s) (by_word o Load n t (woken_loads way) leads))

    pub parks_again : {state : GroundState T W}
        → Lands receiver_of n state (landings Load (receiver_moves (waits blocked))) → ¬ (n ≡ MESSAGE)
        → ¬ (n ≡ DISCONNECTED)
        → Path (wait_of way) (Goes (wait_of way)) l z
    parks_again found no_message not_closed = parks_to _ (longer_row way (again found no_message not_closed).is_so)

    pub parks_decided : {word : ℕ} {f : Found} → Decides word f → n ≡ word → Path (wait_of way) (end_of way f) l z
    parks_decided by e = parks_to _ (ap (λ n. receiver_row (woken_of way) (S.Word n)) e ∙ decided_row way by)

  -- or that it is over
  pub stops_path : {timed past : Bool} {l i k z : Log T W} (f : Found) (way : ReceiveBy timed)
      → Path (wait_of way) (Goes (wait_of way)) l i → Path (wait_of way) (Goes (asked_of way past)) i k → past ≡ true
      → timed ≡ true → Path (Timed EndSwap) (ref_end f) k z → Path (wait_of way) (end_of way f) l z
  stops_path {i} {k} f (by_ref true) path asks e is stops =
      on path (on (subst (λ past. Path (Timed Clock) (Goes (asked_of (by_ref true) past)) i k) e asks) stops)
  stops_path f _ path asks e is stops = absurd (cc)

  -- `stop`: where its swap landed
  pub stopped : {b a : GroundState T W} (n : ℕ) → Stands (waits blocked) b → ReceiverMakes (Swap EMPTY) n b a
      → Grows b.log a.log (worded (Swap EMPTY) n ∷ [])
      → Lands receiver_of n a (landings (Swap EMPTY) (receiver_moves (waits blocked)))
  stopped {b} n is made grows = lands b (Swap EMPTY) n is.phase made grows

  module _ {n : ℕ} {s : GroundState T W}
      (found : Lands receiver_of n s (landings (Swap EMPTY) (receiver_moves (waits blocked)))) where
    pub stopped_open : n ≡ RECEIVING → StandsWith receiver_of (idle after_timeout) (none, filled) s
    stopped_open e = (lone (at_word RECEIVING e found)).stands

    pub stopped_full : n ≡ MESSAGE → EndsAt true F.Message s
    stopped_full e = (swapped stopping, refl, (lone (at_word MESSAGE e found)).stands)

    pub stopped_over : n ≡ DISCONNECTED → EndsAt true F.Overwritten s
    stopped_over e = (stopping, (lone (at_word DISCONNECTED e found)).stands)

    pub stopped_late : n ≡ UNPARKING → Stands overdue s
    stopped_late e = (lone (at_word UNPARKING e found)).stands

    -- it found no other word
    pub stopped_none : {X : Type 0} → ¬ (n ≡ RECEIVING) → ¬ (n ≡ UNPARKING) → ¬ (n ≡ DISCONNECTED) → ¬ (n ≡ MESSAGE) → X
    stopped_none a b c d =
        unlisted (not_at MESSAGE d (not_at DISCONNECTED c (not_at UNPARKING b (not_at RECEIVING a found))))

    -- its waker is in its hand again
    pub withdrew_nothing : {z : GroundState T W} {k : W} → n ≡ RECEIVING
        → Grows s.log z.log (handed Steps.Withdraw k ∷ [])
        → z.message ≡ s.message → z.waker ≡ vacant → EndsAt true F.Nothing z
    withdrew_nothing e back message waker = (refl, withdrew_waker (stopped_open e) back message waker)

  pub stops_to : {l k : Log T W} (o : Outcome ReceiverPos) (n found : ℕ)
      → receiver_row (Timed EndSwap) (S.Word found) ≡ Some o → n ≡ found → Grows l k (worded (Swap EMPTY) n ∷ [])
      → Path (Timed EndSwap) o l k
  stops_to o n found leads e s =
      by_word o (Swap EMPTY) n s refl (ap (λ n. receiver_row (Timed EndSwap) (S.Word n)) e ∙ leads)

  pub nothing_path : {l k j : Log T W} (z : W) (n : ℕ) → n ≡ RECEIVING → Grows l k (worded (Swap EMPTY) n ∷ [])
      → Grows k j (handed Steps.Withdraw z ∷ []) → Path (Timed EndSwap) (ref_end F.Nothing) l j
  nothing_path z n e s t = on (stops_to (Goes (Timed EndBack)) n RECEIVING refl e s) (by_withdraw _ z t refl refl)

  pub late_path : {l k z : Log T W} (f : Found) (n : ℕ) → n ≡ UNPARKING → Grows l k (worded (Swap EMPTY) n ∷ [])
      → Path (Timed LatePark) (ref_end f) k z → Path (Timed EndSwap) (ref_end f) l z
  late_path f n e s path = on (stops_to (Goes (Timed LatePark)) n UNPARKING refl e s) path

  -- `wait_late`: each word that its load may find
  module _ {n : ℕ} {s : GroundState T W} (found : Lands receiver_of n s (landings Load (receiver_moves overdue))) where
    pub ended_at : {word : ℕ} {f : Found} → Decides word f → n ≡ word → EndsAt false f s
    ended_at by_message e = (waited, refl, (lone (at_word MESSAGE e found)).stands)
    ended_at by_end e = (found_closed, (lone (at_word DISCONNECTED e found)).stands)

    pub ended_again : n ≡ EMPTY → Stands overdue s
    ended_again e = (lone (at_word EMPTY e found)).stands

    -- it found no other word
    pub ended_none : {X : Type 0} → ¬ (n ≡ DISCONNECTED) → ¬ (n ≡ EMPTY) → ¬ (n ≡ MESSAGE) → X
    ended_none a b c = unlisted (not_at MESSAGE c (not_at EMPTY b (not_at DISCONNECTED a found)))

  -- a receive whose deadline ends nothing more, ends as one with a deadline may
  pub ends_late : (f : Found) (s : GroundState T W) → EndsAt false f s → EndsAt true f s
  ends_late F.Message s ends = ends
  ends_late F.Closed s ends = ends
  ends_late F.Overwritten s ends = ends
  ends_late F.Nothing s ends = absurd (cc ends.0)

  pub ends_by_word : (f : Found) (s : GroundState T W) → EndsAt false f s → f ≡ F.Nothing → ⊥
  ends_by_word F.Nothing s ends e = cc ends.0
  ends_by_word _ s ends e = cc e

  pub late_to : {l k j z : Log T W} (o : Outcome ReceiverPos) (n found : ℕ)
      → receiver_row (Timed LateLoad) (S.Word found) ≡ Some o → n ≡ found
      → Path (Timed LatePark) (Goes (Timed LatePark)) l k → (woken : Bool) → Grows k j (parked woken ∷ [])
      → Grows j z (worded Load n ∷ []) → Path (Timed LatePark) o l z
  late_to o n found leads e path woken s t =
      on path (on (by_park (Goes (Timed LateLoad)) woken s refl refl refl)
      (by_word o Load n t refl (ap (λ n. receiver_row (Timed LateLoad) (S.Word n)) e ∙ leads)))

  pub late_decided : {word : ℕ} {f : Found} {l k j z : Log T W} → Decides word f → (n : ℕ) → n ≡ word
      → Path (Timed LatePark) (Goes (Timed LatePark)) l k → (woken : Bool) → Grows k j (parked woken ∷ [])
      → Grows j z (worded Load n ∷ []) → Path (Timed LatePark) (ref_end f) l z
  late_decided {word} {f} by n e path woken s t = late_to (ref_end f) n word (decided_late by) e path woken s t
