-- The obligations of each receive that blocks after the word that decides it, and the runs that its steps make.
use Rattle.oneshot_drive.proofs.Names.{◌≡◌, ℕ, Bool, true, false, List, [], ◌∷◌, Option, refl, sym, subst, Found, Reply, ReceiverPos, Try, Ref, Timed}
use Rattle.oneshot_drive.proofs.Names.{Value, Close, Take, CloseOnly, StartLoad, SumClock, RecvLoad, RecvTake, RecvFreeGot, RecvFreeGone, Recv, RecvTimeout, Store, Log, Grows, receiver_of, did, took}
use Rattle.oneshot_drive.proofs.Names.{clocked, worded, after_timeout, ReceiverAt, idle, full, Got, at_once, overwritten, Swapping, Closing, closed_itself, disconnected}
use Rattle.oneshot_drive.proofs.Names.{receiver_moves, receiver_next, empty}
use Rattle.oneshot_drive.proofs.Names.{filled, receiver_step, receiver_row, Goes, last, more, Ran, ReceiverRan, vacant, receiver_moved, and_then, GroundState, StandsWith, Stands, receiver_slots}
use Rattle.oneshot_drive.proofs.Names.{ReceiverAsks, ReceiverMakes, Path, value_end, EndsAt, AtRest, rests_open, IsClosedAt}
use Rattle.oneshot_drive.proofs.Names.{IsReady, is_room, has_row_for, Each}
use Rattle.oneshot_drive.proofs.Names.{landings, DISCONNECTED}
use Rattle.oneshot_drive.specs.declared.found.Found.TheVariants as F
use Rattle.oneshot_machine.specs.declared.machine.Reply.TheVariants as R
use Rattle.oneshot_machine.specs.declared.machine.Seen.TheVariants as S
use Rattle.oneshot_machine.specs.declared.machine.Step.TheVariants as Steps
use Rattle.oneshot_drive.proofs.AfterOperations.{lone, asks, lands, one_of, stands_on, still}
use Rattle.oneshot_drive.proofs.Stretches.{by_clock, ran, before}

-- a receiver that found the message, in any way, may close the channel, and still has the message then
stores_full : (g : Got) → has_row_for (Store DISCONNECTED) (receiver_slots (full g)) (receiver_moves (full g)) ≡ true
stores_full at_once = refl
stores_full _ = refl

keeps_full : (g : Got)
    → Each (λ n next after. after ≡ (filled, empty)) (landings (Store DISCONNECTED) (receiver_moves (full g)))
keeps_full at_once = (refl, tt)
keeps_full _ = (refl, tt)

slots_full : (g : Got) → receiver_slots (full g) ≡ (filled, empty)
slots_full at_once = refl
slots_full _ = refl

module _ {T W : Type 0} where
  pub full_asks : {g : Got} {s : GroundState T W} → Stands (full g) s → ReceiverAsks (Store DISCONNECTED) s
  full_asks {g} is = asks (Store DISCONNECTED) is (stores_full g)

  pub has_message : {g : Got} {s : GroundState T W} → Stands (full g) s
      → StandsWith receiver_of (full g) (filled, empty) s
  has_message {g} {s} is = subst (λ slots. StandsWith receiver_of (full g) slots s) (slots_full g) is

  pub closed_over : {g : Got} {b a : GroundState T W} (n : ℕ) → Stands (full g) b
      → ReceiverMakes (Store DISCONNECTED) n b a
      → Grows b.log a.log (worded (Store DISCONNECTED) n ∷ [])
      → StandsWith receiver_of (receiver_next (full g) (Store DISCONNECTED) S.Done) (filled, empty) a
  closed_over {g} {b} {a} n is made grows =
      let found =
      one_of (λ n next after. after ≡ (filled, empty)) (keeps_full g)
      (lands b (Store DISCONNECTED) n is.phase made grows) in
      let has : StandsWith receiver_of found.next (filled, empty) a =
      subst (λ slots. StandsWith receiver_of found.next slots a) found.is_so found.stands in
      record {
        phase = subst (λ at. receiver_of a.log ≡ receiver_next at (Store DISCONNECTED) S.Done) is.phase
            (receiver_moved (Store DISCONNECTED) n grows);
        message = has.message;
        waker = has.waker;
      }

  -- `receive`: it closes the channel, with the message in its slot
  pub ended_full : {b a : GroundState T W} (n : ℕ)
      → (g : Got) × (receiver_next (full g) (Store DISCONNECTED) S.Done ≡ disconnected closed_itself)
      × Stands (full g) b
      → ReceiverMakes (Store DISCONNECTED) n b a → Grows b.log a.log (worded (Store DISCONNECTED) n ∷ [])
      → StandsWith receiver_of (disconnected closed_itself) (filled, empty) a
  ended_full {a} n ends made grows =
      subst (λ at. StandsWith receiver_of at (filled, empty) a) ends.1 (closed_over n ends.2 made grows)

  pub full_ran : {p : ReceiverPos} {l k j z : Log T W} (n : ℕ) (x : T) → Path p (Goes (Try Close)) l k
      → Grows k j (worded (Store DISCONNECTED) n ∷ []) → Grows j z (took x ∷ [])
      → Ran receiver_step receiver_row p l z R.Message [] (x ∷ [])
  full_ran n x path s t =
      ran path (worded (Store DISCONNECTED) n ∷ took x ∷ []) (more (Try Take) _ _ refl refl (last _ refl refl))
      (and_then (worded (Store DISCONNECTED) n ∷ []) _ s t) refl refl

  -- or the sender is gone
  pub shut : {by : Swapping} {b a : GroundState T W} (n : ℕ) → Stands (overwritten by) b
      → ReceiverMakes (Store DISCONNECTED) n b a
      → Grows b.log a.log (worded (Store DISCONNECTED) n ∷ []) → Stands (disconnected closed_itself) a
  shut {b} n is made grows = (lone (lands b (Store DISCONNECTED) n is.phase made grows)).stands

  pub shut_ran : {p : ReceiverPos} {l k j : Log T W} (n : ℕ) → Path p (Goes (Try CloseOnly)) l k
      → Grows k j (worded (Store DISCONNECTED) n ∷ []) → Ran receiver_step receiver_row p l j R.Disconnected [] []
  shut_ran n path s = ran path (worded (Store DISCONNECTED) n ∷ []) (last _ refl refl) s refl refl

  -- or its deadline is over
  pub out_rests : {s : GroundState T W} → Stands (idle after_timeout) s → AtRest s
  out_rests is = record { at = idle after_timeout; is_one = rests_open after_timeout; stands = is }

  -- `recv_timeout`: its reading of the clock leaves its state unchanged
  pub clock_rests : {b a : GroundState T W} → AtRest b → (past : Bool) → Grows b.log a.log (clocked past ∷ [])
      → a.message ≡ b.message → a.waker ≡ b.waker → AtRest a
  clock_rests rests past s message waker =
      record {
        at = rests.at;
        is_one = rests.is_one;
        stands = stands_on (clocked past ∷ []) refl rests.stands s message
            waker;
      }

  pub clock_ready : {l k : Log T W} {hand : Option W} → IsReady hand (receiver_of l) → (past : Bool)
      → Grows l k (clocked past ∷ []) → IsReady hand (receiver_of k)
  clock_ready is past s none = subst IsClosedAt (sym (still (clocked past ∷ []) refl s)) (is none)

  sums : {representable : Bool} {l k : Log T W} (past : Bool) → Grows l k (clocked past ∷ [])
      → Path (Timed (SumClock representable)) (Goes (Ref (StartLoad representable))) l k
  sums true s = by_clock _ true s refl refl
  sums false s = by_clock _ false s refl refl

  pub sum_ran : {representable : Bool} {reply : Reply} {got : List T} {l k z : Log T W} (past : Bool)
      → Grows l k (clocked past ∷ []) → Ran receiver_step receiver_row (Ref (StartLoad representable)) k z reply [] got
      → ReceiverRan (RecvTimeout representable) l z reply [] got
  sum_ran past s run = before (sums past s) run

  -- `recv`
  pub full_freed : {l k j z : Log T W} (x : T) → Path (Value RecvLoad) (Goes (Value RecvTake)) l k
      → Grows k j (took x ∷ []) → Grows j z (did Steps.Free ∷ []) → ReceiverRan Recv l z R.Message [] (x ∷ [])
  full_freed x path s t =
      ran path (took x ∷ did Steps.Free ∷ []) (more (Value RecvFreeGot) _ _ refl refl (last _ refl refl))
      (and_then (took x ∷ []) _ s t) refl refl

  -- without a message the sender is gone: both slots are empty, and the block is to be freed
  pub record Gone (f : Found) (s : GroundState T W) : Type 0 where
    pub message : s.message ≡ vacant
    pub waker : s.waker ≡ vacant
    pub leads : value_end f ≡ Goes (Value RecvFreeGone)

  pub gone : (s : GroundState T W) (f : Found) → ¬ (f ≡ F.Message) → EndsAt false f s → Gone f s
  gone s F.Message a ends = absurd (a refl)
  gone s F.Closed a ends = record { message = is_room ends.1.message; waker = is_room ends.1.waker; leads = refl }
  gone s F.Overwritten a ends = record { message = is_room ends.1.message; waker = is_room ends.1.waker; leads = refl }
  gone s F.Nothing a ends = let timed = ends.0 in absurd (cc)

  pub gone_freed : {l k j : Log T W} {f : Found} {s : GroundState T W} → Gone f s
      → Path (Value RecvLoad) (value_end f) l k → Grows k j (did Steps.Free ∷ [])
      → ReceiverRan Recv l j R.Disconnected [] []
  gone_freed {l} {k} is path s =
      ran (subst (λ o. Path (Value RecvLoad) o l k) is.leads path) (did Steps.Free ∷ []) (last _ refl refl) s refl refl

-- a closed receiver needs no waker in its hand
pub closed_ready : {W : Type 0} {hand : Option W} {q : ReceiverAt} (c : Closing) → q ≡ disconnected c → IsReady hand q
closed_ready c at none = subst IsClosedAt (sym at) refl
