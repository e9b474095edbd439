-- Examples and counterexamples of senders that used the waker that they took, of a receiver's own wakers, and of what
-- its ground keeps.
use Rattle.std.specs.Prelude.{◌≡◌, ◌≢◌, ⊤, ℕ, Bool, true, false, List, [], ◌∷◌, ◌++◌, Some, None}
use Rattle.atomic_table.specs.Seated.{TableId}
use Rattle.crossbeam_utils.specs.Token.{IsSamePass}
use Rattle.futures.specs.Task.{Wakes as CopyWakes}
use Rattle.futures.specs.declared.task.context.Context.{Context}
use Rattle.futures.specs.declared.task.waker.Waker.{Waker}
use Rattle.oneshot_machine.specs.declared.machine.Seen.TheVariants.{Word}
use Rattle.oneshot_machine.specs.declared.states.Op.TheVariants.{Load, Add, Xor}
use Rattle.oneshot_machine.specs.declared.states.TheConstants.{RECEIVING, UNPARKING, EMPTY}
use Rattle.oneshot_machine.specs.Noted.{Noted}
use Rattle.oneshot_machine.specs.Phases.{sending, receiver_at}
use Rattle.oneshot_machine.specs.Slots.{away, held}
use Rattle.oneshot_word.specs.declared.any_waker.AnyWaker.{AnyWaker}
use Rattle.oneshot_word.specs.declared.any_waker.AnyWaker.TheVariants.{Thread, Task}
use Rattle.oneshot_contract_examples.specs.ExampleLogs.{waits as blocks}
use Rattle.oneshot_contract_examples.specs.StateExamples.{stopped_over}
use Rattle.oneshot_contract_examples.specs.SeatExamples.{table}
use Rattle.oneshot_word.specs.Side.{Side}
use Rattle.oneshot_ends.specs.declared.token.Given.{Given}
use Rattle.oneshot_ends.specs.declared.token.WakingHalf.{WakingHalf}
use Rattle.oneshot_ends.specs.Ends.{FutureView, WillBeWoken, registered_by}
use Rattle.oneshot_ends.specs.Keeps.{KeepsOwn, KeepsLent, KeepsPolled}
use Rattle.oneshot_ends.specs.Moments.{AtOneMoment}
use Rattle.oneshot_ends.specs.NoLostWakeup.{SleepsOn, ParkerAt, HasGivenTokenOf, HasTokenThere, HasUsed, HasUsedWakerOf}
use Rattle.oneshot_ends.specs.OwnWakers.{RealWaker, IsTaskOf, WaitsForTask, IsHalfOf, IsNoThread, WaitsByNoThread, WaitsByHalvesOf, BlockHas, is_waiting}
use Rattle.oneshot_ends.specs.PatienceExamples.{in_time, half_of}
use Rattle.oneshot_ends.specs.Tokens.{ParkingView}
use Rattle.oneshot_ends.specs.Woken.{Sending, sending_by, HasWoken, HasEnded}
use Rattle.oneshot_ends.specs.declared.waker.Used.{Used}
use Rattle.oneshot_contract_examples.specs.ExampleLogs.{claims, polled, sent_over}

-- a side with this log, which gave or took this waker
abbrev pub side_by : List Noted → RealWaker → Side ⊤ RealWaker ⊤
side_by log k =
    record {
      table = table 1 2 5;
      log = log;
      message = away;
      waker = away;
      passed = None;
      handed = Some k;
      about = tt;
    }

-- a `send` that found the receiver waiting
abbrev pub sent_to_it : List Noted
sent_to_it = sent_over UNPARKING

-- the sender that has given its message by it, and used this half
abbrev pub sender_of_it : WakingHalf → Given → Sending ⊤ RealWaker ⊤
sender_of_it half given =
    record {
      side = record (side_by sent_to_it (Thread half)) { passed = Some tt };
      used = Some (Thread half);
      given = Some given;
    }

-- the same by a task's waker
abbrev pub sender_of_task : Waker → Sending ⊤ RealWaker ⊤
sender_of_task waker =
    record {
      side = record (side_by sent_to_it (Task waker)) { passed = Some tt };
      used = Some (Task waker);
      given = None;
    }

-- the parking half beside this waking half, which has taken the token or not
abbrev pub parks_beside : WakingHalf → Bool → ParkingView
parks_beside half = half_of half.pass.table_id

-- senders that used the wakers that they took, wakers of their own parker, receivers that wait and sleep, and
-- moments of a channel
pub record UsesThatAre : Type 0 where
  pub woke_it : (s : Sending ⊤ (AnyWaker WakingHalf ℕ) ⊤) (half : WakingHalf) (given : Given)
      → s.side.handed ≡ Some (Thread half) → s.used ≡ Some (Thread half) → s.given ≡ Some given
      → IsSamePass half.pass given.pass → HasWoken s
  pub nobody_waits : (s : Sending ⊤ (AnyWaker WakingHalf ℕ) ⊤) → s.side.log ≡ (Add, Word EMPTY) ∷ [] → HasWoken s
  pub of_its_parker : (p : ParkingView) (half : WakingHalf) → half.pass.table_id ≡ p.parker
      → IsHalfOf {K = ℕ} p.parker (Thread half)
  pub of_a_task : (waker : Waker) → IsNoThread (Task waker)
  -- a copy of a waker for the task that polled, as the waker that a future gave last, or by which it is registered
  pub for_its_task : (cx : Context) (waker : Waker) → CopyWakes waker cx → IsTaskOf cx (Task waker)
  pub gives_its_tasks : (cx : Context) (s : Side ⊤ RealWaker ⊤) (waker : Waker) → s.log ≡ polled → s.waker ≡ away
      → s.handed ≡ Some (Task waker) → CopyWakes waker cx → WaitsForTask cx s
  pub will_be_woken : (cx : Context) (future : FutureView ⊤ ⊤) (waker : Waker) → future.registered ≡ Some waker
      → CopyWakes waker cx → WillBeWoken cx future
  pub woke_itself : (cx : Context) (future : FutureView ⊤ ⊤) → cx.is_woken ≡ true → WillBeWoken cx future
  pub is_registered_by : (s : Side ⊤ RealWaker ⊤) (waker : Waker) → s.log ≡ polled → s.handed ≡ Some (Task waker)
      → registered_by s ≡ Some waker
  pub used_its_waker : (waker : Waker) → HasUsed waker (sender_of_task waker)
  -- what a ground shows before and after its `wake`
  pub has_used_none : (s : Side ⊤ RealWaker ⊤) → sending_by s None ≡ record { side = s; used = None; given = None }
  pub has_used_it : (s : Side ⊤ RealWaker ⊤) (used : Used) → sending_by s (Some used)
      ≡ record { side = s; used = Some used.waker.value; given = used.given }
  pub woke_its_task : (cx : Context) (waker : Waker) → CopyWakes waker cx → HasUsedWakerOf cx (sender_of_task waker)
  pub its_own : (half : WakingHalf) → IsHalfOf {K = ℕ} half.pass.table_id (Thread half)
  pub waits : is_waiting (receiver_at blocks) ≡ true
  pub is_overdue : is_waiting (receiver_at (stopped_over UNPARKING)) ≡ true
  pub found_the_sender : is_waiting (receiver_at (polled ++ (Load, Word UNPARKING) ∷ [])) ≡ true
  pub stopped_in_time : is_waiting (receiver_at (stopped_over RECEIVING)) ≡ false
  pub is_new : is_waiting (receiver_at []) ≡ false
  pub gives_its_own : (s : Side ⊤ (AnyWaker WakingHalf ℕ) ⊤) (half : WakingHalf) → s.log ≡ blocks → s.waker ≡ away
      → s.handed ≡ Some (Thread half) → WaitsByHalvesOf half.pass.table_id s
  pub has_given_its_own : (s : Side ⊤ (AnyWaker WakingHalf ℕ) ⊤) (half : WakingHalf) → s.log ≡ blocks
      → s.waker ≡ away → s.handed ≡ Some (Thread half) → BlockHas half.pass.table_id s None
  pub ended : (s : Sending ⊤ (AnyWaker WakingHalf ℕ) ⊤) (half : WakingHalf) (given : Given) → s.side.log ≡ sent_to_it
      → s.side.handed ≡ Some (Thread half) → s.used ≡ Some (Thread half) → s.given ≡ Some given
      → IsSamePass half.pass given.pass → HasEnded sending s
  -- the sender has just taken the waker of the receiver that waits
  pub at_one_moment : (k : RealWaker)
      → AtOneMoment {P = ⊤} (λ about message. ⊤) (side_by claims k) (side_by blocks k)
  pub sleeps : (s : Side ⊤ RealWaker ⊤) (half : WakingHalf) → s.log ≡ blocks → s.waker ≡ away
      → s.handed ≡ Some (Thread half) → SleepsOn (parks_beside half false) s
  pub gave_its_token : (half : WakingHalf) (given : Given) → IsSamePass half.pass given.pass
      → HasGivenTokenOf half.pass.table_id (sender_of_it half given)
  pub has_its_token : (half : WakingHalf) (given : Given) → IsSamePass half.pass given.pass
      → HasTokenThere (parks_beside half false) (sender_of_it half given)
  pub token_was_taken : (given : Given) → given.pass.id ≡ 1 → ParkerAt given true false
  -- a sender that has ended, beside it the receiver that sleeps, and the token of its parker
  pub ended_beside_a_sleeper : (half : WakingHalf) (given : Given) → IsSamePass half.pass given.pass
      → given.pass.id ≡ 1
      → AtOneMoment {P = ⊤} (λ about message. ⊤) (sender_of_it half given).side (side_by blocks (Thread half))
      × HasEnded sending (sender_of_it half given)
      × SleepsOn (parks_beside half false) (side_by blocks (Thread half)) × ParkerAt given false true
  -- a sender that has ended, beside it the future that a poll left waiting, by a copy for its task
  pub ended_beside_a_future : (cx : Context) (waker : Waker) → CopyWakes waker cx
      → AtOneMoment {P = ⊤} (λ about message. ⊤) (sender_of_task waker).side (side_by polled (Task waker))
      × HasEnded sending (sender_of_task waker)
      × WaitsByNoThread (side_by polled (Task waker)) × WaitsForTask cx (side_by polled (Task waker))
      × (is_waiting (receiver_at polled) ≡ true) × (registered_by (side_by polled (Task waker)) ≡ Some waker)
  -- steps of a ground that keep what it has
  pub keeps_all : (s : Side ⊤ RealWaker ⊤) → KeepsOwn s s
  pub spun_and_took : (s : Side ⊤ RealWaker ⊤) (deadline : _) (parker : TableId)
      → KeepsLent s s (in_time deadline None 3) (in_time deadline None 4) (half_of parker false) (half_of parker true)
  pub keeps_its_task : (s : Side ⊤ RealWaker ⊤) (cx : Context) (source : ℕ) → KeepsPolled s s cx cx source source

-- senders and receivers with real logs, each wrong in one thing, and wakers that are not a parker's own
pub record UsesThatAreNot : Type 0 where
  pub gave_none : (s : Sending ⊤ (AnyWaker WakingHalf ℕ) ⊤) (half : WakingHalf) → s.side.log ≡ sent_to_it
      → s.side.handed ≡ Some (Thread half) → s.given ≡ None → HasWoken s → ⊥
  pub took_none : (s : Sending ⊤ (AnyWaker WakingHalf ℕ) ⊤) → s.side.log ≡ sent_to_it → s.side.handed ≡ None
      → HasWoken s → ⊥
  pub a_task : (parker : TableId) → IsHalfOf {K = ℕ} parker (Task 5) → ⊥
  pub of_another : (parker : TableId) (half : WakingHalf) → (half.pass.table_id ≡ parker → ⊥)
      → IsHalfOf {K = ℕ} parker (Thread half) → ⊥
  pub has_a_task : (s : Side ⊤ (AnyWaker WakingHalf ℕ) ⊤) (parker : TableId) → BlockHas parker s (Some (Task 5)) → ⊥
  pub left_a_task : (s : Side ⊤ (AnyWaker WakingHalf ℕ) ⊤) (parker : TableId) → s.log ≡ blocks
      → s.handed ≡ Some (Task 5) → WaitsByHalvesOf parker s → ⊥
  -- a future that gave a thread's waker, or a copy for another task, and a poll that left its task without either
  pub a_thread_is_no_task : (cx : Context) (half : WakingHalf) → IsTaskOf cx (Thread half) → ⊥
  pub for_another_task : (cx : Context) (waker : Waker) → cx.lacks_waker ≡ false
      → (waker.owed.first.task ≡ cx.turn.task → ⊥) → IsTaskOf cx (Task waker) → ⊥
  pub left_anothers_copy : (cx : Context) (s : Side ⊤ RealWaker ⊤) (waker : Waker) → s.log ≡ polled
      → s.handed ≡ Some (Task waker) → cx.lacks_waker ≡ false → (waker.owed.first.task ≡ cx.turn.task → ⊥)
      → WaitsForTask cx s → ⊥
  pub pends_unregistered : (cx : Context) (future : FutureView ⊤ ⊤) → cx.is_woken ≡ false
      → future.registered ≡ None → WillBeWoken cx future → ⊥
  pub woke_another : (cx : Context) (waker : Waker) → cx.lacks_waker ≡ false → (CopyWakes waker cx → ⊥)
      → HasUsedWakerOf cx (sender_of_task waker) → ⊥
  pub took_no_task : (waker : Waker) (s : Sending ⊤ RealWaker ⊤) → s.side.handed ≡ None → HasUsed waker s → ⊥
  -- a sender that took the waker of a task, and used none, or another
  pub used_none : (waker : Waker) (s : Sending ⊤ RealWaker ⊤) → s.used ≡ None → HasUsed waker s → ⊥
  pub used_another : (waker other : Waker) (s : Sending ⊤ RealWaker ⊤) → s.used ≡ Some (Task other) → other ≢ waker
      → HasUsed waker s → ⊥
  pub left_its_task : (waker : Waker) (s : Sending ⊤ RealWaker ⊤) → s.side.log ≡ sent_to_it
      → s.side.handed ≡ Some (Task waker) → s.used ≡ None → HasEnded sending s → ⊥
  pub has_anothers : (s : Side ⊤ (AnyWaker WakingHalf ℕ) ⊤) (parker : TableId) (half : WakingHalf)
      → s.waker ≡ held (Thread half) → (half.pass.table_id ≡ parker → ⊥) → WaitsByHalvesOf parker s → ⊥
  pub left_a_thread : (s : Side ⊤ (AnyWaker WakingHalf ℕ) ⊤) (half : WakingHalf) → s.log ≡ blocks
      → s.handed ≡ Some (Thread half) → WaitsByNoThread s → ⊥
  -- a sender that is to be let go, and has performed no operation, woken nobody, or ended by its drop
  pub is_fresh : (s : Sending ⊤ (AnyWaker WakingHalf ℕ) ⊤) → s.side.log ≡ [] → HasEnded sending s → ⊥
  pub ended_unwoken : (s : Sending ⊤ (AnyWaker WakingHalf ℕ) ⊤) (half : WakingHalf) → s.side.log ≡ sent_to_it
      → s.side.handed ≡ Some (Thread half) → s.given ≡ None → HasEnded sending s → ⊥
  pub dropped_instead : (s : Sending ⊤ (AnyWaker WakingHalf ℕ) ⊤) → s.side.log ≡ (Xor, Word EMPTY) ∷ []
      → HasEnded sending s → ⊥
  pub took_another : (k other : RealWaker) → k ≢ other
      → AtOneMoment {P = ⊤} (λ about message. ⊤) (side_by claims other) (side_by blocks k) → ⊥
  pub sleeps_unasked : (s : Side ⊤ RealWaker ⊤) (half : ParkingView) → s.log ≡ [] → SleepsOn half s → ⊥
  pub sleeps_by_a_task : (s : Side ⊤ RealWaker ⊤) {waker : Waker} (half : ParkingView) → s.log ≡ blocks
      → s.handed ≡ Some (Task waker) → SleepsOn half s → ⊥
  pub sleeps_again : (s : Side ⊤ RealWaker ⊤) (half : ParkingView) → half.taken ≡ true → SleepsOn half s → ⊥
  pub gave_anothers_token : (s : Sending ⊤ RealWaker ⊤) (parker : TableId) (given : Given) → s.given ≡ Some given
      → (given.pass.table_id ≡ parker → ⊥) → HasGivenTokenOf parker s → ⊥
  pub token_is_lost : (given : Given) → ParkerAt given false false → ⊥
  pub token_is_there_again : (given : Given) → ParkerAt given true true → ⊥
  pub has_anothers_token : (s : Sending ⊤ RealWaker ⊤) (half : ParkingView) (given : Given) → s.given ≡ Some given
      → (given.pass.table_id ≡ half.parker → ⊥) → HasTokenThere half s → ⊥
  -- a token that was taken before is not there
  pub took_it_before : (half : WakingHalf) (given : Given) → given.pass.id ≡ 1
      → HasTokenThere (parks_beside half true) (sender_of_it half given) → ⊥
  pub gave_no_token : (s : Sending ⊤ RealWaker ⊤) (parker : TableId) → s.given ≡ None → HasGivenTokenOf parker s → ⊥
  -- steps of a ground that lose the message, the token, the parker, the spins, the deadline or the source
  pub forgets_its_message : (s next : Side ⊤ RealWaker ⊤) → s.passed ≡ Some tt → next.passed ≡ None
      → KeepsOwn s next → ⊥
  pub gives_its_token_back : (s : Side ⊤ RealWaker ⊤) (patience : _) (parker : TableId)
      → KeepsLent s s patience patience (half_of parker true) (half_of parker false) → ⊥
  pub parks_by_another : (s : Side ⊤ RealWaker ⊤) (patience : _) (parker other : TableId) → parker ≢ other
      → KeepsLent s s patience patience (half_of parker false) (half_of other false) → ⊥
  pub sets_its_spins_back : (s : Side ⊤ RealWaker ⊤) (deadline : _) (half : ParkingView)
      → KeepsLent s s (in_time deadline None 5) (in_time deadline None 0) half half → ⊥
  pub moves_its_deadline : (s : Side ⊤ RealWaker ⊤) (deadline other : _) (half : ParkingView) → other ≢ deadline
      → KeepsLent s s (in_time deadline None 0) (in_time other None 0) half half → ⊥
  pub polls_by_another : (s : Side ⊤ RealWaker ⊤) (cx : Context) → KeepsPolled s s cx cx 1 2 → ⊥
