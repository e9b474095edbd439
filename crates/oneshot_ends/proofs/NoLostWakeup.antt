-- No wakeup is lost: by the rule of the table, which has one waker in the views of both ends, and by the token's rule.
use Rattle.std.proofs.Common.{◌≡◌, ℕ, Bool, true, false, not, List, [], ◌∷◌, Option, Some, None, refl, sym, ap, ◌∙◌, subst}
use mathlib.Core.Option.{some}
use Rattle.atomic_table.specs.Seated.{TableId}
use Rattle.futures.specs.declared.task.context.Context.{Context}
use Rattle.futures.specs.declared.task.waker.Waker.{Waker}
use Rattle.oneshot_machine.specs.Noted.{Noted}
use Rattle.oneshot_machine.specs.Phases.{By, sender_at, ReceiverAt, receiver_at}
use Rattle.oneshot_machine.specs.Over.{SenderIsOver}
use Rattle.oneshot_drive.specs.Blocking.{Parks, parks_waiting, parks_overdue}
use Rattle.oneshot_drive.specs.Polls.{is_registered}
use Rattle.oneshot_drive.specs.Wakes.{found_receiver_waiting}
use Rattle.oneshot_word.proofs.RuleReceives.{woken_is_put, both_reach}
use Rattle.oneshot_word.specs.declared.any_waker.AnyWaker.TheVariants.{Thread, Task}
use Rattle.oneshot_word.specs.Received.{both_views}
use Rattle.oneshot_word.specs.Rule.{Tied, has_made}
use Rattle.oneshot_word.specs.Side.{Side}
use Rattle.oneshot_ends.specs.declared.token.Given.{Given}
use Rattle.oneshot_ends.specs.declared.token.Half.{Half}
use Rattle.oneshot_ends.specs.declared.token.Half.TheVariants.{Parking, Waking}
use Rattle.oneshot_ends.specs.declared.token.WakingHalf.{WakingHalf}
use Rattle.oneshot_ends.specs.Ends.{registered_if}
use Rattle.oneshot_ends.specs.Moments.{AtOneMoment}
use Rattle.oneshot_ends.specs.NoLostWakeup.{SleepsOn, HasGivenTokenOf, HasTokenThere, HasUsedWakerOf, GivenTokensStay, EndedSendersGaveTokens, NoSleeperIsForgotten, FuturesWakeNoThread}
use Rattle.oneshot_ends.specs.NoLostWakeup.{EndedSendersWokeTasks, NoTaskIsForgotten}
use Rattle.oneshot_ends.specs.OwnWakers.{RealWaker, IsTaskOf, IsHalfOf, IsNoThread, is_waiting, Gave}
use Rattle.oneshot_ends.specs.Woken.{Sending, IsWoken, WokeBy, found_waiting as shown_waiting, HasEnded}
use Rattle.oneshot_ends.proofs.FoundWaiting.{finds_it_waiting}
use Rattle.oneshot_ends.proofs.GrewByRuns.{words_of}
use Rattle.oneshot_ends.proofs.OwnWakers.{same_put}
use Rattle.oneshot_ends.proofs.TaskWakers.{registered_waits}
use Rattle.oneshot_ends.specs.Tokens.{ParkingView}
use Rattle.oneshot_ends.proofs.Tokens.{Has, has, there_parking, there_waking, taken_parking, taken_waking}

-- a token that was given is there until the parking half takes it
given_there : {is_there taken : Bool} {halves : List Half} {id own : ℕ} → Has is_there halves id (Waking true)
    → Has is_there halves own (Parking taken) → is_there ≡ not taken
given_there there_waking there_parking = refl
given_there taken_waking taken_parking = refl

pub stays_there : GivenTokensStay
stays_there given taken is_there at =
    given_there (has at.allowed given.pass.id (at.gave ∙ ap (λ half. some half) given.given))
    (has at.allowed at.own at.parks)

-- a half that was used has given the token of its parker
pub own_given : {T P : Type 0} (parker : TableId) (k : RealWaker) (sender : Sending T RealWaker P)
    (given : Option Given) → sender.given ≡ given → IsHalfOf parker k → IsWoken k given → HasGivenTokenOf parker sender
own_given parker (Thread half) sender None is own woken = absurd woken
own_given parker (Thread half) sender (Some g) is own woken =
    record {
      evidence = g;
      is_it = is;
      of_parker = woken.0 ∙ own;
    }
own_given parker (Task copy) sender given is own woken = absurd own

-- it is there for a half that has not taken it
pub token_there : {T P : Type 0} {half : ParkingView} {sender : Sending T RealWaker P}
    → HasGivenTokenOf half.parker sender → half.taken ≡ false → HasTokenThere half sender
token_there {half = half} gave untaken =
    record { gave = gave; there = λ is_there at. stays_there gave.evidence half.taken is_there at ∙ ap not untaken }

-- a receiver that sleeps waits
pub sleeper_waits : {T P : Type 0} {half : ParkingView} (s : Side T RealWaker P) → SleepsOn half s
    → is_waiting (receiver_at s.log) ≡ true
sleeper_waits {T} s sleeps =
    sym (ap (λ xs. is_waiting (receiver_at xs)) (words_of T RealWaker s.log)) ∙ parking_waits sleeps.parks
  where
    parking_waits : {timed : Bool} {at : ReceiverAt} → Parks timed at → is_waiting at ≡ true
    parking_waits (parks_waiting timed w) = refl
    parking_waits parks_overdue = refl

-- a future that is registered with this waker has given it last
registered_so : {waker : Waker} (is : Bool) (put : Option RealWaker) → registered_if is put ≡ Some waker
    → (is ≡ true) × (put ≡ Some (Task waker))
registered_so true (Some (Task copy)) e = (refl, ap (λ (k : Waker). Some (Task k)) (cc e))
registered_so true (Some (Thread half)) e = absurd (cc e)
registered_so true None e = absurd (cc e)
registered_so false put e = absurd (cc e)

module _ {T P : Type 0} (keeps : P → T → Type 0) where
  -- at each moment, what the sender took is what the receiver gave
  taken_is_given : (sender : Sending T RealWaker P) (receiver : Side T RealWaker P) {own : RealWaker → Type 0}
      (k : RealWaker) → AtOneMoment keeps sender.side receiver → sender.side.handed ≡ Some k → Gave own receiver.handed
      → own k
  taken_is_given sender receiver {own} k moment took gave =
      same_put own gave
      ((woken_is_put WakingHalf Waker keeps).woken moment.about moment.words moment.homes sender.side.log receiver.log
      sender.side.passed receiver.passed receiver.handed k
      (subst (λ woke. Tied keeps moment.about moment.words moment.homes
      (both_views moment.about sender.side.log sender.side.passed woke receiver.log receiver.passed receiver.handed))
      took moment.allowed))

  pub senders_gave_tokens : EndedSendersGaveTokens keeps
  senders_gave_tokens by sender receiver parker moment ended found gave =
      let woken = ended.woken (ap found_receiver_waiting (words_of T RealWaker sender.side.log) ∙ found) in
      own_given parker woken.0 sender sender.given refl
      (taken_is_given sender receiver {own = IsHalfOf parker} woken.0 moment woken.1.took gave) woken.1.woken

  over_made : (by : By) (xs : List Noted) → SenderIsOver by (sender_at xs) → has_made xs ≡ true
  over_made by [] over = elim over [ ]
  over_made by (x ∷ xs) over = refl

  -- a sender that has ended beside a receiver that waits found it waiting
  ended_found : (by : By) (sender : Sending T RealWaker P) (receiver : Side T RealWaker P)
      → AtOneMoment keeps sender.side receiver → HasEnded by sender → is_waiting (receiver_at receiver.log) ≡ true
      → found_receiver_waiting sender.side.log ≡ true
  ended_found by sender receiver moment ended waits =
      finds_it_waiting (both_reach moment.allowed refl).1 waits (over_made by sender.side.log
      (subst (λ xs. SenderIsOver by (sender_at xs)) (words_of T RealWaker sender.side.log) ended.over))

  pub no_sleeper_is_forgotten : NoSleeperIsForgotten keeps
  no_sleeper_is_forgotten by sender receiver half moment ended sleeps =
      let waits = sleeper_waits receiver sleeps in
      token_there (senders_gave_tokens by sender receiver half.parker moment ended
      (ended_found by sender receiver moment ended waits) (sleeps.own.gave waits)) sleeps.untaken

  -- the waker that a sender used for a future is a copy for its task
  is_used : (cx : Context) (sender : Sending T RealWaker P) (k : RealWaker) → shown_waiting sender ≡ true
      → WokeBy k sender → IsTaskOf cx k → HasUsedWakerOf cx sender
  is_used cx sender (Task waker) found woke its = (waker, record { found = found; woke = woke }, its)
  is_used cx sender (Thread half) found woke its = absurd its

  pub senders_woke_tasks : EndedSendersWokeTasks keeps
  senders_woke_tasks by sender future cx moment ended found gave =
      let shown = ap found_receiver_waiting (words_of T RealWaker sender.side.log) ∙ found in
      let woken = ended.woken shown in
      is_used cx sender woken.0 shown woken.1
      (taken_is_given sender future {own = IsTaskOf cx} woken.0 moment woken.1.took gave)

  pub no_task_is_forgotten : NoTaskIsForgotten keeps
  no_task_is_forgotten by sender future waker moment ended registered =
      let at = receiver_at future.log in
      let so = registered_so (is_registered at) future.handed registered in
      let waits = registered_waits at so.0 in
      let found = ended_found by sender future moment ended waits in
      let shown = ap found_receiver_waiting (words_of T RealWaker sender.side.log) ∙ found in
      let woken = ended.woken shown in
      let gave : Gave (λ k. k ≡ Task waker) future.handed = (Task waker, so.1, refl) in
      let same = taken_is_given sender future {own = λ k. k ≡ Task waker} woken.0 moment woken.1.took gave in
      record { found = shown; woke = subst (λ k. WokeBy k sender) same woken.1 }

  pub futures_wake_no_thread : FuturesWakeNoThread keeps
  futures_wake_no_thread sender future taken moment own waits took =
      taken_is_given sender future {own = IsNoThread} taken moment took (own.gave waits)
