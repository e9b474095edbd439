-- The law that leads from the positions of a run to the phase after it: the reply of a call shows how it leaves its
-- receiver or its future. Each operation of the run moves the phase by the phases' table.
use Rattle.oneshot_drive.proofs.Names.{◌≡◌, Bool, true, false, List, Option, Result, Ok, Err, refl, sym, ap, ◌∙◌, subst, Ready, Pending, RecvError, RecvTimeoutError, TryRecvError, Reply, TryRecv}
use Rattle.oneshot_drive.proofs.Names.{ReceiverPos, Take, CloseOnly, StartLoad, StartSwap, SumClock, Clock, EndBack, RecvLoad, RecvFreeGone, PollLoad, PollCopy, PollBackClosed, AgainCopy, PollOwn}
use Rattle.oneshot_drive.proofs.Names.{AsyncTryLoad, Log, words, receiver_of, ReceiverAt, untouched, idle, after_load, after_timeout, waits, polled, claimed, overdue, overwritten, disconnected}
use Rattle.oneshot_drive.proofs.Names.{closed_itself, resolved, no_receiver, receiver_at, receiver_next, receiver_step, receiver_rows, ReceiverRan, Rests, rests_new, rests_open, rests_closed}
use Rattle.oneshot_drive.proofs.Names.{IsClosedAt, IsReady, GroundState, StandsIn, Polled, unpolled, left_copy, kept_copy, found_sender, has_resolved, LeavesPolled, leaves_resolved, leaves_over}
use Rattle.oneshot_drive.proofs.Names.{leaves_gone, leaves_uncopied, leaves_waiting, leaves_its_copy, leaves_claimed, LeavesTried, tried_received, tried_resolved, tried_closed, tried_uncopied}
use Rattle.oneshot_drive.proofs.Names.{AsyncTryRecv, is_registered, tried_its_copy, tried_claimed, is_disconnected, Try, Ref, Timed, Value, Future, AsyncDrop}
use Rattle.std.proofs.lemmas.Bool.{and_parts}
use Rattle.std.specs.Prelude.{◌&&◌, ◌||◌, not, IsErr}
use Rattle.std.specs.List.{list_all}
use Rattle.futures.specs.declared.task.Poll.{Poll}
use Rattle.oneshot_errors.specs.declared.recv_timeout.RecvTimeoutError.TheVariants as Timeouts
use Rattle.oneshot_errors.specs.declared.try_recv.TryRecvError.TheVariants as Tried
use Rattle.oneshot_machine.specs.declared.machine.Reply.TheVariants as R
use Rattle.oneshot_machine.specs.declared.machine.receiver.ReceiverStart.{ReceiverStart}
use Rattle.oneshot_machine.specs.declared.machine.try_recv.TryPos.TheVariants.{TryLoad}
use Rattle.oneshot_machine.specs.declared.machine.by_ref.RefPos.TheVariants.{BackClosed}
use Rattle.oneshot_machine.specs.declared.machine.future.FuturePos.TheVariants.{IntoFuture}
use Rattle.oneshot_machine.specs.Over.{FoundTheEnd, found_message}
use Rattle.oneshot_machine.specs.Receiver.{receiver_start}
use Rattle.oneshot_machine.proofs.EachPhase.{receivers, at_each_receiver}
use Rattle.oneshot_machine.proofs.GrownLogs.{phase_from-append, words_after}
use Rattle.oneshot_machine.proofs.RunsByRows.{carries, by_tests}
use Rattle.oneshot_drive.specs.BetweenCalls.{is_closed_at, Leaves, leaves_received, leaves_closed, leaves_empty, leaves_late, try_recv_reply, recv_reply, timed_reply}
use Rattle.oneshot_drive.specs.Polls.{poll_reply, IsDisconnected, StaysRegistered}
use Rattle.oneshot_drive.specs.Polls.{leaves_message}
use Rattle.oneshot_machine.specs.declared.machine.receiver.ReceiverPos.TheVariants.{Look, Drop}

-- the cases that the law tells apart
pub data Case : Type 0 where
  -- a call of a receiver that stays in place, or `try_recv` of a future
  trying : Case
  -- a poll
  polling : Case
  -- a receive or a poll that begins closed
  closed_before : Case
  -- `try_recv` of a future, which begins registered or not
  keeping : Bool → Case

abbrev pub is_nowhere : ReceiverAt → Bool
is_nowhere no_receiver = true
is_nowhere _ = false

abbrev is_overwritten : ReceiverAt → Bool
is_overwritten (overwritten by) = true
is_overwritten _ = false

-- the phases with which a call may reply that nothing came yet
abbrev is_unsent : ReceiverAt → Bool
is_unsent (idle after_load) = true
is_unsent (waits w) = true
is_unsent claimed = true
is_unsent overdue = true
is_unsent _ = false

-- whether the second is as the first
abbrev pub is_so : Bool → Bool → Bool
is_so true b = b
is_so false b = not b

-- whether a call of this case may end at this phase with this reply
abbrev pub is_left : Case → Reply → ReceiverAt → Bool
is_left closed_before R.Disconnected at = true
is_left closed_before reply at = false
is_left (keeping is) R.Empty at = is_so is (is_registered at)
is_left (keeping is) reply at = true
is_left case R.Message (disconnected closed_itself) = true
is_left case R.Message (resolved closed_itself) = true
is_left case R.Disconnected (disconnected c) = true
is_left polling R.Disconnected (resolved c) = true
is_left case R.Timeout (idle after_timeout) = true
is_left case R.Empty (waits polled) = false
is_left case R.Empty at = is_unsent at
is_left polling R.Pending at = is_unsent at
is_left _ _ _ = false

-- the first positions of the calls whose first operation on the word is a load
abbrev is_first : ReceiverPos → Bool
is_first (Try TryLoad) = true
is_first (Ref (StartLoad timed)) = true
is_first (Timed (SumClock representable)) = true
is_first (Value RecvLoad) = true
is_first (Future PollLoad) = true
is_first (Future AsyncTryLoad) = true
is_first _ = false

-- whether a call of this case may be at this position in this phase
abbrev is_at : Case → ReceiverPos → ReceiverAt → Bool
is_at closed_before (Value RecvFreeGone) at = true
is_at closed_before p at = is_first p && is_closed_at at
is_at (keeping is) (Future AsyncTryLoad) at = is_so is (is_registered at)
is_at (keeping is) (Try TryLoad) at = false
is_at (keeping is) p at = true
is_at case (Try Take) at = is_left case R.Message at
is_at case (Try CloseOnly) at = is_overwritten at
is_at case (Ref BackClosed) at = is_overwritten at
is_at case (Timed EndBack) at = is_left case R.Timeout at
is_at trying (Future AsyncTryLoad) at = true
is_at trying (Future p) at = false
is_at polling (Future IntoFuture) at = false
is_at polling (Future PollCopy) at = is_unsent at
is_at polling (Future AgainCopy) at = is_unsent at
is_at polling (Future PollOwn) at = is_unsent at
is_at polling (Future PollBackClosed) at = is_left polling R.Disconnected at
is_at case (Value p) at = false
is_at _ _ _ = true

-- the same, or the log has led to no phase
abbrev pub stands : Case → ReceiverPos → ReceiverAt → Bool
stands case (Look p) at = false
stands case (AsyncDrop p) at = false
stands case (Drop p) at = false
stands case p at = is_at case p at || is_nowhere at

abbrev ends : Case → Reply → ReceiverAt → Bool
ends case reply at = is_left case reply at || is_nowhere at

abbrev all_carry : Case → ReceiverPos → Bool
all_carry case p =
    list_all (carries (stands case) (ends case) receiver_step receiver_rows receiver_next p) receivers

abbrev all_keep : ReceiverPos → Bool
all_keep p = all_carry (keeping true) p && all_carry (keeping false) p

each_carries : (p : ReceiverPos)
    → (all_carry trying p && (all_carry polling p && (all_carry closed_before p && all_keep p))) ≡ true
each_carries (Try TryLoad) = refl
each_carries (Ref (StartSwap false)) = refl
each_carries (Timed Clock) = refl
each_carries (Value RecvLoad) = refl
each_carries (Future PollLoad) = refl
each_carries _ = refl

after_polls : (p : ReceiverPos) → (all_carry closed_before p && all_keep p) ≡ true
after_polls p = (and_parts (all_carry polling p) _ (and_parts (all_carry trying p) _ (each_carries p)).1).1

keeps_each : (p : ReceiverPos) → all_keep p ≡ true
keeps_each p = (and_parts (all_carry closed_before p) (all_keep p) (after_polls p)).1

case_carries : (case : Case) (p : ReceiverPos) → all_carry case p ≡ true
case_carries trying p = (and_parts (all_carry trying p) _ (each_carries p)).0
case_carries polling p =
    (and_parts (all_carry polling p) _ (and_parts (all_carry trying p) _ (each_carries p)).1).0
case_carries closed_before p = (and_parts (all_carry closed_before p) (all_keep p) (after_polls p)).0
case_carries (keeping true) p = (and_parts (all_carry (keeping true) p) _ (keeps_each p)).0
case_carries (keeping false) p = (and_parts (all_carry (keeping true) p) _ (keeps_each p)).1

-- between two calls, and once it found the end, an end is at a phase other than `no_receiver`
pub polled_somewhere : {at : ReceiverAt} → Polled at → is_nowhere at ≡ false
polled_somewhere (unpolled rests_new) = refl
polled_somewhere _ = refl

pub ended_somewhere : {at : ReceiverAt} → FoundTheEnd at → is_nowhere at ≡ false
ended_somewhere (found_message got) = refl
ended_somewhere _ = refl

somewhere : (b nowhere : Bool) → nowhere ≡ false → (b || nowhere) ≡ true → b ≡ true
somewhere true nowhere e is = refl
somewhere false nowhere e is = absurd (cc (e, is))

leaves_so : (reply : Reply) {at : ReceiverAt} → Rests at → is_left trying reply at ≡ true → Leaves reply at
leaves_so R.Message (rests_closed closed_itself) e = leaves_received
leaves_so R.Disconnected (rests_closed c) e = leaves_closed c
leaves_so R.Empty (rests_open after_load) e = leaves_empty
leaves_so R.Timeout (rests_open after_timeout) e = leaves_late
leaves_so _ _ e = absurd (cc e)

polled_so : {T : Type 0} (result : Poll (Result T RecvError)) {at : ReceiverAt} → Polled at
    → is_left polling (poll_reply result) at ≡ true → LeavesPolled (poll_reply result) at
polled_so (Ready (Ok x)) (unpolled (rests_closed closed_itself)) e = leaves_message
polled_so (Ready (Ok x)) (has_resolved closed_itself) e = leaves_resolved
polled_so (Ready (Err d)) (unpolled (rests_closed c)) e = leaves_over c
polled_so (Ready (Err d)) (has_resolved c) e = leaves_gone c
polled_so Pending (unpolled (rests_open after_load)) e = leaves_uncopied
polled_so Pending left_copy e = leaves_waiting
polled_so Pending kept_copy e = leaves_its_copy
polled_so Pending found_sender e = leaves_claimed
polled_so _ _ e = absurd (cc e)

tried_so : {T : Type 0} (result : Result T TryRecvError) {at : ReceiverAt} → Polled at
    → is_left trying (try_recv_reply result) at ≡ true → LeavesTried (try_recv_reply result) at
tried_so (Ok x) (unpolled (rests_closed closed_itself)) e = tried_received
tried_so (Ok x) (has_resolved closed_itself) e = tried_resolved
tried_so (Err Tried.Disconnected) (unpolled (rests_closed c)) e = tried_closed c
tried_so (Err Tried.Empty) (unpolled (rests_open after_load)) e = tried_uncopied
tried_so (Err Tried.Empty) kept_copy e = tried_its_copy
tried_so (Err Tried.Empty) found_sender e = tried_claimed
tried_so _ _ e = absurd (cc e)

pub begins_closed : (at : ReceiverAt) → IsClosedAt at → (is_closed_at at || is_nowhere at) ≡ true
begins_closed at is_closed = ap (λ b. b || is_nowhere at) is_closed

-- a result whose reply is `Disconnected` is the disconnected error
pub tried_over : {T : Type 0} (result : Result T TryRecvError) → try_recv_reply result ≡ R.Disconnected
    → result ≡ Err Tried.Disconnected
tried_over (Err Tried.Disconnected) e = refl
tried_over _ e = absurd (cc e)

pub recv_over : {T : Type 0} (result : Result T RecvError) → recv_reply result ≡ R.Disconnected → IsErr result
recv_over (Err d) e = refl
recv_over _ e = absurd (cc e)

pub timed_over : {T : Type 0} (result : Result T RecvTimeoutError) → timed_reply result ≡ R.Disconnected
    → result ≡ Err Timeouts.Disconnected
timed_over (Err Timeouts.Disconnected) e = refl
timed_over _ e = absurd (cc e)

pub polled_over : {T : Type 0} (result : Poll (Result T RecvError)) → poll_reply result ≡ R.Disconnected
    → IsDisconnected result
polled_over (Ready (Err d)) e = is_disconnected d
polled_over _ e = absurd (cc e)

over_closed : {at : ReceiverAt} → Leaves R.Disconnected at → IsClosedAt at
over_closed (leaves_closed c) = refl

disconnected_so : (reply : Reply) (at : ReceiverAt) → is_left closed_before reply at ≡ true → reply ≡ R.Disconnected
disconnected_so R.Disconnected at e = refl
disconnected_so _ at e = absurd (cc e)

-- what holds of the phase of a ground between two calls
pub resting : {Phases : ReceiverAt → Type 0} {T W : Type 0} {s : GroundState T W} → StandsIn Phases s
    → Phases (receiver_of s.log)
resting {Phases} is = subst Phases (sym is.stands.phase) is.is_one

abbrev Begins : Case → ReceiverStart → ReceiverAt → Type 0
Begins case call at = stands case (receiver_start call) at ≡ true

-- a run of a call between these logs
module _ {T W : Type 0} (call : ReceiverStart) {before after : Log T W} {given got : List T} where
  left : (case : Case) (reply : Reply) → ReceiverRan call before after reply given got
      → Begins case call (receiver_of before)
      → is_nowhere (receiver_of after) ≡ false → is_left case reply (receiver_of after) ≡ true
  left case reply ran begins is =
      somewhere (is_left case reply (receiver_of after)) (is_nowhere (receiver_of after)) is
      (subst (λ at. ends case reply at ≡ true)
      (sym (ap receiver_at (words_after ran.run ran.grows)
      ∙ phase_from-append receiver_next untouched (words before.list) (words ran.run)))
      (by_tests (stands case) (ends case) receiver_step receiver_rows receiver_next
      (λ p. at_each_receiver (carries (stands case) (ends case) receiver_step receiver_rows receiver_next p)
      (case_carries case p))
      (receiver_start call) (receiver_of before) ran.run reply begins ran.is_run))

  pub leaves : {reply : Reply} → ReceiverRan call before after reply given got
      → Begins trying call (receiver_of before) → Rests (receiver_of after) → Leaves reply (receiver_of after)
  leaves {reply} ran begins rests =
      leaves_so reply rests (left trying reply ran begins (polled_somewhere (unpolled rests)))

  pub leaves_tried : (result : Result T TryRecvError)
      → ReceiverRan call before after (try_recv_reply result) given got
      → Begins trying call (receiver_of before) → Polled (receiver_of after)
      → LeavesTried (try_recv_reply result) (receiver_of after)
  leaves_tried result ran begins rests =
      tried_so result rests (left trying (try_recv_reply result) ran begins (polled_somewhere rests))

  pub leaves_polled : (result : Poll (Result T RecvError))
      → ReceiverRan call before after (poll_reply result) given got
      → Begins polling call (receiver_of before) → Polled (receiver_of after)
      → LeavesPolled (poll_reply result) (receiver_of after)
  leaves_polled result ran begins rests =
      polled_so result rests (left polling (poll_reply result) ran begins (polled_somewhere rests))

  pub stays_closed : {reply : Reply} → ReceiverRan call before after reply given got
      → Begins closed_before call (receiver_of before) → is_nowhere (receiver_of after) ≡ false → reply ≡ R.Disconnected
  stays_closed {reply} ran begins is =
      disconnected_so reply (receiver_of after) (left closed_before reply ran begins is)

so_itself : (b : Bool) → (is_so b b || false) ≡ true
so_itself true = refl
so_itself false = refl

so_same : (b c : Bool) → is_so b c ≡ true → c ≡ b
so_same true c e = e
so_same false true e = absurd (cc e)
so_same false false e = refl

-- After a `try_recv` of a future that found nothing, the future is registered if and only if it was before.
pub stays_registered : {T W : Type 0} (result : Result T TryRecvError) {before after : Log T W} {given got : List T}
    → ReceiverRan AsyncTryRecv before after (try_recv_reply result) given got → Polled (receiver_of before)
    → Polled (receiver_of after) → StaysRegistered result (receiver_of before) (receiver_of after)
stays_registered result {before} {after} {given} {got} ran begins rests empty =
    let was = is_registered (receiver_of before) in
    so_same was (is_registered (receiver_of after))
    (left AsyncTryRecv (keeping was) R.Empty
    (subst (λ reply. ReceiverRan AsyncTryRecv before after reply given got) (ap try_recv_reply empty) ran)
    (ap (λ nowhere. is_so was was || nowhere) (polled_somewhere begins) ∙ so_itself was) (polled_somewhere rests))

-- After a `try_recv`, which leaves the hand as it is, the hand is ready if it was before.
pub ready_still : {T W V : Type 0} {hand : Option V} {reply : Reply} {before after : Log T W} {given got : List T}
    → ReceiverRan TryRecv before after reply given got → Rests (receiver_of after)
    → IsReady hand (receiver_of before) → IsReady hand (receiver_of after)
ready_still {after = after} ran rests ready none =
    let over = stays_closed TryRecv ran (begins_closed _ (ready none)) (polled_somewhere (unpolled rests)) in
    over_closed (subst (λ reply. Leaves reply (receiver_of after)) over (leaves TryRecv ran refl rests))
