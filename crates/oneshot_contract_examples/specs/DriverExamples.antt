-- Examples and counterexamples of ends between calls, of what calls leave and reply, of hands, grounds and wakers.
use Rattle.std.specs.Prelude.{◌≡◌, ⊤, ℕ, Bool, true, false, List, [], ◌∷◌, Some, None, Ok, Err}
use Rattle.futures.specs.declared.task.Poll.TheVariants.{Ready, Pending}
use Rattle.oneshot_errors.specs.declared.recv.RecvError.{RecvError}
use Rattle.oneshot_errors.specs.declared.recv_timeout.RecvTimeoutError.TheVariants as Timed
use Rattle.oneshot_errors.specs.declared.try_recv.TryRecvError.TheVariants as E
use Rattle.oneshot_machine.specs.declared.machine.Reply.TheVariants as R
use Rattle.oneshot_machine.specs.declared.machine.Step.TheVariants.{WriteWaker, Withdraw, WakeOwn}
use Rattle.oneshot_machine.specs.declared.states.Op.TheVariants.{Load, Swap, Exchange, Add}
use Rattle.oneshot_machine.specs.declared.states.TheConstants.{RECEIVING, DISCONNECTED, EMPTY, MESSAGE}
use Rattle.oneshot_machine.specs.Logs.{Event, Log, did, handed, copied, worded}
use Rattle.oneshot_machine.specs.Phases.{By, sending, dropping, finished, overtaken, Closing, closed_itself, found_closed, Got, Open, after_load, after_timeout, Swapping, polled, again}
use Rattle.oneshot_machine.specs.Phases.{blocked, Waiting, untouched, idle, waits, claimed, withdrew, overdue, full, overwritten, disconnected, resolved, gone, ended}
use Rattle.oneshot_machine.specs.Slots.{Held, away, vacant, held}
use Rattle.oneshot_drive.specs.BetweenCalls.{IsFresh, IsError, LastLeaves, Rests, AtRest, IsClosedAt, IsOpenAt, Leaves, IsReady}
use Rattle.oneshot_drive.specs.BetweenCalls.{send_reply, try_recv_reply, recv_reply, timed_reply, received}
use Rattle.oneshot_drive.specs.Blocking.{Parks}
use Rattle.oneshot_drive.specs.Grounds.{GroundState, SenderAsks, SenderMakes, ReceiverAsks, ReceiverMakes}
use Rattle.oneshot_drive.specs.Polls.{Polled, IsPolled, LeavesPolled, LeavesTask, LeavesTried, StaysRegistered, IsDisconnected, WritesItsCopy, HandsNoWaker, poll_reply, poll_received}

-- a message
abbrev pub message : ℕ
message = 7

-- OPEN AND CLOSED
pub record PhasesThatAre : Type 0 where
  pub new_is_open : IsOpenAt untouched
  pub loaded_is_open : (o : Open) → IsOpenAt (idle o)
  pub registered_is_open : (w : Waiting) → IsOpenAt (waits w)
  pub claimed_is_open : IsOpenAt claimed
  pub disconnected_is_closed : (c : Closing) → IsClosedAt (disconnected c)
  pub resolved_is_closed : (c : Closing) → IsClosedAt (resolved c)
  -- between two calls: of a receiver, and of a future
  pub new_rests : Rests untouched
  pub loaded_rests : Rests (idle after_load)
  pub ran_out_rests : Rests (idle after_timeout)
  pub received_rests : Rests (disconnected closed_itself)
  pub new_is_polled : Polled untouched
  pub registered_is_polled : Polled (waits polled)
  pub kept_is_polled : Polled (waits again)
  pub claimed_is_polled : Polled claimed
  pub resolved_is_polled : Polled (resolved found_closed)
  -- how a sender's last operation leaves it
  pub last_finished_it : (by : By) → LastLeaves by true (finished by)
  pub last_came_too_late : (by : By) → LastLeaves by false (overtaken by)

pub record PhasesThatAreNot : Type 0 where
  pub disconnected_is_open : (c : Closing) → IsOpenAt (disconnected c) → ⊥
  pub resolved_is_open : (c : Closing) → IsOpenAt (resolved c) → ⊥
  pub full_is_open : (g : Got) → IsOpenAt (full g) → ⊥
  pub gone_is_open : IsOpenAt gone → ⊥
  pub ended_is_open : IsOpenAt ended → ⊥
  pub overdue_is_open : IsOpenAt overdue → ⊥
  pub withdrawn_is_open : IsOpenAt withdrew → ⊥
  pub overwritten_is_open : (s : Swapping) → IsOpenAt (overwritten s) → ⊥
  pub new_is_closed : IsClosedAt untouched → ⊥
  pub loaded_is_closed : (o : Open) → IsClosedAt (idle o) → ⊥
  pub registered_is_closed : (w : Waiting) → IsClosedAt (waits w) → ⊥
  pub claimed_is_closed : IsClosedAt claimed → ⊥
  pub full_is_closed : (g : Got) → IsClosedAt (full g) → ⊥
  pub overdue_is_closed : IsClosedAt overdue → ⊥
  pub withdrawn_is_closed : IsClosedAt withdrew → ⊥
  pub overwritten_is_closed : (s : Swapping) → IsClosedAt (overwritten s) → ⊥
  pub gone_is_closed : IsClosedAt gone → ⊥
  pub ended_is_closed : IsClosedAt ended → ⊥
  -- during a call
  pub waiting_rests : (w : Waiting) → Rests (waits w) → ⊥
  pub overdue_rests : Rests overdue → ⊥
  pub full_rests : (g : Got) → Rests (full g) → ⊥
  pub overwritten_rests : (s : Swapping) → Rests (overwritten s) → ⊥
  -- a future between calls is in no call that blocks, and its copy is not taken back
  pub blocked_is_polled : Polled (waits blocked) → ⊥
  pub withdrawn_is_polled : Polled withdrew → ⊥
  pub last_is_hidden : (by : By) → LastLeaves by true (overtaken by) → ⊥
  pub last_finished_too_late : (by : By) → LastLeaves by false (finished by) → ⊥
  pub last_is_of_the_other_call : LastLeaves sending true (finished dropping) → ⊥

-- WHAT A CALL LEAVES
pub record CallsThatLeave : Type 0 where
  pub takes : Leaves R.Message (disconnected closed_itself)
  pub finds_nothing : Leaves R.Empty (idle after_load)
  pub finds_no_sender : (c : Closing) → Leaves R.Disconnected (disconnected c)
  pub runs_out : Leaves R.Timeout (idle after_timeout)
  pub polls_it : LeavesPolled R.Message (resolved closed_itself)
  pub polls_over_nobody : LeavesPolled R.Disconnected (resolved found_closed)
  pub polls_too_early : LeavesPolled R.Pending (waits polled)
  pub tries_it : LeavesTried R.Message (resolved closed_itself)
  pub tries_too_early : LeavesTried R.Empty (waits again)
  pub leaves_its_copy : LeavesTask (waits polled) ⊤ ⊥
  pub woke_its_task : LeavesTask claimed ⊥ ⊤
  pub stays_registered : StaysRegistered {T = ℕ} (Err E.Empty) (waits polled) (waits again)
  pub finds_its_sender : StaysRegistered {T = ℕ} (Err E.Empty) (waits again) claimed
  pub stays_unregistered : StaysRegistered {T = ℕ} (Err E.Empty) untouched (idle after_load)

pub record CallsThatDoNot : Type 0 where
  pub takes_and_is_open : (o : Open) → Leaves R.Message (idle o) → ⊥
  pub takes_what_another_closed : Leaves R.Message (disconnected found_closed) → ⊥
  pub finds_nothing_and_closes : (c : Closing) → Leaves R.Empty (disconnected c) → ⊥
  pub finds_no_sender_and_is_open : (o : Open) → Leaves R.Disconnected (idle o) → ⊥
  pub runs_out_and_closes : (c : Closing) → Leaves R.Timeout (disconnected c) → ⊥
  pub runs_out_while_it_waits : (w : Waiting) → Leaves R.Timeout (waits w) → ⊥
  pub polls_it_and_waits : (w : Waiting) → LeavesPolled R.Message (waits w) → ⊥
  pub polls_over_nobody_and_waits : (w : Waiting) → LeavesPolled R.Disconnected (waits w) → ⊥
  pub pends_and_never_loaded : LeavesPolled R.Pending untouched → ⊥
  pub pends_and_is_closed : (c : Closing) → LeavesPolled R.Pending (resolved c) → ⊥
  pub pends_with_the_message : (g : Got) → LeavesPolled R.Pending (full g) → ⊥
  pub tries_it_and_waits : (w : Waiting) → LeavesTried R.Message (waits w) → ⊥
  pub finds_nothing_and_resolves : (c : Closing) → LeavesTried R.Empty (resolved c) → ⊥
  pub tries_and_has_polled : LeavesTried R.Empty (waits polled) → ⊥
  pub leaves_no_copy : LeavesTask (idle after_load) ⊤ ⊥ → ⊥
  pub leaves_an_older_copy : LeavesTask (waits again) ⊤ ⊥ → ⊥
  pub leaves_anothers_copy : LeavesTask (waits polled) ⊥ ⊥ → ⊥
  pub takes_its_copy_back : StaysRegistered {T = ℕ} (Err E.Empty) (waits polled) (idle after_load) → ⊥
  pub registers_unasked : StaysRegistered {T = ℕ} (Err E.Empty) (idle after_load) (waits polled) → ⊥

-- THE REPLIES
pub record RepliesThatAre : Type 0 where
  pub was_sent : send_reply true ≡ R.Sent
  pub was_refused : send_reply false ≡ R.Refused
  pub tried : try_recv_reply (Ok message) ≡ R.Message
  pub tried_in_vain : try_recv_reply {T = ℕ} (Err E.Empty) ≡ R.Empty
  pub tried_over_nobody : try_recv_reply {T = ℕ} (Err E.Disconnected) ≡ R.Disconnected
  pub blocked_for : recv_reply (Ok message) ≡ R.Message
  pub blocked_in_vain : (e : RecvError) → recv_reply {T = ℕ} (Err e) ≡ R.Disconnected
  pub in_time : timed_reply (Ok message) ≡ R.Message
  pub too_late : timed_reply {T = ℕ} (Err Timed.Timeout) ≡ R.Timeout
  pub over_nobody : timed_reply {T = ℕ} (Err Timed.Disconnected) ≡ R.Disconnected
  pub ready : poll_reply (Ready (Ok message)) ≡ R.Message
  pub ready_in_vain : (e : RecvError) → poll_reply {T = ℕ} (Ready (Err e)) ≡ R.Disconnected
  pub pending : poll_reply {T = ℕ} Pending ≡ R.Pending
  pub gives_it : received {E = RecvError} (Ok message) ≡ message ∷ []
  pub gives_none : (e : RecvError) → received {T = ℕ} (Err e) ≡ []
  pub polls_it : poll_received (Ready (Ok message)) ≡ message ∷ []
  pub polls_none : poll_received {T = ℕ} Pending ≡ []
  pub is_over : (e : RecvError) → IsDisconnected {T = ℕ} (Ready (Err e))
  pub is_not_over : IsDisconnected {T = ℕ} Pending → ⊥
  pub has_it : IsDisconnected (Ready (Ok message)) → ⊥

-- THE HAND
pub record HandsThatAre : Type 0 where
  pub ready : IsReady (Some true) (idle after_load)
  pub closed_without : (c : Closing) → IsReady {W = Bool} None (disconnected c)

pub record HandsThatAreNot : Type 0 where
  pub open_without : (o : Open) → IsReady {W = Bool} None (idle o) → ⊥

-- GROUNDS, whole ones: their steps, the message's slot and the waker's
abbrev pub log_of : List (Event ℕ ℕ) → Log ℕ ℕ
log_of list = record { whole = true; channel = []; list = list }

abbrev pub ground : List (Event ℕ ℕ) → Held ℕ → Held ℕ → GroundState ℕ ℕ
ground list message waker = record { log = log_of list; message = message; waker = waker }

-- a future whose poll stored the copy 5
abbrev pub registering : List (Event ℕ ℕ)
registering = worded Load EMPTY ∷ copied (Some 5) ∷ handed WriteWaker 5 ∷ worded (Exchange EMPTY RECEIVING) EMPTY ∷ []

pub record GroundsThatAre : Type 0 where
  pub fresh_sender : IsFresh (ground [] vacant away)
  pub refused : IsError (held 7) (ground (worded Add DISCONNECTED ∷ []) (held 7) vacant)
  pub new_receiver : AtRest (ground [] away away)
  pub has_loaded : AtRest (ground (worded Load EMPTY ∷ []) away vacant)
  pub found_closed_word : AtRest (ground (worded Load DISCONNECTED ∷ []) vacant vacant)
  pub has_registered : IsPolled (ground registering away away)
  -- which operations they may perform, and what these find
  pub asks_to_add : SenderAsks Add (ground [] (held 7) away)
  pub adds : SenderMakes Add EMPTY (ground [] (held 7) away) (ground (worded Add EMPTY ∷ []) away away)
  pub asks_to_load : ReceiverAsks Load (ground [] away away)
  pub finds_it : ReceiverMakes Load MESSAGE (ground [] away away) (ground (worded Load MESSAGE ∷ []) (held 7) vacant)
  pub parks_until : Parks true (waits blocked)
  pub parks_on : Parks false overdue

pub record GroundsThatAreNot : Type 0 where
  pub has_sent : IsFresh (ground (worded Add EMPTY ∷ []) away away) → ⊥
  pub holds_a_message : IsFresh (ground [] (held 7) away) → ⊥
  pub lost_its_message : IsError (held 7) (ground (worded Add DISCONNECTED ∷ []) vacant vacant) → ⊥
  pub another_message : IsError (held 7) (ground (worded Add DISCONNECTED ∷ []) (held 8) vacant) → ⊥
  pub has_the_message : AtRest (ground (worded Load MESSAGE ∷ []) (held 7) vacant) → ⊥
  pub lost_its_slot : AtRest (ground (worded Load EMPTY ∷ []) away away) → ⊥
  pub blocks_in_a_poll : AtRest (ground registering away away) → ⊥
  pub adds_without_a_message : SenderAsks Add (ground [] vacant away) → ⊥
  pub adds_and_keeps_it :
      SenderMakes Add EMPTY (ground [] (held 7) away) (ground (worded Add EMPTY ∷ []) (held 7) away) → ⊥
  pub waits_without_a_waker : ReceiverAsks (Swap RECEIVING) (ground (worded Load EMPTY ∷ []) away vacant) → ⊥
  pub finds_none_in_4 :
      ReceiverMakes Load MESSAGE (ground [] away away) (ground (worded Load MESSAGE ∷ []) vacant vacant) → ⊥
  pub parks_open : (o : Open) → Parks false (idle o) → ⊥
  pub parks_until_what_is_over : Parks true overdue → ⊥

-- WAKERS, by whole logs
pub record WakersThatAre : Type 0 where
  pub its_own_copy : WritesItsCopy (log_of []) (log_of registering)
  pub a_later_copy : WritesItsCopy (log_of [])
      (log_of (copied (Some 5) ∷ copied (Some 6) ∷ handed WriteWaker 6 ∷ []))
  pub no_copy : WritesItsCopy (log_of []) (log_of (copied None ∷ did WakeOwn ∷ []))
  pub loads_alone : HandsNoWaker (log_of []) (log_of (worded Load EMPTY ∷ []))

pub record WakersThatAreNot : Type 0 where
  pub another_copy : WritesItsCopy (log_of []) (log_of (copied (Some 5) ∷ handed WriteWaker 6 ∷ [])) → ⊥
  pub the_old_copy : WritesItsCopy (log_of []) (log_of (handed Withdraw 5 ∷ handed WriteWaker 5 ∷ [])) → ⊥
  pub a_refused_copy : WritesItsCopy (log_of []) (log_of (copied None ∷ handed WriteWaker 5 ∷ [])) → ⊥
  pub takes_it_back : HandsNoWaker (log_of []) (log_of (handed Withdraw 5 ∷ [])) → ⊥
  pub writes_one : HandsNoWaker (log_of []) (log_of (handed WriteWaker 5 ∷ [])) → ⊥
  pub copies_one : HandsNoWaker (log_of []) (log_of (copied (Some 5) ∷ [])) → ⊥
