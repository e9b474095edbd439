-- A turn does the same by classes: a step reads of a waker only whether it is the parker's half, and of a poll nothing.
use Rattle.oneshot_world.proofs.Names.{◌≡◌, Bool, true, false, Option, Some, None, refl, ap, if◌then◌else◌, option_map, option_and_then, receiver_step, receiver_row, Outcome, sender_step, sender_row}
use Rattle.oneshot_world.proofs.Names.{End, Sender, Receiver, Reply, Step, ReceiverPos, SenderPos, Call, Poll, as_sender_call, as_receiver_call, Classes, as_name, as_wakers, as_input, as_state}
use Rattle.oneshot_world.proofs.Names.{as_call, as_made, as_turned, Control, Begin, control_then, control_turn, sender_under_way, receiver_under_way, as_begin, as_control, as_control_turned, turns}
use Rattle.oneshot_world.proofs.Names.{sender_turns_at, receiver_turns_at, position_of_sender, position_of_receiver, sender_stepped, sender_moved, receiver_moved, receiver_stepped, made, made_entry}
use Rattle.oneshot_world.proofs.Names.{sender_fits, receiver_fits, hand_kept, seen_by, reply_of, is_future, sender_puts, receiver_puts, wakers_left, sets_token, own_of, ReceiverState, SenderState}
use Rattle.oneshot_world.proofs.Names.{State, Entry, Made, Place, Input, Wakers}
use Rattle.oneshot_machine.specs.declared.machine.Step.TheVariants as T
use Rattle.oneshot_machine.specs.declared.states.Op.TheVariants as O
use Rattle.oneshot_world.specs.declared.state.ReceiverState.TheVariants as RS
use Rattle.oneshot_world.specs.declared.state.SenderState.TheVariants as SS
use Rattle.oneshot_world.proofs.CommutesWakers.{some_as, none_as, copy_as, parker_as, wakers_as, waker_moved_as}

token_as : (k : Classes) (w : Wakers) (step : Step) → sets_token (as_wakers k w) step ≡ sets_token w step
token_as k w T.Wake = parker_as k w.taken
token_as k w _ = refl

own_as : (k : Classes) (t : Input) (step : Step) → own_of (as_input k t) step ≡ option_map k.polls (own_of t step)
own_as k t T.WakeOwn = refl
own_as k t _ = refl

seen_as : (k : Classes) (answer : Bool) (s : State) (step : Step)
    → seen_by answer (as_state k s) step ≡ seen_by answer s step
seen_as k answer s (T.Word (O.Store new)) = refl
seen_as k answer s (T.Word _) = refl
seen_as k answer s T.Park = refl
seen_as k answer s _ = refl

sender_fits_as : (k : Classes) (s : State) (step : Step) → sender_fits (as_state k s) step ≡ sender_fits s step
sender_fits_as k s T.TakeWaker = rw (some_as (as_name k) s.wakers.cell, none_as (as_name k) s.wakers.taken) refl
sender_fits_as k s T.Wake = some_as (as_name k) s.wakers.taken
sender_fits_as k s _ = refl

receiver_fits_as : (k : Classes) (s : State) (step : Step) → receiver_fits (as_state k s) step ≡ receiver_fits s step
receiver_fits_as k s T.WriteWaker = rw (some_as (as_name k) s.wakers.hand, none_as (as_name k) s.wakers.cell) refl
receiver_fits_as k s T.Withdraw =
    rw (some_as (as_name k) s.wakers.cell, copy_as k s.wakers.cell, none_as (as_name k) s.wakers.hand) refl
receiver_fits_as k s T.Copy = none_as (as_name k) s.wakers.hand
receiver_fits_as k s _ = refl

-- the entry, and the state after it
made_as : (k : Classes) (side : End) (t : Input) (s : State) (step : Step) (reply : Option Reply) (to : Option Place)
    → made side (as_input k t) (as_state k s) step reply to ≡ as_made k (made side t s step reply to)
made_as k side t s step reply to =
    rw (seen_as k t.answer s step, waker_moved_as k t s.word s.wakers step, token_as k s.wakers step, own_as k t step)
    refl

sender_moved_as : (k : Classes) (t : Input) (s : State) (step : Step) (row : Outcome SenderPos)
    → sender_moved (as_input k t) (as_state k s) step row ≡ as_state k (sender_moved t s step row)
sender_moved_as k t s step row = rw (wakers_as k t s.word s.wakers step) refl

kept_as : (k : Classes) (future : Bool) (w : Wakers)
    → hand_kept future (as_wakers k w) ≡ as_wakers k (hand_kept future w)
kept_as k true w = refl
kept_as k false w = refl

receiver_moved_as : (k : Classes) (t : Input) (s : State) (step : Step) (row : Outcome ReceiverPos)
    → receiver_moved (as_input k t) (as_state k s) step row ≡ as_state k (receiver_moved t s step row)
receiver_moved_as k t s step row =
    rw (wakers_as k t s.word s.wakers step, kept_as k (is_future (reply_of row)) (wakers_left t s.word s.wakers step))
    refl

abbrev as_stepped : Classes → Made × State → Made × State
as_stepped k stepped = (as_made k stepped.0, as_state k stepped.1)

-- a step by a row, if there is one and the step fits
by_row : {P : Type 0} (k : Classes) (fits gits : Bool) (f g : P → Made × State) (row rov : Option P) → gits ≡ fits
    → rov ≡ row → ((r : P) → g r ≡ as_stepped k (f r))
    → option_map made_entry (if gits then option_map g rov else None)
    ≡ option_map (as_turned k) (option_map made_entry (if fits then option_map f row else None))
by_row k true gits f g None rov fit same each = rw (fit, same) refl
by_row k true gits f g (Some r) rov fit same each =
    rw (fit, same) (ap (λ (t : Made × State). Some (made_entry t)) (each r))
by_row k false gits f g row rov fit same each = rw fit refl

sender_turns_as : (k : Classes) (t : Input) (s : State) (position : Option SenderPos)
    → sender_turns_at (as_input k t) (as_state k s) position ≡ option_map (as_turned k) (sender_turns_at t s position)
sender_turns_as k t s None = refl
sender_turns_as k t s (Some position) =
    by_row k (sender_fits s (sender_step position)) (sender_fits (as_state k s) (sender_step position))
    (sender_stepped t s (sender_step position)) (sender_stepped (as_input k t) (as_state k s) (sender_step position))
    (sender_row position (seen_by t.answer s (sender_step position)))
    (sender_row position (seen_by t.answer (as_state k s) (sender_step position)))
    (sender_fits_as k s (sender_step position))
    (ap (sender_row position) (seen_as k t.answer s (sender_step position)))
    (λ row. rw (
      made_as k Sender t s (sender_step position) (reply_of row)
          (sender_puts (sender_step position) (reply_of row)),
      sender_moved_as k t s (sender_step position) row,
    ) refl)

receiver_turns_as : (k : Classes) (t : Input) (s : State) (position : Option ReceiverPos)
    → receiver_turns_at (as_input k t) (as_state k s) position
    ≡ option_map (as_turned k) (receiver_turns_at t s position)
receiver_turns_as k t s None = refl
receiver_turns_as k t s (Some position) =
    by_row k (receiver_fits s (receiver_step position)) (receiver_fits (as_state k s) (receiver_step position))
    (receiver_stepped t s (receiver_step position))
    (receiver_stepped (as_input k t) (as_state k s) (receiver_step position))
    (receiver_row position (seen_by t.answer s (receiver_step position)))
    (receiver_row position (seen_by t.answer (as_state k s) (receiver_step position)))
    (receiver_fits_as k s (receiver_step position))
    (ap (receiver_row position) (seen_as k t.answer s (receiver_step position)))
    (λ row. rw (
      made_as k Receiver t s (receiver_step position) (reply_of row) (receiver_puts (receiver_step position)),
      receiver_moved_as k t s (receiver_step position) row,
    ) refl)

-- an end's position by classes is its position
pub sender_call_as : (k : Classes) (call : Option Call)
    → option_and_then as_sender_call (option_map (as_call k) call) ≡ option_and_then as_sender_call call
sender_call_as k None = refl
sender_call_as k (Some (Poll number)) = refl
sender_call_as k (Some _) = refl

pub receiver_call_as : (k : Classes) (call : Option Call)
    → option_and_then as_receiver_call (option_map (as_call k) call) ≡ option_and_then as_receiver_call call
receiver_call_as k None = refl
receiver_call_as k (Some (Poll number)) = refl
receiver_call_as k (Some _) = refl

-- A turn by classes is the turn, by those classes.
pub turns_as : (k : Classes) (side : End) (t : Input) (s : State) (call : Option Call)
    → turns side (as_input k t) (as_state k s) (option_map (as_call k) call)
    ≡ option_map (as_turned k) (turns side t s call)
turns_as k Sender t s call = rw (sender_call_as k call) (sender_turns_as k t s (position_of_sender s call))
turns_as k Receiver t s call = rw (receiver_call_as k call) (receiver_turns_as k t s (position_of_receiver s call))

-- and so is the control that it leads to
sender_under_way_as : (k : Classes) (s : SenderState) (call : Option Call)
    → sender_under_way s (option_map (as_call k) call) ≡ option_map (as_call k) (sender_under_way s call)
sender_under_way_as k SS.Ready call = refl
sender_under_way_as k (SS.At position) call = refl
sender_under_way_as k SS.Failed call = refl
sender_under_way_as k SS.Ended call = refl

receiver_under_way_as : (k : Classes) (s : ReceiverState) (call : Option Call)
    → receiver_under_way s (option_map (as_call k) call) ≡ option_map (as_call k) (receiver_under_way s call)
receiver_under_way_as k RS.Ready call = refl
receiver_under_way_as k (RS.At position) call = refl
receiver_under_way_as k RS.Ended call = refl

control_then_as : (k : Classes) (side : End) (call : Option Call) (c : Control) (s : State)
    → control_then side (option_map (as_call k) call) (as_control k c) (as_state k s)
    ≡ as_control k (control_then side call c s)
control_then_as k Sender call c s = rw (sender_under_way_as k s.sender call) refl
control_then_as k Receiver call c s = rw (receiver_under_way_as k s.receiver call) refl

leads_as : (k : Classes) (b : Begin) (c : Control) (turned turnt : Option (Entry × State))
    → turnt ≡ option_map (as_turned k) turned
    → option_map (λ turned. (turned.0, control_then b.side (option_map (as_call k) b.call) (as_control k c) turned.1))
    turnt ≡ option_map (as_control_turned k)
    (option_map (λ turned. (turned.0, control_then b.side b.call c turned.1)) turned)
leads_as k b c None turnt h = rw h refl
leads_as k b c (Some turned) turnt h = rw (h, control_then_as k b.side b.call c turned.1) refl

pub control_turn_as : (k : Classes) (c : Control) (b : Begin)
    → control_turn (as_control k c) (as_begin k b) ≡ option_map (as_control_turned k) (control_turn c b)
control_turn_as k c b = leads_as k b c (turns b.side b.input c.state b.call) _
    (turns_as k b.side b.input c.state b.call)
