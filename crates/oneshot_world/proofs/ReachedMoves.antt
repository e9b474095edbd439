-- Each move from a reached world has its row, and leads to a reached world.
use Rattle.oneshot_world.proofs.Names.{◌≡◌, ℕ, Bool, true, Option, Some, None, refl, sym, ◌∙◌, ap, subst, option_map, IsSome, receiver_step, receiver_row, Outcome, sender_step, sender_row, Sender}
use Rattle.oneshot_world.proofs.Names.{Receiver, Reply, ReceiverPos, SenderPos, Call, Poll, first, left_by, Classes, all_alike, as_call, control_of, as_begin, as_control, control_then, is_reached}
use Rattle.oneshot_world.proofs.Names.{IsReached, sender_steps, receiver_steps, sender_moved, sender_stepped, receiver_moved, receiver_stepped, sender_fits, receiver_fits, reply_of, sender_goes}
use Rattle.oneshot_world.proofs.Names.{receiver_goes, seen_by, World, no_input, receiver_input, ReceiverState, SenderState, State, Made, Input}
use Rattle.oneshot_machine.specs.declared.machine.Reply.TheVariants as Replies
use Rattle.oneshot_world.specs.declared.state.ReceiverState.TheVariants as RS
use Rattle.oneshot_world.specs.declared.state.SenderState.TheVariants as SS
use Rattle.oneshot_world.proofs.Bools.{and_left, and_right}
use Rattle.oneshot_world.proofs.ScriptsLeft.{sender_has_script, receiver_has_script}
use Rattle.oneshot_world.proofs.ReachedLeads.{left_as, sender_left_by_its_call, ends_right, receiver_left_by_its_call, leads_on, sender_at, receiver_at, sender_begin, receiver_begin, after_sender}
use Rattle.oneshot_world.proofs.ReachedLeads.{after_receiver, sender_leads, receiver_leads, made_if, from_row}
use Rattle.oneshot_world.proofs.ReachedLeft.{sender_world, receiver_world, sender_stays_reached, receiver_stays_reached}

-- the classes of calls stay or end as the calls do
left_as_class : (k : Classes) (s : SenderState) (call : Option Call)
    → left_as s (option_map (as_call k) call) ≡ left_as s call
unfolding left_as
left_as_class k s None = refl
left_as_class k SS.Ready (Some (Poll number)) = refl
left_as_class k (SS.At position) (Some (Poll number)) = refl
left_as_class k SS.Failed (Some (Poll number)) = refl
left_as_class k SS.Ended (Some (Poll number)) = refl
left_as_class k s (Some _) = refl

sender_left_class : (k : Classes) (reply : Option Reply) (s : SenderState) (call : Option Call)
    → sender_left_by_its_call reply s (option_map (as_call k) call) ≡ true → sender_left_by_its_call reply s call ≡ true
unfolding sender_left_by_its_call
sender_left_class k None s call h = refl
sender_left_class k (Some Replies.Refused) s call h = refl
sender_left_class k (Some _) s call h = sym (left_as_class k s call) ∙ h

receiver_left_class : (k : Classes) (reply : Option Reply) (s : ReceiverState) (call : Option Call)
    → receiver_left_by_its_call reply s (option_map (as_call k) call) ≡ true
    → receiver_left_by_its_call reply s call ≡ true
unfolding receiver_left_by_its_call ends_right
receiver_left_class k None s call h = refl
receiver_left_class k (Some reply) s None h = h
receiver_left_class k (Some reply) RS.Ready (Some (Poll number)) h = h
receiver_left_class k (Some reply) (RS.At position) (Some (Poll number)) h = h
receiver_left_class k (Some reply) RS.Ended (Some (Poll number)) h = h
receiver_left_class k (Some reply) s (Some _) h = h

-- an end's position in a reached world has a step, and the world after it is reached
pub sender_makes : (w : World) (position : SenderPos) → IsReached w → sender_at w ≡ Some position
    → IsSome (sender_steps no_input w.state position)
sender_makes w position h at =
    made_if (as_begin all_alike (sender_begin w)) (after_sender w) (sender_steps no_input w.state position)
    (sender_leads w position h at)

pub receiver_makes : (answer : Bool) (entry : ℕ) (w : World) (position : ReceiverPos) → IsReached w
    → receiver_at w ≡ Some position → IsSome (receiver_steps (receiver_input answer entry w) w.state position)
receiver_makes answer entry w position h at =
    made_if (as_begin all_alike (receiver_begin answer entry w)) (after_receiver w)
    (receiver_steps (receiver_input answer entry w) w.state position) (receiver_leads answer entry w position h at)

pub sender_row_reaches : (w : World) (position : SenderPos) (row : Outcome SenderPos) → IsReached w
    → sender_at w ≡ Some position → sender_steps no_input w.state position
    ≡ Some (sender_stepped no_input w.state (sender_step position) row)
    → IsReached (sender_world w (sender_step position) row)
unfolding leads_on
sender_row_reaches w position row h at steps =
    let leads = rw steps at (sender_leads w position h at) in
    sender_stays_reached w (sender_step position) row h
    (sender_has_script w.state.message w.state.sender _ position w.sender.calls at h.sender)
    (and_left _ (sender_left_by_its_call (reply_of row) (sender_goes (sender_step position) row)
    (option_map (as_call all_alike) (first w.sender.calls))) leads)
    (sender_left_class all_alike (reply_of row) (sender_goes (sender_step position) row) (first w.sender.calls)
    (and_right (is_reached
    (as_control all_alike (control_then Sender (first w.sender.calls) (control_of w)
    (sender_moved no_input w.state (sender_step position) row)))) _ leads))

pub receiver_row_reaches : (answer : Bool) (entry : ℕ) (w : World) (position : ReceiverPos) (row : Outcome ReceiverPos)
    → IsReached w → receiver_at w ≡ Some position → receiver_steps (receiver_input answer entry w) w.state position
    ≡ Some (receiver_stepped (receiver_input answer entry w) w.state (receiver_step position) row)
    → IsReached (receiver_world (receiver_input answer entry w) w (receiver_step position) row)
unfolding leads_on
receiver_row_reaches answer entry w position row h at steps =
    let leads = rw steps at (receiver_leads answer entry w position h at) in
    receiver_stays_reached (receiver_input answer entry w) w (receiver_step position) row h
    (receiver_has_script w.state.receiver w.state.future _ position w.receiver.calls at h.receiver)
    (and_left _ (receiver_left_by_its_call (reply_of row) (receiver_goes (receiver_step position) row)
    (option_map (as_call all_alike) (first w.receiver.calls))) leads)
    (receiver_left_class all_alike (reply_of row) (receiver_goes (receiver_step position) row) (first w.receiver.calls)
    (and_right (is_reached
    (as_control all_alike (control_then Receiver (first w.receiver.calls) (control_of w)
    (receiver_moved (receiver_input answer entry w) w.state (receiver_step position) row)))) _ leads))

-- a step that is made is made by a row
pub sender_made_by : (t : Input) (s : State) (position : SenderPos) (x : Made × State)
    → sender_steps t s position ≡ Some x
    → (row : Outcome SenderPos) × (sender_stepped t s (sender_step position) row ≡ x)
sender_made_by t s position x h =
    from_row (sender_fits s (sender_step position)) (sender_stepped t s (sender_step position))
    (sender_row position (seen_by t.answer s (sender_step position))) x h

pub receiver_made_by : (t : Input) (s : State) (position : ReceiverPos) (x : Made × State)
    → receiver_steps t s position ≡ Some x
    → (row : Outcome ReceiverPos) × (receiver_stepped t s (receiver_step position) row ≡ x)
receiver_made_by t s position x h =
    from_row (receiver_fits s (receiver_step position)) (receiver_stepped t s (receiver_step position))
    (receiver_row position (seen_by t.answer s (receiver_step position))) x h

pub sender_reaches : (w : World) (position : SenderPos) (e : Made) (s : State) → IsReached w
    → sender_at w ≡ Some position → sender_steps no_input w.state position ≡ Some (e, s)
    → IsReached (record { state = s; sender = left_by Sender e.reply w.sender; receiver = w.receiver })
sender_reaches w position e s h at steps =
    let made = sender_made_by no_input w.state position (e, s) steps in
    let same : sender_stepped no_input w.state (sender_step position) made.0 ≡ (e, s) = made.1 in
    subst (λ (t : Made × State). IsReached
    (record { state = t.1; sender = left_by Sender t.0.reply w.sender; receiver = w.receiver })) same
    (sender_row_reaches w position made.0 h at (steps ∙ ap (λ (t : Made × State). Some t) (sym same)))

pub receiver_reaches : (answer : Bool) (entry : ℕ) (w : World) (position : ReceiverPos) (e : Made) (s : State)
    → IsReached w → receiver_at w ≡ Some position
    → receiver_steps (receiver_input answer entry w) w.state position ≡ Some (e, s)
    → IsReached (record { state = s; sender = w.sender; receiver = left_by Receiver e.reply w.receiver })
receiver_reaches answer entry w position e s h at steps =
    let made = receiver_made_by (receiver_input answer entry w) w.state position (e, s) steps in
    let same : receiver_stepped (receiver_input answer entry w) w.state (receiver_step position) made.0 ≡ (e, s) =
    made.1 in
    subst (λ (t : Made × State). IsReached
    (record { state = t.1; sender = w.sender; receiver = left_by Receiver t.0.reply w.receiver })) same
    (receiver_row_reaches answer entry w position made.0 h at (steps ∙ ap (λ (t : Made × State). Some t) (sym same)))
