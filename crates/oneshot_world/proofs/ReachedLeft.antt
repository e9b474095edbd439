-- After a step by a row, a run can have left what the world has left.
use Rattle.oneshot_world.proofs.Names.{◌≡◌, ◌==◌, Bool, true, false, List, [], ◌∷◌, Option, Some, None, refl, sym, ap, subst, ◌||◌, if◌then◌else◌, Outcome, Goes, Answers, Sender, Receiver, Reply}
use Rattle.oneshot_world.proofs.Names.{Step, ReceiverPos, SenderPos, Call, Unanswered, first, rest, is_none_left, left_by, all_alike, Control, control_of, as_control, sender_under_way}
use Rattle.oneshot_world.proofs.Names.{receiver_under_way, control_then, is_reached, IsReached, bool_code, is_sender_script, is_error_script, has_script, sender_has, receiver_has, sender_moved}
use Rattle.oneshot_world.proofs.Names.{receiver_moved, place_left, reply_of, sender_goes, receiver_goes, is_plain, is_free, is_future, sender_puts, receiver_puts, World, no_input, ReceiverState}
use Rattle.oneshot_world.proofs.Names.{State, Place, Input}
use Rattle.oneshot_machine.specs.declared.machine.Reply.TheVariants as Replies
use Rattle.oneshot_world.specs.declared.state.ReceiverState.TheVariants as RS
use Rattle.oneshot_world.specs.declared.state.SenderState.TheVariants as SS
use Rattle.oneshot_world.proofs.Bools.{and_left, and_right}
use Rattle.oneshot_world.proofs.ControlCodes.{bool_is}
use Rattle.oneshot_world.proofs.ScriptsLeft.{either_stays, script_stays, sender_still_has, sender_goes_on, error_goes_on, sender_ends, becomes_future, receiver_goes_on, receiver_ends}
use Rattle.oneshot_world.proofs.ReachedLeads.{left_as, sender_left_by_its_call, ends_right, receiver_left_by_its_call}

-- the world after a step by a row
abbrev pub sender_world : World → Step → Outcome SenderPos → World
sender_world w step row =
    record {
      state = sender_moved no_input w.state step row;
      sender = left_by Sender (reply_of row) w.sender;
      receiver = w.receiver;
    }

abbrev pub receiver_world : Input → World → Step → Outcome ReceiverPos → World
receiver_world t w step row =
    record {
      state = receiver_moved t w.state step row;
      sender = w.sender;
      receiver = left_by Receiver (reply_of row) w.receiver;
    }

-- once a call has replied, none is under way
sender_idles : (step : Step) (reply : Reply) (a b : Option Call)
    → sender_under_way (sender_goes step (Answers reply)) a ≡ sender_under_way (sender_goes step (Answers reply)) b
sender_idles step Replies.Message a b =
    elim (is_plain step) as (λ p. sender_under_way (if p then SS.Failed else SS.Ended) a ≡ sender_under_way
    (if p then SS.Failed else SS.Ended) b) [ true ↦ refl | false ↦ refl ]
sender_idles step Replies.Yes a b = refl
sender_idles step Replies.No a b = refl
sender_idles step Replies.Refused a b = refl
sender_idles step _ a b = refl

receiver_idles : (step : Step) (reply : Reply) (a b : Option Call)
    → receiver_under_way (receiver_goes step (Answers reply)) a
    ≡ receiver_under_way (receiver_goes step (Answers reply)) b
receiver_idles step Replies.Done a b = refl
receiver_idles step _ a b =
    elim (is_free step) as (λ p. receiver_under_way (if p then RS.Ended else RS.Ready) a ≡ receiver_under_way
    (if p then RS.Ended else RS.Ready) b) [ true ↦ refl | false ↦ refl ]

control_by : State → Option Call → Option Call → Control
control_by state sender receiver = record { state = state; sender = sender; receiver = receiver }

-- the control of that world is the one that the step leads to
pub sender_control_is : (w : World) (step : Step) (row : Outcome SenderPos)
    → control_then Sender (first w.sender.calls) (control_of w) (sender_moved no_input w.state step row)
    ≡ control_of (sender_world w step row)
unfolding control_by
sender_control_is w step (Goes next) = refl
sender_control_is w step (Answers reply) =
    ap (λ call. control_by (sender_moved no_input w.state step (Answers reply)) call (control_of w).receiver)
    (sender_idles step reply (first w.sender.calls) (first (left_by Sender (Some reply) w.sender).calls))

pub receiver_control_is : (t : Input) (w : World) (step : Step) (row : Outcome ReceiverPos)
    → control_then Receiver (first w.receiver.calls) (control_of w) (receiver_moved t w.state step row)
    ≡ control_of (receiver_world t w step row)
unfolding control_by
receiver_control_is t w step (Goes next) = refl
receiver_control_is t w step (Answers reply) =
    ap (λ call. control_by (receiver_moved t w.state step (Answers reply)) (control_of w).sender call)
    (receiver_idles step reply (first w.receiver.calls) (first (left_by Receiver (Some reply) w.receiver).calls))

-- the calls left after a reply to the sender or its error
ready_left : (from to : Option Place) (calls : List Call)
    → (is_sender_script from calls || is_error_script calls) ≡ true → left_as SS.Ready (first calls) ≡ true
    → is_sender_script (place_left from to) (rest calls) ≡ true
unfolding left_as
ready_left from to [] h by = cc
ready_left from to (call ∷ calls) h by = script_stays from to calls (sender_goes_on from calls call by h)

failed_left : (message : Option Place) (calls : List Call)
    → (is_sender_script message calls || is_error_script calls) ≡ true → left_as SS.Failed (first calls) ≡ true
    → is_error_script (rest calls) ≡ true
unfolding left_as
failed_left message [] h by = cc
failed_left message (call ∷ calls) h by = error_goes_on message calls call by h

ended_left : (message : Option Place) (calls : List Call)
    → (is_sender_script message calls || is_error_script calls) ≡ true → left_as SS.Ended (first calls) ≡ true
    → is_none_left (rest calls) ≡ true
unfolding left_as
ended_left message [] h by = cc
ended_left message (call ∷ calls) h by = sender_ends message calls call by h

abbrev has_left : World → Step → Outcome SenderPos → Type 0
has_left w step row =
    sender_has (place_left w.state.message (sender_puts step (reply_of row))) (sender_goes step row)
    (left_by Sender (reply_of row) w.sender).calls ≡ true

shown_left : (w : World) (step : Step)
    → (is_sender_script w.state.message w.sender.calls || is_error_script w.sender.calls) ≡ true
    → left_as (sender_goes step (Answers Replies.Message)) (first w.sender.calls) ≡ true
    → has_left w step (Answers Replies.Message)
shown_left w step script by =
    elim (is_plain step) as (λ b. left_as (if b then SS.Failed else SS.Ended) (first w.sender.calls) ≡ true → sender_has
    (place_left w.state.message (sender_puts step (Some Replies.Message))) (if b then SS.Failed else SS.Ended)
    (rest w.sender.calls) ≡ true) [
      | true ↦ λ by. failed_left w.state.message w.sender.calls script by
      | false ↦ λ by. ended_left w.state.message w.sender.calls script by
    ] by

sender_left : (w : World) (step : Step) (row : Outcome SenderPos) → is_error_script w.sender.error ≡ true
    → (is_sender_script w.state.message w.sender.calls || is_error_script w.sender.calls) ≡ true
    → sender_left_by_its_call (reply_of row) (sender_goes step row) (first w.sender.calls) ≡ true → has_left w step row
unfolding sender_left_by_its_call
sender_left w step (Goes next) error script by =
    either_stays w.state.message (sender_puts step None) w.sender.calls script
sender_left w step (Answers Replies.Refused) error script by = error
sender_left w step (Answers Replies.Yes) error script by =
    ready_left w.state.message (sender_puts step (Some Replies.Yes)) w.sender.calls script by
sender_left w step (Answers Replies.No) error script by =
    ready_left w.state.message (sender_puts step (Some Replies.No)) w.sender.calls script by
sender_left w step (Answers Replies.Message) error script by = shown_left w step script by
sender_left w step (Answers _) error script by = ended_left w.state.message w.sender.calls script by

same_error : (reply : Option Reply) (left : Unanswered) → (left_by Sender reply left).error ≡ left.error
same_error None left = refl
same_error (Some Replies.Refused) left = refl
same_error (Some _) left = refl

pub sender_stays_reached : (w : World) (step : Step) (row : Outcome SenderPos) → IsReached w
    → (is_sender_script w.state.message w.sender.calls || is_error_script w.sender.calls) ≡ true
    → is_reached (as_control all_alike
    (control_then Sender (first w.sender.calls) (control_of w) (sender_moved no_input w.state step row))) ≡ true
    → sender_left_by_its_call (reply_of row) (sender_goes step row) (first w.sender.calls) ≡ true
    → IsReached (sender_world w step row)
sender_stays_reached w step row h script on by =
    record {
      control = subst (λ c. is_reached (as_control all_alike c) ≡ true) (sender_control_is w step row) on;
      sender = sender_left w step row h.error script by;
      error = rw (same_error (reply_of row) w.sender) h.error;
      receiver = h.receiver;
    }

receiver_none_left : (future : Bool) (calls : List Call) → has_script future calls ≡ true
    → ends_right RS.Ended (first calls) ≡ true → is_none_left (rest calls) ≡ true
unfolding ends_right
receiver_none_left future [] h by = cc
receiver_none_left future (call ∷ calls) h by = receiver_ends future calls call by h

receiver_left : (reply : Reply) (s : ReceiverState) (future : Bool) (calls : List Call) → has_script future calls ≡ true
    → receiver_left_by_its_call (Some reply) s (first calls) ≡ true
    → receiver_has s (future || is_future (Some reply)) (rest calls) ≡ true
unfolding receiver_left_by_its_call ends_right
receiver_left reply RS.Ready future calls h by =
    subst (λ f. has_script (future || f) (rest calls) ≡ true)
    (bool_is (becomes_future (first calls)) (is_future (Some reply)) (and_left _ true by))
    (receiver_goes_on future calls h)
receiver_left reply (RS.At position) future calls h by =
    absurd (cc (and_right (bool_code (becomes_future (first calls)) == bool_code (is_future (Some reply))) false by))
receiver_left reply RS.Ended future calls h by =
    receiver_none_left future calls h
    (and_right (bool_code (becomes_future (first calls)) == bool_code (is_future (Some reply)))
    (ends_right RS.Ended (first calls)) by)

or_none : (b : Bool) → (b || false) ≡ b
or_none true = refl
or_none false = refl

receiver_row_left : (w : World) (step : Step) (row : Outcome ReceiverPos)
    → has_script w.state.future w.receiver.calls ≡ true
    → receiver_left_by_its_call (reply_of row) (receiver_goes step row) (first w.receiver.calls) ≡ true
    → receiver_has (receiver_goes step row) (w.state.future || is_future (reply_of row))
    (left_by Receiver (reply_of row) w.receiver).calls ≡ true
receiver_row_left w step (Goes next) script by =
    subst (λ f. has_script f w.receiver.calls ≡ true) (sym (or_none w.state.future)) script
receiver_row_left w step (Answers reply) script by =
    receiver_left reply (receiver_goes step (Answers reply)) w.state.future w.receiver.calls script by

pub receiver_stays_reached : (t : Input) (w : World) (step : Step) (row : Outcome ReceiverPos) → IsReached w
    → has_script w.state.future w.receiver.calls ≡ true → is_reached (as_control all_alike
    (control_then Receiver (first w.receiver.calls) (control_of w) (receiver_moved t w.state step row))) ≡ true
    → receiver_left_by_its_call (reply_of row) (receiver_goes step row) (first w.receiver.calls) ≡ true
    → IsReached (receiver_world t w step row)
receiver_stays_reached t w step row h script on by =
    record {
      control = subst (λ c. is_reached (as_control all_alike c) ≡ true) (receiver_control_is t w step row) on;
      sender = sender_still_has w.state.message (receiver_puts step) w.state.sender w.sender.calls h.sender;
      error = h.error;
      receiver = receiver_row_left w step row script by;
    }
