-- What is left of a script during its run: calls that leave the end in place, and perhaps a last one that ends it.
use Rattle.std.specs.Prelude.{Bool, true, false, ◌&&◌, ◌||◌, List, [], ◌∷◌, Option}
use Rattle.oneshot_machine.specs.declared.machine.receiver.ReceiverStart.TheVariants as RC
use Rattle.oneshot_world.specs.Scripts.{stays_sender, ends_sender, stays_error, ends_error, stays_receiver, ends_receiver, stays_async, ends_async}
use Rattle.oneshot_world.specs.Calls.{Call, Of_receiver, is_none_left}
use Rattle.oneshot_world.specs.declared.state.ReceiverState.TheVariants as RS
use Rattle.oneshot_world.specs.declared.state.ReceiverState.{ReceiverState}
use Rattle.oneshot_world.specs.declared.state.SenderState.TheVariants as SS
use Rattle.oneshot_world.specs.declared.state.SenderState.{SenderState}
use Rattle.oneshot_world.specs.declared.trace.Place.{Place}

-- What is left of a script is a script: calls that leave the end in place, and perhaps a last one that
-- ends it.
abbrev pub is_script : (Call → Bool) → (Call → Bool) → List Call → Bool
is_script stays ends [] = true
is_script stays ends (call ∷ calls) = (stays call && is_script stays ends calls) || (ends call && is_none_left calls)

abbrev pub is_sender_script : Option Place → List Call → Bool
is_sender_script message calls = is_script stays_sender (ends_sender message) calls

abbrev pub is_error_script : List Call → Bool
is_error_script calls = is_script stays_error ends_error calls

abbrev pub is_async_script : List Call → Bool
is_async_script calls = is_script stays_async ends_async calls

-- a receiver becomes a future at most once
abbrev pub is_receiver_script : List Call → Bool
is_receiver_script [] = true
is_receiver_script (Of_receiver RC.IntoFuture ∷ calls) = is_async_script calls
is_receiver_script (call ∷ calls) =
    (stays_receiver call && is_receiver_script calls) || (ends_receiver call && is_none_left calls)

abbrev pub has_script : Bool → List Call → Bool
has_script false calls = is_receiver_script calls
has_script true calls = is_async_script calls

-- while a call is under way, what is left is a script of the sender or of the error
abbrev pub sender_has : Option Place → SenderState → List Call → Bool
sender_has message SS.Ready calls = is_sender_script message calls
sender_has message (SS.At position) calls = is_sender_script message calls || is_error_script calls
sender_has message SS.Failed calls = is_error_script calls
sender_has message SS.Ended calls = is_none_left calls

abbrev pub receiver_has : ReceiverState → Bool → List Call → Bool
receiver_has RS.Ready future calls = has_script future calls
receiver_has (RS.At position) future calls = has_script future calls
receiver_has RS.Ended future calls = is_none_left calls
