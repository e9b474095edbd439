-- What is left of a script is a script, call by call.
use Rattle.oneshot_world.proofs.Names.{◌≡◌, ℕ, suc, zero, Bool, true, false, List, [], ◌∷◌, ◌++◌, replicate, Option, Some, None, refl, ◌||◌, ◌&&◌, is_some, ReceiverPos, ReceiverStart, SenderCall}
use Rattle.oneshot_world.proofs.Names.{SenderPos, Call, Of_sender, Of_receiver, first, rest, is_none_left, sender_last, error_last, receiver_calls, async_calls, is_script, is_sender_script}
use Rattle.oneshot_world.proofs.Names.{is_error_script, is_receiver_script, is_async_script, has_script, sender_has, receiver_has, stays_sender, ends_sender, stays_error, ends_error, ends_receiver}
use Rattle.oneshot_world.proofs.Names.{ends_async, makes_future, begins_receiver, stays_receiver, stays_async, sender_position, receiver_position, place_left, opening_place, AsyncCall, AsyncLast}
use Rattle.oneshot_world.proofs.Names.{ErrorLast, ReceiverCall, ReceiverLast, SenderLast, ReceiverState, SenderState, Place, NotSent}
use Rattle.oneshot_machine.specs.declared.machine.receiver.ReceiverStart.TheVariants as RC
use Rattle.oneshot_machine.specs.declared.machine.sender.SenderCall.TheVariants as SC
use Rattle.oneshot_world.specs.declared.script.AsyncCall.TheVariants as AC
use Rattle.oneshot_world.specs.declared.script.AsyncLast.TheVariants as AL
use Rattle.oneshot_world.specs.declared.script.ErrorLast.TheVariants as EL
use Rattle.oneshot_world.specs.declared.script.ReceiverCall.TheVariants as Script
use Rattle.oneshot_world.specs.declared.script.ReceiverLast.TheVariants as RL
use Rattle.oneshot_world.specs.declared.script.SenderLast.TheVariants as SL
use Rattle.oneshot_world.specs.declared.state.ReceiverState.TheVariants as RS
use Rattle.oneshot_world.specs.declared.state.SenderState.TheVariants as SS

left_of_or : (a : Bool) → (a || false) ≡ true → a ≡ true
left_of_or true h = refl
left_of_or false h = h

pub or_left : (a b : Bool) → a ≡ true → (a || b) ≡ true
or_left true b h = refl
or_left false b h = cc

pub or_right : (a b : Bool) → b ≡ true → (a || b) ≡ true
or_right true b h = refl
or_right false b h = h

-- the message neither appears nor disappears
still_there : (from to : Option Place) → is_some (place_left from to) ≡ is_some from
still_there None to = refl
still_there (Some from) None = refl
still_there (Some from) (Some to) = refl

pub script_stays : (from to : Option Place) (calls : List Call) → is_sender_script from calls ≡ true
    → is_sender_script (place_left from to) calls ≡ true
script_stays from to [] h = refl
script_stays from to (Of_sender SC.IsClosed ∷ calls) h = or_left _ false (script_stays from to calls (left_of_or _ h))
script_stays from to (Of_sender SC.Send ∷ calls) h = rw (still_there from to) h
script_stays from to (_ ∷ calls) h = h

pub either_stays : (from to : Option Place) (calls : List Call)
    → (is_sender_script from calls || is_error_script calls) ≡ true
    → (is_sender_script (place_left from to) calls || is_error_script calls) ≡ true
either_stays from to calls h =
    elim (is_sender_script from calls) as
    (λ b. is_sender_script from calls ≡ b → (b || is_error_script calls) ≡ true
    → (is_sender_script (place_left from to) calls || is_error_script calls) ≡ true) [
      | true ↦ λ own h. or_left _ _ (script_stays from to calls own)
      | false ↦ λ own h. or_right (is_sender_script (place_left from to) calls) _ h
    ] refl h

pub sender_still_has : (from to : Option Place) (s : SenderState) (calls : List Call) → sender_has from s calls ≡ true
    → sender_has (place_left from to) s calls ≡ true
sender_still_has from to SS.Ready calls h = script_stays from to calls h
sender_still_has from to (SS.At position) calls h = either_stays from to calls h
sender_still_has from to SS.Failed calls h = h
sender_still_has from to SS.Ended calls h = h

-- an end with a position has a script left
pub sender_has_script : (message : Option Place) (s : SenderState) (call : Option SenderCall) (position : SenderPos)
    (calls : List Call) → sender_position s call ≡ Some position → sender_has message s calls ≡ true
    → (is_sender_script message calls || is_error_script calls) ≡ true
sender_has_script message SS.Ready call position calls at h = or_left _ _ h
sender_has_script message (SS.At here) call position calls at h = h
sender_has_script message SS.Failed call position calls at h = or_right (is_sender_script message calls) _ h
sender_has_script message SS.Ended call position calls at h = cc

pub receiver_has_script : (s : ReceiverState) (future : Bool) (call : Option ReceiverStart) (position : ReceiverPos)
    (calls : List Call) → receiver_position s call ≡ Some position → receiver_has s future calls ≡ true
    → has_script future calls ≡ true
receiver_has_script RS.Ready future call position calls at h = h
receiver_has_script (RS.At here) future call position calls at h = h
receiver_has_script RS.Ended future call position calls at h = cc

-- after a call that stays a script is left, and after one that ends nothing
pub sender_goes_on : (message : Option Place) (calls : List Call) (call : Call) → stays_sender call ≡ true
    → (is_sender_script message (call ∷ calls) || is_error_script (call ∷ calls)) ≡ true
    → is_sender_script message calls ≡ true
sender_goes_on message calls (Of_sender SC.IsClosed) stays h = left_of_or _ (left_of_or _ h)
sender_goes_on message calls _ stays h = cc

pub error_goes_on : (message : Option Place) (calls : List Call) (call : Call) → stays_error call ≡ true
    → (is_sender_script message (call ∷ calls) || is_error_script (call ∷ calls)) ≡ true → is_error_script calls ≡ true
error_goes_on message calls (Of_sender SC.AsInner) stays h = left_of_or _ h
error_goes_on message calls _ stays h = cc

pub sender_ends : (message : Option Place) (calls : List Call) (call : Call)
    → (ends_sender (Some NotSent) call || ends_error call) ≡ true
    → (is_sender_script message (call ∷ calls) || is_error_script (call ∷ calls)) ≡ true → is_none_left calls ≡ true
sender_ends None calls (Of_sender SC.Send) ends h = cc
sender_ends (Some place) calls (Of_sender SC.Send) ends h = left_of_or _ h
sender_ends message calls (Of_sender SC.Drop) ends h = left_of_or _ h
sender_ends message calls (Of_sender SC.IntoInner) ends h = h
sender_ends message calls (Of_sender SC.DropError) ends h = h
sender_ends message calls _ ends h = cc

none_is_script : (stays ends : Call → Bool) (calls : List Call) → is_none_left calls ≡ true
    → is_script stays ends calls ≡ true
none_is_script stays ends [] h = refl
none_is_script stays ends (call ∷ calls) h = cc

none_is_receiver : (calls : List Call) → is_none_left calls ≡ true → is_receiver_script calls ≡ true
none_is_receiver [] h = refl
none_is_receiver (call ∷ calls) h = cc

-- the rest of a script after a call that stays or ends
follows : (stays ends script none : Bool) → (none ≡ true → script ≡ true) → ((stays && script) || (ends && none)) ≡ true
    → script ≡ true
follows stays ends true none of_none h = refl
follows stays true false true of_none h = of_none refl
follows true true false false of_none h = cc
follows false true false false of_none h = cc
follows true false false none of_none h = cc
follows false false false none of_none h = cc

abbrev pub becomes_future : Option Call → Bool
becomes_future None = false
becomes_future (Some call) = makes_future call

receiver_script_goes : (calls : List Call) → is_receiver_script calls ≡ true
    → has_script (becomes_future (first calls)) (rest calls) ≡ true
receiver_script_goes [] h = refl
receiver_script_goes (Of_receiver RC.IntoFuture ∷ calls) h = h
receiver_script_goes (call ∷ calls) h =
    follows (stays_receiver call) (ends_receiver call) (is_receiver_script calls) (is_none_left calls)
    (none_is_receiver calls) h

async_goes : (calls : List Call) → is_async_script calls ≡ true → is_async_script (rest calls) ≡ true
async_goes [] h = refl
async_goes (call ∷ calls) h =
    follows (stays_async call) (ends_async call) (is_async_script calls) (is_none_left calls)
    (none_is_script stays_async ends_async calls) h

pub receiver_goes_on : (future : Bool) (calls : List Call) → has_script future calls ≡ true
    → has_script (future || becomes_future (first calls)) (rest calls) ≡ true
receiver_goes_on false calls h = receiver_script_goes calls h
receiver_goes_on true calls h = async_goes calls h

abbrev pub ends_either : Call → Bool
ends_either call = ends_receiver call || ends_async call

pub receiver_ends : (future : Bool) (calls : List Call) (call : Call) → ends_either call ≡ true
    → has_script future (call ∷ calls) ≡ true → is_none_left calls ≡ true
receiver_ends false calls (Of_receiver RC.Recv) ends h = h
receiver_ends false calls (Of_receiver RC.Drop) ends h = h
receiver_ends true calls (Of_receiver RC.DropAsync) ends h = h
receiver_ends _ calls _ ends h = cc

-- the first call of a script is one that may begin
either_of : (a b c d : Bool) → ((a && c) || (b && d)) ≡ true → (a || b) ≡ true
either_of true b c d h = refl
either_of false true c d h = refl
either_of false false c d h = h

pub script_begins : (stays ends : Call → Bool) (call : Call) (calls : List Call)
    → is_script stays ends (call ∷ calls) ≡ true → (stays call || ends call) ≡ true
script_begins stays ends call calls h = either_of (stays call) (ends call) _ _ h

pub receiver_script_begins : (call : ReceiverStart) (calls : List Call)
    → is_receiver_script (Of_receiver call ∷ calls) ≡ true → begins_receiver (Of_receiver call) ≡ true
receiver_script_begins RC.IntoFuture calls h = refl
receiver_script_begins _ calls h = cc

-- the calls of a script are a script
looked : (stays ends : Call → Bool) (call : Call) (n : ℕ) (calls : List Call) → stays call ≡ true
    → is_script stays ends calls ≡ true → is_script stays ends (replicate n call ++ calls) ≡ true
looked stays ends call zero calls s h = h
looked stays ends call (suc n) calls s h = rw s (or_left _ _ (looked stays ends call n calls s h))

pub error_scripted : (looks : ℕ) (last : ErrorLast)
    → is_error_script (replicate looks (Of_sender SC.AsInner) ++ error_last last) ≡ true
error_scripted looks EL.IntoInner =
    looked stays_error ends_error (Of_sender SC.AsInner) looks (Of_sender SC.IntoInner ∷ []) refl refl
error_scripted looks EL.Drop =
    looked stays_error ends_error (Of_sender SC.AsInner) looks (Of_sender SC.DropError ∷ []) refl refl
error_scripted looks EL.Stop = looked stays_error ends_error (Of_sender SC.AsInner) looks [] refl refl

pub sender_scripted : {T : Type 0} (looks : ℕ) (last : SenderLast T)
    → is_sender_script (opening_place last) (replicate looks (Of_sender SC.IsClosed) ++ sender_last last) ≡ true
sender_scripted looks (SL.Send message error) =
    looked stays_sender (ends_sender (Some NotSent)) (Of_sender SC.IsClosed) looks (Of_sender SC.Send ∷ []) refl refl
sender_scripted looks SL.Drop =
    looked stays_sender (ends_sender None) (Of_sender SC.IsClosed) looks (Of_sender SC.Drop ∷ []) refl refl
sender_scripted looks SL.Stop = looked stays_sender (ends_sender None) (Of_sender SC.IsClosed) looks [] refl refl

async_scripted : (calls : List AsyncCall) (last : AsyncLast) → is_async_script (async_calls calls last) ≡ true
async_scripted [] AL.Drop = refl
async_scripted [] AL.Stop = refl
async_scripted (AC.Poll number ∷ calls) last = rw (async_scripted calls last) refl
async_scripted (_ ∷ calls) last = rw (async_scripted calls last) refl

pub receiver_scripted : (calls : List ReceiverCall) (last : ReceiverLast)
    → is_receiver_script (receiver_calls calls last) ≡ true
receiver_scripted [] RL.Recv = refl
receiver_scripted [] RL.Drop = refl
receiver_scripted [] (RL.IntoFuture script) = async_scripted script.calls script.last
receiver_scripted [] RL.Stop = refl
receiver_scripted (Script.TryRecv ∷ calls) last = rw (receiver_scripted calls last) refl
receiver_scripted (_ ∷ calls) last = rw (receiver_scripted calls last) refl
