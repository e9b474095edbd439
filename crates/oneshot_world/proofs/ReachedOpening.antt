-- The world before the first move is reached.
use Rattle.oneshot_world.proofs.Names.{◌≡◌, true, Some, None, refl, error_calls, all_alike, as_control, reached, is_reached, IsReached, opening_control, is_error_script, opening, opening_place}
use Rattle.oneshot_world.proofs.Names.{ReceiverScript, SenderLast, SenderScript, NotSent}
use Rattle.oneshot_world.specs.declared.script.SenderLast.TheVariants as SL
use Rattle.oneshot_world.proofs.ScriptsLeft.{error_scripted, sender_scripted, receiver_scripted}

nothing_sent : is_reached (as_control all_alike (opening_control None)) ≡ true
unfolding reached
nothing_sent = refl

message_there : is_reached (as_control all_alike (opening_control (Some NotSent))) ≡ true
unfolding reached
message_there = refl

opening_place_reached : {T : Type 0} (last : SenderLast T)
    → is_reached (as_control all_alike (opening_control (opening_place last))) ≡ true
opening_place_reached (SL.Send message error) = message_there
opening_place_reached SL.Drop = nothing_sent
opening_place_reached SL.Stop = nothing_sent

error_opens : {T : Type 0} (last : SenderLast T) → is_error_script (error_calls last) ≡ true
error_opens (SL.Send message error) = error_scripted error.looks error.last
error_opens SL.Drop = refl
error_opens SL.Stop = refl

pub opening_reached : {T : Type 0} (s : SenderScript T) (r : ReceiverScript) → IsReached (opening s r)
opening_reached s r =
    record {
      control = opening_place_reached s.last;
      sender = sender_scripted s.looks s.last;
      error = error_opens s.last;
      receiver = receiver_scripted r.calls r.last;
    }
