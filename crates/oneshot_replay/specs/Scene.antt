-- What a contract sees of a replayer: the world, the number of the entries so far, and the message.
use Rattle.std.specs.Prelude.{ℕ, Option}
use Rattle.std.specs.Option.{option_and_then}
use Rattle.oneshot_machine.specs.declared.machine.receiver.ReceiverStart.{ReceiverStart}
use Rattle.oneshot_machine.specs.declared.machine.sender.SenderCall.{SenderCall}
use Rattle.oneshot_world.specs.Calls.{first, as_sender_call, as_receiver_call}
use Rattle.oneshot_world.specs.World.{World}

pub record Scene (T : Type 0) : Type 0 where
  pub world : World
  pub count : ℕ
  pub message : Option T

-- the call that an end has under way, or begins at its next move
abbrev pub sender_call_of : {T : Type 0} → Scene T → Option SenderCall
sender_call_of scene = option_and_then as_sender_call (first scene.world.sender.calls)

abbrev pub receiver_call_of : {T : Type 0} → Scene T → Option ReceiverStart
receiver_call_of scene = option_and_then as_receiver_call (first scene.world.receiver.calls)
