-- What is next for a receiver: whether it is about to park, and whether a token is there that would end the park.
use Rattle.std.specs.Prelude.{Bool, true, false, Option, Some, None}
use Rattle.std.specs.Option.{option_map, option_and_then}
use Rattle.oneshot_machine.specs.Receiver.{receiver_step}
use Rattle.oneshot_machine.specs.declared.machine.Step.{Step}
use Rattle.oneshot_machine.specs.declared.machine.Step.TheVariants.{Park}
use Rattle.oneshot_world.specs.Calls.{first, as_receiver_call}
use Rattle.oneshot_world.specs.State.{receiver_position}
use Rattle.oneshot_world.specs.World.{World}

abbrev pub is_park : Step → Bool
is_park Park = true
is_park _ = false

-- what the laws read of a world: whether the receiver's next step is a park, and whether there is a token
pub record Ahead : Type 0 where
  pub parks : Bool
  pub token : Bool

abbrev pub is_some_park : Option Step → Bool
is_some_park None = false
is_some_park (Some step) = is_park step

abbrev pub next_of_receiver : World → Option Step
next_of_receiver w =
    option_map receiver_step (receiver_position w.state.receiver
    (option_and_then as_receiver_call (first w.receiver.calls)))

abbrev pub ahead_of : World → Ahead
ahead_of w = record { parks = is_some_park (next_of_receiver w); token = w.state.wakers.token }
