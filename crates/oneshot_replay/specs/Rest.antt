-- The message of a script, and the message with its place; a world knows only the place.
use Rattle.std.specs.Prelude.{Option, Some, None}
use Rattle.oneshot_world.specs.declared.script.SenderLast.{SenderLast}
use Rattle.oneshot_world.specs.declared.script.SenderLast.TheVariants.{Send, Drop, Stop}
use Rattle.oneshot_world.specs.declared.trace.Place.{Place}
use Rattle.oneshot_world.specs.declared.trace.Place.TheVariants as P
use Rattle.oneshot_replay.specs.declared.rest.Rest.{Rest}
use Rattle.oneshot_replay.specs.declared.rest.Rest.TheVariants.{NotSent, InCell, InError, Delivered, FromError, Dropped}

abbrev pub message_of : {T : Type 0} → SenderLast T → Option T
message_of (Send message error) = Some message
message_of Drop = None
message_of Stop = None

abbrev pub rest_of : {T : Type 0} → Place → T → Rest T
rest_of P.NotSent message = NotSent message
rest_of P.InCell message = InCell message
rest_of P.InError message = InError message
rest_of P.Delivered message = Delivered message
rest_of P.FromError message = FromError message
rest_of P.Dropped message = Dropped message

-- the message with its place, if there are both
abbrev pub rest_at : {T : Type 0} → Option Place → Option T → Option (Rest T)
rest_at (Some place) (Some message) = Some (rest_of place message)
rest_at (Some place) None = None
rest_at None message = None
