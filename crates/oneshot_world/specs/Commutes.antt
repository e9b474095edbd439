-- A turn by classes of copies and polls is the turn, by those classes.
use Rattle.std.specs.Prelude.{◌≡◌, Option}
use Rattle.std.specs.Option.{option_map}
use Rattle.oneshot_machine.specs.declared.machine.End.{End}
use Rattle.oneshot_world.specs.Calls.{Call}
use Rattle.oneshot_world.specs.Classes.{Classes, as_input, as_state, as_call, as_turned}
use Rattle.oneshot_world.specs.State.{turns}
use Rattle.oneshot_world.specs.declared.state.State.{State}
use Rattle.oneshot_world.specs.declared.wakers.Input.{Input}

abbrev pub TurnsCommute : Type 0
TurnsCommute =
    (k : Classes) (side : End) (t : Input) (s : State) (call : Option Call)
    → turns side (as_input k t) (as_state k s) (option_map (as_call k) call)
    ≡ option_map (as_turned k) (turns side t s call)
