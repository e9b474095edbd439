-- The finite part of what a run can reach, computed by the checker, and what holds of the world before each move.
use Rattle.std.specs.Prelude.{◌≡◌, ℕ, Bool, true, List, [], ◌∷◌, Option, Some, None}
use Rattle.oneshot_world.specs.Classes.{all_alike}
use Rattle.oneshot_world.specs.Control.{Control, control_of, successors, as_control}
use Rattle.oneshot_world.specs.ControlCodes.{is_same_control, control_code}
use Rattle.oneshot_world.specs.Explore.{Tree, reach, is_in}
use Rattle.oneshot_world.specs.ScriptsLeft.{is_error_script, sender_has, receiver_has}
use Rattle.oneshot_world.specs.State.{opening_state}
use Rattle.oneshot_world.specs.World.{World}
use Rattle.oneshot_world.specs.declared.trace.Place.TheVariants.{NotSent}
use Rattle.oneshot_world.specs.declared.trace.Place.{Place}

abbrev pub opening_control : Option Place → Control
opening_control message = record { state = opening_state message; sender = None; receiver = None }

-- one class for all polls, and one for all copies
abbrev pub one_poll : List ℕ
one_poll = 0 ∷ []

abbrev pub one_copy : ℕ → List ℕ
one_copy number = 0 ∷ []

-- all controls that a run can reach, with all copies and all polls alike
unfoldable pub reached : Tree Control
reached =
    reach control_code is_same_control (successors one_poll one_copy) 4000
    (opening_control None ∷ opening_control (Some NotSent) ∷ [])

abbrev pub is_reached : Control → Bool
is_reached c = is_in control_code is_same_control c reached

-- what holds of the world before each move of each run
pub record IsReached (w : World) : Type 0 where
  pub control : is_reached (as_control all_alike (control_of w)) ≡ true
  pub sender : sender_has w.state.message w.state.sender w.sender.calls ≡ true
  pub error : is_error_script w.sender.error ≡ true
  pub receiver : receiver_has w.state.receiver w.state.future w.receiver.calls ≡ true
