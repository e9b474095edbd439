-- What a contract sees of a ground in memory: its events as a log, and its slots.
use Rattle.std.specs.Prelude.{Bool, true, false, List, [], map, Option, Some, None}
use Rattle.std.specs.Option.{option_map}
use Rattle.oneshot_machine.specs.Logs as logs
use Rattle.oneshot_machine.specs.Slots.{Held, away, vacant, held}
use Rattle.oneshot_drive.specs.Grounds.{GroundState}
use Rattle.oneshot_memory.specs.declared.Event.{Event}

-- a slot with this content, if the end owns it
abbrev pub slot_if_own : {X : Type 0} → Bool → Option X → Held X
slot_if_own false content = away
slot_if_own true None = vacant
slot_if_own true (Some x) = held x

module _ {T W : Type 0} where
  abbrev pub logged_event : Event T W → logs.Event T W
  logged_event e =
      record {
        step = e.step;
        seen = e.seen;
        message = option_map (λ s. s.value) e.message;
        waker = option_map
            (λ s. s.value) e.waker;
      }

  -- the log of a ground in memory is whole, and of no channel
  abbrev pub logged : List (Event T W) → logs.Log T W
  logged events = record { whole = true; channel = []; list = map logged_event events }

  -- the log, with both slots as the end sees them
  abbrev pub memory_state : List (Event T W) → Option T → Option W → Bool → Bool → GroundState T W
  memory_state events message waker owns_message owns_waker =
      record { log = logged events; message = slot_if_own owns_message message; waker = slot_if_own owns_waker waker }
