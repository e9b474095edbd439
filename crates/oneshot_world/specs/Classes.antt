-- Wakers and polls by classes.
-- Numbers and entries have no bound. But a step reads of a waker only whether it is the parker's half.
-- So a run looks the same if each copy and each poll is known by its class alone.
use Rattle.std.specs.Prelude.{ℕ}
use Rattle.std.specs.Option.{option_map}
use Rattle.oneshot_world.specs.Calls.{Call, Poll}
use Rattle.oneshot_world.specs.Wakers.{WakerMove}
use Rattle.oneshot_world.specs.declared.state.State.{State}
use Rattle.oneshot_world.specs.declared.trace.Entry.{Entry}
use Rattle.oneshot_world.specs.declared.trace.Entry.TheVariants.{Idle, Made as Made_entry}
use Rattle.oneshot_world.specs.declared.trace.Made.{Made}
use Rattle.oneshot_world.specs.declared.trace.WakerName.{WakerName}
use Rattle.oneshot_world.specs.declared.trace.WakerName.TheVariants.{Parker, Copy}
use Rattle.oneshot_world.specs.declared.wakers.Input.{Input}
use Rattle.oneshot_world.specs.declared.wakers.Wakers.{Wakers}

-- the class of a copy, by the number of its waker and the entry in which it was made; and of a poll, by its number
pub record Classes : Type 0 where
  pub copies : ℕ → ℕ → ℕ
  pub polls : ℕ → ℕ

-- one class for all copies, and one for all polls
abbrev pub all_alike : Classes
all_alike = record { copies = λ number entry. 0; polls = λ number. 0 }

abbrev pub as_name : Classes → WakerName → WakerName
as_name k Parker = Parker
as_name k (Copy number entry) = Copy (k.copies number entry) 0

abbrev pub as_wakers : Classes → Wakers → Wakers
as_wakers k w =
    record w {
      cell = option_map (as_name k) w.cell;
      hand = option_map (as_name k) w.hand;
      taken = option_map (as_name k) w.taken;
    }

abbrev pub as_input : Classes → Input → Input
as_input k t = record t { copy = option_map (as_name k) t.copy; own = option_map k.polls t.own }

abbrev pub as_state : Classes → State → State
as_state k s = record s { wakers = as_wakers k s.wakers }

abbrev pub as_call : Classes → Call → Call
as_call k (Poll number) = Poll (k.polls number)
as_call k call = call

abbrev pub as_move : Classes → WakerMove → WakerMove
as_move k move = (as_name k move.0, move.1, move.2)

abbrev pub as_made : Classes → Made → Made
as_made k e = record e { waker = option_map (as_move k) e.waker; own = option_map k.polls e.own }

abbrev pub as_entry : Classes → Entry → Entry
as_entry k (Idle side) = Idle side
as_entry k (Made_entry e) = Made_entry (as_made k e)

abbrev pub as_turned : Classes → Entry × State → Entry × State
as_turned k turned = (as_entry k turned.0, as_state k turned.1)
