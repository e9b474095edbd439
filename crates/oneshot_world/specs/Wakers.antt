-- The wakers of the world: where each is, and what a step does to them.
use Rattle.std.specs.Prelude.{ℕ, Bool, true, false, ◌&&◌, ◌||◌, ◌==◌, if◌then◌else◌, Option, Some, None}
use Rattle.std.specs.Option.{option_map}
use Rattle.oneshot_machine.specs.declared.machine.Step.{Step}
use Rattle.oneshot_machine.specs.declared.machine.Step.TheVariants as T
use Rattle.oneshot_machine.specs.declared.machine.Step.TheVariants.{WriteWaker, TakeWaker, Withdraw, Park, Wake, WakeOwn}
use Rattle.oneshot_machine.specs.declared.states.Op.TheVariants.{Exchange}
use Rattle.oneshot_world.specs.declared.trace.WakerName.{WakerName}
use Rattle.oneshot_world.specs.declared.trace.WakerName.TheVariants.{Parker, Copy}
use Rattle.oneshot_world.specs.declared.trace.WakerPlace.{WakerPlace}
use Rattle.oneshot_world.specs.declared.trace.WakerPlace.TheVariants.{New, Hand, Cell, SenderHand, Used, Dropped}
use Rattle.oneshot_world.specs.declared.wakers.Input.{Input}
use Rattle.oneshot_world.specs.declared.wakers.Wakers.{Wakers}

-- the receiver begins with its parker's half in its hand
abbrev pub opening_wakers : Wakers
opening_wakers = record { cell = None; hand = Some Parker; taken = None; token = false }

abbrev pub is_parker : Option WakerName → Bool
is_parker (Some Parker) = true
is_parker _ = false

abbrev pub is_copy : Option WakerName → Bool
is_copy (Some (Copy number entry)) = true
is_copy _ = false

-- whether a step wakes the parker
abbrev pub sets_token : Wakers → Step → Bool
sets_token w Wake = is_parker w.taken
sets_token w _ = false

-- a withdrawn parker's half goes back into the hand, a withdrawn copy is dropped
abbrev pub withdrawn : Option WakerName → Option WakerName → Option WakerName
withdrawn (Some Parker) hand = Some Parker
withdrawn _ hand = hand

abbrev pub back_to : WakerName → WakerPlace
back_to Parker = Hand
back_to (Copy number entry) = Dropped

-- the wakers after a step: a park uses the token if there is one, a copy that is not refused goes into
-- the hand, and an exchange that fails drops what is in the hand
abbrev pub wakers_left : Input → ℕ → Wakers → Step → Wakers
wakers_left t word w WriteWaker = record w { cell = w.hand; hand = None }
wakers_left t word w TakeWaker = record w { cell = None; taken = w.cell }
wakers_left t word w Withdraw = record w { cell = None; hand = withdrawn w.cell w.hand }
wakers_left t word w Wake = record w { taken = None; token = w.token || is_parker w.taken }
wakers_left t word w Park = record w { token = false }
wakers_left t word w T.Copy = record w { hand = if t.answer then w.hand else t.copy }
wakers_left t word w (T.Word (Exchange expected new)) = record w { hand = if word == expected then w.hand else None }
wakers_left t word w _ = w

-- a move of a waker: the waker, and the places that it leaves and goes to
abbrev pub WakerMove : Type 0
WakerMove = WakerName × WakerPlace × WakerPlace

abbrev pub waker_move : Input → ℕ → Wakers → Step → Option WakerMove
waker_move t word w WriteWaker = option_map (λ name. (name, Hand, Cell)) w.hand
waker_move t word w TakeWaker = option_map (λ name. (name, Cell, SenderHand)) w.cell
waker_move t word w Withdraw = option_map (λ name. (name, Cell, back_to name)) w.cell
waker_move t word w Wake = option_map (λ name. (name, SenderHand, Used)) w.taken
waker_move t word w T.Copy = if t.answer then None else option_map (λ name. (name, New, Hand)) t.copy
waker_move t word w (T.Word (Exchange expected new)) =
    if word == expected then None else option_map (λ name. (name, Hand, Dropped)) w.hand
waker_move t word w _ = None

-- the number of the poll's own waker, if this step wakes it
abbrev pub own_of : Input → Step → Option ℕ
own_of t WakeOwn = t.own
own_of t _ = None

abbrev pub is_same_waker : WakerName → WakerName → Bool
is_same_waker Parker Parker = true
is_same_waker (Copy a i) (Copy b j) = a == b && i == j
is_same_waker _ _ = false
