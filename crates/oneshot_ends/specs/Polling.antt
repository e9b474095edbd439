-- What the ground of a poll shows.
use Rattle.std.specs.Prelude.{ℕ, List}
use Rattle.oneshot_drive.specs.Grounds.{GroundState}
use Rattle.oneshot_machine.specs.Slots.{Held, away, vacant, held}
use Rattle.oneshot_word.specs.Side.{Side}
use Rattle.oneshot_ends.specs.declared.ground.task.Copied.{Copied}
use Rattle.oneshot_ends.specs.Grounds.{state_beside}

-- a slot of wakers, shown with a `Copied` in place of a waker
abbrev pub token_of : {W : Type 0} → Held W → Held Copied
token_of away = away
token_of vacant = vacant
token_of (held waker) = held (record {})

-- the state of a ground that was lent for a poll, under these names
abbrev pub polled_state : {T W P : Type 0} → List ℕ → Side T W P → GroundState T Copied
polled_state = state_beside token_of
