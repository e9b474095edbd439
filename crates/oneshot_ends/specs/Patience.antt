-- How long a receive waits: its readings of the clock, when it spins, and what its park does.
use Rattle.std.specs.Prelude.{◌≡◌, ◌↔◌, ℕ, ◌+◌, ◌<◌, max, Bool, true, false, IsTrue, if◌then◌else◌, Option, Some, None, IsSomeAnd}
use Rattle.std.specs.declared.time.Instant.{Instant}
use Rattle.oneshot_ends.specs.declared.deadline.Deadline.{Deadline}
use Rattle.oneshot_ends.specs.declared.deadline.NextReading.{NextReading}
use Rattle.oneshot_ends.specs.declared.deadline.NextReading.TheVariants.{Due, Taken}
use Rattle.oneshot_ends.specs.declared.deadline.Reading.{Reading}
use Rattle.oneshot_ends.specs.declared.patience.Patience.{Patience}
use Rattle.oneshot_ends.specs.Deadlines.{IsFar, IsOver}
use Rattle.oneshot_ends.specs.Tokens.{ParkingView}

-- a receive that has not begun to wait
abbrev pub waits_until : Deadline → NextReading → Patience
waits_until deadline next = record { deadline = deadline; next = next; reading = None; spins = 0; late = false }

-- There is a reading, by which the deadline is over or not. It is the one that the call took for its deadline, if that
-- was not used yet; otherwise this does not state that the clock was read for it. Once the deadline is over, 17 spins
-- are left, or those that were left before.
pub record Reads (over : Bool) (before after : Patience) : Type 0 where
  pub first : (reading : Reading) → before.next ≡ Taken reading → after.reading ≡ Some reading
  pub due : after.next ≡ Due
  pub told : IsSomeAnd after.reading (λ reading. IsTrue over ↔ IsOver before.deadline reading.instant)
  pub deadline : after.deadline ≡ before.deadline
  pub spins : after.spins ≡ (if over then max before.spins 17 else before.spins)
  pub late : after.late ≡ over

-- it counts at most 17 spins, and 17 more once its deadline is over
abbrev pub most_spins : Bool → ℕ
most_spins late = if late then 34 else 17

-- what the clock read, if a reading is there and did not fail
abbrev pub instant_of : Option Reading → Option Instant
instant_of (Some reading) = reading.instant
instant_of None = None

-- It has spins left, and its deadline, if it parks with one, is far by the reading.
abbrev pub MaySpin : Bool → Patience → Type 0
MaySpin timed patience =
    (patience.spins < most_spins patience.late) × (timed ≡ true → IsFar patience.deadline (instant_of patience.reading))

-- a park uses up the reading, and may spin
abbrev pub unread : Patience → Patience
unread patience = record patience { reading = None }

abbrev pub spun : Patience → Patience
spun patience = record patience { reading = None; spins = patience.spins + 1 }

-- A park that may spin counts one spin, and leaves the token. Any other sleeps: without a deadline it returns once the
-- token is taken. If the token was taken before, the half stays as it is; that the park then does not sleep is not
-- stated. What a counted spin does is not stated either.
pub record Parked (timed : Bool) (before after : Patience) (half next : ParkingView) : Type 0 where
  pub spins : MaySpin timed before → (after ≡ spun before) × (next ≡ half)
  pub rests : ¬ MaySpin timed before → after ≡ unread before
  pub sleeps : ¬ MaySpin timed before → timed ≡ false → next ≡ record half { taken = true }
  pub returns : ¬ MaySpin timed before → half.taken ≡ true → next ≡ half
