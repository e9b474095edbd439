-- Examples of receives that wait: what a reading of the clock and a park leave, and when a park may spin.
use Rattle.std.specs.Prelude.{◌≡◌, ℕ, ◌+◌, ◌<◌, ◌≤◌, Bool, true, false, Option, Some, None}
use Rattle.std.specs.declared.time.Instant.{Instant}
use Rattle.std.specs.Time.{instant_nanos}
use Rattle.atomic_table.specs.Seated.{TableId}
use Rattle.oneshot_ends.specs.declared.deadline.Deadline.{Deadline}
use Rattle.oneshot_ends.specs.declared.deadline.Deadline.TheVariants.{At, Passed, Never}
use Rattle.oneshot_ends.specs.declared.deadline.NextReading.TheVariants.{Due, Taken}
use Rattle.oneshot_ends.specs.declared.deadline.Reading.{Reading}
use Rattle.oneshot_ends.specs.declared.patience.Patience.{Patience}
use Rattle.oneshot_ends.specs.Patience.{MaySpin, Parked, Reads, waits_until}
use Rattle.oneshot_ends.specs.Tokens.{ParkingView}

-- a receive with this deadline that spun so often, in time or past it, and its last reading
abbrev pub in_time : Deadline → Option Reading → ℕ → Patience
in_time deadline reading spins =
    record { deadline = deadline; next = Due; reading = reading; spins = spins; late = false }

abbrev pub past_it : Deadline → Option Reading → ℕ → Patience
past_it deadline reading spins = record (in_time deadline reading spins) { late = true }

-- a reading of this instant, and one that failed
abbrev pub read : Instant → Option Reading
read now = Some (record { instant = Some now })

abbrev pub failed : Option Reading
failed = Some (record { instant = None })

-- a receive that took this reading for its deadline, and has checked nothing yet
abbrev pub has_taken : Instant → Instant → Patience
has_taken end now = waits_until (At end) (Taken (record { instant = Some now }))

-- a half of this parker, which has taken its token or not
abbrev pub half_of : TableId → Bool → ParkingView
half_of parker taken = record { taken = taken; parker = parker }

pub record WaitsThatAre : Type 0 where
  pub begins : (deadline : Deadline) → waits_until deadline Due ≡ in_time deadline None 0
  pub spins_first : (deadline : Deadline) → MaySpin false (in_time deadline None 16)
  pub spins_in_time : (end now : Instant) → instant_nanos now + 100_000_000 ≡ instant_nanos end
      → MaySpin true (in_time (At end) (read now) 0)
  pub spins_again : (deadline : Deadline) → MaySpin false (past_it deadline None 33)
  pub spins_once : (half : ParkingView) → Parked false (in_time Never None 3) (in_time Never None 4) half half
  pub sleeps : (parker : TableId)
      → Parked false (in_time Never None 17) (in_time Never None 17) (half_of parker false) (half_of parker true)
  pub returns : (parker : TableId)
      → Parked false (in_time Never None 17) (in_time Never None 17) (half_of parker true) (half_of parker true)
  pub reads_in_time : (end now : Instant) → instant_nanos now ≤ instant_nanos end
      → Reads false (in_time (At end) None 3) (in_time (At end) (read now) 3)
  pub reads_past_it : (end now : Instant) → instant_nanos end < instant_nanos now
      → Reads true (in_time (At end) None 3) (past_it (At end) (read now) 17)
  pub uses_its_reading : (end now : Instant) → instant_nanos now ≤ instant_nanos end
      → Reads false (has_taken end now) (in_time (At end) (read now) 0)
  pub reads_nothing : (end : Instant) → Reads true (in_time (At end) None 17) (past_it (At end) failed 17)

pub record WaitsThatAreNot : Type 0 where
  pub spins_on : (timed : Bool) (deadline : Deadline) (reading : Option Reading)
      → MaySpin timed (in_time deadline reading 17) → ⊥
  pub spins_on_past_it : (timed : Bool) (deadline : Deadline) (reading : Option Reading)
      → MaySpin timed (past_it deadline reading 34) → ⊥
  pub spins_late : (end now : Instant) → instant_nanos now + 99_999_999 ≡ instant_nanos end
      → MaySpin true (in_time (At end) (read now) 0) → ⊥
  pub spins_unread : (end : Instant) → MaySpin true (in_time (At end) None 0) → ⊥
  pub spins_after_a_failure : (end : Instant) → MaySpin true (in_time (At end) failed 0) → ⊥
  pub spins_with_no_end : (reading : Option Reading) → MaySpin true (in_time Passed reading 0) → ⊥
  -- a park that counts no spin, that keeps its reading, that sleeps without its token, or that gives it back
  pub counts_none : (half : ParkingView) → Parked false (in_time Never None 3) (in_time Never None 3) half half → ⊥
  pub keeps_its_reading : (end now : Instant) (half : ParkingView)
      → Parked true (in_time (At end) (read now) 17) (in_time (At end) (read now) 17) half half → ⊥
  pub sleeps_without_it : (parker : TableId)
      → Parked false (in_time Never None 17) (in_time Never None 17) (half_of parker false) (half_of parker false) → ⊥
  pub gives_it_back : (parker : TableId) (deadline : Deadline)
      → Parked true (in_time deadline None 17) (in_time deadline None 17) (half_of parker true) (half_of parker false)
      → ⊥
  -- a first check that reads the clock again, and one whose reading is used twice
  pub reads_another : (end now : Instant) (over : Bool) → Reads over (has_taken end now) (in_time (At end) failed 0) → ⊥
  pub uses_it_twice : (end now : Instant) (over : Bool)
      → Reads over (has_taken end now) (record (has_taken end now) { reading = read now }) → ⊥
  -- a reading that is over too early, or never, that is none, or that leaves its spins
  pub over_at_once : (end now : Instant) → instant_nanos now ≤ instant_nanos end
      → Reads true (in_time (At end) None 17) (past_it (At end) (read now) 17) → ⊥
  pub never_over : (end now : Instant) → instant_nanos end < instant_nanos now
      → Reads false (in_time (At end) None 3) (in_time (At end) (read now) 3) → ⊥
  pub unread : (end : Instant) → Reads true (in_time (At end) None 17) (past_it (At end) None 17) → ⊥
  pub spins_all_again : (end : Instant) → Reads true (in_time (At end) None 3) (past_it (At end) failed 0) → ⊥
