-- Examples of deadlines that are over, far or after a timeout, and of those that are not.
use Rattle.std.specs.Prelude.{◌≡◌, ◌+◌, true, false, Option, Some, None}
use Rattle.std.specs.Duration.{as_nanos}
use Rattle.std.specs.declared.time.Duration.{Duration}
use Rattle.std.specs.Time.{instant_nanos, FitsClock}
use Rattle.std.specs.declared.time.Instant.{Instant}
use Rattle.oneshot_ends.specs.declared.deadline.Deadline.TheVariants.{At, Passed, Never}
use Rattle.oneshot_ends.specs.Deadlines.{IsOver, IsFar, has_end, IsAfter, HasEnd}

pub record DeadlinesThatAre : Type 0 where
  pub over_past_it : (end now : Instant) → instant_nanos now ≡ instant_nanos end + 1 → IsOver (At end) (Some now)
  pub over_unread : (end : Instant) → IsOver (At end) None
  pub over_at_once : (reading : Option Instant) → IsOver Passed reading
  pub far : (end now : Instant) → instant_nanos now + 100_000_000 ≡ instant_nanos end → IsFar (At end) (Some now)
  pub ends : (end : Instant) → has_end (At end) ≡ true
  pub ends_at_once : has_end Passed ≡ true
  pub ends_never : has_end Never ≡ false
  pub after_a_failure : (timeout : Duration) → IsAfter timeout None Passed
  pub end_after_a_failure : (timeout : Duration) → HasEnd timeout None

pub record DeadlinesThatAreNot : Type 0 where
  pub over_at_itself : (end now : Instant) → instant_nanos now ≡ instant_nanos end → IsOver (At end) (Some now) → ⊥
  pub over_before : (end now : Instant) → instant_nanos now + 1 ≡ instant_nanos end → IsOver (At end) (Some now) → ⊥
  pub over_without_end : (reading : Option Instant) → IsOver Never reading → ⊥
  pub far_by_less : (end now : Instant) → instant_nanos now + 99_999_999 ≡ instant_nanos end
      → IsFar (At end) (Some now) → ⊥
  pub far_unread : (end : Instant) → IsFar (At end) None → ⊥
  pub never_after_a_failure : (timeout : Duration) → IsAfter timeout None Never → ⊥
  pub later_after_a_failure : (timeout : Duration) (end : Instant) → IsAfter timeout None (At end) → ⊥
  pub passed_after_a_reading : (timeout : Duration) (now : Instant) → IsAfter timeout (Some now) Passed → ⊥
  pub a_nanosecond_early : (timeout : Duration) (now end : Instant)
      → instant_nanos end + 1 ≡ instant_nanos now + as_nanos timeout → IsAfter timeout (Some now) (At end) → ⊥
  pub a_nanosecond_late : (timeout : Duration) (now end : Instant)
      → instant_nanos end ≡ instant_nanos now + as_nanos timeout + 1 → IsAfter timeout (Some now) (At end) → ⊥
  pub never_where_it_fits : (timeout : Duration) (now : Instant)
      → FitsClock (instant_nanos now + as_nanos timeout) → IsAfter timeout (Some now) Never → ⊥
