-- When a receive stops waiting, by what its clock reads, and the run of a receive with a timeout.
use Rattle.std.specs.Prelude.{◌≡◌, ◌↔◌, ◌+◌, Bool, true, false, IsTrue, ◌<◌, ◌≤◌, List, Option, Some, None}
use Rattle.std.specs.Duration.{as_nanos}
use Rattle.std.specs.declared.time.Duration.{Duration}
use Rattle.std.specs.Time.{instant_nanos, FitsClock}
use Rattle.std.specs.declared.time.Instant.{Instant}
use Rattle.oneshot_machine.specs.declared.machine.Reply.{Reply}
use Rattle.oneshot_machine.specs.declared.machine.receiver.ReceiverStart.TheVariants.{RecvTimeout}
use Rattle.oneshot_machine.specs.Noted.{Noted}
use Rattle.oneshot_ends.specs.Ends.{ReceiverGrew}
use Rattle.oneshot_ends.specs.declared.deadline.Deadline.{Deadline}
use Rattle.oneshot_ends.specs.declared.deadline.Deadline.TheVariants.{At, Passed, Never}

-- the clock is past the instant; a failed reading counts as past every instant
abbrev pub IsOver : Deadline → Option Instant → Type 0
IsOver (At end) (Some now) = instant_nanos end < instant_nanos now
IsOver (At end) None = Unit {0}
IsOver Passed reading = Unit {0}
IsOver Never reading = ⊥

-- by this reading at least 100 milliseconds are left, which is meant to be more than all spins of a receive take
abbrev pub IsFar : Deadline → Option Instant → Type 0
IsFar (At end) (Some now) = instant_nanos now + 100_000_000 ≤ instant_nanos end
IsFar _ _ = ⊥

abbrev pub has_end : Deadline → Bool
has_end (At end) = true
has_end Passed = true
has_end Never = false

-- the deadline after this reading: `Passed` if it failed, and `Never` if no instant can hold the sum
abbrev pub IsAfter : Duration → Option Instant → Deadline → Type 0
IsAfter timeout None deadline = deadline ≡ Passed
IsAfter timeout (Some now) (At end) =
    (instant_nanos end ≡ instant_nanos now + as_nanos timeout) × FitsClock (instant_nanos now + as_nanos timeout)
IsAfter timeout (Some now) Passed = ⊥
IsAfter timeout (Some now) Never = FitsClock (instant_nanos now + as_nanos timeout) → ⊥

-- An instant can hold the sum of the reading and the timeout. After a failed reading the wait has an end too,
-- which is over at once.
abbrev pub HasEnd : Duration → Option Instant → Type 0
HasEnd timeout None = Unit {0}
HasEnd timeout (Some now) = FitsClock (instant_nanos now + as_nanos timeout)

-- A receive with this timeout after this reading of the clock, which may have failed, appended one run of its table to
-- the log. It waits without an end exactly if no instant can hold the sum. Public clauses name no reading: a receive
-- without an end has the log and the reply of one with an end, so they state `RecvTimeout true` of every timeout
-- (`says_no_less` of the examples).
pub record TimeoutRan (T : Type 0) (timeout : Duration) (reading : Option Instant) (before after : List Noted)
    (reply : Reply) : Type 0 where
  pub has_end : Bool
  pub held : IsTrue has_end ↔ HasEnd timeout reading
  pub grew : ReceiverGrew T (RecvTimeout has_end) before after reply
