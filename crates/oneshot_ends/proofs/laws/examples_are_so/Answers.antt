-- Proofs of the goals that `examples_are_so` leaves.
use Rattle.oneshot_ends.proofs.DeadlineExamples.{deadlines_that_are, deadlines_that_are_not}
use Rattle.oneshot_ends.proofs.PatienceExamples.{waits_that_are, waits_that_are_not}
use Rattle.oneshot_ends.proofs.laws.examples_are_so.Goals as goal

pub returns : goal.returns
returns c =
    record {
      deadlines = deadlines_that_are;
      no_deadlines = deadlines_that_are_not;
      waits = waits_that_are;
      no_waits = waits_that_are_not;
    }
