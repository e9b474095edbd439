-- Proofs of the goals that `records` leaves.
use Rattle.oneshot_law_examples.proofs.RecordExamples.{right_records, wrong_records, wrong_runs}
use Rattle.oneshot_law_examples.proofs.StepExamples.{calls_that_are_left, steps_that_are, steps_that_are_not}
use Rattle.oneshot_law_examples.proofs.WakersComputed.{wakers_are_computed}
use Rattle.oneshot_law_examples.proofs.records.Goals as goal

pub returns : goal.returns
returns c =
    record {
      wakers = wakers_are_computed;
      right = right_records;
      wrong = wrong_records;
      wrong_runs = wrong_runs;
      left = calls_that_are_left;
      steps = steps_that_are;
      no_steps = steps_that_are_not;
    }
