-- Proofs of the goals that `examples_are_so` leaves.
use Rattle.oneshot_bridge.proofs.CallExamples.{worked_calls, wrong_calls}
use Rattle.oneshot_bridge.proofs.CellExamples.{worked_cells, wrong_cells, wrong_uses}
use Rattle.oneshot_bridge.proofs.Examples.{worked_run, wrong_runs}
use Rattle.oneshot_bridge.proofs.RunExamples.{answers_that_are, runs_that_are, runs_that_are_not, runs_say}
use Rattle.oneshot_bridge.proofs.examples_are_so.Goals as goal

pub returns : goal.returns
returns g c =
    record {
      run = worked_run;
      wrong = wrong_runs;
      cells = worked_cells;
      wrong_cells = wrong_cells;
      wrong_uses = wrong_uses;
      calls = worked_calls;
      wrong_calls = wrong_calls;
      answers = answers_that_are;
      runs = runs_that_are;
      no_runs = runs_that_are_not;
      runs_say = runs_say;
    }
