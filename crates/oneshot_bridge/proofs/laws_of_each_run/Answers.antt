-- Proofs of the goals that `laws_of_each_run` leaves.
use Rattle.oneshot_bridge.proofs.Given.{one_receive_gets, run_loses_no_wakeup, run_frees_once, run_frees_last, run_frees_by_its_holder}
use Rattle.oneshot_bridge.proofs.laws_of_each_run.Goals as goal

pub returns : goal.returns
returns g c =
    record {
      one_receive_gets = one_receive_gets _;
      run_loses_no_wakeup = run_loses_no_wakeup _;
      run_frees_once = run_frees_once _;
      run_frees_last = run_frees_last _;
      run_frees_by_its_holder = run_frees_by_its_holder _;
    }
