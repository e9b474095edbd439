-- Proofs of the goals that `examples_are_so` leaves.
use Rattle.oneshot_contract_examples.proofs.ExactExamples.{tables_allow, tables_refuse}
use Rattle.oneshot_contract_examples.proofs.RunExamples.{logs_of_sender, logs_of_receiver, runs_that_are}
use Rattle.oneshot_contract_examples.proofs.NoRunExamples.{runs_that_are_not}
use Rattle.oneshot_contract_examples.proofs.FutureExamples.{logs_of_future, future_runs, future_runs_that_are_not}
use Rattle.oneshot_contract_examples.proofs.CountExamples.{counts_that_are, counts_that_are_not}
use Rattle.oneshot_contract_examples.proofs.LogExamples.{logs_that_grow, logs_that_do_not}
use Rattle.oneshot_contract_examples.proofs.RowExamples.{slots_that_are, slots_that_are_not}
use Rattle.oneshot_contract_examples.proofs.OverExamples.{ends_that_are_over, ends_that_are_not_over}
use Rattle.oneshot_contract_examples.proofs.OrderExamples.{orders_that_are, orders_that_are_not}
use Rattle.oneshot_contract_examples.proofs.tables.examples_are_so.Goals as goal

pub returns : goal.returns
returns c =
    record {
      tables = tables_allow;
      no_tables = tables_refuse;
      senders = logs_of_sender;
      receivers = logs_of_receiver;
      runs = runs_that_are;
      no_runs = runs_that_are_not;
      futures = logs_of_future;
      future_runs = future_runs;
      no_future_runs = future_runs_that_are_not;
      counts = counts_that_are;
      no_counts = counts_that_are_not;
      orders = orders_that_are;
      no_orders = orders_that_are_not;
      logs = logs_that_grow;
      no_logs = logs_that_do_not;
      slots = slots_that_are;
      no_slots = slots_that_are_not;
      over = ends_that_are_over;
      not_over = ends_that_are_not_over;
    }
