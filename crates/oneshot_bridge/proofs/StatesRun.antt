-- Each order is a run, and each state that the rule of the word allows is that of a run, since both ends are scripted.
use Rattle.oneshot_machine.specs.declared.machine.End.TheVariants.{Sender}
use Rattle.oneshot_machine.proofs.InOrders.{order_is}
use Rattle.oneshot_bridge.proofs.Names.{Receiver, is_right, RunsHaveCells, RunsTo, OrdersAreRuns, StatesAreOfRuns}
use Rattle.oneshot_bridge.proofs.CellsRun.{cells_run}
use Rattle.oneshot_bridge.proofs.Interleaves.{interleaves}
use Rattle.oneshot_bridge.proofs.ReceiverLogs.{receiver_scripted}
use Rattle.oneshot_bridge.proofs.SenderScripted.{sender_scripted}
use Rattle.oneshot_bridge.proofs.Replied.{replied_in}
use Rattle.oneshot_bridge.proofs.Worlds.{Got, the_model}

pub runs_have_cells : (T : Type 0) → RunsHaveCells T
runs_have_cells T a b moves entries now xs ys word run order = cells_run a b run order

pub orders_run : (T : Type 0) → OrdersAreRuns T
orders_run T a b xs ys n s r order sender receiver =
    let got : Got a b xs ys n s r = interleaves (the_model a b) order sender receiver in
    record {
      moves = got.moves;
      entries = got.entries;
      now = got.now;
      run = got.run;
      sender = let replies = replied_in a b got.entries Sender s.1 s.2 got.sender_replied in
          λ i. (got.sender i, got.sender_left i, replies i);
      receiver = let replies = replied_in a b got.entries Receiver r.1 r.2 got.receiver_replied in
          λ i. (got.receiver i, got.receiver_left i, replies i);
      right = is_right a b got.moves got.entries got.now got.run.run;
    }

pub states_run : (T : Type 0) → StatesAreOfRuns T
states_run T message xs ys word order =
    let a = sender_scripted T message xs ys word order in
    let b = receiver_scripted xs ys word order in
    let run : RunsTo a.0 b.0 xs ys word a.2 b.1 = orders_run T a.0 b.0 xs ys word a.2 b.1 (order_is order) a.3 b.2 in
    record {
      sender = a.0;
      sends = a.1;
      receiver = b.0;
      moves = run.moves;
      entries = run.entries;
      now = run.now;
      run = run.run;
      right = run.right;
    }
