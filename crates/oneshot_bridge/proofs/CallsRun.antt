-- Between calls: an order of both ends' logs is that of a run with the calls that the ends have made.
use Rattle.oneshot_bridge.proofs.Names.{subst, filter, CallsAreRuns, BothCallsAreRuns, OneCallGets, HaveCome, InOrder, gave_message}
use Rattle.std.specs.Prelude.{◌≤◌, length}
use Rattle.oneshot_machine.proofs.InOrders.{order_is}
use Rattle.oneshot_bridge.proofs.Given.{one_receive_gets}
use Rattle.oneshot_bridge.proofs.SenderScripted.{sender_scripted}
use Rattle.oneshot_bridge.proofs.StatesRun.{orders_run}
use Rattle.oneshot_bridge.proofs.ReceiverCalls.{ReceiverDone, receiver_done}
use Rattle.oneshot_bridge.proofs.SenderCalls.{SenderDone, sender_done}

pub calls_run : (T W : Type 0) → CallsAreRuns T W
calls_run T W message form received xs ys word order was =
    let a = sender_scripted T message xs ys word order in
    let b : ReceiverDone received ys = receiver_done form was in
    record {
      sender = a.0;
      sends = a.1;
      receiver = b.script;
      s = a.2;
      r = b.stand;
      run = orders_run T a.0 b.script xs ys word a.2 b.stand (order_is order) a.3 b.walk;
      rests = b.rests;
      none_left = b.none_left;
      answered = b.answered;
    }

pub both_calls_run : (T W : Type 0) → BothCallsAreRuns T W
both_calls_run T W message form sent received xs ys word order sender receiver =
    let a : SenderDone message sent xs = sender_done message sender in
    let b : ReceiverDone received ys = receiver_done form receiver in
    record {
      calls = record {
        sender = a.script;
        sends = a.sends;
        receiver = b.script;
        s = a.stand;
        r = b.stand;
        run = orders_run T a.script b.script xs ys word a.stand b.stand order a.walk b.walk;
        rests = b.rests;
        none_left = b.none_left;
        answered = b.answered;
      };
      rests = a.rests;
      none_left = a.none_left;
      answered = a.answered;
    }

pub one_call_gets : (T W : Type 0) → OneCallGets T W
one_call_gets T W message form received xs ys word order was =
    let a = sender_scripted T message xs ys word order in
    let b : ReceiverDone received ys = receiver_done form was in
    let come : HaveCome InOrder a.0 b.script xs ys word a.2 b.stand =
    record { order = order_is order; sender = a.3; receiver = b.walk } in
    subst (λ replies. length (filter gave_message replies) ≤ 1) b.answered
    (one_receive_gets T a.0 b.script xs ys word a.2 b.stand come)
