-- Between deeds the receiver is at rest, and its hand is ready for the next call.
use Rattle.oneshot_machine.specs.Logs.{receiver_of}
use Rattle.oneshot_drive.specs.BetweenCalls.{AtRest, IsReady}
use Rattle.oneshot_part_tests.proofs.drive.deeds.receive.Given as goal

abbrev pub invariant-loop-line : goal.invariant-loop-line
invariant-loop-line g l =
    record {
      rests : AtRest l.g.state;
      ready : IsReady l.hand (receiver_of l.g.state.log);
    }
