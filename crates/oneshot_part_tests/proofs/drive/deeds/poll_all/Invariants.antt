-- Between deeds the future is one that may be polled.
use Rattle.oneshot_drive.specs.Polls.{IsPolled}
use Rattle.oneshot_part_tests.proofs.drive.deeds.poll_all.Given as goal

abbrev pub invariant-loop-line : goal.invariant-loop-line
invariant-loop-line g l = IsPolled l.future.receiver.state
