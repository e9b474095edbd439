-- The invariant of the test's loop.
use Rattle.std.proofs.Common.{◌≡◌}
use Rattle.oneshot_model_tests.proofs.replayer.a_receiver_that_nobody_wakes_parks_and_loads_in_turn.Given as goal

abbrev pub invariant-loop-i : goal.invariant-loop-i
invariant-loop-i g l = l.replayer.count ≡ l.i
