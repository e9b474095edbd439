-- The invariant of the test's loop.
use Rattle.std.proofs.Common.{◌≡◌}
use Rattle.oneshot_model_tests.proofs.replayer.a_refused_message_is_followed_move_by_move.Given as goal

abbrev pub invariant-loop-i : goal.invariant-loop-i
invariant-loop-i g l = l.replayer.count ≡ l.i
