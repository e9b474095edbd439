-- The future may be polled again, and the polls so far keep what the context has registered.
use Rattle.futures.specs.Task.{Keeps}
use Rattle.oneshot_loops.proofs.polled.pend.Given as goal

abbrev pub invariant-loop-polled : goal.invariant-loop-polled
invariant-loop-polled g l = g.F.Future.can_poll l.future × Keeps l.fn.cx l.cx
