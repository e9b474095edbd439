-- The rounds so far keep what the context has registered.
use Rattle.futures.specs.Task.{Keeps}
use Rattle.oneshot_loops.proofs.polled.make_all.Given as goal

abbrev pub invariant-loop-made : goal.invariant-loop-made
invariant-loop-made g l = Keeps l.fn.cx l.cx
