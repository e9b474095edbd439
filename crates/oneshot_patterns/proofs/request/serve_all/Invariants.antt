-- The count is at most the number of requests served so far.
use Rattle.std.proofs.Common.{◌+◌, ◌≤◌}
use Rattle.std.specs.Vec.Iter.{into_iter_len}
use Rattle.oneshot_patterns.proofs.request.serve_all.Given as goal

abbrev pub invariant-loop-request : goal.invariant-loop-request
invariant-loop-request l =
    l.served + into_iter_len l.request-iterator ≤ into_iter_len l.initial.request-iterator
