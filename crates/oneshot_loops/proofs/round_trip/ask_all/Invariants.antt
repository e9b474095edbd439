-- There is a reply for each request so far.
use Rattle.std.proofs.Common.{◌≡◌, ◌+◌}
use Rattle.std.specs.Vec.Iter.{into_iter_len}
use Rattle.oneshot_loops.proofs.round_trip.ask_all.Given as goal

abbrev pub invariant-loop-requests : goal.invariant-loop-requests
invariant-loop-requests g l =
    l.replies + into_iter_len l.requests-iterator ≡ into_iter_len l.initial.requests-iterator
