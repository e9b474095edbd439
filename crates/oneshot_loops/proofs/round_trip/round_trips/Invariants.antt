-- Each batch so far made all its rounds.
use Rattle.std.proofs.Common.{◌≡◌, ◌*◌}
use Rattle.oneshot_loops.proofs.round_trip.round_trips.Given as goal

abbrev pub invariant-loop-batches : goal.invariant-loop-batches
invariant-loop-batches g l = l.made ≡ l._batches * 1024
