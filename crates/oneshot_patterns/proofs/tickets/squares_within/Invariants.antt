-- Each ticket waited on so far has its answer.
use Rattle.std.proofs.Common.{◌≡◌, ◌+◌, vec_len}
use Rattle.std.specs.Vec.Iter.{into_iter_len}
use Rattle.oneshot_patterns.proofs.tickets.squares_within.Given as goal

abbrev pub invariant-loop-pending : goal.invariant-loop-pending
invariant-loop-pending g l =
    vec_len l.answers + into_iter_len l.pending-iterator ≡ into_iter_len l.initial.pending-iterator
