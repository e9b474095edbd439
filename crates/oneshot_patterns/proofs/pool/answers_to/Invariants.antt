-- Each receiver waited on so far has its answer.
use Rattle.std.proofs.Common.{◌≡◌, ◌+◌, vec_len}
use Rattle.std.specs.Vec.Iter.{into_iter_len}
use Rattle.oneshot_patterns.proofs.pool.answers_to.Given as goal

abbrev pub invariant-loop-asked : goal.invariant-loop-asked
invariant-loop-asked g l =
    vec_len l.answers + into_iter_len l.asked-iterator ≡ into_iter_len l.initial.asked-iterator
