-- Each receiver waited on so far has its entry in the result.
use Rattle.std.proofs.Common.{◌≡◌, ◌+◌, vec_len}
use Rattle.std.specs.Vec.Iter.{into_iter_len}
use Rattle.oneshot_patterns.proofs.request.wait_all.Given as goal

abbrev pub invariant-loop-asked : goal.invariant-loop-asked
invariant-loop-asked g l =
    vec_len l.replies + into_iter_len l.asked-iterator ≡ into_iter_len l.initial.asked-iterator
