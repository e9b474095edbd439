-- Each number so far has its receiver.
use Rattle.std.proofs.Common.{◌≡◌, vec_len}
use Rattle.oneshot_patterns.proofs.request.squares_of.Given as goal

abbrev pub invariant-loop-root : goal.invariant-loop-root
invariant-loop-root g l = vec_len l.asked ≡ l.root-index
