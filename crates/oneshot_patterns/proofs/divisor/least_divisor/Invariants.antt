-- No value tried so far divides the number.
use Rattle.std.proofs.Common.{◌≢◌, ◌%◌, ◌<◌, ℕ}
use Rattle.oneshot_patterns.proofs.divisor.least_divisor.Given as goal

abbrev pub invariant-loop-value : goal.invariant-loop-value
invariant-loop-value l = (k : ℕ) → 1 < k → k < l.value → l.number % k ≢ 0
