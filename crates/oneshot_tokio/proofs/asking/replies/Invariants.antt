-- Each request awaited so far has the reply to its number.
use Rattle.std.proofs.Common.{◌≡◌, ◌++◌, map}
use Rattle.std.specs.Vec.Iter.{into_iter_items}
use Rattle.oneshot_tokio.proofs.asking.replies.Given as goal

abbrev pub invariant-loop-pending : goal.invariant-loop-pending
invariant-loop-pending g l =
    map (λ r. r.root) l.replies.items ++ map (λ p. p.root) (into_iter_items l.pending-iterator)
    ≡ map (λ p. p.root) (into_iter_items l.initial.pending-iterator)
