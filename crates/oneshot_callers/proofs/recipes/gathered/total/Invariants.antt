-- Each channel so far is about its size; the counts so far and the sizes that are left are at most all sizes.
use Rattle.std.proofs.Common.{◌≡◌, ◌+◌, ◌≤◌, map, take}
use Rattle.std.specs.List.{sum, sum_by}
use Rattle.std.specs.Vec.Iter.{into_iter_items}
use Rattle.oneshot_callers.proofs.recipes.gathered.total.Given as goal

abbrev pub invariant-loop-size : goal.invariant-loop-size
invariant-loop-size g l = map (λ c. c.channel.about.0) l.counts.items ≡ take l.size-index l.sizes

abbrev pub invariant-loop-counted : goal.invariant-loop-counted
invariant-loop-counted g l =
    l.total + sum_by (λ c. c.channel.about.0) (into_iter_items l.counted-iterator) ≤ sum l.sizes
