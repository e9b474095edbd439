-- Each number so far has its request.
use Rattle.std.proofs.Common.{◌≡◌, map, take}
use Rattle.oneshot_tokio.proofs.client.Client.ask_all.Given as goal

abbrev pub invariant-loop-root : goal.invariant-loop-root
invariant-loop-root g l = map (λ p. p.root) l.all.items ≡ take l.root-index l.roots
