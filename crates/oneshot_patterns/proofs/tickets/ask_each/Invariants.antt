-- Each number so far has its ticket.
use Rattle.std.proofs.Common.{◌≡◌, vec_len}
use Rattle.oneshot_patterns.proofs.tickets.ask_each.Given as goal

abbrev pub invariant-loop-root : goal.invariant-loop-root
invariant-loop-root g l = vec_len l.all ≡ l.root-index
