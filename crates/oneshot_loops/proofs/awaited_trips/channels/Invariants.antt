-- There is a channel for each request so far.
use Rattle.std.proofs.Common.{◌≡◌, vec_len}
use Rattle.oneshot_loops.proofs.awaited_trips.channels.Given as goal

abbrev pub invariant-loop-opened : goal.invariant-loop-opened
invariant-loop-opened l = vec_len l.senders ≡ l._opened
