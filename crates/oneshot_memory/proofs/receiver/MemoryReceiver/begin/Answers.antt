-- Proofs of the goals that `begin` of `MemoryReceiver` leaves.
use Rattle.std.proofs.Common.{rules}
use Rattle.oneshot_memory.proofs.ReceiverMatches.{lingering}
use Rattle.oneshot_memory.proofs.receiver.MemoryReceiver.begin.Goals as goal

pub invariant_of-self : goal.invariant_of-self
invariant_of-self g c = lingering c.self.invariant (search rules) (search rules)
