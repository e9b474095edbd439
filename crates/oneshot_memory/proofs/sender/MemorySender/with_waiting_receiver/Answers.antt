-- Proofs of the goals that `with_waiting_receiver` of `MemorySender` leaves.
use Rattle.std.proofs.Common.{◌≡◌, [], rules, refl}
use Rattle.oneshot_machine.specs.Slots.{is_away, is_vacant}
use Rattle.oneshot_memory.proofs.sender.MemorySender.with_waiting_receiver.Goals as goal

pub invariant_of-result : goal.invariant_of-result
invariant_of-result g c = let none : c.new.result.items ≡ [] = search rules in rw none record { is_so = refl }

pub returns-clause-fresh : goal.returns-clause-fresh
returns-clause-fresh g c =
    let none : c.new.result.items ≡ [] = search rules in
    rw none record { phase = refl; message = is_vacant; waker = is_away }
