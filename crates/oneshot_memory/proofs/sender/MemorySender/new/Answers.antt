-- Proofs of the goals that `new` of `MemorySender` leaves.
use Rattle.std.proofs.Common.{◌≡◌, [], rules, refl}
use Rattle.oneshot_machine.specs.Slots.{is_away, is_vacant}
use Rattle.oneshot_memory.proofs.sender.MemorySender.new.Goals as goal
use Rattle.oneshot_memory.proofs.sender.MemorySender.new.Goals.{then-receiver_is_here, else-receiver_is_here}

pub invariant_of-result : goal.invariant_of-result
invariant_of-result g c =
    let none : c.new.result.items ≡ [] = search rules in
    rw none (elim c.if-receiver_is_here.branch [
      | then-receiver_is_here w ↦ rw w.result-is record { is_so = refl }
      | else-receiver_is_here w ↦ rw w.result-is
          record { is_so = refl }
    ])

pub returns-clause-fresh : goal.returns-clause-fresh
returns-clause-fresh g c =
    let none : c.new.result.items ≡ [] = search rules in
    rw none record { phase = refl; message = is_vacant; waker = is_away }
