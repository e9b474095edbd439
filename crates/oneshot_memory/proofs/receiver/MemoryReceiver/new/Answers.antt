-- Proofs of the goals that `new` of `MemoryReceiver` leaves.
use Rattle.std.proofs.Common.{◌≡◌, [], rules, refl}
use Rattle.oneshot_machine.specs.Slots.{is_away}
use Rattle.oneshot_drive.specs.BetweenCalls.{rests_new}
use Rattle.oneshot_memory.proofs.receiver.MemoryReceiver.new.Goals as goal

pub invariant_of-result : goal.invariant_of-result
invariant_of-result g c = let none : c.new.result.items ≡ [] = search rules in rw none record { is_so = refl }

pub returns-clause-rests : goal.returns-clause-rests
returns-clause-rests g c =
    let none : c.new.result.items ≡ [] = search rules in
    rw none record { at = _; is_one = rests_new; stands = record { phase = refl; message = is_away; waker = is_away } }
