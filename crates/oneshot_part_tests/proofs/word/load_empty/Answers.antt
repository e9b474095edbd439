-- Proofs of the goals that `load_empty` leaves.
use Rattle.std.proofs.Common.{rules, ◌≡◌, refl, subst}
use Rattle.oneshot_machine.specs.declared.states.Op.TheVariants.{Load}
use Rattle.oneshot_machine.specs.declared.states.TheConstants.{EMPTY}
use Rattle.oneshot_machine.specs.Phases.{untouched, receiver_at}
use Rattle.oneshot_machine.specs.Slots.{Held, away, vacant, is_away, stays_away, gets_room, head, tail, may, finds, ReceiverFinds, not_its_own, owns, ReceiverOwns}
use Rattle.oneshot_part_tests.proofs.Shown.{Plain, ReceiverIs, receiver_can, receiver_told, receiver_went}
use Rattle.oneshot_part_tests.proofs.word.load_empty.Goals as goal

module _ {T W : Type 0} where
  owns_none : {m : Held T} {w : Held W} → ReceiverOwns untouched m w → (m ≡ away) × (w ≡ away)
  owns_none (owns not_its_own not_its_own) = (refl, refl)

  found_none : {m : Held T} {w : Held W} → ReceiverFinds untouched Load EMPTY away away m w → w ≡ vacant
  found_none (finds head stays_away gets_room) = refl
  found_none (finds (tail (tail (tail (tail (tail (tail there)))))) _ _) = elim there [ ]

  begins : (s : Plain T W) → receiver_at s.log ≡ untouched → ReceiverOwns (receiver_at s.log) s.message s.waker
      → ReceiverIs s untouched away away
  begins s at its =
      let none = owns_none (subst (λ q. ReceiverOwns q s.message s.waker) at its) in
      record { at = at; message = none.0; waker = none.1 }

pub load-found-requires : goal.load-found-requires
load-found-requires g c =
    receiver_can Load (begins c.args.receiver.now c.requires c.owns_its_slots.ensures) (may head is_away is_away)

pub returns-clause-at : goal.returns-clause-at
returns-clause-at g c =
    receiver_went Load EMPTY (begins c.args.receiver.now c.requires c.owns_its_slots.ensures) c.load-found.ensures
    (search rules)

pub returns-clause-waker : goal.returns-clause-waker
returns-clause-waker g c =
    found_none (receiver_told Load EMPTY (begins c.args.receiver.now c.requires c.owns_its_slots.ensures)
    c.load-found.ensures (search rules))
