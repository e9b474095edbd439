-- Proofs of the goals that `stop_too_late` leaves.
use Rattle.std.proofs.Common.{rules, ◌≡◌, ℕ, refl}
use Rattle.oneshot_machine.specs.declared.states.Op.TheVariants.{Load, Swap}
use Rattle.oneshot_machine.specs.declared.states.TheConstants.{UNPARKING, EMPTY}
use Rattle.oneshot_machine.specs.Phases.{blocked, waits, overdue, receiver_at}
use Rattle.oneshot_machine.specs.Slots.{Held, away, is_away, stays_away, head, tail, may, finds, ReceiverFinds}
use Rattle.oneshot_word.specs.Side.{ReceiverDid}
use Rattle.oneshot_part_tests.proofs.Shown.{Plain, stops_only, ReceiverIs, receiver_can, receiver_told, receiver_went, receiver_is}
use Rattle.oneshot_part_tests.proofs.word.stop_too_late.Goals as goal

module _ {T W : Type 0} where
  found_claimed : {m m' : Held T} {w w' : Held W} → ReceiverFinds (waits blocked) (Swap EMPTY) UNPARKING m w m' w'
      → (m' ≡ away) × (w' ≡ away)
  found_claimed (finds (tail (tail (tail (tail (tail head))))) stays_away stays_away) = (refl, refl)
  found_claimed (finds (tail (tail (tail (tail (tail (tail (tail (tail there)))))))) _ _) = elim there [ ]

  found_nothing : {m : Held T} {w : Held W} → ReceiverFinds overdue Load EMPTY away away m w → (m ≡ away) × (w ≡ away)
  found_nothing (finds head stays_away stays_away) = (refl, refl)
  found_nothing (finds (tail (tail (tail there))) _ _) = elim there [ ]

  stops : {s t : Plain T W} {found : ℕ} → receiver_at s.log ≡ waits blocked → ReceiverDid s (Swap EMPTY) found t
      → found ≡ UNPARKING → ReceiverIs t overdue away away
  stops {s} at did same =
      let it = found_claimed (receiver_told (Swap EMPTY) UNPARKING (receiver_is s at) did same) in
      record { at = receiver_went (Swap EMPTY) UNPARKING (receiver_is s at) did same; message = it.0; waker = it.1 }

  waits_on : {s t : Plain T W} {found : ℕ} → ReceiverIs s overdue away away → ReceiverDid s Load found t → found ≡ EMPTY
      → ReceiverIs t overdue away away
  waits_on is did same =
      let none = found_nothing (receiver_told Load EMPTY is did same) in
      record { at = receiver_went Load EMPTY is did same; message = none.0; waker = none.1 }

pub load-found-requires : goal.load-found-requires
load-found-requires g c =
    receiver_can Load (stops (stops_only c.requires) c.swap-found.ensures (search rules)) (may head is_away is_away)

pub returns-clause-at : goal.returns-clause-at
returns-clause-at g c =
    (waits_on (stops (stops_only c.requires) c.swap-found.ensures (search rules)) c.load-found.ensures
    (search rules)).at

pub returns-clause-loads : goal.returns-clause-loads
returns-clause-loads g c =
    receiver_can Load (waits_on (stops (stops_only c.requires) c.swap-found.ensures (search rules)) c.load-found.ensures
    (search rules)) (may head is_away is_away)
