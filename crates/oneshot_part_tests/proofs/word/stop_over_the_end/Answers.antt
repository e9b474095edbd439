-- Proofs of the goals that `stop_over_the_end` leaves.
use Rattle.std.proofs.Common.{rules, ◌≡◌, ℕ, refl}
use Rattle.oneshot_machine.specs.declared.states.Op.TheVariants.{Store, Swap}
use Rattle.oneshot_machine.specs.declared.states.TheConstants.{DISCONNECTED, EMPTY}
use Rattle.oneshot_machine.specs.Phases.{blocked, waits, stopping, overwritten, receiver_at}
use Rattle.oneshot_machine.specs.Slots.{Held, vacant, is_vacant, gets_room, head, tail, may, finds, ReceiverFinds}
use Rattle.oneshot_word.specs.Side.{ReceiverDid}
use Rattle.oneshot_part_tests.proofs.Shown.{Plain, stops_only, ReceiverIs, receiver_can, receiver_told, receiver_went, receiver_is}
use Rattle.oneshot_part_tests.proofs.Released.{closed_at}
use Rattle.oneshot_part_tests.proofs.word.stop_over_the_end.Goals as goal

module _ {T W : Type 0} where
  found_end : {m m' : Held T} {w w' : Held W} → ReceiverFinds (waits blocked) (Swap EMPTY) DISCONNECTED m w m' w'
      → (m' ≡ vacant) × (w' ≡ vacant)
  found_end (finds (tail (tail (tail (tail (tail (tail (tail head))))))) gets_room gets_room) = (refl, refl)
  found_end (finds (tail (tail (tail (tail (tail (tail (tail (tail there)))))))) _ _) = elim there [ ]

  stops : {s t : Plain T W} {found : ℕ} → receiver_at s.log ≡ waits blocked → ReceiverDid s (Swap EMPTY) found t
      → found ≡ DISCONNECTED → ReceiverIs t (overwritten stopping) vacant vacant
  stops {s} at did same =
      let it = found_end (receiver_told (Swap EMPTY) DISCONNECTED (receiver_is s at) did same) in
      record { at = receiver_went (Swap EMPTY) DISCONNECTED (receiver_is s at) did same; message = it.0; waker = it.1 }

pub store-found-requires : goal.store-found-requires
store-found-requires g c =
    receiver_can (Store DISCONNECTED) (stops (stops_only c.requires) c.swap-found.ensures (search rules))
    (may head is_vacant is_vacant)

pub returns : goal.returns
returns g c =
    closed_at c.store-found.new.self
    (receiver_went (Store DISCONNECTED) EMPTY (stops (stops_only c.requires) c.swap-found.ensures (search rules))
    c.store-found.ensures (search rules))
