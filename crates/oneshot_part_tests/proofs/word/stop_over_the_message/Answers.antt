-- Proofs of the goals that `stop_over_the_message` leaves.
use Rattle.std.proofs.Common.{rules, ◌≡◌, ℕ, refl}
use Rattle.oneshot_machine.specs.declared.states.Op.TheVariants.{Store, Swap}
use Rattle.oneshot_machine.specs.declared.states.TheConstants.{DISCONNECTED, EMPTY, MESSAGE}
use Rattle.oneshot_machine.specs.Phases.{blocked, waits, stopping, swapped, full, receiver_at}
use Rattle.oneshot_machine.specs.Slots.{Held, vacant, held, gets_thing, gets_room, head, tail, finds, ReceiverFinds}
use Rattle.oneshot_word.specs.Side.{ReceiverDid}
use Rattle.oneshot_part_tests.proofs.Shown.{Plain, stops_only, ReceiverIs, receiver_can, receiver_told, receiver_went, receiver_is, closes, keeps_message}
use Rattle.oneshot_part_tests.proofs.Released.{closed_at}
use Rattle.oneshot_part_tests.proofs.word.stop_over_the_message.Goals as goal

module _ {T W : Type 0} where
  found_message : {m m' : Held T} {w w' : Held W} → ReceiverFinds (waits blocked) (Swap EMPTY) MESSAGE m w m' w'
      → (x : T) × (m' ≡ held x) × (w' ≡ vacant)
  found_message (finds (tail (tail (tail (tail (tail (tail head)))))) (gets_thing x) gets_room) = (x, refl, refl)
  found_message (finds (tail (tail (tail (tail (tail (tail (tail (tail there)))))))) _ _) = elim there [ ]

  stops : {s t : Plain T W} {found : ℕ} → receiver_at s.log ≡ waits blocked → ReceiverDid s (Swap EMPTY) found t
      → found ≡ MESSAGE → (x : T) × ReceiverIs t (full (swapped stopping)) (held x) vacant
  stops {s} at did same =
      let it = found_message (receiver_told (Swap EMPTY) MESSAGE (receiver_is s at) did same) in (
        it.0,
        record { at = receiver_went (Swap EMPTY) MESSAGE (receiver_is s at) did same; message = it.1; waker = it.2 },
      )

pub store-found-requires : goal.store-found-requires
store-found-requires g c =
    let it = stops (stops_only c.requires) c.swap-found.ensures (search rules) in
    receiver_can (Store DISCONNECTED) it.1 (closes (swapped stopping) it.0)

pub take_message-requires : goal.take_message-requires
take_message-requires g c =
    let it = stops (stops_only c.requires) c.swap-found.ensures (search rules) in
    (it.0, keeps_message (receiver_told (Store DISCONNECTED) EMPTY it.1 c.store-found.ensures (search rules)))

pub returns : goal.returns
returns g c =
    let it = stops (stops_only c.requires) c.swap-found.ensures (search rules) in
    let over = closed_at c.store-found.new.self
    (receiver_went (Store DISCONNECTED) EMPTY it.1 c.store-found.ensures (search rules)) in
    search (rules, over)
