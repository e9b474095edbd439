-- Proofs of the goals that `stop` leaves.
use Rattle.std.proofs.Common.{rules, ◌≡◌, ℕ, refl}
use Rattle.oneshot_machine.specs.declared.states.Op.TheVariants.{Load, Swap}
use Rattle.oneshot_machine.specs.declared.states.TheConstants.{RECEIVING, EMPTY}
use Rattle.oneshot_machine.specs.Phases.{blocked, waits, idle, after_timeout, receiver_at}
use Rattle.oneshot_machine.specs.Slots.{Held, away, vacant, held, is_away, is_vacant, stays_away, stays_vacant, gets_thing, head, tail, may, finds, ReceiverFinds}
use Rattle.oneshot_word.specs.Side.{ReceiverDid}
use Rattle.oneshot_part_tests.proofs.Shown.{Plain, stops_only, ReceiverIs, receiver_can, receiver_told, receiver_went, receiver_is, receiver_changed}
use Rattle.oneshot_part_tests.proofs.word.stop.Goals as goal

module _ {T W : Type 0} where
  found_waiting : {m m' : Held T} {w w' : Held W} → ReceiverFinds (waits blocked) (Swap EMPTY) RECEIVING m w m' w'
      → (k : W) × (m' ≡ away) × (w' ≡ held k)
  found_waiting (finds (tail (tail (tail (tail head)))) stays_away (gets_thing k)) = (k, refl, refl)
  found_waiting (finds (tail (tail (tail (tail (tail (tail (tail (tail there)))))))) _ _) = elim there [ ]

  found_none : {m : Held T} {w : Held W} → ReceiverFinds (idle after_timeout) Load EMPTY away vacant m w → w ≡ vacant
  found_none (finds head stays_away stays_vacant) = refl
  found_none (finds (tail (tail (tail (tail (tail (tail there)))))) _ _) = elim there [ ]

  stops : {s t : Plain T W} {found : ℕ} → receiver_at s.log ≡ waits blocked → ReceiverDid s (Swap EMPTY) found t
      → found ≡ RECEIVING → (k : W) × ReceiverIs t (idle after_timeout) away (held k)
  stops {s} at did same =
      let it = found_waiting (receiver_told (Swap EMPTY) RECEIVING (receiver_is s at) did same) in (
        it.0,
        record { at = receiver_went (Swap EMPTY) RECEIVING (receiver_is s at) did same; message = it.1; waker = it.2 },
      )

  takes : {s t u : Plain T W} {found : ℕ} → receiver_at s.log ≡ waits blocked → ReceiverDid s (Swap EMPTY) found t
      → found ≡ RECEIVING → u ≡ record t { waker = vacant } → ReceiverIs u (idle after_timeout) away vacant
  takes {t} {u} at did same e = receiver_changed t u vacant (stops at did same).1 e

pub take_waker-waker-requires : goal.take_waker-waker-requires
take_waker-waker-requires g c =
    let it = stops (stops_only c.requires) c.swap-found.ensures (search rules) in
    (it.0, it.1.waker)

pub load-found-requires : goal.load-found-requires
load-found-requires g c =
    receiver_can Load (takes (stops_only c.requires) c.swap-found.ensures (search rules)
    c.take_waker-waker.ensures.rest) (may head is_away is_vacant)

pub returns-clause-at : goal.returns-clause-at
returns-clause-at g c =
    receiver_went Load EMPTY (takes (stops_only c.requires) c.swap-found.ensures (search rules)
    c.take_waker-waker.ensures.rest) c.load-found.ensures (search rules)

pub returns-clause-waker : goal.returns-clause-waker
returns-clause-waker g c =
    found_none (receiver_told Load EMPTY
    (takes (stops_only c.requires) c.swap-found.ensures (search rules) c.take_waker-waker.ensures.rest)
    c.load-found.ensures (search rules))
