-- Proofs of the goals that `store_waker` leaves.
use Rattle.std.proofs.Common.{rules, ◌≡◌, ℕ, refl, subst}
use Rattle.oneshot_machine.specs.declared.states.Op.TheVariants.{Load, Swap}
use Rattle.oneshot_machine.specs.declared.states.TheConstants.{RECEIVING, EMPTY}
use Rattle.oneshot_machine.specs.Phases.{idle, after_load, blocked, waits, receiver_at}
use Rattle.oneshot_machine.specs.Slots.{Held, away, vacant, held, is_away, is_held, stays_away, gives_thing, head, tail, may, finds, ReceiverFinds, not_its_own, owns, ReceiverOwns}
use Rattle.oneshot_word.specs.Side.{ReceiverDid}
use Rattle.oneshot_part_tests.proofs.Shown.{Plain, ReceiverIs, receiver_can, receiver_told, receiver_went, receiver_changed}
use Rattle.oneshot_part_tests.proofs.word.store_waker.Goals as goal

module _ {T W : Type 0} where
  owns_no_message : {m : Held T} {w : Held W} → ReceiverOwns (idle after_load) m w → m ≡ away
  owns_no_message (owns not_its_own own) = refl

  gave_both : {k : W} {m : Held T} {w : Held W} → ReceiverFinds (idle after_load) (Swap RECEIVING) EMPTY away
      (held k) m w
      → (m ≡ away) × (w ≡ away)
  gave_both (finds (tail (tail (tail head))) stays_away (gives_thing k)) = (refl, refl)
  gave_both (finds (tail (tail (tail (tail (tail (tail (tail (tail (tail (tail (tail (tail there)))))))))))) _ _) =
      elim there [ ]

  begins : (s : Plain T W) → receiver_at s.log ≡ idle after_load → s.waker ≡ vacant
      → ReceiverOwns (receiver_at s.log) s.message s.waker → ReceiverIs s (idle after_load) away vacant
  begins s at waker its =
      record {
        at = at;
        message = owns_no_message (subst (λ q. ReceiverOwns q s.message s.waker) at its);
        waker = waker;
      }

  stores : {s t u : Plain T W} {k : W} {found : ℕ} → ReceiverIs s (idle after_load) away vacant
      → t ≡ record s { waker = held k } → ReceiverDid t (Swap RECEIVING) found u → found ≡ EMPTY
      → ReceiverIs u (waits blocked) away away
  stores {s} {t} {k} is e did same =
      let written = receiver_changed s t (held k) is e in
      let none = gave_both (receiver_told (Swap RECEIVING) EMPTY written did same) in
      record { at = receiver_went (Swap RECEIVING) EMPTY written did same; message = none.0; waker = none.1 }

pub swap-found-requires : goal.swap-found-requires
swap-found-requires g c =
    let is = begins c.args.receiver.now c.requires.at c.requires.waker c.owns_its_slots.ensures in
    receiver_can (Swap RECEIVING)
    (receiver_changed _ c.write_waker.new.self (held c.args.waker) is c.write_waker.ensures)
    (may (tail (tail (tail head))) is_away (is_held c.args.waker))

pub returns-clause-at : goal.returns-clause-at
returns-clause-at g c =
    let is = begins c.args.receiver.now c.requires.at c.requires.waker c.owns_its_slots.ensures in
    (stores is c.write_waker.ensures c.swap-found.ensures (search rules)).at

pub returns-clause-loads : goal.returns-clause-loads
returns-clause-loads g c =
    let is = begins c.args.receiver.now c.requires.at c.requires.waker c.owns_its_slots.ensures in
    receiver_can Load (stores is c.write_waker.ensures c.swap-found.ensures (search rules)) (may head is_away is_away)

pub returns-clause-stops : goal.returns-clause-stops
returns-clause-stops g c =
    let is = begins c.args.receiver.now c.requires.at c.requires.waker c.owns_its_slots.ensures in
    receiver_can (Swap EMPTY) (stores is c.write_waker.ensures c.swap-found.ensures (search rules))
    (may (tail (tail (tail (tail head)))) is_away is_away)
