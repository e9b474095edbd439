-- A log that an order allows the receiver has words that its table may find, as the law of exact tables requires.
use Rattle.oneshot_bridge.proofs.Names.{◌≡◌, ℕ, Bool, true, false, ◌&&◌, List, refl, and_parts, Op, none_yet, one_more, Noted, Reaches, has_row, nothing_made, ReceiverAt, receiver_moves, Share, none}
use Rattle.oneshot_bridge.proofs.Names.{empty, filled, Slots, Row, Held, away, vacant, held, IsSlot, is_away, is_vacant, SlotChange, stays_away, stays_vacant, stays_held, gives_room, gives_thing}
use Rattle.oneshot_bridge.proofs.Names.{gets_room, gets_thing, In, ReceiverMay, may, ReceiverFinds, finds}
use Rattle.oneshot_machine.proofs.EachPhase.{in_each_receiver_row}
use Rattle.oneshot_machine.specs.Exact.{IsFound}
use Rattle.oneshot_machine.specs.Orders.{sender_makes, receiver_makes}
use Rattle.oneshot_machine.specs.Phases.{receiver_at}
use Rattle.oneshot_machine.specs.Slots.{is_held}

-- each slot of a row stays, is given up or comes
abbrev can_change : Share → Share → Bool
can_change empty filled = false
can_change filled empty = false
can_change _ _ = true

abbrev is_changing : Row ReceiverAt → Bool
is_changing row = can_change row.1.0 row.4.0 && can_change row.1.1 row.4.1

record Changing (s t : Share) : Type 0 where
  before : Held (Unit {0})
  after : Held (Unit {0})
  changes : SlotChange s t before after

changing : (s t : Share) → can_change s t ≡ true → Changing s t
changing none none e = record { before = away; after = away; changes = stays_away }
changing none empty e = record { before = away; after = vacant; changes = gets_room }
changing none filled e = record { before = away; after = held tt; changes = gets_thing tt }
changing empty none e = record { before = vacant; after = away; changes = gives_room }
changing empty empty e = record { before = vacant; after = vacant; changes = stays_vacant }
changing filled none e = record { before = held tt; after = away; changes = gives_thing tt }
changing filled filled e = record { before = held tt; after = held tt; changes = stays_held tt }
changing _ _ e = absurd (cc e)

slot_before : {X : Type 0} {s t : Share} {m n : Held X} → SlotChange s t m n → IsSlot s m
slot_before stays_away = is_away
slot_before stays_vacant = is_vacant
slot_before (stays_held x) = is_held x
slot_before gives_room = is_vacant
slot_before (gives_thing x) = is_held x
slot_before gets_room = is_away
slot_before (gets_thing x) = is_away

-- a row is found with some slots, and its operation may be performed with them
pub record RowFound (at : ReceiverAt) (op : Op) (word : ℕ) : Type 0 where
  pub m : Held (Unit {0})
  pub w : Held (Unit {0})
  pub m_after : Held (Unit {0})
  pub w_after : Held (Unit {0})
  pub finds : ReceiverFinds at op word m w m_after w_after
  pub may : ReceiverMay at op m w

pub row_found : (at : ReceiverAt) {op : Op} {before after : Slots} {word : ℕ} {next : ReceiverAt}
    → In (op, before, word, next, after) (receiver_moves at) → RowFound at op word
row_found at {before} {after} row =
    let change = and_parts (can_change before.0 after.0) (can_change before.1 after.1)
    (in_each_receiver_row (λ at. is_changing) refl at row) in
    let message = changing before.0 after.0 change.0 in
    let waker = changing before.1 after.1 change.1 in
    record {
      m = message.before;
      w = waker.before;
      m_after = message.after;
      w_after = waker.after;
      finds = finds row message.changes waker.changes;
      may = may row (slot_before message.changes) (slot_before waker.changes);
    }

abbrev pub IsReceiverLog : List Noted → Type 0
IsReceiverLog = IsFound {T = Unit {0}} {W = Unit {0}} receiver_at ReceiverFinds

pub is_found : {xs ys : List Noted} {word : ℕ} → Reaches xs ys word → IsReceiverLog ys
is_found nothing_made = none_yet
is_found (sender_makes op order row) = is_found order
is_found (receiver_makes {ys} {word} op order (has_row row)) =
    one_more word (is_found order) (row_found (receiver_at ys) row).finds
