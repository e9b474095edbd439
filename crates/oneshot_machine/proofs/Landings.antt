-- The rows of the phases' table by their operation: whether a phase has one, and where an operation may land.
use Rattle.std.proofs.Common.{◌≡◌, ℕ, Bool, true, false, not, List, [], ◌∷◌, refl, sym, subst, true≢false}
use Rattle.std.specs.Prelude.{⊤, ◌==◌, ◌&&◌, if◌then◌else◌}
use Rattle.std.proofs.lemmas.Bool.{and_parts, eqb-true}
use Rattle.oneshot_machine.specs.declared.states.Op.{Op}
use Rattle.oneshot_machine.specs.Phases.{SenderAt, no_sender, sender_moves, ReceiverAt, no_receiver, receiver_moves, Share, empty, filled, Slots, Row}
use Rattle.oneshot_machine.specs.Slots.{Held, vacant, held, IsSlot, is_away, is_vacant, is_held, SlotChange, stays_away, stays_vacant, stays_held, gives_room, gives_thing}
use Rattle.oneshot_machine.specs.Slots.{gets_room, gets_thing, In, head}
use Rattle.oneshot_machine.specs.Slots.{tail, Finds, finds}
use Rattle.oneshot_machine.specs.Noted.{is_same_op}
use Rattle.oneshot_machine.proofs.Sameness.{ops_are_same, is_same_share, shares_are_same}
use Rattle.oneshot_machine.proofs.EachPhase.{at_each_sender, at_each_receiver}
use Rattle.oneshot_machine.proofs.Exactness.{differ}

-- slots: what is in them, and what is put there
pub is_in : {X : Type 0} {h : Held X} → IsSlot filled h → (x : X) × (h ≡ held x)
is_in (is_held x) = (x, refl)

pub is_room : {X : Type 0} {h : Held X} → IsSlot empty h → h ≡ vacant
is_room is_vacant = refl

pub put_in : {X : Type 0} {h : Held X} (x : X) → h ≡ held x → IsSlot filled h
put_in x is = subst (IsSlot filled) (sym is) (is_held x)

pub emptied : {X : Type 0} {h : Held X} → h ≡ vacant → IsSlot empty h
emptied is = subst (IsSlot empty) (sym is) is_vacant

pub as_before : {X : Type 0} {s : Share} {h h' : Held X} → IsSlot s h → h' ≡ h → IsSlot s h'
as_before {s} slot is = subst (IsSlot s) (sym is) slot

pub slot_after : {X : Type 0} {s t : Share} {h h' : Held X} → SlotChange s t h h' → IsSlot t h'
slot_after stays_away = is_away
slot_after stays_vacant = is_vacant
slot_after (stays_held x) = is_held x
slot_after gives_room = is_away
slot_after (gives_thing x) = is_away
slot_after gets_room = is_vacant
slot_after (gets_thing x) = is_held x

-- whether a row has this operation and needs these slots
abbrev pub is_row_of : {At : Type 0} → Op → Slots → Row At → Bool
is_row_of op slots row = is_same_op op row.0 && (is_same_share slots.0 row.1.0 && is_same_share slots.1 row.1.1)

abbrev pub has_row_for : {At : Type 0} → Op → Slots → List (Row At) → Bool
has_row_for op slots [] = false
has_row_for op slots (row ∷ rows) = if is_row_of op slots row then true else has_row_for op slots rows

pub record RowOf {At : Type 0} (op : Op) (slots : Slots) (rows : List (Row At)) : Type 0 where
  pub word : ℕ
  pub next : At
  pub after : Slots
  pub row : In (op, slots, word, next, after) rows

pub row_of : {At : Type 0} (op : Op) (slots : Slots) (rows : List (Row At)) → has_row_for op slots rows ≡ true
    → RowOf op slots rows
row_of op slots [] has = absurd (true≢false (sym has))
row_of {At} op slots (row ∷ rows) has = by (is_row_of op slots row) refl has (row_of op slots rows)
  where
    by : (b : Bool) → is_row_of op slots row ≡ b → (if b then true else has_row_for op slots rows) ≡ true
        → (has_row_for op slots rows ≡ true → RowOf op slots rows) → RowOf op slots (row ∷ rows)
    by false is rest later =
        let found =
        later rest in record { word = found.word; next = found.next; after = found.after; row = tail found.row }
    by true is rest later =
        let parts = and_parts (is_same_op op row.0) _ is in
        let shares = and_parts (is_same_share slots.0 row.1.0) _ parts.1 in
        let made : op ≡ row.0 = ops_are_same op row.0 parts.0 in
        let message : slots.0 ≡ row.1.0 = shares_are_same slots.0 row.1.0 shares.0 in
        let waker : slots.1 ≡ row.1.1 = shares_are_same slots.1 row.1.1 shares.1 in
        record {
          word = row.2;
          next = row.3;
          after = row.4;
          row = subst (λ (z : Row At). In z (row ∷ rows))
              (λ i. (sym made i, (sym message i, sym waker i), row.2, row.3, row.4)) head;
        }

-- where an operation may land: the word that it finds, the phase after it, and the slots then
abbrev pub Landing : Type 0 → Type 0
Landing At = ℕ × At × Slots

abbrev pub landings_of : {At : Type 0} → (Op → Bool) → List (Row At) → List (Landing At)
landings_of such [] = []
landings_of such (row ∷ rows) =
    if such row.0 then (row.2, row.3, row.4) ∷ landings_of such rows else landings_of such rows

abbrev pub landings : {At : Type 0} → Op → List (Row At) → List (Landing At)
landings op = landings_of (is_same_op op)

pub landed : {At : Type 0} (such : Op → Bool) {op : Op} {before after : Slots} {word : ℕ} {next : At}
    (rows : List (Row At)) → such op ≡ true → In (op, before, word, next, after) rows
    → In (word, next, after) (landings_of such rows)
landed such [] is there = elim there [ ]
landed such {after} {word} {next} (row ∷ rows) is head =
    subst (λ b. In (word, next, after)
    (if b then (word, next, after) ∷ landings_of such rows else landings_of such rows)) (sym is) head
landed {At} such {after} {word} {next} (row ∷ rows) is (tail there) = later (such row.0) (landed such rows is there)
  where
    later : (b : Bool) → In (word, next, after) (landings_of such rows)
        → In (word, next, after) (if b then (row.2, row.3, row.4) ∷ landings_of such rows else landings_of such rows)
    later true found = tail found
    later false found = found

-- a fact holds of each landing
abbrev pub Each : {At : Type 0} → (ℕ → At → Slots → Type 0) → List (Landing At) → Type 0
Each fact [] = ⊤
Each fact (l ∷ ls) = fact l.0 l.1 l.2 × Each fact ls

pub each : {At : Type 0} (fact : ℕ → At → Slots → Type 0) {word : ℕ} {next : At} {after : Slots}
    (ls : List (Landing At)) → Each fact ls → In (word, next, after) ls → fact word next after
each fact [] all there = elim there [ ]
each fact (l ∷ ls) all head = all.0
each fact (l ∷ ls) all (tail there) = each fact ls all.1 there

-- and so of the landing that was found, with its slots
pub record FoundSo {At T W : Type 0} (fact : ℕ → At → Slots → Type 0) (n : ℕ) (m : Held T) (w : Held W) : Type 0 where
  pub next : At
  pub after : Slots
  pub is_so : fact n next after
  pub message : IsSlot after.0 m
  pub waker : IsSlot after.1 w

pub found_so : {At T W : Type 0} {moves : At → List (Row At)} {at : At} {op : Op} {n : ℕ} {m m' : Held T}
    {w w' : Held W} (such : Op → Bool) (fact : ℕ → At → Slots → Type 0) → such op ≡ true
    → Each fact (landings_of such (moves at)) → Finds moves at op n m w m' w' → FoundSo fact n m' w'
found_so {moves} {at} such fact is all (finds {after} {next} row message waker) =
    record {
      next = next;
      after = after;
      is_so = each fact (landings_of such (moves at)) all
          (landed such (moves at) is row);
      message = slot_after message;
      waker = slot_after waker;
    }

-- an operation keeps what is in a slot
content_kept : {X : Type 0} {s t : Share} {h h' : Held X} {x : X} → SlotChange s t h h' → h ≡ held x → IsSlot filled h'
    → h' ≡ held x
content_kept (stays_held y) is there = is
content_kept (gives_thing y) is there = elim there [ ]
content_kept _ is there = absurd (cc)

module _ {At T W : Type 0} {moves : At → List (Row At)} {at : At} {op : Op} {n : ℕ} {m m' : Held T}
    {w w' : Held W} where
  pub message_kept : {x : T} → Finds moves at op n m w m' w' → m ≡ held x → IsSlot filled m' → m' ≡ held x
  message_kept (finds row message waker) is there = content_kept message is there

  pub waker_kept : {k : W} → Finds moves at op n m w m' w' → w ≡ held k → IsSlot filled w' → w' ≡ held k
  waker_kept (finds row message waker) is there = content_kept waker is there

-- the landings whose word passes
abbrev pub among : {At : Type 0} → (ℕ → Bool) → List (Landing At) → List (Landing At)
among such [] = []
among such (l ∷ ls) = if such l.0 then l ∷ among such ls else among such ls

pub is_among : {At : Type 0} (such : ℕ → Bool) {word : ℕ} {next : At} {after : Slots} (ls : List (Landing At))
    → such word ≡ true → In (word, next, after) ls → In (word, next, after) (among such ls)
is_among such [] is there = elim there [ ]
is_among such {word} {next} {after} (l ∷ ls) is head =
    subst (λ b. In (word, next, after) (if b then (word, next, after) ∷ among such ls else among such ls)) (sym is) head
is_among such {word} {next} {after} (l ∷ ls) is (tail there) = later (such l.0) (is_among such ls is there)
  where
    later : (b : Bool) → In (word, next, after) (among such ls)
        → In (word, next, after) (if b then l ∷ among such ls else among such ls)
    later true found = tail found
    later false found = found

pub differs : (n word : ℕ) → ¬ (n ≡ word) → not (n == word) ≡ true
differs n word other = by (n == word) refl
  where
    by : (b : Bool) → (n == word) ≡ b → not b ≡ true
    by true is = absurd (other (eqb-true n word is))
    by false is = refl

-- no two rows of a phase have the same operation and see the same
pub sender_apart : (at : SenderAt) → differ no_sender (sender_moves at) ≡ true
sender_apart = at_each_sender (λ at. differ no_sender (sender_moves at)) refl

pub receiver_apart : (at : ReceiverAt) → differ no_receiver (receiver_moves at) ≡ true
receiver_apart = at_each_receiver (λ at. differ no_receiver (receiver_moves at)) refl
