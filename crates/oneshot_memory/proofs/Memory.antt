-- What is computed for each phase of an end: a ground in memory finds what the phases' table has, and still
-- matches its phase after each operation and each other change.
use Rattle.std.proofs.Common.{◌≡◌, ℕ, ◌≤◌, Bool, true, false, ◌&&◌, List, Option, Some, None, refl, subst}
use Rattle.std.specs.Prelude.{◌==◌, is_some, leb}
use Rattle.std.specs.List.{list_all, list_any}
use Rattle.std.proofs.lemmas.Bool.{and_parts, and_from, eqb-true, leb-true}
use Rattle.oneshot_machine.specs.declared.machine.Seen.{Seen}
use Rattle.oneshot_machine.specs.declared.states.Op.{Op}
use Rattle.oneshot_machine.specs.Noted.{saw, is_same_op}
use Rattle.oneshot_machine.specs.Phases.{Share, none, empty, filled, Slots, Row}
use Rattle.oneshot_machine.specs.Slots.{vacant, held, IsSlot, is_away, is_vacant, is_held, SlotChange, stays_away, stays_vacant, stays_held, gives_room, gives_thing, gets_room}
use Rattle.oneshot_machine.specs.Slots.{gets_thing, In, May, may}
use Rattle.oneshot_machine.specs.Slots.{Finds, finds}
use Rattle.oneshot_machine.specs.States.{word_after}
use Rattle.oneshot_machine.proofs.Sameness.{each_passes, Passing, some_passes, ops_are_same, is_same_share, shares_are_same}
use Rattle.oneshot_memory.specs.Memory.{Memory, memory_of, codes, is_code}
use Rattle.oneshot_memory.specs.Events.{slot_if_own}

abbrev pub implies : Bool → Bool → Bool
implies true b = b
implies false b = true

implied : (a b : Bool) → implies a b ≡ true → a ≡ true → b ≡ true
implied true b e is = e
implied false b e is = absurd (cc)

-- a test of both truths, and of all memories whose word is a code
abbrev both : (Bool → Bool) → Bool
both p = p true && p false

both_pass : (p : Bool → Bool) → both p ≡ true → (b : Bool) → p b ≡ true
both_pass p all true = (and_parts (p true) (p false) all).0
both_pass p all false = (and_parts (p true) (p false) all).1

code_passes : (p : ℕ → Bool) (xs : List ℕ) (word : ℕ) → list_all p xs ≡ true → list_any (λ code. code == word) xs ≡ true
    → p word ≡ true
code_passes p xs word all is =
    let found : Passing (λ code. code == word) xs = some_passes (λ code. code == word) xs is in
    subst (λ word. p word ≡ true) (eqb-true found.one word found.passes) (each_passes p xs all found.among)

pub is_at_most_4 : (word : ℕ) → is_code word ≡ true → word ≤ 4
is_at_most_4 word is = leb-true word 4 (code_passes (λ word. leb word 4) codes word refl is)

abbrev with_word : (Memory → Bool) → ℕ → Bool
with_word p word =
    both (λ a. both (λ b. both
    (λ c. both (λ d. p
    (record { word = word; owns_message = a; owns_waker = b; has_message = c; has_waker = d })))))

abbrev pub each_memory : (Memory → Bool) → Bool
each_memory p = list_all (with_word p) codes

memory_passes : (p : Memory → Bool) → each_memory p ≡ true → (c : Memory) → is_code c.word ≡ true → p c ≡ true
memory_passes p all c is =
    let at : Bool → Bool → Bool → Bool → Bool =
    λ a b m w. p (record { word = c.word; owns_message = a; owns_waker = b; has_message = m; has_waker = w }) in
    let here : with_word p c.word ≡ true = code_passes (with_word p) codes c.word all is in
    both_pass (λ w. at c.owns_message c.owns_waker c.has_message w)
    (both_pass (λ m. both (λ w. at c.owns_message c.owns_waker m w))
    (both_pass (λ b. both (λ m. both (λ w. at c.owns_message b m w)))
    (both_pass (λ a. both (λ b. both (λ m. both (λ w. at a b m w)))) here c.owns_message) c.owns_waker)
    c.has_message) c.has_waker

-- the share of a slot, by whether the end owns it and whether it has content
abbrev pub share_of : Bool → Bool → Share
share_of false has = none
share_of true false = empty
share_of true true = filled

abbrev pub shares_of : Memory → Slots
shares_of c = (share_of c.owns_message c.has_message, share_of c.owns_waker c.has_waker)

abbrev is_same_slots : Slots → Slots → Bool
is_same_slots a b = is_same_share a.0 b.0 && is_same_share a.1 b.1

slots_are_same : (a b : Slots) → is_same_slots a b ≡ true → a ≡ b
slots_are_same a b e =
    let parts = and_parts (is_same_share a.0 b.0) (is_same_share a.1 b.1) e in
    λ i. (shares_are_same a.0 b.0 parts.0 i, shares_are_same a.1 b.1 parts.1 i)

module _ {X : Type 0} where
  share_is : {s : Share} (own : Bool) (content : Option X) → IsSlot s (slot_if_own own content)
      → is_same_share s (share_of own (is_some content)) ≡ true
  share_is false content is_away = refl
  share_is true None is_vacant = refl
  share_is true (Some x) (is_held _) = refl

  -- a slot changes with its owner, and keeps its content
  slot_changes : (own owns : Bool) (content : Option X)
      → SlotChange (share_of own (is_some content)) (share_of owns (is_some content))
      (slot_if_own own content) (slot_if_own owns content)
  slot_changes false false content = stays_away
  slot_changes false true None = gets_room
  slot_changes false true (Some x) = gets_thing x
  slot_changes true false None = gives_room
  slot_changes true false (Some x) = gives_thing x
  slot_changes true true None = stays_vacant
  slot_changes true true (Some x) = stays_held x

  -- the end owns a slot that is not away
  pub slot_vacant : (own : Bool) (content : Option X) → slot_if_own own content ≡ vacant → own ≡ true
  slot_vacant true content e = refl
  slot_vacant false content e = absurd (cc)

  pub slot_held : (own : Bool) (content : Option X) (x : X) → slot_if_own own content ≡ held x → own ≡ true
  slot_held true content x e = refl
  slot_held false content x e = absurd (cc)

-- An end: where its table leads, the table's rows, which memory it has at a phase, and for an operation
-- which slots it leaves the end, and whether a waker stays in its slot.
module _ {At : Type 0} (next : At → Op → Seen → At) (rows : At → List (Row At)) (has : At → Memory → Bool)
    (keeps : Op → Memory → Bool × Bool × Bool) where
  abbrev stands : At → Memory → Bool
  stands at c = is_code c.word && has at c

  -- the memory after an operation
  abbrev pub after : Op → Memory → Memory
  after op c =
      record {
        word = word_after op c.word;
        owns_message = (keeps op c).0;
        owns_waker = (keeps op c).1;
        has_message = c.has_message;
        has_waker = c.has_waker;
      }

  -- and after the other end has used up a waker that does not stay
  abbrev pub left : Op → Memory → Memory
  left op c =
      record {
        word = word_after op c.word;
        owns_message = (keeps op c).0;
        owns_waker = (keeps op c).1;
        has_message = c.has_message;
        has_waker = (keeps op c).2 && c.has_waker;
      }

  -- A row of this operation finds this word with the slots as they are. It leaves the end the slots that the
  -- operation keeps.
  abbrev is_such : Op → Memory → Row At → Bool
  is_such op c row = (is_same_op row.0 op && row.2 == c.word) && is_same_slots (shares_of c) row.1

  abbrev is_found : Op → Memory → Row At → Bool
  is_found op c row = is_such op c row && is_same_slots (shares_of (after op c)) row.4

  -- if the row's operation may be performed here, a row finds this word, and the memory after it fits
  abbrev is_met : At → Memory → Row At → Bool
  is_met at c row =
      implies (is_same_slots row.1 (shares_of c))
      (list_any (is_found row.0 c) (rows at) && stands (next at row.0 (saw row.0 c.word)) (left row.0 c))

  -- A change is a function of a truth, which is chosen freely, and of a memory: whether it may happen, and
  -- the memory after it.
  module _ (changes : List (Bool → Memory → Bool × Memory)) where
    abbrev comes : At → Memory → (Bool → Memory → Bool × Memory) → Bool
    comes at c change = both (λ b. implies (change b c).0 (stands at (change b c).1))

    -- what is computed for each phase
    abbrev is_steady_with : At → Memory → Bool
    is_steady_with at c = list_all (is_met at c) (rows at) && list_all (comes at c) changes

    abbrev pub is_steady : At → Bool
    is_steady at = each_memory (λ c. implies (stands at c) (is_steady_with at c))

    abbrev pub IsSteady : Type 0
    IsSteady = (at : At) → is_steady at ≡ true

    module _ (steady : IsSteady) where
      at_memory : (at : At) (c : Memory) → stands at c ≡ true
          → (list_all (is_met at c) (rows at) ≡ true) × (list_all (comes at c) changes ≡ true)
      at_memory at c is =
          let all : implies (stands at c) (is_steady_with at c) ≡ true =
          memory_passes (λ c. implies (stands at c) (is_steady_with at c)) (steady at) c
          (and_parts (is_code c.word) (has at c) is).0 in
          and_parts (list_all (is_met at c) (rows at)) (list_all (comes at c) changes)
          (implied (stands at c) (is_steady_with at c) all is)

      pub comes_about : (at : At) (c : Memory) {change : Bool → Memory → Bool × Memory} (b : Bool) → In change changes
          → stands at c ≡ true → (change b c).0 ≡ true → stands at (change b c).1 ≡ true
      comes_about at c {change} b among is come =
          let each : comes at c change ≡ true = each_passes (comes at c) changes (at_memory at c is).1 among in
          implied (change b c).0 (stands at (change b c).1)
          (both_pass (λ b. implies (change b c).0 (stands at (change b c).1)) each b) come

      module _ {T W : Type 0} where
        -- an operation: its word is a code, it finds what it may, and the memory after it fits
        pub record Operated (at : At) (op : Op) (word : ℕ) (own own_waker : Bool) (content : Option T)
            (waker : Option W) : Type 0 where
          pub code : word ≤ 4
          pub found : Finds rows at op word (slot_if_own own content) (slot_if_own own_waker waker)
              (slot_if_own (keeps op (memory_of word own own_waker content waker)).0 content)
              (slot_if_own (keeps op (memory_of word own own_waker content waker)).1 waker)
          pub goes_on : stands (next at op (saw op word)) (left op (memory_of word own own_waker content waker)) ≡ true

        row_finds : (at : At) (op : Op) (word : ℕ) (own own_waker : Bool) (content : Option T) (waker : Option W)
            {row : Row At} → In row (rows at) → is_found op (memory_of word own own_waker content waker) row ≡ true
            → Finds rows at op word (slot_if_own own content) (slot_if_own own_waker waker)
            (slot_if_own (keeps op (memory_of word own own_waker content waker)).0 content)
            (slot_if_own (keeps op (memory_of word own own_waker content waker)).1 waker)
        row_finds at op word own own_waker content waker {row} among found =
            let c : Memory = memory_of word own own_waker content waker in
            let changed = and_parts (is_such op c row) (is_same_slots (shares_of (after op c)) row.4) found in
            let such = and_parts (is_same_op row.0 op && row.2 == word) (is_same_slots (shares_of c) row.1) changed.0 in
            let same = and_parts (is_same_op row.0 op) (row.2 == word) such.0 in
            let slots : (shares_of c ≡ row.1) × (shares_of (after op c) ≡ row.4) =
            (slots_are_same _ _ such.1, slots_are_same _ _ changed.1) in
            let message : SlotChange row.1.0 row.4.0 (slot_if_own own content) (slot_if_own (keeps op c).0 content) =
            subst (λ (z : Slots × Slots). SlotChange z.0.0 z.1.0 (slot_if_own own content)
            (slot_if_own (keeps op c).0 content))
            (λ i. (slots.0 i, slots.1 i)) (slot_changes own (keeps op c).0 content) in
            let also : SlotChange row.1.1 row.4.1 (slot_if_own own_waker waker) (slot_if_own (keeps op c).1 waker) =
            subst (λ (z : Slots × Slots). SlotChange z.0.1 z.1.1 (slot_if_own own_waker waker)
            (slot_if_own (keeps op c).1 waker)) (λ i. (slots.0 i, slots.1 i))
            (slot_changes own_waker (keeps op c).1 waker) in
            subst (λ (z : Op × ℕ). Finds rows at z.0 z.1 (slot_if_own own content) (slot_if_own own_waker waker)
            (slot_if_own (keeps op c).0 content) (slot_if_own (keeps op c).1 waker))
            (λ i. (ops_are_same row.0 op same.0 i, eqb-true row.2 word same.1 i)) (finds among message also)

        pub operates : (at : At) {op : Op} (word : ℕ) (own own_waker : Bool) (content : Option T) (waker : Option W)
            → stands at (memory_of word own own_waker content waker) ≡ true
            → May rows at op (slot_if_own own content) (slot_if_own own_waker waker)
            → Operated at op word own own_waker content waker
        operates at {op} word own own_waker content waker is (may {before} among message was) =
            let c : Memory = memory_of word own own_waker content waker in
            let fits : is_same_slots before (shares_of c) ≡ true =
            and_from (is_same_share before.0 (shares_of c).0) (is_same_share before.1 (shares_of c).1)
            (share_is own content message) (share_is own_waker waker was) in
            let goes = stands (next at op (saw op word)) (left op c) in
            let met : (list_any (is_found op c) (rows at) && goes) ≡ true =
            implied (is_same_slots before (shares_of c)) (list_any (is_found op c) (rows at) && goes)
            (each_passes (is_met at c) (rows at) (at_memory at c is).0 among) fits in
            let parts = and_parts (list_any (is_found op c) (rows at)) goes met in
            let some : Passing (is_found op c) (rows at) = some_passes (is_found op c) (rows at) parts.0 in
            record {
              code = is_at_most_4 word (and_parts (is_code word) (has at c) is).0;
              found = row_finds at op word own own_waker content waker some.among some.passes;
              goes_on = parts.1;
            }
