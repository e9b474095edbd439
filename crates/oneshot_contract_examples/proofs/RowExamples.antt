-- Proofs of the examples of rows: each is in the table, and a test of all rows refuses the counterexamples.
use Rattle.std.proofs.Common.{◌≡◌, ℕ, Bool, true, false, not, ◌&&◌, List, Some, None, refl, eq-eqb}
use Rattle.std.specs.Prelude.{◌==◌}
use Rattle.std.specs.List.{list_all}
use Rattle.oneshot_machine.specs.declared.states.Op.{Op}
use Rattle.oneshot_machine.specs.Noted.{is_same_op}
use Rattle.oneshot_machine.specs.Phases.{Share, none, empty, filled, Row}
use Rattle.oneshot_contract_examples.specs.RowExamples.{no_slot, no_content, has, SlotsThatAre, SlotsThatAreNot}
use Rattle.oneshot_machine.specs.Slots.{Held, away, vacant, held, IsSlot, is_away, is_vacant, is_held, SlotChange, stays_away, stays_vacant, stays_held, gives_room, gives_thing, gets_room, gets_thing}
use Rattle.oneshot_machine.specs.Slots.{head, tail, May, may, Finds, finds, IsOwned, not_its_own, own_vacant, own_held, Owns, owns}
use Rattle.oneshot_machine.proofs.Sameness.{each_passes, same_op}

pub slots_that_are : SlotsThatAre
slots_that_are =
    record {
      sends = may head (is_held 7) is_away;
      drops = may (tail (tail (tail head))) is_vacant is_away;
      sends_at_last = may head (is_held 7) is_vacant;
      loads = may head is_away is_away;
      stores = may (tail (tail (tail head))) is_away (is_held 1);
      leaves = may (tail (tail (tail head))) is_away is_away;
      gives_its_message = finds head (gives_thing 7) stays_away;
      gets_a_waker = finds (tail head) (stays_held 7) (gets_thing 1);
      keeps_its_message = finds (tail (tail head)) (stays_held 7) gets_room;
      gives_its_room = finds (tail (tail (tail head))) gives_room stays_away;
      keeps_its_room = finds (tail (tail head)) stays_vacant stays_vacant;
      gets_a_message = finds (tail head) (gets_thing 7) gets_room;
      gets_its_room = finds (tail (tail head)) gets_room gets_room;
      stores_its_waker = finds (tail (tail (tail head))) stays_away (gives_thing 1);
      takes_it_back = finds (tail (tail (tail (tail head)))) stays_away (gets_thing 1);
      has_a_message = owns (own_held 7) not_its_own;
      has_room = owns own_vacant not_its_own;
      has_both = owns (own_held 7) (own_held 1);
      has_none = owns not_its_own not_its_own;
      has_a_waker = owns not_its_own (own_held 1);
      has_received = owns (own_held 7) own_vacant;
    }

-- whether a slot has this share, and how it may change
abbrev fits : {X : Type 0} → Share → Held X → Bool
fits none away = true
fits empty vacant = true
fits filled (held x) = true
fits _ _ = false

abbrev changes : Share → Share → Held ℕ → Held ℕ → Bool
changes none none away away = true
changes empty empty vacant vacant = true
changes filled filled (held x) (held y) = x == y
changes empty none vacant away = true
changes filled none (held x) away = true
changes none empty away vacant = true
changes none filled away (held x) = true
changes _ _ _ _ = false

fits_so : {X : Type 0} {s : Share} {h : Held X} → IsSlot s h → fits s h ≡ true
fits_so is_away = refl
fits_so is_vacant = refl
fits_so (is_held x) = refl

changes_so : {s t : Share} {h k : Held ℕ} → SlotChange s t h k → changes s t h k ≡ true
changes_so stays_away = refl
changes_so stays_vacant = refl
changes_so (stays_held x) = eq-eqb x x refl
changes_so gives_room = refl
changes_so (gives_thing x) = refl
changes_so gets_room = refl
changes_so (gets_thing x) = refl

-- a row that is for this operation with these slots, and one that finds this word
module _ {At : Type 0} where
  abbrev is_for : Op → Held ℕ → Held ℕ → Row At → Bool
  is_for op m w row = is_same_op row.0 op && fits row.1.0 m && fits row.1.1 w

  abbrev is_found : Op → ℕ → Held ℕ → Held ℕ → Held ℕ → Held ℕ → Row At → Bool
  is_found op word m w m' w' row =
      is_same_op row.0 op && row.2 == word && changes row.1.0 row.4.0 m m' && changes row.1.1 row.4.1 w w'

  no_row : {rows : At → List (Row At)} {at : At} {op : Op} {m w : Held ℕ}
      → list_all (λ row. not (is_for op m w row)) (rows at) ≡ true → May rows at op m w → ⊥
  no_row {rows} {op = op} {m = m} {w = w} without (may {at = at} row message waker) =
      let this = each_passes (λ row. not (is_for op m w row)) (rows at) without row in
      let no : false ≡ true = rw (same_op op, fits_so message, fits_so waker) at this in cc no

  not_found : {rows : At → List (Row At)} {at : At} {op : Op} {word : ℕ} {m w m' w' : Held ℕ}
      → list_all (λ row. not (is_found op word m w m' w' row)) (rows at) ≡ true → Finds rows at op word m w m' w' → ⊥
  not_found {rows} {op = op} {word = word} {m = m} {w = w} {m' = m'} {w' = w'} without
      (finds {at = at} row message waker) =
      let this = each_passes (λ row. not (is_found op word m w m' w' row)) (rows at) without row in
      let no : false ≡ true =
      rw (same_op op, eq-eqb word word refl, changes_so message, changes_so waker) at this in cc no

-- the end's own slot is not away, and any other is
not_lost : {X : Type 0} {h : Held X} → IsOwned true h → h ≡ away → ⊥
not_lost own_vacant is = cc is
not_lost (own_held x) is = cc is

not_kept : {X : Type 0} {h : Held X} → IsOwned false h → h ≡ away
not_kept not_its_own = refl

parts : {message waker : Bool} {m w : Held ℕ} → Owns (Some (message, waker)) m w → IsOwned message m × IsOwned waker w
parts (owns message waker) = (message, waker)

not_none : {m w : Held ℕ} → Owns None m w → ⊥
not_none own = elim own [ ]

pub slots_that_are_not : SlotsThatAreNot
slots_that_are_not =
    record {
      sends_nothing = no_row refl;
      sends_from_elsewhere = no_row refl;
      sends_with_a_waker = no_row refl;
      drops_a_message = no_row refl;
      swaps_at_once = no_row refl;
      sends_twice = no_row refl;
      waits_without_a_waker = no_row refl;
      polls_as_it_blocks = no_row refl;
      goes_on_when_gone = no_row refl;
      finds_a_message = not_found refl;
      finds_3_as_it_waits = not_found refl;
      sends_and_keeps = not_found refl;
      gets_another_back = not_found refl;
      loses_it = not_found refl;
      gets_no_waker = not_found refl;
      sent_nothing = not_found refl;
      gets_no_message = not_found refl;
      gets_one_from_nobody = not_found refl;
      stores_and_keeps = not_found refl;
      closes_and_loses = not_found refl;
      finds_room_filled = not_found refl;
      lost_its_slot = λ own. not_lost (parts own).0 refl;
      lost_its_waker = λ own. not_lost (parts own).1 refl;
      kept_its_message = λ own. let is : has 7 ≡ no_slot = not_kept (parts own).0 in cc is;
      kept_its_room = λ own. let is : no_content ≡ no_slot = not_kept (parts own).0 in cc is;
      kept_its_waker = λ own. let is : has 1 ≡ no_slot = not_kept (parts own).1 in cc is;
      of_no_sender = not_none;
      of_no_receiver = not_none;
    }
