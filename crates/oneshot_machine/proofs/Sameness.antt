-- Tests that tell operations, what they saw and shares apart, and what a test of a list's elements shows.
use Rattle.std.proofs.Common.{◌≡◌, ℕ, Bool, true, false, ◌&&◌, ◌||◌, List, [], ◌∷◌, refl, sym, ap, ◌∙◌, true≢false}
use Rattle.std.specs.Prelude.{◌==◌}
use Rattle.std.specs.List.{list_all, list_any}
use Rattle.std.proofs.lemmas.Bool.{and_parts, eq-eqb, eqb-true}
use Rattle.oneshot_machine.specs.declared.states.Op.{Op}
use Rattle.oneshot_machine.specs.declared.states.Op.TheVariants.{Load, Store, Swap, Exchange, Add, Xor}
use Rattle.oneshot_machine.specs.TableRows.{is_same_seen}
use Rattle.oneshot_machine.specs.Noted.{saw, is_same_op}
use Rattle.oneshot_machine.specs.Phases.{Share, none, empty, filled}
use Rattle.oneshot_machine.specs.Slots.{Held, away, vacant, held, IsSlot, is_away, is_vacant, is_held, SlotChange, stays_away, stays_vacant, stays_held, gives_room, gives_thing}
use Rattle.oneshot_machine.specs.Slots.{gets_room, In, head, tail}

-- what a test of all elements shows of one, and the element that a test of some found
pub each_passes : {X : Type 0} (p : X → Bool) (xs : List X) {x : X} → list_all p xs ≡ true → In x xs → p x ≡ true
each_passes p [] all there = elim there [ ]
each_passes p (x ∷ xs) all head = (and_parts (p x) _ all).0
each_passes p (x ∷ xs) all (tail there) = each_passes p xs (and_parts (p x) _ all).1 there

-- what a test of three parts shows of each
pub thrice : (a b c : Bool) → (a && b && c) ≡ true → (a ≡ true) × (b ≡ true) × (c ≡ true)
thrice true true c e = (refl, refl, e)
thrice true false c e = absurd (cc)
thrice false b c e = absurd (cc)

pub five : (a b c d e : Bool) → (a && b && c && d && e) ≡ true
    → (a ≡ true) × (b ≡ true) × (c ≡ true) × (d ≡ true) × (e ≡ true)
five true true true true e h = (refl, refl, refl, refl, h)
five true true true false e h = absurd (cc)
five true true false d e h = absurd (cc)
five true false c d e h = absurd (cc)
five false b c d e h = absurd (cc)

pub record Passing {X : Type 0} (p : X → Bool) (xs : List X) : Type 0 where
  pub one : X
  pub among : In one xs
  pub passes : p one ≡ true

pub some_passes : {X : Type 0} (p : X → Bool) (xs : List X) → list_any p xs ≡ true → Passing p xs
some_passes p [] any = absurd (true≢false (sym any))
some_passes p (x ∷ xs) any = by (p x) refl any (some_passes p xs)
  where
    by : (b : Bool) → p x ≡ b → (b || list_any p xs) ≡ true → (list_any p xs ≡ true → Passing p xs) → Passing p (x ∷ xs)
    by true is any rest = record { one = x; among = head; passes = is }
    by false is any rest =
        let found = rest any in
        record { one = found.one; among = tail found.among; passes = found.passes }

-- the tests find an operation and what it saw equal to themselves, and only equals equal
pub same_op : (op : Op) → is_same_op op op ≡ true
same_op Load = refl
same_op (Store new) = eq-eqb new new refl
same_op (Swap new) = eq-eqb new new refl
same_op (Exchange expected new) = rw (eq-eqb expected expected refl, eq-eqb new new refl) refl
same_op Add = refl
same_op Xor = refl

pub ops_are_same : (a b : Op) → is_same_op a b ≡ true → a ≡ b
ops_are_same Load Load e = refl
ops_are_same (Store a) (Store b) e = ap Store (eqb-true a b e)
ops_are_same (Swap a) (Swap b) e = ap Swap (eqb-true a b e)
ops_are_same (Exchange a b) (Exchange c d) e =
    let parts =
    and_parts (a == c) (b == d) e in
    ap (λ x. Exchange x b) (eqb-true a c parts.0) ∙ ap (λ x. Exchange c x) (eqb-true b d parts.1)
ops_are_same Add Add e = refl
ops_are_same Xor Xor e = refl
ops_are_same _ _ e = absurd (true≢false (sym e))

pub same_sight : (op : Op) (word : ℕ) → is_same_seen (saw op word) (saw op word) ≡ true
same_sight (Store new) word = refl
same_sight Load word = eq-eqb word word refl
same_sight (Swap new) word = eq-eqb word word refl
same_sight (Exchange expected new) word = eq-eqb word word refl
same_sight Add word = eq-eqb word word refl
same_sight Xor word = eq-eqb word word refl

abbrev pub is_same_share : Share → Share → Bool
is_same_share none none = true
is_same_share empty empty = true
is_same_share filled filled = true
is_same_share _ _ = false

pub shares_are_same : (a b : Share) → is_same_share a b ≡ true → a ≡ b
shares_are_same none none e = refl
shares_are_same empty empty e = refl
shares_are_same filled filled e = refl
shares_are_same _ _ e = absurd (true≢false (sym e))

-- a slot with this share, which this fills
pub fill : {X : Type 0} → X → Share → Held X
fill x none = away
fill x empty = vacant
fill x filled = held x

pub fills : {X : Type 0} (x : X) (s : Share) → IsSlot s (fill x s)
unfolding fill
fills x none = is_away
fills x empty = is_vacant
fills x filled = is_held x

-- a slot changes from one share to the other without new content
abbrev pub is_plain : Share → Share → Bool
is_plain none none = true
is_plain empty empty = true
is_plain filled filled = true
is_plain empty none = true
is_plain filled none = true
is_plain none empty = true
is_plain _ _ = false

pub changes_plainly : {X : Type 0} {s t : Share} {h : Held X} → is_plain s t ≡ true → IsSlot s h
    → (h' : Held X) × SlotChange s t h h'
changes_plainly {s = none} {t = none} e is_away = (away, stays_away)
changes_plainly {s = empty} {t = empty} e is_vacant = (vacant, stays_vacant)
changes_plainly {s = filled} {t = filled} e (is_held x) = (held x, stays_held x)
changes_plainly {s = empty} {t = none} e is_vacant = (away, gives_room)
changes_plainly {s = filled} {t = none} e (is_held x) = (away, gives_thing x)
changes_plainly {s = none} {t = empty} e is_away = (vacant, gets_room)
changes_plainly e _ = absurd (cc)
