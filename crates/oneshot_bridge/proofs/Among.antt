-- What is in a list that was made from another list.
use Rattle.oneshot_bridge.proofs.Names.{◌≡◌, Bool, true, false, List, [], ◌∷◌, ◌++◌, Some, cond, refl, ap, subst, filter, flat_map, eqb-true, Seen, Done, Over, Refused, Token, In, head, tail, Outcome}
use Rattle.oneshot_bridge.proofs.Names.{Rows, row_for, is_same_seen}
use Rattle.std.specs.Prelude.{if◌then◌else◌}
use Rattle.oneshot_machine.specs.declared.machine.Seen.TheVariants.{Word}

-- a list of one
pub only : {X : Type 0} {x y : X} → In x (y ∷ []) → y ≡ x
only head = refl
only (tail there) = elim there [ ]

pub record AmongEach {X Y : Type 0} (f : X → List Y) (xs : List X) (y : Y) : Type 0 where
  pub one : X
  pub among : In one xs
  pub found : In y (f one)

module _ {X Y : Type 0} (f : X → List Y) {y : Y} where
  in_more : {x : X} {xs : List X} → AmongEach f xs y → AmongEach f (x ∷ xs) y
  in_more each = record { one = each.one; among = tail each.among; found = each.found }

  in_both : (x : X) (xs : List X) (ys : List Y) → ((z : Y) → In z ys → In z (f x))
      → (In y (flat_map f xs) → AmongEach f xs y)
      → In y (ys ++ flat_map f xs) → AmongEach f (x ∷ xs) y
  in_both x xs [] from later there = in_more (later there)
  in_both x xs (y ∷ ys) from later head = record { one = x; among = head; found = from y head }
  in_both x xs (z ∷ ys) from later (tail there) = in_both x xs ys (λ v there. from v (tail there)) later there

  pub in_each : (xs : List X) → In y (flat_map f xs) → AmongEach f xs y
  in_each [] there = elim there [ ]
  in_each (x ∷ xs) there = in_both x xs (f x) (λ z there. there) (in_each xs) there

pub record AmongSuch {X : Type 0} (test : X → Bool) (xs : List X) (x : X) : Type 0 where
  pub among : In x xs
  pub passes : test x ≡ true

module _ {X : Type 0} (test : X → Bool) {x : X} where
  such_more : {y : X} {xs : List X} → AmongSuch test xs x → AmongSuch test (y ∷ xs) x
  such_more such = record { among = tail such.among; passes = such.passes }

  such_of : (b : Bool) (y : X) (xs ys : List X) → test y ≡ b → (In x ys → AmongSuch test xs x)
      → In x (cond b (y ∷ ys) ys) → AmongSuch test (y ∷ xs) x
  such_of true y xs ys is later head = record { among = head; passes = is }
  such_of true y xs ys is later (tail there) = such_more (later there)
  such_of false y xs ys is later there = such_more (later there)

  pub in_such : (xs : List X) → In x (filter test xs) → AmongSuch test xs x
  in_such [] there = elim there [ ]
  in_such (y ∷ xs) there = such_of (test y) y xs (filter test xs) refl (in_such xs) there

-- the test of what was seen proves equality
seen_is : (a b : Seen) → is_same_seen a b ≡ true → a ≡ b
seen_is Done Done e = refl
seen_is (Word a) (Word b) e = ap Word (eqb-true a b e)
seen_is (Over true) (Over true) e = refl
seen_is (Over false) (Over false) e = refl
seen_is (Refused true) (Refused true) e = refl
seen_is (Refused false) (Refused false) e = refl
seen_is (Token true) (Token true) e = refl
seen_is (Token false) (Token false) e = refl
seen_is _ _ e = absurd (cc e)

-- a row that was found is in its list
pub row_among : {P : Type 0} (seen : Seen) (rows : Rows P) {o : Outcome P} → row_for seen rows ≡ Some o
    → In (seen, o) rows
row_among seen [] e = absurd (cc e)
row_among {P} seen (row ∷ rows) {o} e = by (is_same_seen row.0 seen) refl e (row_among seen rows)
  where
    by : (b : Bool) → is_same_seen row.0 seen ≡ b → (if b then Some row.1 else row_for seen rows) ≡ Some o
        → (row_for seen rows ≡ Some o → In (seen, o) rows) → In (seen, o) (row ∷ rows)
    by true same e later =
        let leads : row.1 ≡ o = cc e in
        let it : row ≡ (seen, o) = λ i. (seen_is row.0 seen same i, leads i) in
        subst (λ x. In x (row ∷ rows)) it head
    by false same e later = tail (later e)
