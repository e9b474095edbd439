-- A list with a last element is not empty, and determines that element and what is before it.
use Rattle.oneshot_word.proofs.Names.{◌++◌, sym}
use Rattle.std.proofs.Common.{◌≡◌, List, [], ◌∷◌, refl}

pub not_empty : {X : Type 0} (xs : List X) (x : X) → xs ++ x ∷ [] ≡ [] → ⊥
not_empty [] x e = cc
not_empty (y ∷ xs) x e = cc

some_more : {X : Type 0} (y x : X) (xs : List X) → [] ≡ xs ++ x ∷ [] → ⊥
some_more y x xs e = not_empty xs x (sym e)

heads_are : {X : Type 0} (x y : X) (xs ys : List X) → x ∷ xs ≡ y ∷ ys → x ≡ y
heads_are x y xs ys e = cc

tails_are : {X : Type 0} (x y : X) (xs ys : List X) → x ∷ xs ≡ y ∷ ys → xs ≡ ys
tails_are x y xs ys e = cc

pub same_start : {X : Type 0} (xs ys : List X) (x y : X) → xs ++ x ∷ [] ≡ ys ++ y ∷ [] → xs ≡ ys
same_start [] [] x y e = refl
same_start [] (z ∷ ys) x y e = absurd (some_more z y ys (tails_are _ _ _ _ e))
same_start (z ∷ xs) [] x y e = absurd (not_empty xs x (tails_are _ _ _ _ e))
same_start (z ∷ xs) (v ∷ ys) x y e =
    let head : z ≡ v = heads_are _ _ _ _ e in
    let tail : xs ≡ ys = same_start xs ys x y (tails_are _ _ _ _ e) in λ i. head i ∷ tail i

pub same_last : {X : Type 0} (xs ys : List X) (x y : X) → xs ++ x ∷ [] ≡ ys ++ y ∷ [] → x ≡ y
same_last [] [] x y e = heads_are _ _ _ _ e
same_last [] (z ∷ ys) x y e = absurd (some_more z y ys (tails_are _ _ _ _ e))
same_last (z ∷ xs) [] x y e = absurd (not_empty xs x (tails_are _ _ _ _ e))
same_last (z ∷ xs) (v ∷ ys) x y e = same_last xs ys x y (tails_are _ _ _ _ e)
