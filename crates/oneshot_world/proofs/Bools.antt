-- What a conjunction of tests implies for its parts.
use Rattle.oneshot_world.proofs.Names.{◌≡◌, Bool, true, false, List, [], ◌∷◌, ◌++◌, refl, ◌&&◌, list_all}

pub and_left : (a b : Bool) → (a && b) ≡ true → a ≡ true
and_left true b h = refl
and_left false b h = h

pub and_right : (a b : Bool) → (a && b) ≡ true → b ≡ true
and_right true b h = h
and_right false b h = cc

pub both : (a b : Bool) → a ≡ true → b ≡ true → (a && b) ≡ true
both a b h k = rw (h, k) refl

pub all_left : {X : Type 0} (test : X → Bool) (xs ys : List X) → list_all test (xs ++ ys) ≡ true
    → list_all test xs ≡ true
all_left test [] ys h = refl
all_left test (x ∷ xs) ys h =
    both (test x) (list_all test xs) (and_left (test x) _ h) (all_left test xs ys (and_right (test x) _ h))

pub all_right : {X : Type 0} (test : X → Bool) (xs ys : List X) → list_all test (xs ++ ys) ≡ true
    → list_all test ys ≡ true
all_right test [] ys h = h
all_right test (x ∷ xs) ys h = all_right test xs ys (and_right (test x) _ h)
