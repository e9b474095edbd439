-- What passes on all values made from a list of numbers passes on those made from one of them.
use Rattle.oneshot_world.proofs.Names.{◌≡◌, ℕ, Bool, true, false, List, [], ◌∷◌, map, refl, subst, ◌==◌, ◌||◌, eqb-true, list_all, flat_map}
use Rattle.oneshot_world.proofs.Bools.{and_left, and_right, all_left, all_right}

abbrev pub is_listed : ℕ → List ℕ → Bool
is_listed x [] = false
is_listed x (y ∷ ys) = y == x || is_listed x ys

pub all_mapped : {X : Type 0} (test : X → Bool) (f : ℕ → X) (ys : List ℕ) (x : ℕ) → list_all test (map f ys) ≡ true
    → is_listed x ys ≡ true → test (f x) ≡ true
all_mapped test f [] x all h = cc
all_mapped test f (y ∷ ys) x all h =
    elim (y == x) as (λ b. (y == x) ≡ b → (b || is_listed x ys) ≡ true → test (f x) ≡ true) [
      | true ↦ λ e h. subst (λ z. test (f z) ≡ true) (eqb-true y x e) (and_left (test (f y)) _ all)
      | false ↦ λ e h. all_mapped test f ys x (and_right (test (f y)) _ all) h
    ] refl h

pub all_flat : {X : Type 0} (test : X → Bool) (f : ℕ → List X) (ys : List ℕ) (x : ℕ)
    → list_all test (flat_map f ys) ≡ true → is_listed x ys ≡ true → list_all test (f x) ≡ true
all_flat test f [] x all h = cc
all_flat test f (y ∷ ys) x all h =
    elim (y == x) as (λ b. (y == x) ≡ b → (b || is_listed x ys) ≡ true → list_all test (f x) ≡ true) [
      | true ↦ λ e h. subst (λ z. list_all test (f z) ≡ true) (eqb-true y x e) (all_left test (f y) (flat_map f ys) all)
      | false ↦ λ e h. all_flat test f ys x (all_right test (f y) (flat_map f ys) all) h
    ] refl h
