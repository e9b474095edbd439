-- A test that passes on all values of a search tree passes on each value found in it.
use Rattle.oneshot_world.proofs.Names.{◌≡◌, ℕ, Bool, true, false, nat_lt, Tree, Leaf, Node, all_in, is_in}
use Rattle.oneshot_world.proofs.Bools.{and_left, and_right}

pub passes_where_found : {X : Type 0} (code : X → ℕ) (is_same : X → X → Bool) → ((x y : X) → is_same x y ≡ true → x ≡ y)
    → (test : X → Bool) (found : Tree X) (x : X) → all_in test found ≡ true → is_in code is_same x found ≡ true
    → test x ≡ true
passes_where_found code is_same sound test Leaf x all h = cc
passes_where_found code is_same sound test (Node left value right) x all h =
    elim (nat_lt (code x) (code value)) as
    (λ b. (elim b as (λ _. Bool) [
      | true ↦ is_in code is_same x left
      | false ↦ elim (nat_lt (code value) (code x)) as
          (λ _. Bool) [ true ↦ is_in code is_same x right | false ↦ is_same x value ]
    ]) ≡ true → test x ≡ true) [
      | true ↦ λ h. passes_where_found code is_same sound test left x (and_left _ _ (and_right (test value) _ all)) h
      | false ↦ λ h.
          elim (nat_lt (code value) (code x)) as
          (λ b. (elim b as (λ _. Bool) [ true ↦ is_in code is_same x right | false ↦ is_same x value ]) ≡ true
          → test x ≡ true) [
            | true ↦ λ h. passes_where_found code is_same sound test right x
                (and_right (all_in test left) _ (and_right (test value) _ all)) h
            | false ↦ λ h. rw (sound x value h) (and_left (test value) _ all)
          ] h
    ] h
