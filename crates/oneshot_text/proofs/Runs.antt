-- A run of one repeated word, and what comes after it.
use Rattle.std.proofs.Common.{◌≡◌, ◌≢◌, ℕ, zero, suc, List, [], ◌∷◌, ◌++◌, Some, slice_get, map, replicate, refl, ap, sym}

module _ {A : Type 0} (x : A) where
  -- a run that another word or none follows has only one length and one rest
  pub replicate-same : (n m : ℕ) (xs ys : List A) → slice_get xs 0 ≢ Some x → slice_get ys 0 ≢ Some x
      → replicate n x ++ xs ≡ replicate m x ++ ys → (n ≡ m) × (xs ≡ ys)
  replicate-same zero zero xs ys other_x other_y is = (refl, is)
  replicate-same zero (suc m) xs ys other_x other_y is = absurd (other_x (ap (λ zs. slice_get zs 0) is))
  replicate-same (suc n) zero xs ys other_x other_y is = absurd (other_y (ap (λ zs. slice_get zs 0) (sym is)))
  replicate-same (suc n) (suc m) xs ys other_x other_y is =
      let rest = replicate-same n m xs ys other_x other_y cc in (ap suc rest.0, rest.1)

module _ {A B : Type 0} (f : A → B) (same : (a b : A) → f a ≡ f b → a ≡ b) where
  -- the same for a run of words that each stand for one value
  pub map-same : (us vs : List A) (xs ys : List B) → ((a : A) → slice_get xs 0 ≢ Some (f a))
      → ((a : A) → slice_get ys 0 ≢ Some (f a)) → map f us ++ xs ≡ map f vs ++ ys → (us ≡ vs) × (xs ≡ ys)
  map-same [] [] xs ys other_x other_y is = (refl, is)
  map-same [] (v ∷ vs) xs ys other_x other_y is = absurd (other_x v (ap (λ zs. slice_get zs 0) is))
  map-same (u ∷ us) [] xs ys other_x other_y is = absurd (other_y u (ap (λ zs. slice_get zs 0) (sym is)))
  map-same (u ∷ us) (v ∷ vs) xs ys other_x other_y is =
      let rest = map-same us vs xs ys other_x other_y cc in
      let first : f u ≡ f v = cc in
      (cc (same u v first, rest.0), rest.1)

-- words of a language after a run are words of the language together with it
module _ {A : Type 0} (language : List A → Type 0) (x : A) where
  pub replicate_to : ((xs : List A) → language xs → language (x ∷ xs)) → (n : ℕ) (xs : List A) → language xs
      → language (replicate n x ++ xs)
  replicate_to to zero xs right = right
  replicate_to to (suc n) xs right = to (replicate n x ++ xs) (replicate_to to n xs right)

  pub replicate_from : ((xs : List A) → language (x ∷ xs) → language xs) → (n : ℕ) (xs : List A)
      → language (replicate n x ++ xs) → language xs
  replicate_from from zero xs right = right
  replicate_from from (suc n) xs right = replicate_from from n xs (from (replicate n x ++ xs) right)

module _ {A B : Type 0} (language : List B → Type 0) (f : A → B) where
  pub map_to : ((a : A) (xs : List B) → language xs → language (f a ∷ xs)) → (us : List A) (xs : List B) → language xs
      → language (map f us ++ xs)
  map_to to [] xs right = right
  map_to to (u ∷ us) xs right = to u (map f us ++ xs) (map_to to us xs right)

  pub map_from : ((a : A) (xs : List B) → language (f a ∷ xs) → language xs) → (us : List A) (xs : List B)
      → language (map f us ++ xs) → language xs
  map_from from [] xs right = right
  map_from from (u ∷ us) xs right = map_from from us xs (from u (map f us ++ xs) right)
