-- What follows from the first word of a line's words, if it is one of three words, each with its own continuation.
use Rattle.std.proofs.Common.{◌≡◌, ◌≢◌, ℕ, ◌^◌, ◌<◌, List, Some, slice_get, get_or, decimal, ap, ◌∙◌}
use Rattle.oneshot_text.proofs.Decimal.{decimal-no_letter}

pub data FirstWord (a b c : List ℕ) (A B C : List (List ℕ) → Type 0) (word : List ℕ) (rest : List (List ℕ))
    : Type 0 where
  is_first : word ≡ a → A rest → FirstWord a b c A B C word rest
  is_second : word ≡ b → B rest → FirstWord a b c A B C word rest
  is_third : word ≡ c → C rest → FirstWord a b c A B C word rest

module _ {a b c : List ℕ} {A B C : List (List ℕ) → Type 0} where
  -- it is no number
  pub is_no_number : (n : ℕ) (rest : List (List ℕ)) → n < 2 ^ 64 → 57 < get_or a 0 0 → 57 < get_or b 0 0
      → 57 < get_or c 0 0 → ¬ (FirstWord a b c A B C (decimal n) rest)
  is_no_number n rest small letter _ _ (is_first is behind) = decimal-no_letter n a small letter is
  is_no_number n rest small _ letter _ (is_second is behind) = decimal-no_letter n b small letter is
  is_no_number n rest small _ _ letter (is_third is behind) = decimal-no_letter n c small letter is

  -- which one it is determines what comes after it
  pub behind_first : {rest : List (List ℕ)} → a ≢ b → a ≢ c → FirstWord a b c A B C a rest → A rest
  behind_first no_b no_c (is_first is behind) = behind
  behind_first no_b no_c (is_second is behind) = absurd (no_b is)
  behind_first no_b no_c (is_third is behind) = absurd (no_c is)

  pub behind_second : {rest : List (List ℕ)} → b ≢ a → b ≢ c → FirstWord a b c A B C b rest → B rest
  behind_second no_a no_c (is_first is behind) = absurd (no_a is)
  behind_second no_a no_c (is_second is behind) = behind
  behind_second no_a no_c (is_third is behind) = absurd (no_c is)

  pub behind_third : {rest : List (List ℕ)} → c ≢ a → c ≢ b → FirstWord a b c A B C c rest → C rest
  behind_third no_a no_b (is_first is behind) = absurd (no_a is)
  behind_third no_a no_b (is_second is behind) = absurd (no_b is)
  behind_third no_a no_b (is_third is behind) = behind

  -- a word that is none of the three
  pub is_none : (left : List (List ℕ)) → slice_get left 0 ≢ Some a → slice_get left 0 ≢ Some b
      → slice_get left 0 ≢ Some c → (word : List ℕ) → slice_get left 0 ≡ Some word → {rest : List (List ℕ)}
      → ¬ (FirstWord a b c A B C word rest)
  is_none left no_a no_b no_c word at (is_first is behind) = no_a (at ∙ ap (λ w. Some w) is)
  is_none left no_a no_b no_c word at (is_second is behind) = no_b (at ∙ ap (λ w. Some w) is)
  is_none left no_a no_b no_c word at (is_third is behind) = no_c (at ∙ ap (λ w. Some w) is)
