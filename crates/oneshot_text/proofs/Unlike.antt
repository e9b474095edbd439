-- Words are unequal if a test distinguishes them, and no test is both true and false.
use Rattle.std.proofs.Common.{◌≡◌, ℕ, Bool, true, false, List, sym, ap, ◌∙◌}
use Rattle.std.specs.Str.{bytes_eq}

pub not_both : (answer : Bool) → answer ≡ false → answer ≡ true → ⊥
not_both answer denied affirmed = let both : false ≡ true = sym denied ∙ affirmed in absurd (cc both)

pub unlike : (a b : List ℕ) → bytes_eq a b ≡ false → bytes_eq b b ≡ true → a ≡ b → ⊥
unlike a b other same is = not_both (bytes_eq a b) other (ap (λ w. bytes_eq w b) is ∙ same)
