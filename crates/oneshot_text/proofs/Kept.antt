-- The text of the word before and after a step that keeps it.
use Rattle.std.proofs.Common.{◌≡◌, ℕ, ◌+◌, ◌<◌, [], ◌∷◌, ◌++◌, codes, ap}
use Rattle.std.specs.Fmt.{decimal}
use Rattle.std.proofs.lemmas.Fmt.{decimal_digit}

pub kept_text : (n : ℕ) → n < 10 → decimal n ++ codes ">" ++ decimal n ≡ (48 + n) ∷ 62 ∷ (48 + n) ∷ []
kept_text n small = ap (λ text. text ++ codes ">" ++ text) (decimal_digit n small)
