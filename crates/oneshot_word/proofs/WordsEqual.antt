-- Tests that two booleans or words are equal, and proofs that they are then.
use Rattle.std.proofs.Common.{◌≡◌, ℕ, Bool, true, false, Option, Some, None, refl}
use Rattle.oneshot_word.proofs.Names.{ap, ◌==◌, eqb-true}

abbrev pub is_bool : Bool → Bool → Bool
is_bool true true = true
is_bool false false = true
is_bool _ _ = false

pub bools_are : (a b : Bool) → is_bool a b ≡ true → a ≡ b
bools_are true true e = refl
bools_are false false e = refl
bools_are _ _ e = absurd (cc)

abbrev pub is_word : Option ℕ → Option ℕ → Bool
is_word None None = true
is_word (Some m) (Some n) = m == n
is_word _ _ = false

pub words_are : (a b : Option ℕ) → is_word a b ≡ true → a ≡ b
words_are None None e = refl
words_are (Some m) (Some n) e = ap Some (eqb-true m n e)
words_are _ _ e = absurd (cc)
