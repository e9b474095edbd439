-- The word at which a line leaves a language, and which fault that is.
use Rattle.std.specs.Prelude.{◌≡◌, ℕ, ◌+◌, ◌^◌, ◌<◌, List, [], ◌∷◌, ◌++◌, length, decimal}
use Rattle.oneshot_text.specs.declared.fault.Malformed.{Malformed}
use Rattle.oneshot_text.specs.declared.fault.Malformed.TheVariants.{UnknownWord, BadNumber, FollowsLastCall}
use Rattle.oneshot_text.specs.declared.line.Line.{Line}

-- A language states which lists of words are right.

-- some right words begin with these
pub record Begins (language : List (List ℕ) → Type 0) (front : List (List ℕ)) : Type 0 where
  pub rest : List (List ℕ)
  pub right : language (front ++ rest)

-- after these words this one may follow
abbrev pub MayFollow : (List (List ℕ) → Type 0) → List (List ℕ) → List ℕ → Type 0
MayFollow language front word = Begins language (front ++ word ∷ [])

-- after these words comes one that may not follow, or the end too early
abbrev pub GoesWrong : (List (List ℕ) → Type 0) → List (List ℕ) → List (List ℕ) → Type 0
GoesWrong language front [] = ¬ (language front)
GoesWrong language front (word ∷ rest) = ¬ (MayFollow language front word)

abbrev pub NumberMayFollow : (List (List ℕ) → Type 0) → List (List ℕ) → Type 0
NumberMayFollow language front = (number : ℕ) × (number < 2 ^ 64) × MayFollow language front (decimal number)

abbrev pub WordMayFollow : (List (List ℕ) → Type 0) → List (List ℕ) → Type 0
WordMayFollow language front = (word : List ℕ) × MayFollow language front word

-- The fault of a line that goes wrong at the word of this number, after these words: `BadNumber` if a
-- number may follow, `UnknownWord` if only other words may, `FollowsLastCall` if none may.
pub data IsFaultAt (line : Line) (word : ℕ) (language : List (List ℕ) → Type 0) (front : List (List ℕ)) : Malformed
    → Type 0 where
  needs_number : NumberMayFollow language front → IsFaultAt line word language front (BadNumber line word)
  needs_word : WordMayFollow language front → ¬ (NumberMayFollow language front)
      → IsFaultAt line word language front (UnknownWord line word)
  is_over : ¬ (WordMayFollow language front) → IsFaultAt line word language front (FollowsLastCall line word)

-- These words, the first with the number `first`, are right as far as `front`, and go wrong there.
pub record IsLineFault (line : Line) (first : ℕ) (language : List (List ℕ) → Type 0) (words : List (List ℕ))
    (fault : Malformed) : Type 0 where
  pub front : List (List ℕ)
  pub rest : List (List ℕ)
  pub parts : words ≡ front ++ rest
  pub begins : Begins language front
  pub wrong : GoesWrong language front rest
  pub kind : IsFaultAt line (first + length front) language front fault
