-- The memory of a ground in memory, and whether the rows of a phase may find its word.
use Rattle.std.specs.Prelude.{ℕ, Bool, true, false, not, ◌&&◌, ◌==◌, List, [], ◌∷◌, Option, is_some}
use Rattle.std.specs.List.{list_any}
use Rattle.oneshot_machine.specs.Phases.{Row}

-- the word, which slots the end owns, and whether they have a message and a waker
pub record Memory : Type 0 where
  pub word : ℕ
  pub owns_message : Bool
  pub owns_waker : Bool
  pub has_message : Bool
  pub has_waker : Bool

abbrev pub memory_of : {T W : Type 0} → ℕ → Bool → Bool → Option T → Option W → Memory
memory_of word owns_message owns_waker message waker =
    record {
      word = word;
      owns_message = owns_message;
      owns_waker = owns_waker;
      has_message = is_some message;
      has_waker = is_some waker;
    }

-- the waker's slot has a waker, and is not the end's
abbrev pub lies_in : Memory → Bool
lies_in c = not c.owns_waker && c.has_waker

abbrev pub codes : List ℕ
codes = 0 ∷ 1 ∷ 2 ∷ 3 ∷ 4 ∷ []

abbrev pub is_code : ℕ → Bool
is_code word = list_any (λ code. code == word) codes

abbrev pub is_same : Bool → Bool → Bool
is_same true b = b
is_same false b = not b

-- whether the end owns just these slots
abbrev pub owns_just : Bool → Bool → Memory → Bool
owns_just message waker c = is_same message c.owns_message && is_same waker c.owns_waker

-- The word at a phase with these rows is one that they find. An end without further operations has left this
-- last word.
abbrev pub is_word : {At : Type 0} → ℕ → List (Row At) → ℕ → Bool
is_word last [] word = last == word
is_word {At} last (row ∷ rows) word = list_any (λ (row : Row At). row.2 == word) (row ∷ rows)
