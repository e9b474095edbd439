-- What contracts see of a line that is being read: the words left, and their numbers.
use Rattle.std.specs.Prelude.{◌≡◌, ℕ, ◌+◌, List, Option, length, IfSome}
use Rattle.std.specs.Iterator.{YieldsFirstBy}
use Rattle.oneshot_text.specs.declared.fault.Malformed.{Malformed}
use Rattle.oneshot_text.specs.declared.line.Line.{Line}
use Rattle.oneshot_text.specs.declared.words.Word.{Word}
use Rattle.oneshot_text.specs.declared.words.Words.{Words}
use Rattle.oneshot_text.specs.Cut.{words_in}
use Rattle.oneshot_text.specs.LineFault.{IsLineFault}

abbrev pub words_left : Words → List (List ℕ)
words_left words = words_in words.rest

-- the words that are left are those of this line from this number on
pub record StandsAt (here : Line) (first : ℕ) (words : Words) : Type 0 where
  pub line : words.line ≡ here
  pub number : words.taken ≡ first

-- words were taken from a line, each counted
pub record IsSameLine (old new : Words) : Type 0 where
  pub line : new.line ≡ old.line
  pub count : new.taken + length (words_left new) ≡ old.taken + length (words_left old)

-- the word has the place that the next one had
pub record IsNextOf (words : Words) (word : Word) : Type 0 where
  pub line : word.line ≡ words.line
  pub number : word.number ≡ words.taken

-- what `next` returns: the words left, one by one
abbrev pub TakesFirst : Words → Option Word → Words → Type 0
TakesFirst old word new =
    YieldsFirstBy (λ w. w.text.now) words_left old word new
    × IsSameLine old new
    × IfSome word (λ w. IsNextOf old w)

-- the words left stop being of this language, with this fault
abbrev pub HasLineFault : (List (List ℕ) → Type 0) → Words → Malformed → Type 0
HasLineFault language words fault = IsLineFault words.line words.taken language (words_left words) fault
