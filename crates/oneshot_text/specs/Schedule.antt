-- The letter of each move, and the words that ask for a schedule, after the line's letter.
use Rattle.std.specs.Prelude.{ℕ, true, false, List, [], ◌∷◌, map, Option, Some, None}
use Rattle.oneshot_replay.specs.declared.Move.{Move}
use Rattle.oneshot_replay.specs.declared.Move.TheVariants.{Sender, Receiver}

-- s, r, o and n; no letter asks for a late clock and a refused copy at once
abbrev pub letter_of : Move → Option ℕ
letter_of Sender = Some 115
letter_of (Receiver false false) = Some 114
letter_of (Receiver true false) = Some 111
letter_of (Receiver false true) = Some 110
letter_of (Receiver true true) = None

-- one word with a letter for each move; no word if there is no move
abbrev pub words_of_schedule : List Move → List (List (Option ℕ))
words_of_schedule [] = []
words_of_schedule (move ∷ moves) = map letter_of (move ∷ moves) ∷ []
