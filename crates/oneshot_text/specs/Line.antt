-- The letter of each line, and its number.
use Rattle.std.specs.Prelude.{ℕ, List, codes}
use Rattle.oneshot_text.specs.declared.line.Line.{Line}
use Rattle.oneshot_text.specs.declared.line.Line.TheVariants.{Sender, Receiver, Schedule}

abbrev pub letter_of_line : Line → List ℕ
letter_of_line Sender = codes "S"
letter_of_line Receiver = codes "R"
letter_of_line Schedule = codes "X"

abbrev pub number_of_line : Line → ℕ
number_of_line Sender = 1
number_of_line Receiver = 2
number_of_line Schedule = 3
