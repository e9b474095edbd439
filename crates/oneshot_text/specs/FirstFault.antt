-- The first fault of a text that does not match the grammar, line by line and from left to right.
use Rattle.std.specs.Prelude.{◌≢◌, ℕ, List, [], ◌∷◌, map, Some, slice_get}
use Rattle.oneshot_text.specs.declared.fault.Malformed.{Malformed}
use Rattle.oneshot_text.specs.declared.fault.Malformed.TheVariants.{MissingLine, MustBegin, InputAfterLines}
use Rattle.oneshot_text.specs.declared.line.Line.{Line}
use Rattle.oneshot_text.specs.declared.line.Line.TheVariants.{Sender, Receiver, Schedule}
use Rattle.oneshot_text.specs.Cut.{words_of, lines_of}
use Rattle.oneshot_text.specs.Grammar.{IsRight}
use Rattle.oneshot_text.specs.Line.{letter_of_line}
use Rattle.oneshot_text.specs.LineFault.{IsLineFault}

-- The first fault of what is left of a text, which should be these lines. Words are counted from 1,
-- after a line's letter.
pub data IsFirstFault : List Line → List (List (List ℕ)) → Malformed → Type 0 where
  is_missing : {line : Line} {lines : List Line} → IsFirstFault (line ∷ lines) [] (MissingLine line)
  begins_otherwise : {line : Line} {lines : List Line} {words : List (List ℕ)} {rest : List (List (List ℕ))}
      → slice_get words 0 ≢ Some (letter_of_line line) → IsFirstFault (line ∷ lines) (words ∷ rest) (MustBegin line)
  is_wrong : {line : Line} {lines : List Line} {words : List (List ℕ)} {rest : List (List (List ℕ))} {fault : Malformed}
      → IsLineFault line 1 (IsRight line) words fault
      → IsFirstFault (line ∷ lines) ((letter_of_line line ∷ words) ∷ rest) fault
  is_later : {line : Line} {lines : List Line} {words : List (List ℕ)} {rest : List (List (List ℕ))} {fault : Malformed}
      → IsRight line words → IsFirstFault lines rest fault
      → IsFirstFault (line ∷ lines) ((letter_of_line line ∷ words) ∷ rest) fault
  is_input_after : {words : List (List ℕ)} {rest : List (List (List ℕ))}
      → IsFirstFault [] (words ∷ rest) InputAfterLines

abbrev pub HasFault : List ℕ → Malformed → Type 0
HasFault text fault = IsFirstFault (Sender ∷ Receiver ∷ Schedule ∷ []) (map words_of (lines_of text)) fault
