-- The first fault of a text's lines, from that of one line.
use Rattle.std.proofs.Common.{◌≡◌, ◌≢◌, ℕ, List, [], ◌∷◌, Some, length, map, slice_get, refl, arith}
use Rattle.oneshot_replay.specs.declared.Move.{Move}
use Rattle.oneshot_replay.specs.declared.ReceiverScript.{ReceiverScript}
use Rattle.oneshot_replay.specs.declared.SenderScript.{SenderScript}
use Rattle.oneshot_text.specs.declared.fault.Malformed.{Malformed}
use Rattle.oneshot_text.specs.declared.fault.Malformed.TheVariants.{MissingLine, MustBegin, InputAfterLines}
use Rattle.oneshot_text.specs.declared.line.Line.{Line}
use Rattle.oneshot_text.specs.declared.line.Line.TheVariants.{Sender, Receiver, Schedule}
use Rattle.oneshot_text.specs.declared.words.Words.{Words}
use Rattle.oneshot_text.specs.Cut.{words_of, lines_of}
use Rattle.oneshot_text.specs.FirstFault.{IsFirstFault, is_missing, begins_otherwise, is_wrong, is_later, is_input_after}
use Rattle.oneshot_text.specs.Grammar.{IsRight}
use Rattle.oneshot_text.specs.Line.{letter_of_line}
use Rattle.oneshot_text.specs.Receiver.{words_of_receiver, IsPollable}
use Rattle.oneshot_text.specs.Schedule.{words_of_schedule}
use Rattle.oneshot_text.specs.Sender.{words_of_sender, IsSendable}
use Rattle.oneshot_text.specs.Words.{words_left, StandsAt, HasLineFault}

pub no_line : (line : Line) (later : List Line) (lines : List (List (List ℕ))) (fault : Malformed) → lines ≡ []
    → MissingLine line ≡ fault → IsFirstFault (line ∷ later) lines fault
no_line line later lines fault none is = rw (none, ← is) is_missing

pub other_letter : (line : Line) (later : List Line) (lines : List (List (List ℕ))) (words : List (List ℕ))
    (rest : List (List (List ℕ))) (fault : Malformed)
    → lines ≡ words ∷ rest → slice_get words 0 ≢ Some (letter_of_line line) → MustBegin line ≡ fault
    → IsFirstFault (line ∷ later) lines fault
other_letter line later lines words rest fault first other is = rw (first, ← is) (begins_otherwise other)

pub input_after : (lines : List (List (List ℕ))) (fault : Malformed) → lines ≢ [] → InputAfterLines ≡ fault
    → IsFirstFault [] lines fault
input_after [] fault some is = absurd (some refl)
input_after (words ∷ rest) fault some is = rw (← is) is_input_after

-- the fault is in the next line
pub line_wrong : (line : Line) (later : List Line) (lines : List (List (List ℕ))) (words : Words)
    (rest : List (List (List ℕ))) (fault : Malformed)
    → lines ≡ (letter_of_line line ∷ words_left words) ∷ rest → StandsAt line 1 words
    → HasLineFault (IsRight line) words fault → IsFirstFault (line ∷ later) lines fault
line_wrong line later lines words rest fault first place f = rw first (is_wrong (rw (place.line, place.number) at f))

-- the next line is right
pub line_later : (line : Line) (later : List Line) (lines : List (List (List ℕ))) (words : List (List ℕ))
    (rest : List (List (List ℕ))) (fault : Malformed)
    → lines ≡ (letter_of_line line ∷ words) ∷ rest → IsRight line words → IsFirstFault later rest fault
    → IsFirstFault (line ∷ later) lines fault
line_later line later lines words rest fault first right f = rw first (is_later right f)

-- an empty text has no line
pub no_lines : (text : List ℕ) → length text ≡ 0 → map words_of (lines_of text) ≡ []
no_lines [] none = refl
no_lines (byte ∷ text) none = absurd (omega arith)

-- what is read is right
pub sender_right : (words : List (List ℕ)) (script : SenderScript ℕ) → words ≡ words_of_sender script
    → IsSendable script.last → IsRight Sender words
sender_right words script is fits = record { script = script; fits = fits; written = is }

pub receiver_right : (words : List (List ℕ)) (script : ReceiverScript) → words ≡ words_of_receiver script
    → IsPollable script.last → IsRight Receiver words
receiver_right words script is fits = record { script = script; fits = fits; written = is }

pub moves_right : (words : List (List ℕ)) (moves : List Move) → map (map Some) words ≡ words_of_schedule moves
    → IsRight Schedule words
moves_right words moves is = record { moves = moves; written = is }
