-- No word has the letters of two different lists of moves.
use Rattle.std.proofs.Common.{◌≡◌, ℕ, zero, suc, ◌<◌, ◌==◌, true, false, List, [], ◌∷◌, Option, Some, None, if◌then◌else◌, length, get_or, map, refl, sym, ◌∙◌, arith}
use Rattle.oneshot_replay.specs.declared.Move.{Move}
use Rattle.oneshot_replay.specs.declared.Move.TheVariants.{Sender, Receiver}
use Rattle.oneshot_text.specs.Schedule.{letter_of, words_of_schedule}

abbrev move_lettered : ℕ → Option Move
move_lettered letter =
    if letter == 115 then Some Sender
    else (if letter == 114 then Some (Receiver false false)
    else (if letter == 111 then Some (Receiver true false)
    else (if letter == 110 then Some (Receiver false true) else None)))

move_lettered-letter : (move : Move) (letter : ℕ) → letter_of move ≡ Some letter → move_lettered letter ≡ Some move
move_lettered-letter Sender letter is = let e : 115 ≡ letter = cc in rw (← e) refl
move_lettered-letter (Receiver false false) letter is = let e : 114 ≡ letter = cc in rw (← e) refl
move_lettered-letter (Receiver true false) letter is = let e : 111 ≡ letter = cc in rw (← e) refl
move_lettered-letter (Receiver false true) letter is = let e : 110 ≡ letter = cc in rw (← e) refl
move_lettered-letter (Receiver true true) letter is = absurd cc

pub moves-same : (xs ys : List Move) (text : List ℕ) → map letter_of xs ≡ map Some text
    → map letter_of ys ≡ map Some text → xs ≡ ys
moves-same [] [] text x_is y_is = refl
moves-same [] (y ∷ ys) text x_is y_is = absurd (cc (x_is ∙ sym y_is))
moves-same (x ∷ xs) [] text x_is y_is = absurd (cc (x_is ∙ sym y_is))
moves-same (x ∷ xs) (y ∷ ys) [] x_is y_is = absurd cc
moves-same (x ∷ xs) (y ∷ ys) (letter ∷ text) x_is y_is =
    cc (move_lettered-letter x letter (cc), move_lettered-letter y letter (cc), moves-same xs ys text (cc) (cc))

-- each letter of the word is that of a move
pub letter-at : (moves : List Move) (text : List ℕ) (i : ℕ) → map letter_of moves ≡ map Some text → i < length text
    → (move : Move) × (letter_of move ≡ Some (get_or text i 0))
letter-at moves [] i is small = absurd (omega arith)
letter-at [] (letter ∷ text) i is small = absurd cc
letter-at (move ∷ moves) (letter ∷ text) zero is small = (move, cc)
letter-at (move ∷ moves) (letter ∷ text) (suc i) is small = letter-at moves text i (cc) (omega arith)

-- the one word of the line has the letters of no other moves
pub schedule-same : (xs ys : List Move) (word : List ℕ) → map letter_of xs ≡ map Some word
    → map (map Some) (word ∷ []) ≡ words_of_schedule ys → xs ≡ ys
schedule-same xs [] word x_is y_is = absurd cc
schedule-same xs (y ∷ ys) word x_is y_is = moves-same xs (y ∷ ys) word x_is (cc)
