-- Which words of a schedule's line may follow each word.
use Rattle.std.proofs.Common.{◌≡◌, ◌≢◌, ℕ, ◌^◌, ◌<◌, true, false, List, [], ◌∷◌, Result, Err, Some, length, map, get_or, decimal, alloc_error, refl, sym, ap, subst, arith}
use Rattle.std.specs.Result.{MatchResult}
use Rattle.std.proofs.lemmas.Fmt.{decimal_nonempty}
use Rattle.oneshot_replay.specs.declared.Move.{Move}
use Rattle.oneshot_replay.specs.declared.Move.TheVariants.{Sender, Receiver}
use Rattle.oneshot_text.specs.declared.fault.Malformed.{Malformed}
use Rattle.oneshot_text.specs.declared.fault.Malformed.TheVariants.{UnknownWord}
use Rattle.oneshot_text.specs.declared.fault.ParseError.{ParseError}
use Rattle.oneshot_text.specs.declared.fault.ParseError.TheVariants.{Malformed as NotOfTheGrammar, OutOfMemory}
use Rattle.oneshot_text.specs.declared.words.Word.{Word}
use Rattle.oneshot_text.specs.declared.words.Words.{Words}
use Rattle.oneshot_text.specs.Grammar.{AsksForMoves, IsOver}
use Rattle.oneshot_text.specs.Schedule.{letter_of, words_of_schedule}
use Rattle.oneshot_text.specs.Words.{words_left, IsNextOf, HasLineFault}
use Rattle.oneshot_text.proofs.Decimal.{decimal-no_letter}
use Rattle.oneshot_text.proofs.Letters.{letter-at}
use Rattle.oneshot_text.proofs.LineFaults.{unknown_word}

-- what follows from the first word of a schedule's words
pub record MovesHead (word : List ℕ) (rest : List (List ℕ)) : Type 0 where
  pub moves : List Move
  pub some : 0 < length moves
  pub letters : map letter_of moves ≡ map Some word
  pub over : rest ≡ []

no_more : (rest : List (List ℕ)) → map (map Some) rest ≡ [] → rest ≡ []
no_more [] none = refl
no_more (word ∷ rest) none = absurd cc

moves_head_of : (moves : List Move) (word : List ℕ) (rest : List (List ℕ))
    → map (map Some) (word ∷ rest) ≡ words_of_schedule moves → MovesHead word rest
moves_head_of [] word rest is = absurd cc
moves_head_of (move ∷ moves) word rest is =
    record { moves = move ∷ moves; some = omega arith; letters = cc; over = no_more rest cc }

moves_head : (word : List ℕ) (rest : List (List ℕ)) → AsksForMoves (word ∷ rest) → MovesHead word rest
moves_head word rest asks = moves_head_of asks.moves word rest asks.written

-- after the letters
moves_written : (moves : List Move) (word : List ℕ) → 0 < length moves → map letter_of moves ≡ map Some word
    → map (map Some) (word ∷ []) ≡ words_of_schedule moves
moves_written [] word some is = absurd (omega arith)
moves_written (move ∷ moves) word some is = ap (λ letters. letters ∷ []) (sym is)

pub moves_to : (moves : List Move) (word : List ℕ) → 0 < length moves → map letter_of moves ≡ map Some word
    → (rest : List (List ℕ)) → IsOver rest → AsksForMoves (word ∷ rest)
moves_to moves word some is rest over = rw over (record { moves = moves; written = moves_written moves word some is })

pub moves_from : (word : List ℕ) (rest : List (List ℕ)) → AsksForMoves (word ∷ rest) → IsOver rest
moves_from word rest asks = (moves_head word rest asks).over

-- no move's letter is a digit
letter_of-high : (move : Move) (letter : ℕ) → letter_of move ≡ Some letter → 57 < letter
letter_of-high Sender letter is = let e : 115 ≡ letter = cc in omega arith
letter_of-high (Receiver false false) letter is = let e : 114 ≡ letter = cc in omega arith
letter_of-high (Receiver true false) letter is = let e : 111 ≡ letter = cc in omega arith
letter_of-high (Receiver false true) letter is = let e : 110 ≡ letter = cc in omega arith
letter_of-high (Receiver true true) letter is = absurd cc

schedule-no_number : (n : ℕ) (xs : List (List ℕ)) → n < 2 ^ 64 → ¬ (AsksForMoves (decimal n ∷ xs))
schedule-no_number n xs small asks =
    let head = moves_head (decimal n) xs asks in
    let first = letter-at head.moves (decimal n) 0 head.letters (decimal_nonempty n small) in
    decimal-no_letter n (decimal n) small (letter_of-high first.0 (get_or (decimal n) 0 0) first.1) refl

-- what the contract states of letters that are read
abbrev pub ReadsEachMoves : {T : Type 0} → (T → List Move) → List ℕ → Result T ParseError → Type 0
ReadsEachMoves items word read = (moves : List Move) → 0 < length moves → map letter_of moves ≡ map Some word
    → MatchResult read (λ r. items r ≡ moves) (λ error. error ≡ OutOfMemory alloc_error)

no_moves : {T : Type 0} (items : T → List Move) (word : List ℕ) (read : Result T ParseError) (fault : Malformed)
    → ReadsEachMoves items word read → read ≡ Err (NotOfTheGrammar fault)
    → (moves : List Move) → 0 < length moves → map letter_of moves ≢ map Some word
no_moves items word read fault each was moves some is =
    let same : NotOfTheGrammar fault ≡ OutOfMemory alloc_error =
    subst (λ r. MatchResult r (λ x. items x ≡ moves) (λ error. error ≡ OutOfMemory alloc_error)) was
    (each moves some is) in
    absurd (cc same)

-- a word with other letters
pub schedule_unknown : {T : Type 0} (items : T → List Move) (words : Words) (word : Word) (rest : List (List ℕ))
    → words_left words ≡ word.text.now ∷ rest → IsNextOf words word
    → (read : Result T ParseError) → ReadsEachMoves items word.text.now read → (fault : Malformed)
    → read ≡ Err (NotOfTheGrammar fault) → fault ≡ UnknownWord word.line word.number
    → HasLineFault AsksForMoves words fault
schedule_unknown items words word rest left place read each fault was is =
    rw (is, place.line, place.number, left)
    (unknown_word words.line words.taken AsksForMoves word.text.now rest (115 ∷ []) []
    (record { moves = Sender ∷ []; written = refl })
    schedule-no_number
    (λ xs asks. let head = moves_head word.text.now xs asks in
    no_moves items word.text.now read fault each was head.moves head.some head.letters))
