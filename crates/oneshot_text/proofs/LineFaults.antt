-- The fault of a line at its next word, and a fault of the words after it as one of all words.
use Rattle.std.proofs.Common.{◌≡◌, ◌≢◌, ℕ, ◌+◌, ◌^◌, ◌<◌, List, [], ◌∷◌, ◌++◌, Result, Ok, Err, Option, Some, None, length, slice_get, decimal, refl, sym, ap, subst, ◌∙◌, append_assoc, length-append}
use Rattle.std.proofs.Common.{arith, lit<}
use Rattle.std.specs.Result.{IsErrAnd, IsOk}
use Rattle.std.proofs.Math.Nat.{add-zero}
use Rattle.oneshot_text.specs.declared.fault.Malformed.{Malformed}
use Rattle.oneshot_text.specs.declared.fault.Malformed.TheVariants.{UnknownWord, BadNumber, FollowsLastCall}
use Rattle.oneshot_text.specs.declared.fault.ParseError.{ParseError}
use Rattle.oneshot_text.specs.declared.fault.ParseError.TheVariants.{Malformed as NotOfTheGrammar}
use Rattle.oneshot_text.specs.declared.line.Line.{Line}
use Rattle.oneshot_text.specs.declared.words.Word.{Word}
use Rattle.oneshot_text.specs.declared.words.Words.{Words}
use Rattle.oneshot_text.specs.Grammar.{IsOver, NumberAnd}
use Rattle.oneshot_text.specs.LineFault.{Begins, MayFollow, GoesWrong, IsFaultAt, needs_number, needs_word, is_over, IsLineFault}
use Rattle.oneshot_text.specs.Words.{words_left, IsSameLine, IsNextOf, TakesFirst, HasLineFault}

abbrev err : {E : Type 0} (T : Type 0) → E → Result T E
err T e = Err e

fault_here : (line : Line) (first : ℕ) (language : List (List ℕ) → Type 0) (words : List (List ℕ)) (fault : Malformed)
    → Begins language [] → GoesWrong language [] words → IsFaultAt line first language [] fault
    → IsLineFault line first language words fault
fault_here line first language words fault begins wrong kind =
    record { front = []; rest = words; parts = refl; begins = begins; wrong = wrong; kind = rw add-zero kind }

-- no right words begin with this word, nor with a number
pub unknown_word : (line : Line) (first : ℕ) (language : List (List ℕ) → Type 0) (word : List ℕ) (words : List (List ℕ))
    (other : List ℕ) (rest : List (List ℕ))
    → language (other ∷ rest) → ((n : ℕ) (xs : List (List ℕ)) → n < 2 ^ 64 → ¬ (language (decimal n ∷ xs)))
    → ((xs : List (List ℕ)) → ¬ (language (word ∷ xs)))
    → IsLineFault line first language (word ∷ words) (UnknownWord line first)
unknown_word line first language word words other rest right no_number no_word =
    fault_here line first language (word ∷ words) (UnknownWord line first)
    (record { rest = other ∷ rest; right = right })
    (λ b. no_word b.rest b.right)
    (needs_word (other, record { rest = rest; right = right }) (λ m. no_number m.0 m.2.rest m.1 m.2.right))

no_number_here : (language : List (List ℕ) → Type 0) (words : List (List ℕ))
    → ((n : ℕ) → n < 2 ^ 64 → slice_get words 0 ≢ Some (decimal n)) → GoesWrong (NumberAnd language) [] words
no_number_here language [] none = λ right. absurd (cc right.written)
no_number_here language (word ∷ words) none = λ b. none b.right.number b.right.small (cc b.right.written)

-- a number must come here
pub bad_number : (line : Line) (first : ℕ) (language : List (List ℕ) → Type 0) (words rest : List (List ℕ))
    → language rest → ((n : ℕ) → n < 2 ^ 64 → slice_get words 0 ≢ Some (decimal n))
    → IsLineFault line first (NumberAnd language) words (BadNumber line first)
bad_number line first language words rest right none =
    let zero_and : NumberAnd language (decimal 0 ∷ rest) =
    record { number = 0; rest = rest; small = lit< tt; written = refl; right = right } in
    fault_here line first (NumberAnd language) words (BadNumber line first)
    (record { rest = decimal 0 ∷ rest; right = zero_and })
    (no_number_here language words none)
    (needs_number (0, lit< tt, record { rest = rest; right = zero_and }))

-- no word may come here
pub word_after_all : (line : Line) (first : ℕ) (word : List ℕ) (words : List (List ℕ))
    → IsLineFault line first IsOver (word ∷ words) (FollowsLastCall line first)
word_after_all line first word words =
    fault_here line first IsOver (word ∷ words) (FollowsLastCall line first)
    (record { rest = []; right = refl })
    (λ b. absurd (cc b.right))
    (is_over (λ m. absurd (cc m.1.right)))

-- `all` are the words `front` with words of `behind` after them
module _ (behind all : List (List ℕ) → Type 0) (front : List (List ℕ))
    (to : (words : List (List ℕ)) → behind words → all (front ++ words))
    (from : (words : List (List ℕ)) → all (front ++ words) → behind words) where
  begins_to : (xs : List (List ℕ)) → Begins behind xs → Begins all (front ++ xs)
  begins_to xs b = record { rest = b.rest; right = rw append_assoc (to (xs ++ b.rest) b.right) }

  begins_from : (xs : List (List ℕ)) → Begins all (front ++ xs) → Begins behind xs
  begins_from xs b = record { rest = b.rest; right = from (xs ++ b.rest) (rw append_assoc at b.right) }

  follows_to : (xs : List (List ℕ)) (word : List ℕ) → MayFollow behind xs word → MayFollow all (front ++ xs) word
  follows_to xs word follows = rw append_assoc (begins_to (xs ++ word ∷ []) follows)

  follows_from : (xs : List (List ℕ)) (word : List ℕ) → MayFollow all (front ++ xs) word → MayFollow behind xs word
  follows_from xs word follows = begins_from (xs ++ word ∷ []) (rw append_assoc at follows)

  wrong_to : (xs rest : List (List ℕ)) → GoesWrong behind xs rest → GoesWrong all (front ++ xs) rest
  wrong_to xs [] wrong = λ right. wrong (from xs right)
  wrong_to xs (word ∷ rest) wrong = λ follows. wrong (follows_from xs word follows)

  kind_to : (line : Line) (number : ℕ) (xs : List (List ℕ)) (fault : Malformed) → IsFaultAt line number behind xs fault
      → IsFaultAt line number all (front ++ xs) fault
  kind_to line number xs fault (needs_number follows) =
      needs_number (follows.0, follows.1, follows_to xs (decimal follows.0) follows.2)
  kind_to line number xs fault (needs_word follows none) =
      needs_word (follows.0, follows_to xs follows.0 follows.1)
      (λ m. none (m.0, m.1, follows_from xs (decimal m.0) m.2))
  kind_to line number xs fault (is_over none) = is_over (λ m. none (m.0, follows_from xs m.0 m.1))

  line_fault_to : (line : Line) (first : ℕ) (words : List (List ℕ)) (fault : Malformed)
      → IsLineFault line (first + length front) behind words fault → IsLineFault line first all (front ++ words) fault
  line_fault_to line first words fault f =
      let number : (first + length front) + length f.front ≡ first + length (front ++ f.front) =
      omega (arith, length-append front f.front) in
      record {
        front = front ++ f.front;
        rest = f.rest;
        parts = ap (λ ws. front ++ ws) f.parts ∙ sym (append_assoc front f.front f.rest);
        begins = begins_to f.front f.begins;
        wrong = wrong_to f.front f.rest f.wrong;
        kind = kind_to line (first + length (front ++ f.front)) f.front fault (rw number at f.kind);
      }

  -- the words of a line from which these were taken
  pub fault_behind : (old new : Words) (fault : Malformed) → IsSameLine old new
      → words_left old ≡ front ++ words_left new → HasLineFault behind new fault → HasLineFault all old fault
  fault_behind old new fault same is f =
      let number : new.taken ≡ old.taken + length front =
      omega (arith, same.count, ap length is, length-append front (words_left new)) in
      let g : IsLineFault old.line (old.taken + length front) behind (words_left new) fault =
      subst (λ k. IsLineFault old.line k behind (words_left new) fault) number
      (subst (λ l. IsLineFault l new.taken behind (words_left new) fault) same.line f) in
      rw is (line_fault_to old.line old.taken (words_left new) fault g)

-- words are taken, and then more
pub same_line_on : (first then last : Words) → IsSameLine first then → IsSameLine then last → IsSameLine first last
same_line_on first then last before after =
    record { line = after.line ∙ before.line; count = after.count ∙ before.count }

-- the fault in an error
pub fault_of_err : {T : Type 0} (given fault : Malformed) → err T given ≡ err T fault → given ≡ fault
fault_of_err given fault is = cc

-- a fault that is passed on
pub fault_passed : {T : Type 0} (language : List (List ℕ) → Type 0) (words : Words) (r : Result T Malformed)
    (given fault : Malformed) → IsErrAnd r (λ e. e ≡ given) → r ≡ Err fault → HasLineFault language words given
    → HasLineFault language words fault
fault_passed language words r given fault told is f =
    let same : fault ≡ given = subst (λ x. IsErrAnd x (λ e. e ≡ given)) is told in rw same f

same_grammar : (given fault : Malformed) → NotOfTheGrammar fault ≡ NotOfTheGrammar given → fault ≡ given
same_grammar given fault is = cc

-- the same as an error of the whole text
pub converted_is : {T : Type 0} (r : Result T ParseError) (given fault : Malformed)
    → IsErrAnd r (λ e. e ≡ NotOfTheGrammar given) → r ≡ Err (NotOfTheGrammar fault) → fault ≡ given
converted_is r given fault told is =
    same_grammar given fault (subst (λ x. IsErrAnd x (λ e. e ≡ NotOfTheGrammar given)) is told)

pub fault_converted : {T : Type 0} (language : List (List ℕ) → Type 0) (words : Words) (r : Result T ParseError)
    (given fault : Malformed)
    → IsErrAnd r (λ e. e ≡ NotOfTheGrammar given) → r ≡ Err (NotOfTheGrammar fault) → HasLineFault language words given
    → HasLineFault language words fault
fault_converted language words r given fault told is f = rw (converted_is r given fault told is) f

-- an error that is passed on is this fault
pub error_is : {T U : Type 0} (read : Result T ParseError) (given : ParseError) (fault : Malformed) → read ≡ Err given
    → (r : Result U ParseError)
    → IsErrAnd r (λ e. e ≡ given) → r ≡ Err (NotOfTheGrammar fault) → read ≡ Err (NotOfTheGrammar fault)
error_is {T} read given fault was r told is =
    let same : NotOfTheGrammar fault ≡ given =
    subst (λ x. IsErrAnd x (λ e. e ≡ given)) is told in was ∙ ap (λ e. err T e) (sym same)

-- a word that is left where none may follow
pub word_over : (words : Words) (word : Word) (rest : List (List ℕ)) → words_left words ≡ word.text.now ∷ rest
    → IsNextOf words word
    → (fault : Malformed) → FollowsLastCall word.line word.number ≡ fault → HasLineFault IsOver words fault
word_over words word rest left place fault is =
    rw (← is, place.line, place.number, left) (word_after_all words.line words.taken word.text.now rest)

unknown_among : (line : Line) (first : ℕ) (language : List (List ℕ) → Type 0) (words : List (List ℕ)) (other : List ℕ)
    (others : List (List ℕ)) → language (other ∷ others)
    → ((n : ℕ) (xs : List (List ℕ)) → n < 2 ^ 64 → ¬ (language (decimal n ∷ xs)))
    → ((word : List ℕ) → slice_get words 0 ≡ Some word → (xs : List (List ℕ)) → ¬ (language (word ∷ xs)))
    → words ≢ [] → IsLineFault line first language words (UnknownWord line first)
unknown_among line first language [] other others right no_number no_word some = absurd (some refl)
unknown_among line first language (word ∷ words) other others right no_number no_word some =
    unknown_word line first language word words other others right no_number (no_word word refl)

not_over : {T E : Type 0} (words : List (List ℕ)) (r : Result T E) (e : E) → (words ≡ [] → IsOk r) → r ≡ Err e
    → words ≢ []
not_over {T} {E} words r e over is none =
    let ok : IsOk (err T e) = subst (λ (x : Result T E). IsOk x) is (over none) in absurd (cc ok)

-- a word that is unknown here, as the contract of `stop` states it
pub word_unknown : (language : List (List ℕ) → Type 0) (words : Words) (r : Result (Unit {0}) Malformed)
    (other : List ℕ) (others : List (List ℕ)) → language (other ∷ others)
    → ((n : ℕ) (xs : List (List ℕ)) → n < 2 ^ 64 → ¬ (language (decimal n ∷ xs)))
    → ((word : List ℕ) → slice_get (words_left words) 0 ≡ Some word → (xs : List (List ℕ)) → ¬ (language (word ∷ xs)))
    → (words_left words ≡ [] → IsOk r)
    → ((fault : Malformed) → r ≡ Err fault → fault ≡ UnknownWord words.line words.taken)
    → (given : Malformed) → r ≡ Err given → HasLineFault language words given
word_unknown language words r other others right no_number no_word over faulty given was =
    rw (faulty given was) (unknown_among words.line words.taken language (words_left words) other others right no_number
    no_word (not_over (words_left words) r given over was))

not_ok : (n : ℕ) (r : Result ℕ Malformed) (given : Malformed) → r ≡ Err given → r ≡ Ok n → ⊥
not_ok n r given was is = cc (sym was ∙ is)

-- a number that is missing, as the contract of `number` states it
pub number_missing : (language : List (List ℕ) → Type 0) (words : Words) (rest : List (List ℕ)) → language rest
    → (r : Result ℕ Malformed)
    → ((n : ℕ) → n < 2 ^ 64 → slice_get (words_left words) 0 ≡ Some (decimal n) → r ≡ Ok n)
    → ((fault : Malformed) → r ≡ Err fault → fault ≡ BadNumber words.line words.taken)
    → (given : Malformed) → r ≡ Err given → HasLineFault (NumberAnd language) words given
number_missing language words rest right r each faulty given was =
    rw (faulty given was) (bad_number words.line words.taken language (words_left words) rest right
    (λ n small at. not_ok n r given was (each n small at)))

-- the next word, as `next` takes it
pub next_taken : (old : Words) (result : Option Word) (new : Words) (word : List ℕ) → TakesFirst old result new
    → slice_get (words_left old) 0 ≡ Some word → words_left old ≡ word ∷ words_left new
next_taken old None new word takes at = absurd (cc (sym (ap (λ ws. slice_get ws 0) takes.0.0) ∙ at))
next_taken old (Some w) new word takes at =
    let same : Some w.text.now ≡ Some word = sym (ap (λ ws. slice_get ws 0) takes.0) ∙ at in
    let text : w.text.now ≡ word = cc same in
    takes.0 ∙ ap (λ t. t ∷ words_left new) text

-- a fault of the words after that word
pub fault_behind_word : (behind all : List (List ℕ) → Type 0) (word : List ℕ)
    → ((words : List (List ℕ)) → behind words → all (word ∷ words))
    → ((words : List (List ℕ)) → all (word ∷ words) → behind words)
    → (old : Words) (result : Option Word) (new : Words) → TakesFirst old result new
    → slice_get (words_left old) 0 ≡ Some word → (fault : Malformed) → HasLineFault behind new fault
    → HasLineFault all old fault
fault_behind_word behind all word to from old result new takes at fault f =
    fault_behind behind all (word ∷ []) to from old new fault takes.1 (next_taken old result new word takes at) f

pub number_and_from : (language : List (List ℕ) → Type 0) (n : ℕ) (words : List (List ℕ))
    → NumberAnd language (decimal n ∷ words) → language words
number_and_from language n words right =
    let same : right.rest ≡ words = cc right.written in subst language same right.right

-- a fault of the words after a number
pub fault_behind_number : (language : List (List ℕ) → Type 0) (n : ℕ) → n < 2 ^ 64 → (old new : Words)
    → IsSameLine old new → words_left old ≡ decimal n ∷ words_left new
    → (fault : Malformed) → HasLineFault language new fault → HasLineFault (NumberAnd language) old fault
fault_behind_number language n small old new same is fault f =
    fault_behind language (NumberAnd language) (decimal n ∷ [])
    (λ ws right. record { number = n; rest = ws; small = small; written = refl; right = right })
    (λ ws right. number_and_from language n ws right)
    old new fault same is f
