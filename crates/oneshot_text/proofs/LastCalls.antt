-- The faults that the parser of a last call passes on: a word after the call, and a word that is no last call.
use Rattle.std.proofs.Common.{◌≡◌, ℕ, ◌^◌, ◌<◌, List, [], ◌∷◌, ◌++◌, Result, Err, Option, Some, slice_get, replicate, decimal}
use Rattle.std.specs.Result.{IsErrAnd, IsOk}
use Rattle.oneshot_text.specs.declared.fault.Malformed.{Malformed}
use Rattle.oneshot_text.specs.declared.fault.Malformed.TheVariants.{UnknownWord}
use Rattle.oneshot_text.specs.declared.fault.ParseError.{ParseError}
use Rattle.oneshot_text.specs.declared.fault.ParseError.TheVariants.{Malformed as NotOfTheGrammar}
use Rattle.oneshot_text.specs.declared.words.Word.{Word}
use Rattle.oneshot_text.specs.declared.words.Words.{Words}
use Rattle.oneshot_text.specs.Grammar.{IsOver}
use Rattle.oneshot_text.specs.Words.{words_left, IsSameLine, TakesFirst, HasLineFault}
use Rattle.oneshot_text.proofs.LineFaults.{fault_passed, fault_converted, fault_behind, fault_behind_word, word_unknown}
use Rattle.oneshot_text.proofs.Runs.{replicate_to, replicate_from}

module _ (language : List (List ℕ) → Type 0) (words : Words) (given fault : Malformed) where
  -- a word after the last call
  module _ (word : List ℕ) (to : (rest : List (List ℕ)) → IsOver rest → language (word ∷ rest))
      (from : (rest : List (List ℕ)) → language (word ∷ rest) → IsOver rest) (result : Option Word) (new : Words)
      (takes : TakesFirst words result new) (at : slice_get (words_left words) 0 ≡ Some word)
      (over : HasLineFault IsOver new given) where
    behind_last : HasLineFault language words given
    behind_last = fault_behind_word IsOver language word to from words result new takes at given over

    pub last_passed : {T : Type 0} (r : Result T Malformed) → IsErrAnd r (λ e. e ≡ given) → r ≡ Err fault
        → HasLineFault language words fault
    last_passed r told is = fault_passed language words r given fault told is behind_last

    pub last_converted : {T : Type 0} (r : Result T ParseError) → IsErrAnd r (λ e. e ≡ NotOfTheGrammar given)
        → r ≡ Err (NotOfTheGrammar fault) → HasLineFault language words fault
    last_converted r told is = fault_converted language words r given fault told is behind_last

  -- a word that is no last call, as the contract of `stop` states it
  module _ (other : List ℕ) (right : language (other ∷ []))
      (no_number : (n : ℕ) (rest : List (List ℕ)) → n < 2 ^ 64 → ¬ (language (decimal n ∷ rest)))
      (no_word : (word : List ℕ) → slice_get (words_left words) 0 ≡ Some word → (rest : List (List ℕ))
      → ¬ (language (word ∷ rest))) (stop : Result (Unit {0}) Malformed) (over : words_left words ≡ [] → IsOk stop)
      (faulty : (fault : Malformed) → stop ≡ Err fault → fault ≡ UnknownWord words.line words.taken)
      (was : stop ≡ Err given) where
    unknown_last : HasLineFault language words given
    unknown_last = word_unknown language words stop other [] right no_number no_word over faulty given was

    pub unknown_passed : {T : Type 0} (r : Result T Malformed) → IsErrAnd r (λ e. e ≡ given) → r ≡ Err fault
        → HasLineFault language words fault
    unknown_passed r told is = fault_passed language words r given fault told is unknown_last

    pub unknown_converted : {T : Type 0} (r : Result T ParseError) → IsErrAnd r (λ e. e ≡ NotOfTheGrammar given)
        → r ≡ Err (NotOfTheGrammar fault) → HasLineFault language words fault
    unknown_converted r told is = fault_converted language words r given fault told is unknown_last

-- words of a run, with a fault after them
pub run_passed : {T : Type 0} (language : List (List ℕ) → Type 0) (words : Words) (given fault : Malformed)
    (word : List ℕ) (to : (rest : List (List ℕ)) → language rest → language (word ∷ rest))
    (from : (rest : List (List ℕ)) → language (word ∷ rest) → language rest) (count : ℕ) (new : Words)
    → IsSameLine words new → words_left words ≡ replicate count word ++ words_left new
    → HasLineFault language new given → (r : Result T Malformed) → IsErrAnd r (λ e. e ≡ given) → r ≡ Err fault
    → HasLineFault language words fault
run_passed language words given fault word to from count new same run behind r told is =
    fault_passed language words r given fault told is
    (fault_behind language language (replicate count word) (replicate_to language word to count)
    (replicate_from language word from count) words new given same run behind)
