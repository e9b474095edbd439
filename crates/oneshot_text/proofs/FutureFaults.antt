-- Which words of a future's script may follow each word.
use Rattle.std.proofs.Common.{◌≡◌, ◌≢◌, ℕ, ◌^◌, ◌<◌, List, [], ◌∷◌, ◌++◌, Some, slice_get, codes, decimal, refl, sym, ap, ◌∙◌, arith}
use Rattle.oneshot_replay.specs.declared.AsyncCall.{AsyncCall}
use Rattle.oneshot_replay.specs.declared.AsyncCall.TheVariants.{Poll, TryRecv, HasMessage, IsClosed}
use Rattle.oneshot_replay.specs.declared.AsyncLast.{AsyncLast}
use Rattle.oneshot_replay.specs.declared.AsyncLast.TheVariants.{Drop, Stop}
use Rattle.oneshot_text.specs.Future.{first_word_of_future_call, number_behind, words_of_future_calls, words_of_future_last, HasNumber, HasNumbers}
use Rattle.oneshot_text.specs.Grammar.{AsksForFuture, IsOver, NumberAnd}
use Rattle.oneshot_text.proofs.Decimal.{decimal-no_letter}
use Rattle.oneshot_text.proofs.LineFaults.{number_and_from}
use Rattle.oneshot_text.proofs.Unlike.{unlike}

-- what follows from the first word of a future's words
pub data FutureHead (word : List ℕ) (rest : List (List ℕ)) : Type 0 where
  poll : word ≡ codes "poll" → NumberAnd AsksForFuture rest → FutureHead word rest
  bare : (call : AsyncCall) → number_behind call ≡ [] → word ≡ first_word_of_future_call call → AsksForFuture rest
      → FutureHead word rest
  future_drop : word ≡ codes "drop" → rest ≡ [] → FutureHead word rest

-- the words after the first call
abbrev as_future : (calls : List AsyncCall) (last : AsyncLast) (rest : List (List ℕ)) → HasNumbers calls
    → rest ≡ words_of_future_calls calls ++ words_of_future_last last → AsksForFuture rest
as_future calls last rest fits is = record { script = record { calls = calls; last = last }; fits = fits; written = is }

future_head_of : (calls : List AsyncCall) (last : AsyncLast) (word : List ℕ) (rest : List (List ℕ)) → HasNumbers calls
    → word ∷ rest ≡ words_of_future_calls calls ++ words_of_future_last last → FutureHead word rest
future_head_of [] Drop word rest fits is = future_drop (cc) (cc)
future_head_of [] Stop word rest fits is = absurd (cc)
future_head_of (Poll n ∷ calls) last word rest fits is =
    poll (cc) (record {
      number = n;
      rest = words_of_future_calls calls ++ words_of_future_last last;
      small = fits.0;
      written = cc;
      right = as_future calls last _ fits.1 refl;
    })
future_head_of (TryRecv ∷ calls) last word rest fits is = bare TryRecv refl (cc) (as_future calls last rest fits.1 (cc))
future_head_of (HasMessage ∷ calls) last word rest fits is =
    bare HasMessage refl (cc) (as_future calls last rest fits.1 (cc))
future_head_of (IsClosed ∷ calls) last word rest fits is =
    bare IsClosed refl (cc) (as_future calls last rest fits.1 (cc))

future_head : (word : List ℕ) (rest : List (List ℕ)) → AsksForFuture (word ∷ rest) → FutureHead word rest
future_head word rest asks = future_head_of asks.script.calls asks.script.last word rest asks.fits asks.written

pub no_future : AsksForFuture []
no_future = record { script = record { calls = []; last = Stop }; fits = tt; written = refl }

-- the word of a future's call is no number, and that of a call without a number is neither `poll` nor `drop`
no_number_in_call : (n : ℕ) (call : AsyncCall) → n < 2 ^ 64 → decimal n ≡ first_word_of_future_call call → ⊥
no_number_in_call n (Poll number) small is = decimal-no_letter n (codes "poll") small (omega arith) is
no_number_in_call n TryRecv small is = decimal-no_letter n (codes "try") small (omega arith) is
no_number_in_call n HasMessage small is = decimal-no_letter n (codes "full") small (omega arith) is
no_number_in_call n IsClosed small is = decimal-no_letter n (codes "closed") small (omega arith) is

bare-no_poll : (call : AsyncCall) → number_behind call ≡ [] → codes "poll" ≡ first_word_of_future_call call → ⊥
bare-no_poll (Poll number) none is = absurd (cc none)
bare-no_poll TryRecv none is = unlike (codes "poll") (codes "try") refl refl is
bare-no_poll HasMessage none is = unlike (codes "poll") (codes "full") refl refl is
bare-no_poll IsClosed none is = unlike (codes "poll") (codes "closed") refl refl is

bare-no_drop : (call : AsyncCall) → codes "drop" ≡ first_word_of_future_call call → ⊥
bare-no_drop (Poll number) is = unlike (codes "drop") (codes "poll") refl refl is
bare-no_drop TryRecv is = unlike (codes "drop") (codes "try") refl refl is
bare-no_drop HasMessage is = unlike (codes "drop") (codes "full") refl refl is
bare-no_drop IsClosed is = unlike (codes "drop") (codes "closed") refl refl is

no_number_in_future : (n : ℕ) (xs : List (List ℕ)) → n < 2 ^ 64 → FutureHead (decimal n) xs → ⊥
no_number_in_future n xs small (poll is asks) = no_number_in_call n (Poll 0) small is
no_number_in_future n xs small (bare call none is asks) = no_number_in_call n call small is
no_number_in_future n xs small (future_drop is over) = decimal-no_letter n (codes "drop") small (omega arith) is

pub future-no_number : (n : ℕ) (xs : List (List ℕ)) → n < 2 ^ 64 → ¬ (AsksForFuture (decimal n ∷ xs))
future-no_number n xs small asks = no_number_in_future n xs small (future_head (decimal n) xs asks)

-- after `poll`
poll_from_head : (rest : List (List ℕ)) → FutureHead (codes "poll") rest → NumberAnd AsksForFuture rest
poll_from_head rest (poll is asks) = asks
poll_from_head rest (bare call none is asks) = absurd (bare-no_poll call none is)
poll_from_head rest (future_drop is over) = absurd (unlike (codes "poll") (codes "drop") refl refl is)

pub poll_to : (rest : List (List ℕ)) → NumberAnd AsksForFuture rest → AsksForFuture (codes "poll" ∷ rest)
poll_to rest asks = record {
  script = record { calls = Poll asks.number ∷ asks.right.script.calls; last = asks.right.script.last };
  fits = (asks.small, asks.right.fits);
  written = ap (λ ws. codes "poll" ∷ ws) (asks.written ∙ ap (λ ws. decimal asks.number ∷ ws) asks.right.written);
}

pub poll_from : (rest : List (List ℕ)) → AsksForFuture (codes "poll" ∷ rest) → NumberAnd AsksForFuture rest
poll_from rest asks = poll_from_head rest (future_head (codes "poll") rest asks)

-- after a call without a number
bare_from_head : (call : AsyncCall) (rest : List (List ℕ)) → number_behind call ≡ []
    → FutureHead (first_word_of_future_call call) rest → AsksForFuture rest
bare_from_head call rest none (poll is asks) = absurd (bare-no_poll call none (sym is))
bare_from_head call rest none (bare other without is asks) = asks
bare_from_head call rest none (future_drop is over) = absurd (bare-no_drop call (sym is))

bare_from : (call : AsyncCall) (rest : List (List ℕ)) → number_behind call ≡ []
    → AsksForFuture (first_word_of_future_call call ∷ rest) → AsksForFuture rest
bare_from call rest none asks = bare_from_head call rest none (future_head (first_word_of_future_call call) rest asks)

bare_to : (call : AsyncCall) (rest : List (List ℕ)) → number_behind call ≡ [] → HasNumber call → AsksForFuture rest
    → AsksForFuture (first_word_of_future_call call ∷ rest)
bare_to call rest none fits asks = record {
  script = record { calls = call ∷ asks.script.calls; last = asks.script.last };
  fits = (fits, asks.fits);
  written =
      ap (λ ws. first_word_of_future_call call ∷ ws) asks.written
      ∙ ap (λ ws. first_word_of_future_call call ∷ (ws ++ words_of_future_calls asks.script.calls)
      ++ words_of_future_last asks.script.last) (sym none);
}

-- after a run of calls
pub calls_to : (calls : List AsyncCall) → HasNumbers calls → (rest : List (List ℕ)) → AsksForFuture rest
    → AsksForFuture (words_of_future_calls calls ++ rest)
calls_to [] fits rest asks = asks
calls_to (Poll n ∷ calls) fits rest asks =
    poll_to (decimal n ∷ words_of_future_calls calls ++ rest)
    (record {
      number = n;
      rest = words_of_future_calls calls ++ rest;
      small = fits.0;
      written = refl;
      right = calls_to calls fits.1 rest asks;
    })
calls_to (TryRecv ∷ calls) fits rest asks =
    bare_to TryRecv (words_of_future_calls calls ++ rest) refl tt (calls_to calls fits.1 rest asks)
calls_to (HasMessage ∷ calls) fits rest asks =
    bare_to HasMessage (words_of_future_calls calls ++ rest) refl tt (calls_to calls fits.1 rest asks)
calls_to (IsClosed ∷ calls) fits rest asks =
    bare_to IsClosed (words_of_future_calls calls ++ rest) refl tt (calls_to calls fits.1 rest asks)

pub calls_from : (calls : List AsyncCall) (rest : List (List ℕ)) → AsksForFuture (words_of_future_calls calls ++ rest)
    → AsksForFuture rest
calls_from [] rest asks = asks
calls_from (Poll n ∷ calls) rest asks =
    calls_from calls rest (number_and_from AsksForFuture n (words_of_future_calls calls ++ rest)
    (poll_from (decimal n ∷ words_of_future_calls calls ++ rest) asks))
calls_from (TryRecv ∷ calls) rest asks =
    calls_from calls rest (bare_from TryRecv (words_of_future_calls calls ++ rest) refl asks)
calls_from (HasMessage ∷ calls) rest asks =
    calls_from calls rest (bare_from HasMessage (words_of_future_calls calls ++ rest) refl asks)
calls_from (IsClosed ∷ calls) rest asks =
    calls_from calls rest (bare_from IsClosed (words_of_future_calls calls ++ rest) refl asks)

pub numbers_more : (calls : List AsyncCall) (call : AsyncCall) → HasNumbers calls → HasNumber call
    → HasNumbers (calls ++ call ∷ [])
numbers_more [] call fits small = (small, tt)
numbers_more (first ∷ calls) call fits small = (fits.0, numbers_more calls call fits.1 small)

-- after `drop`
drop_from_head : (rest : List (List ℕ)) → FutureHead (codes "drop") rest → IsOver rest
drop_from_head rest (poll is asks) = absurd (unlike (codes "drop") (codes "poll") refl refl is)
drop_from_head rest (bare call none is asks) = absurd (bare-no_drop call is)
drop_from_head rest (future_drop is over) = over

pub future_drop_to : (rest : List (List ℕ)) → IsOver rest → AsksForFuture (codes "drop" ∷ rest)
future_drop_to rest over =
    record { script = record { calls = []; last = Drop }; fits = tt; written = ap (λ ws. codes "drop" ∷ ws) over }

pub future_drop_from : (rest : List (List ℕ)) → AsksForFuture (codes "drop" ∷ rest) → IsOver rest
future_drop_from rest asks = drop_from_head rest (future_head (codes "drop") rest asks)

-- a word that is not one of a future's
module _ (left : List (List ℕ))
    (no_call : (call : AsyncCall) → slice_get left 0 ≢ Some (first_word_of_future_call call))
    (no_drop : slice_get left 0 ≢ Some (codes "drop")) where
  unknown_in_future : (word : List ℕ) → slice_get left 0 ≡ Some word → (rest : List (List ℕ)) → FutureHead word rest → ⊥
  unknown_in_future word at rest (poll is asks) = no_call (Poll 0) (at ∙ ap (λ w. Some w) is)
  unknown_in_future word at rest (bare call none is asks) = no_call call (at ∙ ap (λ w. Some w) is)
  unknown_in_future word at rest (future_drop is over) = no_drop (at ∙ ap (λ w. Some w) is)

  pub future-no_word : (word : List ℕ) → slice_get left 0 ≡ Some word → (rest : List (List ℕ))
      → ¬ (AsksForFuture (word ∷ rest))
  future-no_word word at rest asks = unknown_in_future word at rest (future_head word rest asks)
