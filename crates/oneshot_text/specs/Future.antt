-- The words that ask for a future's script, after the word that makes the future.
use Rattle.std.specs.Prelude.{ℕ, ◌^◌, ◌<◌, List, [], ◌∷◌, ◌++◌, codes, decimal}
use Rattle.std.specs.List.{flat_map}
use Rattle.oneshot_replay.specs.declared.AsyncCall.{AsyncCall}
use Rattle.oneshot_replay.specs.declared.AsyncCall.TheVariants.{Poll, TryRecv, HasMessage, IsClosed}
use Rattle.oneshot_replay.specs.declared.AsyncLast.{AsyncLast}
use Rattle.oneshot_replay.specs.declared.AsyncLast.TheVariants.{Drop, Stop}
use Rattle.oneshot_replay.specs.declared.AsyncScript.{AsyncScript}

-- each call has a word, and a poll a number after it
abbrev pub first_word_of_future_call : AsyncCall → List ℕ
first_word_of_future_call (Poll number) = codes "poll"
first_word_of_future_call TryRecv = codes "try"
first_word_of_future_call HasMessage = codes "full"
first_word_of_future_call IsClosed = codes "closed"

abbrev pub number_behind : AsyncCall → List (List ℕ)
number_behind (Poll number) = decimal number ∷ []
number_behind TryRecv = []
number_behind HasMessage = []
number_behind IsClosed = []

abbrev pub words_of_future_call : AsyncCall → List (List ℕ)
words_of_future_call call = first_word_of_future_call call ∷ number_behind call

abbrev pub words_of_future_calls : List AsyncCall → List (List ℕ)
words_of_future_calls calls = flat_map words_of_future_call calls

-- a `Stop` is the line's end
abbrev pub words_of_future_last : AsyncLast → List (List ℕ)
words_of_future_last Drop = codes "drop" ∷ []
words_of_future_last Stop = []

abbrev pub words_of_future : AsyncScript → List (List ℕ)
words_of_future future = words_of_future_calls future.calls ++ words_of_future_last future.last

-- a number that the program can hold
abbrev pub HasNumber : AsyncCall → Type 0
HasNumber (Poll number) = number < 2 ^ 64
HasNumber TryRecv = Unit {0}
HasNumber HasMessage = Unit {0}
HasNumber IsClosed = Unit {0}

abbrev pub HasNumbers : List AsyncCall → Type 0
HasNumbers [] = Unit {0}
HasNumbers (call ∷ calls) = HasNumber call × HasNumbers calls
