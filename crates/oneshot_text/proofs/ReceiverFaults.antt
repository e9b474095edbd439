-- Which words of a receiver's line may follow each word.
use Rattle.std.proofs.Common.{◌≡◌, ◌≢◌, ℕ, ◌^◌, ◌<◌, true, false, List, [], ◌∷◌, ◌++◌, Some, slice_get, map, get_or, codes, decimal, refl, sym, ap, ◌∙◌, arith}
use Rattle.oneshot_replay.specs.declared.AsyncLast.TheVariants as A
use Rattle.oneshot_replay.specs.declared.AsyncScript.{AsyncScript}
use Rattle.oneshot_replay.specs.declared.ReceiverCall.{ReceiverCall}
use Rattle.oneshot_replay.specs.declared.ReceiverCall.TheVariants.{TryRecv, RecvRef, RecvDeadline, RecvTimeout, HasMessage, IsClosed}
use Rattle.oneshot_replay.specs.declared.ReceiverLast.{ReceiverLast}
use Rattle.oneshot_replay.specs.declared.ReceiverLast.TheVariants.{Recv, Drop, IntoFuture, Stop}
use Rattle.oneshot_text.specs.Grammar.{AsksForReceiver, AsksForFuture, IsOver}
use Rattle.oneshot_text.specs.Receiver.{word_of_call, words_of_receiver_last, IsPollable}
use Rattle.oneshot_text.proofs.Decimal.{decimal-no_letter}
use Rattle.oneshot_text.proofs.ReceiverWords.{receiver_last-no_call}
use Rattle.oneshot_text.proofs.Unlike.{unlike}

-- what follows from the first word of a receiver's words
pub data ReceiverHead (word : List ℕ) (rest : List (List ℕ)) : Type 0 where
  call : (c : ReceiverCall) → word ≡ word_of_call c → AsksForReceiver rest → ReceiverHead word rest
  recv : word ≡ codes "recv" → rest ≡ [] → ReceiverHead word rest
  drop : word ≡ codes "drop" → rest ≡ [] → ReceiverHead word rest
  future : word ≡ codes "future" → AsksForFuture rest → ReceiverHead word rest

receiver_head_of : (calls : List ReceiverCall) (last : ReceiverLast) (word : List ℕ) (rest : List (List ℕ))
    → IsPollable last → word ∷ rest ≡ map word_of_call calls ++ words_of_receiver_last last → ReceiverHead word rest
receiver_head_of [] Recv word rest fits is = recv (cc) (cc)
receiver_head_of [] Drop word rest fits is = drop (cc) (cc)
receiver_head_of [] (IntoFuture script) word rest fits is =
    future (cc) (record { script = script; fits = fits; written = cc })
receiver_head_of [] Stop word rest fits is = absurd (cc)
receiver_head_of (c ∷ calls) last word rest fits is =
    call c (cc) (record { script = record { calls = calls; last = last }; fits = fits; written = cc })

receiver_head : (word : List ℕ) (rest : List (List ℕ)) → AsksForReceiver (word ∷ rest) → ReceiverHead word rest
receiver_head word rest asks = receiver_head_of asks.script.calls asks.script.last word rest asks.fits asks.written

word_of_call-letter : (c : ReceiverCall) → 57 < get_or (word_of_call c) 0 0
word_of_call-letter TryRecv = omega arith
word_of_call-letter RecvRef = omega arith
word_of_call-letter RecvDeadline = omega arith
word_of_call-letter (RecvTimeout true) = omega arith
word_of_call-letter (RecvTimeout false) = omega arith
word_of_call-letter HasMessage = omega arith
word_of_call-letter IsClosed = omega arith

no_number_in_receiver : (n : ℕ) (xs : List (List ℕ)) → n < 2 ^ 64 → ReceiverHead (decimal n) xs → ⊥
no_number_in_receiver n xs small (call c is asks) =
    decimal-no_letter n (word_of_call c) small (word_of_call-letter c) is
no_number_in_receiver n xs small (recv is over) = decimal-no_letter n (codes "recv") small (omega arith) is
no_number_in_receiver n xs small (drop is over) = decimal-no_letter n (codes "drop") small (omega arith) is
no_number_in_receiver n xs small (future is asks) = decimal-no_letter n (codes "future") small (omega arith) is

pub receiver-no_number : (n : ℕ) (xs : List (List ℕ)) → n < 2 ^ 64 → ¬ (AsksForReceiver (decimal n ∷ xs))
receiver-no_number n xs small asks = no_number_in_receiver n xs small (receiver_head (decimal n) xs asks)

-- no call has the word of a last one
no_recv : (c : ReceiverCall) → word_of_call c ≢ codes "recv"
no_recv c is = receiver_last-no_call Recv c (ap (λ w. Some w) (sym is))

no_drop : (c : ReceiverCall) → word_of_call c ≢ codes "drop"
no_drop c is = receiver_last-no_call Drop c (ap (λ w. Some w) (sym is))

nothing : AsyncScript
nothing = record { calls = []; last = A.Stop }

no_into_future : (c : ReceiverCall) → word_of_call c ≢ codes "future"
no_into_future c is = receiver_last-no_call (IntoFuture nothing) c (ap (λ w. Some w) (sym is))

-- after a call
call_from_head : (c : ReceiverCall) (rest : List (List ℕ)) → ReceiverHead (word_of_call c) rest → AsksForReceiver rest
call_from_head c rest (call d is asks) = asks
call_from_head c rest (recv is over) = absurd (no_recv c is)
call_from_head c rest (drop is over) = absurd (no_drop c is)
call_from_head c rest (future is asks) = absurd (no_into_future c is)

pub call_to : (c : ReceiverCall) (rest : List (List ℕ)) → AsksForReceiver rest → AsksForReceiver (word_of_call c ∷ rest)
call_to c rest asks =
    record {
      script = record { calls = c ∷ asks.script.calls; last = asks.script.last };
      fits = asks.fits;
      written = ap
          (λ ws. word_of_call c ∷ ws) asks.written;
    }

pub call_from : (c : ReceiverCall) (rest : List (List ℕ)) → AsksForReceiver (word_of_call c ∷ rest)
    → AsksForReceiver rest
call_from c rest asks = call_from_head c rest (receiver_head (word_of_call c) rest asks)

-- after `recv` and after `drop`
last_from_head : (word : List ℕ) (rest : List (List ℕ)) → ((c : ReceiverCall) → word_of_call c ≢ word)
    → word ≢ codes "future" → ReceiverHead word rest → IsOver rest
last_from_head word rest no_call no_into_future (call c is asks) = absurd (no_call c (sym is))
last_from_head word rest no_call no_into_future (recv is over) = over
last_from_head word rest no_call no_into_future (drop is over) = over
last_from_head word rest no_call no_into_future (future is asks) = absurd (no_into_future is)

pub recv_to : (rest : List (List ℕ)) → IsOver rest → AsksForReceiver (codes "recv" ∷ rest)
recv_to rest over =
    record { script = record { calls = []; last = Recv }; fits = tt; written = ap (λ ws. codes "recv" ∷ ws) over }

pub recv_from : (rest : List (List ℕ)) → AsksForReceiver (codes "recv" ∷ rest) → IsOver rest
recv_from rest asks =
    last_from_head (codes "recv") rest no_recv (unlike _ _ refl refl) (receiver_head (codes "recv") rest asks)

pub receiver_drop_to : (rest : List (List ℕ)) → IsOver rest → AsksForReceiver (codes "drop" ∷ rest)
receiver_drop_to rest over =
    record { script = record { calls = []; last = Drop }; fits = tt; written = ap (λ ws. codes "drop" ∷ ws) over }

pub receiver_drop_from : (rest : List (List ℕ)) → AsksForReceiver (codes "drop" ∷ rest) → IsOver rest
receiver_drop_from rest asks =
    last_from_head (codes "drop") rest no_drop (unlike _ _ refl refl) (receiver_head (codes "drop") rest asks)

-- after `future`
future_from_head : (rest : List (List ℕ)) → ReceiverHead (codes "future") rest → AsksForFuture rest
future_from_head rest (call c is asks) = absurd (no_into_future c (sym is))
future_from_head rest (recv is over) = absurd (unlike (codes "future") (codes "recv") refl refl is)
future_from_head rest (drop is over) = absurd (unlike (codes "future") (codes "drop") refl refl is)
future_from_head rest (future is asks) = asks

pub future_to : (rest : List (List ℕ)) → AsksForFuture rest → AsksForReceiver (codes "future" ∷ rest)
future_to rest asks =
    record {
      script = record { calls = []; last = IntoFuture asks.script };
      fits = asks.fits;
      written = ap
          (λ ws. codes "future" ∷ ws) asks.written;
    }

pub future_from : (rest : List (List ℕ)) → AsksForReceiver (codes "future" ∷ rest) → AsksForFuture rest
future_from rest asks = future_from_head rest (receiver_head (codes "future") rest asks)

-- a word that is not one of a receiver's
module _ (left : List (List ℕ)) (no_call : (c : ReceiverCall) → slice_get left 0 ≢ Some (word_of_call c))
    (none_is_future : slice_get left 0 ≢ Some (codes "future")) (none_is_recv : slice_get left 0 ≢ Some (codes "recv"))
    (none_is_drop : slice_get left 0 ≢ Some (codes "drop")) where
  unknown_in_receiver : (word : List ℕ) → slice_get left 0 ≡ Some word → (rest : List (List ℕ)) → ReceiverHead word rest
      → ⊥
  unknown_in_receiver word at rest (call c is asks) = no_call c (at ∙ ap (λ w. Some w) is)
  unknown_in_receiver word at rest (recv is over) = none_is_recv (at ∙ ap (λ w. Some w) is)
  unknown_in_receiver word at rest (drop is over) = none_is_drop (at ∙ ap (λ w. Some w) is)
  unknown_in_receiver word at rest (future is asks) = none_is_future (at ∙ ap (λ w. Some w) is)

  pub receiver-no_word : (word : List ℕ) → slice_get left 0 ≡ Some word → (rest : List (List ℕ))
      → ¬ (AsksForReceiver (word ∷ rest))
  receiver-no_word word at rest asks = unknown_in_receiver word at rest (receiver_head word rest asks)
