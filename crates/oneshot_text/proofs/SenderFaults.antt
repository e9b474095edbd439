-- Which words of a sender's line may follow each word.
use Rattle.std.proofs.Common.{◌≡◌, ◌≢◌, ℕ, zero, suc, ◌^◌, ◌<◌, List, [], ◌∷◌, ◌++◌, Some, slice_get, replicate, codes, decimal, refl, ap, ◌∙◌, arith}
use Rattle.oneshot_replay.specs.declared.SenderLast.{SenderLast}
use Rattle.oneshot_replay.specs.declared.SenderLast.TheVariants as L
use Rattle.oneshot_replay.specs.declared.ErrorLast.{ErrorLast}
use Rattle.oneshot_replay.specs.declared.ErrorLast.TheVariants as E
use Rattle.oneshot_text.specs.Grammar.{AsksForSender, AsksForError, IsOver, NumberAnd}
use Rattle.oneshot_text.specs.Sender.{words_of_error_last, words_of_error, words_of_sender_last, IsSendable}
use Rattle.oneshot_text.proofs.FirstWords.{FirstWord, is_first, is_second, is_third, is_no_number, behind_first, behind_second, behind_third, is_none}
use Rattle.oneshot_text.proofs.Unlike.{unlike}

-- what follows from the first word of an error's words
abbrev ErrorHead : List ℕ → List (List ℕ) → Type 0
ErrorHead = FirstWord (codes "inner") (codes "into") (codes "drop") AsksForError IsOver IsOver

error_head_of : (looks : ℕ) (last : ErrorLast) (word : List ℕ) (rest : List (List ℕ))
    → word ∷ rest ≡ replicate looks (codes "inner") ++ words_of_error_last last → ErrorHead word rest
error_head_of zero E.IntoInner word rest is = is_second (cc) (cc)
error_head_of zero E.Drop word rest is = is_third (cc) (cc)
error_head_of zero E.Stop word rest is = absurd (cc)
error_head_of (suc looks) last word rest is =
    is_first (cc) (record { script = record { looks = looks; last = last }; written = cc })

error_head : (word : List ℕ) (rest : List (List ℕ)) → AsksForError (word ∷ rest) → ErrorHead word rest
error_head word rest asks = error_head_of asks.script.looks asks.script.last word rest asks.written

pub error-no_number : (n : ℕ) (xs : List (List ℕ)) → n < 2 ^ 64 → ¬ (AsksForError (decimal n ∷ xs))
error-no_number n xs small asks =
    is_no_number n xs small (omega arith) (omega arith) (omega arith) (error_head (decimal n) xs asks)

-- after `inner`
pub inner_to : (rest : List (List ℕ)) → AsksForError rest → AsksForError (codes "inner" ∷ rest)
inner_to rest asks =
    record {
      script = record { looks = suc asks.script.looks; last = asks.script.last };
      written = ap
          (λ ws. codes "inner" ∷ ws) asks.written;
    }

pub inner_from : (rest : List (List ℕ)) → AsksForError (codes "inner" ∷ rest) → AsksForError rest
inner_from rest asks =
    behind_first (unlike _ _ refl refl) (unlike _ _ refl refl) (error_head (codes "inner") rest asks)

-- after the last call
pub into_to : (rest : List (List ℕ)) → IsOver rest → AsksForError (codes "into" ∷ rest)
into_to rest over =
    record { script = record { looks = 0; last = E.IntoInner }; written = ap (λ ws. codes "into" ∷ ws) over }

pub into_from : (rest : List (List ℕ)) → AsksForError (codes "into" ∷ rest) → IsOver rest
into_from rest asks =
    behind_second (unlike _ _ refl refl) (unlike _ _ refl refl) (error_head (codes "into") rest asks)

pub error_drop_to : (rest : List (List ℕ)) → IsOver rest → AsksForError (codes "drop" ∷ rest)
error_drop_to rest over =
    record { script = record { looks = 0; last = E.Drop }; written = ap (λ ws. codes "drop" ∷ ws) over }

pub error_drop_from : (rest : List (List ℕ)) → AsksForError (codes "drop" ∷ rest) → IsOver rest
error_drop_from rest asks =
    behind_third (unlike _ _ refl refl) (unlike _ _ refl refl) (error_head (codes "drop") rest asks)

-- a word that is not one of an error's
pub error-no_word : (left : List (List ℕ)) → slice_get left 0 ≢ Some (codes "inner")
    → slice_get left 0 ≢ Some (codes "into") → slice_get left 0 ≢ Some (codes "drop") → (word : List ℕ)
    → slice_get left 0 ≡ Some word → (rest : List (List ℕ)) → ¬ (AsksForError (word ∷ rest))
error-no_word left no_inner no_into no_drop word at rest asks =
    is_none left no_inner no_into no_drop word at (error_head word rest asks)

-- what follows from the first word of a sender's words
abbrev SenderHead : List ℕ → List (List ℕ) → Type 0
SenderHead = FirstWord (codes "closed") (codes "send") (codes "drop") AsksForSender (NumberAnd AsksForError) IsOver

sender_head_of : (looks : ℕ) (last : SenderLast ℕ) (word : List ℕ) (rest : List (List ℕ)) → IsSendable last
    → word ∷ rest ≡ replicate looks (codes "closed") ++ words_of_sender_last last → SenderHead word rest
sender_head_of zero (L.Send message error) word rest fits is =
    is_second (cc)
    (record {
      number = message;
      rest = words_of_error error;
      small = fits;
      written = cc;
      right =
          record { script = error; written = refl };
    })
sender_head_of zero L.Drop word rest fits is = is_third (cc) (cc)
sender_head_of zero L.Stop word rest fits is = absurd (cc)
sender_head_of (suc looks) last word rest fits is =
    is_first (cc) (record { script = record { looks = looks; last = last }; fits = fits; written = cc })

sender_head : (word : List ℕ) (rest : List (List ℕ)) → AsksForSender (word ∷ rest) → SenderHead word rest
sender_head word rest asks = sender_head_of asks.script.looks asks.script.last word rest asks.fits asks.written

pub sender-no_number : (n : ℕ) (xs : List (List ℕ)) → n < 2 ^ 64 → ¬ (AsksForSender (decimal n ∷ xs))
sender-no_number n xs small asks =
    is_no_number n xs small (omega arith) (omega arith) (omega arith) (sender_head (decimal n) xs asks)

-- after `closed`
pub closed_to : (rest : List (List ℕ)) → AsksForSender rest → AsksForSender (codes "closed" ∷ rest)
closed_to rest asks =
    record {
      script = record { looks = suc asks.script.looks; last = asks.script.last };
      fits = asks.fits;
      written = ap
          (λ ws. codes "closed" ∷ ws) asks.written;
    }

pub closed_from : (rest : List (List ℕ)) → AsksForSender (codes "closed" ∷ rest) → AsksForSender rest
closed_from rest asks =
    behind_first (unlike _ _ refl refl) (unlike _ _ refl refl) (sender_head (codes "closed") rest asks)

-- after `send`
pub send_to : (rest : List (List ℕ)) → NumberAnd AsksForError rest → AsksForSender (codes "send" ∷ rest)
send_to rest asks = record {
  script = record { looks = 0; last = L.Send asks.number asks.right.script };
  fits = asks.small;
  written = ap (λ ws. codes "send" ∷ ws) (asks.written ∙ ap (λ ws. decimal asks.number ∷ ws) asks.right.written);
}

pub send_from : (rest : List (List ℕ)) → AsksForSender (codes "send" ∷ rest) → NumberAnd AsksForError rest
send_from rest asks =
    behind_second (unlike _ _ refl refl) (unlike _ _ refl refl) (sender_head (codes "send") rest asks)

-- after `drop`
pub drop_to : (rest : List (List ℕ)) → IsOver rest → AsksForSender (codes "drop" ∷ rest)
drop_to rest over =
    record { script = record { looks = 0; last = L.Drop }; fits = tt; written = ap (λ ws. codes "drop" ∷ ws) over }

pub drop_from : (rest : List (List ℕ)) → AsksForSender (codes "drop" ∷ rest) → IsOver rest
drop_from rest asks =
    behind_third (unlike _ _ refl refl) (unlike _ _ refl refl) (sender_head (codes "drop") rest asks)

-- a word that is not one of a sender's
pub sender-no_word : (left : List (List ℕ)) → slice_get left 0 ≢ Some (codes "closed")
    → slice_get left 0 ≢ Some (codes "send") → slice_get left 0 ≢ Some (codes "drop") → (word : List ℕ)
    → slice_get left 0 ≡ Some word → (rest : List (List ℕ)) → ¬ (AsksForSender (word ∷ rest))
sender-no_word left no_closed no_send no_drop word at rest asks =
    is_none left no_closed no_send no_drop word at (sender_head word rest asks)

-- the parts of a line that may be empty
pub no_error : AsksForError []
no_error = record { script = record { looks = 0; last = E.Stop }; written = refl }
