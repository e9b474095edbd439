-- The words of a future's script determine its calls, one after the other, and its last one.
use Rattle.std.proofs.Common.{◌≡◌, ◌≢◌, ℕ, List, [], ◌∷◌, ◌++◌, Option, Some, None, Result, Ok, Err, slice_get, refl, sym, ap, ◌∙◌, arith}
use Rattle.std.proofs.lemmas.Grind.{common_steps, flat_map-append}
use Rattle.std.proofs.lemmas.List.{append_assoc, append-nil}
use Rattle.oneshot_replay.specs.declared.AsyncCall.{AsyncCall}
use Rattle.oneshot_replay.specs.declared.AsyncCall.TheVariants.{Poll, TryRecv, HasMessage, IsClosed}
use Rattle.oneshot_replay.specs.declared.AsyncLast.{AsyncLast}
use Rattle.oneshot_replay.specs.declared.AsyncLast.TheVariants.{Drop, Stop}
use Rattle.oneshot_replay.specs.declared.AsyncScript.{AsyncScript}
use Rattle.oneshot_text.specs.Future.{first_word_of_future_call, words_of_future_call, words_of_future_calls, words_of_future_last, words_of_future, HasNumber, HasNumbers}

-- no last call begins with a call
future_last-no_call : (last : AsyncLast) (call : AsyncCall)
    → slice_get (words_of_future_last last) 0 ≢ Some (first_word_of_future_call call)
future_last-no_call Drop (Poll number) = λ is. grind (arith, common_steps)
future_last-no_call Drop TryRecv = λ is. grind (arith, common_steps)
future_last-no_call Drop HasMessage = λ is. grind (arith, common_steps)
future_last-no_call Drop IsClosed = λ is. grind (arith, common_steps)
future_last-no_call Stop call = λ is. grind (arith, common_steps)

-- the words of a call, and what comes after them
begins : (call : AsyncCall) (rest : List (List ℕ))
    → slice_get (words_of_future_call call ++ rest) 0 ≡ Some (first_word_of_future_call call)
begins (Poll number) rest = refl
begins TryRecv rest = refl
begins HasMessage rest = refl
begins IsClosed rest = refl

apart : (call : AsyncCall) (xs ys : List (List ℕ))
    → (words_of_future_call call ++ xs) ++ ys ≡ words_of_future_call call ++ (xs ++ ys)
apart (Poll number) xs ys = refl
apart TryRecv xs ys = refl
apart HasMessage xs ys = refl
apart IsClosed xs ys = refl

behind : (call : AsyncCall) (xs ys : List (List ℕ)) → words_of_future_call call ++ xs ≡ words_of_future_call call ++ ys
    → xs ≡ ys
behind (Poll number) xs ys is = cc
behind TryRecv xs ys is = cc
behind HasMessage xs ys is = cc
behind IsClosed xs ys is = cc

-- one more call
pub future_written_more : (all left next : List (List ℕ)) (taken : List AsyncCall) (call : AsyncCall)
    → all ≡ words_of_future_calls taken ++ left → left ≡ words_of_future_call call ++ next
    → all ≡ words_of_future_calls (taken ++ call ∷ []) ++ next
future_written_more all left next taken call all_is left_is =
    all_is
    ∙ ap (λ ws. words_of_future_calls taken ++ ws) (left_is ∙ sym (apart call [] next))
    ∙ sym (append_assoc (words_of_future_calls taken) (words_of_future_calls (call ∷ [])) next)
    ∙ ap (λ ws. ws ++ next) (sym (flat_map-append words_of_future_call taken (call ∷ [])))

-- what the words left ask for, if all words ask for this script: the calls after those that were taken,
-- and the last one
pub record Ahead (future : AsyncScript) (taken : List AsyncCall) (left : List (List ℕ)) : Type 0 where
  pub more : List AsyncCall
  pub calls : future.calls ≡ taken ++ more
  pub words : left ≡ words_of_future_calls more ++ words_of_future_last future.last
  pub numbers : HasNumbers more

abbrev pub Each : List (List ℕ) → List AsyncCall → List (List ℕ) → Type 0
Each all taken left =
    (future : AsyncScript) → HasNumbers future.calls → all ≡ words_of_future future → Ahead future taken left

-- what the contract states of the next call that is read
abbrev pub ReadsEach : {F : Type 0} → List (List ℕ) → Result (Option AsyncCall) F → Type 0
ReadsEach left read =
    (call : AsyncCall) (rest : List (List ℕ)) → HasNumber call → left ≡ words_of_future_call call ++ rest
    → read ≡ Ok (Some call)

abbrev pub HasNoCall : List (List ℕ) → Type 0
HasNoCall left = (call : AsyncCall) → slice_get left 0 ≢ Some (first_word_of_future_call call)

first_ahead : (call : AsyncCall) (more : List AsyncCall) (last left : List (List ℕ))
    → left ≡ words_of_future_calls (call ∷ more) ++ last
    → left ≡ words_of_future_call call ++ (words_of_future_calls more ++ last)
first_ahead call more last left is = is ∙ apart call (words_of_future_calls more) last

-- a call is taken
taken_from : {F : Type 0} (more : List AsyncCall) (future : AsyncScript) (taken : List AsyncCall)
    (left next : List (List ℕ)) (call : AsyncCall) (read : Result (Option AsyncCall) F) → future.calls ≡ taken ++ more
    → left ≡ words_of_future_calls more ++ words_of_future_last future.last → HasNumbers more → read ≡ Ok (Some call)
    → left ≡ words_of_future_call call ++ next → ReadsEach left read → Ahead future (taken ++ call ∷ []) next
taken_from [] future taken left next call read calls words numbers is at each =
    absurd (future_last-no_call future.last call (ap (λ ws. slice_get ws 0) (sym words ∙ at) ∙ begins call next))
taken_from {F} (first ∷ more) future taken left next call read calls words numbers is at each =
    let here : left ≡ words_of_future_call first ++ (words_of_future_calls more ++ words_of_future_last future.last) =
    first_ahead first more (words_of_future_last future.last) left words in
    let same : call ≡ first =
    cc (is, each first (words_of_future_calls more ++ words_of_future_last future.last) numbers.0 here) in
    record {
      more = more;
      calls = calls ∙ sym (append_assoc taken (first ∷ []) more) ∙ ap (λ c. (taken ++ c ∷ []) ++ more) (sym same);
      words = behind first next (words_of_future_calls more ++ words_of_future_last future.last)
          (ap (λ c. words_of_future_call c ++ next) (sym same) ∙ sym at ∙ here);
      numbers = numbers.1;
    }

pub takes_one : {F : Type 0} (all left next : List (List ℕ)) (taken : List AsyncCall) (call : AsyncCall)
    (read : Result (Option AsyncCall) F) → Each all taken left → read ≡ Ok (Some call)
    → left ≡ words_of_future_call call ++ next → ReadsEach left read → Each all (taken ++ call ∷ []) next
takes_one all left next taken call read ahead is at each = λ future numbers asks.
    let a = ahead future numbers asks in
    taken_from a.more future taken left next call read a.calls a.words a.numbers is at each

-- none is left to take
none_from : (more : List AsyncCall) (future : AsyncScript) (taken : List AsyncCall) (left : List (List ℕ))
    → future.calls ≡ taken ++ more → left ≡ words_of_future_calls more ++ words_of_future_last future.last
    → HasNoCall left → (taken ≡ future.calls) × (left ≡ words_of_future_last future.last)
none_from [] future taken left calls words none = (sym (calls ∙ append-nil taken), words)
none_from (first ∷ more) future taken left calls words none =
    absurd (none first (ap (λ ws. slice_get ws 0) (first_ahead first more (words_of_future_last future.last) left words)
    ∙ begins first (words_of_future_calls more ++ words_of_future_last future.last)))

pub takes_none : (all left : List (List ℕ)) (taken : List AsyncCall) → Each all taken left → HasNoCall left
    → (future : AsyncScript) → HasNumbers future.calls → all ≡ words_of_future future
    → (taken ≡ future.calls) × (left ≡ words_of_future_last future.last)
takes_none all left taken ahead none future numbers asks =
    let a = ahead future numbers asks in none_from a.more future taken left a.calls a.words none

-- and no fault is found
no_fault_in : {F : Type 0} (more : List AsyncCall) (future : AsyncScript) (left : List (List ℕ))
    (read : Result (Option AsyncCall) F) (fault : F)
    → left ≡ words_of_future_calls more ++ words_of_future_last future.last → HasNumbers more → read ≡ Err fault
    → ReadsEach left read → (HasNoCall left → read ≡ Ok None) → ⊥
no_fault_in [] future left read fault words numbers is each none =
    let ends : HasNoCall left =
    λ call at. future_last-no_call future.last call (ap (λ ws. slice_get ws 0) (sym words) ∙ at) in
    cc (is, none ends)
no_fault_in (first ∷ more) future left read fault words numbers is each none =
    cc (
      is,
      each first (words_of_future_calls more ++ words_of_future_last future.last) numbers.0
          (first_ahead first more (words_of_future_last future.last) left words),
    )

pub no_fault : {F : Type 0} (all left : List (List ℕ)) (taken : List AsyncCall) (read : Result (Option AsyncCall) F)
    (fault : F) → Each all taken left → read ≡ Err fault → ReadsEach left read → (HasNoCall left → read ≡ Ok None)
    → (future : AsyncScript) → HasNumbers future.calls → all ≡ words_of_future future → ⊥
no_fault all left taken read fault ahead is each none future numbers asks =
    let a = ahead future numbers asks in no_fault_in a.more future left read fault a.words a.numbers is each none
