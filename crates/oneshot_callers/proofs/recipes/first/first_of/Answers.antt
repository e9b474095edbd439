-- Proofs of the goals that `first_of` leaves: `select` gives back the other future, which gives no more than before.
use Rattle.std.proofs.Common.{◌≡◌, ◌<◌, IfOk, ℕ, Result, Ok, Err, Option, Some, subst}
use Rattle.std.specs.Prelude.{IsSomeAnd}
use Rattle.oneshot_channel.specs.declared.RecvError.{RecvError}
use Rattle.futures.specs.Adapters.{Selects}
use Rattle.futures.specs.declared.future.Future.{Ghosts as FutureOf}
use Rattle.futures.specs.declared.future.either.Either.{Either}
use Rattle.oneshot_callers.proofs.recipes.first.first_of.Goals as goal

-- a future that may be polled in these states, and what it gives
abbrev future : {A X : Type 0} → (A → Type 0) → (A → X → Type 0) → FutureOf A X
future can_poll gives = record { can_poll = can_poll; needs = λ _ _. ⊥; gives = gives }

module _ {A B X Y : Type 0} (polls : A → Type 0) (left : A → X → Type 0) (polls_too : B → Type 0)
    (right : B → Y → Type 0) where
  -- what `select` states of its output
  abbrev Selected : Option (A × B) → Either (X × B) (Y × A) → Type 0
  Selected inner out = IsSomeAnd inner (λ both. Selects (future polls left) (future polls_too right) both out)

  -- the same, of both futures and of the output by their names
  selected : {inner : Option (A × B)} {both : A × B} {out came : Either (X × B) (Y × A)}
      → inner ≡ Some both → out ≡ came → Selected inner out → Selected (Some both) came
  selected {both = both} {out = out} is came states =
      subst (Selected (Some both)) came (subst (λ inner. Selected inner out) is states)

-- if a future gives no more than another, a `try_recv` takes no more
taken_of_given : {E F : Type 0} {P Q : ℕ → Type 0} (taken : Result ℕ E)
    → ((given : Result ℕ F) → IfOk given P → IfOk given Q) → IfOk taken P → IfOk taken Q
taken_of_given (Ok index) gives is = gives (Ok index) is
taken_of_given (Err e) gives is = is

pub returns-in-Left-clause-other : goal.returns-in-Left-clause-other
returns-in-Left-clause-other g c =
    let stays = (selected _ _ _ _ c.select.ensures c.in-Left.is c.in_ok-first.ensures).1.1 in
    taken_of_given {F = RecvError} {P = λ index. index < c.in-Left.other.channel.about.0} c.try_recv.result
    (λ given is. subst (λ about. IfOk given (λ index. index < about.0)) c.requires (stays given is))
    c.try_recv.ensures.promise

pub returns-in-Right-clause-other : goal.returns-in-Right-clause-other
returns-in-Right-clause-other g c =
    let stays = (selected _ _ _ _ c.select.ensures c.in-Right.is c.in_ok-first.ensures).1.1 in
    taken_of_given {F = RecvError} {P = λ index. index < c.in-Right.other.channel.about.0} c.try_recv-in-Right.result
    stays c.try_recv-in-Right.ensures.promise
