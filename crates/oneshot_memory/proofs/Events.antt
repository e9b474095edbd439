-- How the log of a ground in memory grows by one event.
use Rattle.std.proofs.Common.{◌≡◌, ℕ, List, [], ◌∷◌, ◌++◌, map, refl, ap, ◌∙◌, subst}
use Rattle.std.proofs.lemmas.List.{map-append}
use Rattle.oneshot_machine.specs.declared.machine.Step.{Step}
use Rattle.oneshot_machine.specs.declared.states.Op.{Op}
use Rattle.oneshot_machine.specs.Logs as logs
use Rattle.oneshot_machine.specs.Logs.{Grows, words, handed, worded}
use Rattle.oneshot_machine.proofs.GrownLogs.{words_stay}
use Rattle.oneshot_memory.specs.declared.Event.{Event}
use Rattle.oneshot_memory.specs.Events.{logged_event, logged}

module _ {T W : Type 0} where
  logged_grows : (xs ys : List (Event T W)) (e : Event T W) → ys ≡ xs ++ e ∷ []
      → Grows (logged xs) (logged ys) (logged_event e ∷ [])
  logged_grows xs ys e is =
      record { whole = refl; channel = refl; list = ap (map logged_event) is ∙ map-append logged_event xs (e ∷ []) }

  -- by one that is no operation on the word
  pub words_same : (xs ys : List (Event T W)) (e : Event T W) → ys ≡ xs ++ e ∷ [] → words (logged_event e ∷ []) ≡ []
      → words (logged ys).list ≡ words (logged xs).list
  words_same xs ys e is none = words_stay (logged_event e ∷ []) none (logged_grows xs ys e is)

  -- by one that moves a waker
  pub no_word : (e : Event T W) (s : Step) (k : W) → logged_event e ≡ handed s k → words (handed {T = T} s k ∷ []) ≡ []
      → words (logged_event e ∷ []) ≡ []
  no_word e s k is none = ap (λ x. words (x ∷ [])) is ∙ none

  -- by any event
  pub step_grows : (xs ys : List (Event T W)) (e : Event T W) (x : logs.Event T W) {before : logs.Log T W}
      → ys ≡ xs ++ e ∷ [] → logged_event e ≡ x → logged xs ≡ before → Grows before (logged ys) (x ∷ [])
  step_grows xs ys e x is that was =
      subst (λ l. Grows l (logged ys) (x ∷ [])) was
      (subst (λ x. Grows (logged xs) (logged ys) (x ∷ [])) that (logged_grows xs ys e is))

  -- by an operation on the word
  pub word_grows : (xs ys : List (Event T W)) (e : Event T W) (op : Op) (word : ℕ) → ys ≡ xs ++ e ∷ []
      → logged_event e ≡ worded op word → Grows (logged xs) (logged ys) (worded op word ∷ [])
  word_grows xs ys e op word is that = step_grows xs ys e (worded op word) is that refl
