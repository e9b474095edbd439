-- A run of known steps is computed: its positions are those to which the rows lead.
use Rattle.std.proofs.Common.{◌≡◌, List, [], ◌∷◌, Option, Some, None, refl}
use Rattle.oneshot_machine.specs.declared.machine.Reply.{Reply}
use Rattle.oneshot_machine.specs.declared.machine.Seen.{Seen}
use Rattle.oneshot_machine.specs.declared.machine.Step.{Step}
use Rattle.oneshot_machine.specs.Logs.{Event}
use Rattle.oneshot_machine.specs.Runs.{Run, last, more}
use Rattle.oneshot_machine.specs.TableRows.{Outcome, Goes, Answers}

abbrev LeadsOn : {P : Type 0} → Option (Outcome P) → (P → Type 0) → Type 0
LeadsOn (Some (Goes next)) Then = Then next
LeadsOn _ Then = ⊥

module _ {P T W : Type 0} (step : P → Step) (row : P → Seen → Option (Outcome P)) (reply : Reply) where
  -- each step is the position's, and its row leads on, the last one's to the reply
  abbrev pub Follows : P → List (Event T W) → Type 0
  Follows p [] = ⊥
  Follows p (x ∷ []) = (x.step ≡ step p) × (row p x.seen ≡ Some (Answers reply))
  Follows p (x ∷ y ∷ ys) = (x.step ≡ step p) × LeadsOn (row p x.seen) (λ next. Follows next (y ∷ ys))

  runs : (p : P) (xs : List (Event T W)) → Follows p xs → Run step row p xs reply
  runs p [] none = absurd none
  runs p (x ∷ []) (is, answers) = last x is answers
  runs p (x ∷ y ∷ ys) (is, on) = by (row p x.seen) refl on (λ next. runs next (y ∷ ys))
    where
      by : (o : Option (Outcome P)) → row p x.seen ≡ o → LeadsOn o (λ next. Follows next (y ∷ ys))
          → ((next : P) → Follows next (y ∷ ys) → Run step row next (y ∷ ys) reply) → Run step row p (x ∷ y ∷ ys) reply
      by (Some (Goes next)) leads on rest = more next x (y ∷ ys) is leads (rest next on)
      by (Some (Answers r)) leads on rest = absurd on
      by None leads on rest = absurd on

pub computed : {P T W : Type 0} {step : P → Step} {row : P → Seen → Option (Outcome P)} {reply : Reply} {p : P}
    {xs : List (Event T W)} → Follows step row reply p xs → Run step row p xs reply
computed {step} {row} {reply} {p} {xs} = runs step row reply p xs
