-- A run performs at most as many operations as its position allows, if each row pays for its step.
use Rattle.std.proofs.Common.{◌≡◌, ℕ, ◌+◌, ◌≤◌, Bool, true, false, List, [], ◌∷◌, Option, Some, None, refl, subst, arith}
use Rattle.std.proofs.Math.Dec.{leb}
use Rattle.std.proofs.lemmas.Bool.{leb-true}
use Rattle.std.specs.Prelude.{length}
use Rattle.std.specs.List.{list_all}
use Rattle.oneshot_machine.specs.declared.machine.Reply.{Reply}
use Rattle.oneshot_machine.specs.declared.machine.Seen.{Seen}
use Rattle.oneshot_machine.specs.declared.machine.Step.{Step}
use Rattle.oneshot_machine.specs.declared.states.Op.{Op}
use Rattle.oneshot_machine.specs.Logs.{Event, words}
use Rattle.oneshot_machine.specs.Noted.{Noted, op_of}
use Rattle.oneshot_machine.specs.Phases.{phase_from}
use Rattle.oneshot_machine.specs.Runs.{Run}
use Rattle.oneshot_machine.specs.TableRows.{Outcome, Goes, Answers, Rows, row_for}
use Rattle.oneshot_machine.proofs.RunsByRows.{row_passes, moved_by, Leads, by_rows}

-- what a step costs
abbrev cost : Option Op → ℕ
cost None = 0
cost (Some op) = 1

abbrev count_one : ℕ → Op → Seen → ℕ
count_one n op seen = n + 1

counted : (n : ℕ) (xs : List Noted) → phase_from count_one n xs ≡ n + length xs
counted n [] = omega arith
counted n (x ∷ xs) = let e = counted (n + 1) xs in omega (arith, e)

module _ {P : Type 0} (step : P → Step) (rows : P → Rows P) (most : P → Option ℕ) where
  -- what the row leaves of this limit pays for the rest of a run
  abbrev leaves_enough : ℕ → ℕ → Option ℕ → Bool
  leaves_enough limit spent None = false
  leaves_enough limit spent (Some rest) = leb (spent + rest) limit

  abbrev row_pays : P → ℕ → Seen × Outcome P → Bool
  row_pays p limit (seen, Goes next) = leaves_enough limit (cost (op_of (step p))) (most next)
  row_pays p limit (seen, Answers reply) = leb (cost (op_of (step p))) limit

  abbrev pays_by : P → Option ℕ → Bool
  pays_by p None = true
  pays_by p (Some limit) = list_all (row_pays p limit) (rows p)

  abbrev pub pays : P → Bool
  pays p = pays_by p (most p)

  -- a row that goes on leaves a limit for the rest
  rest_of : (limit spent : ℕ) (left : Option ℕ) → leaves_enough limit spent left ≡ true
      → (rest : ℕ) × (left ≡ Some rest) × (spent + rest ≤ limit)
  rest_of limit spent None enough = absurd (cc)
  rest_of limit spent (Some rest) enough = (rest, refl, leb-true (spent + rest) limit enough)

  module _ (total : ℕ) where
    -- so many operations are made, and what is left of the total is enough at this position
    abbrev Affords : P → ℕ → Type 0
    Affords p made = (left : ℕ) × (most p ≡ Some left) × (made + left ≤ total)

    abbrev Afforded : Reply → ℕ → Type 0
    Afforded reply made = made ≤ total

    after_step : (op : Option Op) (seen : Seen) (made : ℕ)
        → moved_by count_one op seen made ≡ made + cost op
    after_step None seen made = omega arith
    after_step (Some op) seen made = refl

    paid : (all_pay : (p : P) → pays p ≡ true) (p : P) (made : ℕ) (seen : Seen) (o : Outcome P) → Affords p made
        → row_for seen (rows p) ≡ Some o
        → Leads Affords Afforded o (moved_by count_one (op_of (step p)) seen made)
    paid all_pay p made seen (Goes next) affords row =
        let pays =
        row_passes (row_pays p affords.0) (rows p) seen (Goes next)
        (subst (λ most. pays_by p most ≡ true) affords.1 (all_pay p)) row in
        let rest = rest_of affords.0 (cost (op_of (step p))) (most next) pays in
        let spent = after_step (op_of (step p)) seen made in
        (rest.0, rest.1, omega (arith, spent, rest.2, affords.2))
    paid all_pay p made seen (Answers r) affords row =
        let pays =
        row_passes (row_pays p affords.0) (rows p) seen (Answers r)
        (subst (λ most. pays_by p most ≡ true) affords.1 (all_pay p)) row in
        let enough = leb-true (cost (op_of (step p))) affords.0 pays in
        let spent = after_step (op_of (step p)) seen made in
        omega (arith, spent, enough, affords.2)

  pub at_most : ((p : P) → pays p ≡ true) → {T W : Type 0} (p : P) (xs : List (Event T W)) (r : Reply) (limit : ℕ)
      → most p ≡ Some limit → Run step (λ p seen. row_for seen (rows p)) p xs r → length (words xs) ≤ limit
  at_most all_pay p xs r limit is run =
      let within = by_rows (Affords limit) (Afforded limit) step rows count_one (paid limit all_pay) p 0 xs r
      (limit, is, omega arith) run in
      let count = counted 0 (words xs) in
      omega (arith, within, count)
