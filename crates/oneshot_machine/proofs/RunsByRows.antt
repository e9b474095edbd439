-- What each row of a table carries on, a run carries to its reply: one induction for every law of runs. The same of an
-- operation's rows in the phases' table.
use Rattle.std.proofs.Common.{◌≡◌, Bool, true, false, List, [], ◌∷◌, Option, Some, None, refl, sym, ap, ◌∙◌, subst, true≢false}
use Rattle.std.proofs.lemmas.Bool.{and_parts, eqb-true}
use Rattle.std.specs.Prelude.{if◌then◌else◌}
use Rattle.std.specs.List.{list_all, cons_option}
use Rattle.std.specs.Option.{option_map}
use Rattle.oneshot_machine.specs.declared.machine.Reply.{Reply}
use Rattle.oneshot_machine.specs.declared.machine.Seen.{Seen}
use Rattle.oneshot_machine.specs.declared.machine.Seen.TheVariants.{Done, Word, Over, Refused, Token}
use Rattle.oneshot_machine.specs.declared.machine.Step.{Step}
use Rattle.oneshot_machine.specs.declared.states.Op.{Op}
use Rattle.oneshot_machine.specs.Logs.{Event, words}
use Rattle.oneshot_machine.specs.Noted.{Noted, op_of}
use Rattle.oneshot_machine.specs.Phases.{Row, is_row_for, next_by, phase_from}
use Rattle.oneshot_machine.specs.Runs.{Run, last, more}
use Rattle.oneshot_machine.specs.TableRows.{Outcome, Goes, Answers, Rows, row_for, is_same_seen}
use Rattle.oneshot_machine.proofs.EachPhase.{if_so}

pub seens_are_same : (a b : Seen) → is_same_seen a b ≡ true → a ≡ b
seens_are_same Done Done e = refl
seens_are_same (Word a) (Word b) e = ap Word (eqb-true a b e)
seens_are_same (Over true) (Over true) e = refl
seens_are_same (Over false) (Over false) e = refl
seens_are_same (Refused true) (Refused true) e = refl
seens_are_same (Refused false) (Refused false) e = refl
seens_are_same (Token true) (Token true) e = refl
seens_are_same (Token false) (Token false) e = refl
seens_are_same _ _ e = absurd (true≢false (sym e))

module _ {P : Type 0} where
  -- a test that all rows pass, the row for what was seen passes
  pub row_passes : (test : Seen × Outcome P → Bool) (rows : Rows P) (seen : Seen) (o : Outcome P)
      → list_all test rows ≡ true → row_for seen rows ≡ Some o → test (seen, o) ≡ true
  row_passes test [] seen o all is = absurd (cc)
  row_passes test (row ∷ rows) seen o all is =
      let parts = and_parts (test row) (list_all test rows) all in
      by (is_same_seen row.0 seen) refl parts.0 is (row_passes test rows seen o parts.1)
    where
      by : (b : Bool) → is_same_seen row.0 seen ≡ b → test row ≡ true
          → (if b then Some row.1 else row_for seen rows) ≡ Some o
          → (row_for seen rows ≡ Some o → test (seen, o) ≡ true) → test (seen, o) ≡ true
      by true same passes found rest =
          let leads : row.1 ≡ o = cc in
          subst (λ (z : Seen × Outcome P). test z ≡ true) (λ i. (seens_are_same row.0 seen same i, leads i)) passes
      by false same passes found rest = rest found

-- `S` is what is kept count of, and `next` its value after an operation.
module _ {S : Type 0} (next : S → Op → Seen → S) where
  -- its value after a step
  abbrev pub moved_by : Option Op → Seen → S → S
  moved_by None seen s = s
  moved_by (Some op) seen s = next s op seen

  by_op : (op : Option Op) (seen : Seen) (s : S) (ns : List Noted)
      → phase_from next s (cons_option (option_map (λ op. (op, seen)) op) ns) ≡ phase_from next (moved_by op seen s) ns
  by_op None seen s ns = refl
  by_op (Some op) seen s ns = refl

  by_step : {P T W : Type 0} (step : P → Step) (p : P) (s : S) (x : Event T W) (xs : List (Event T W))
      → x.step ≡ step p
      → phase_from next s (words (x ∷ xs)) ≡ phase_from next (moved_by (op_of (step p)) x.seen s) (words xs)
  by_step step p s x xs is =
      by_op (op_of x.step) x.seen s (words xs)
      ∙ ap (λ step. phase_from next (moved_by (op_of step) x.seen s) (words xs)) is

-- `Stands` holds at a position with a value, and `Ends` once the call has replied.
module _ {P S : Type 0} (Stands : P → S → Type 0) (Ends : Reply → S → Type 0) where
  abbrev pub Leads : Outcome P → S → Type 0
  Leads (Goes p) s = Stands p s
  Leads (Answers r) s = Ends r s

  module _ (step : P → Step) (rows : P → Rows P) (next : S → Op → Seen → S) where
    -- if each row carries it on, so does a run
    pub by_rows : {T W : Type 0}
        → ((p : P) (s : S) (seen : Seen) (o : Outcome P) → Stands p s → row_for seen (rows p) ≡ Some o
        → Leads o (moved_by next (op_of (step p)) seen s))
        → (p : P) (s : S) (xs : List (Event T W)) (r : Reply) → Stands p s
        → Run step (λ p seen. row_for seen (rows p)) p xs r → Ends r (phase_from next s (words xs))
    by_rows each p s _ r stands (last x is leads) =
        subst (Ends r) (sym (by_step next step p s x [] is)) (each p s x.seen (Answers r) stands leads)
    by_rows each p s _ r stands (more after x xs is leads rest) =
        subst (Ends r) (sym (by_step next step p s x xs is))
        (by_rows each after (moved_by next (op_of (step p)) x.seen s) xs r
        (each p s x.seen (Goes after) stands leads) rest)

-- The same where `stands` and `ends` are tests, which the checker computes at each position for each value.
module _ {P S : Type 0} (stands : P → S → Bool) (ends : Reply → S → Bool) (step : P → Step) (rows : P → Rows P)
    (next : S → Op → Seen → S) where
  abbrev leads_on : Outcome P → S → Bool
  leads_on (Goes p) s = stands p s
  leads_on (Answers r) s = ends r s

  leads_so : (o : Outcome P) (s : S) → leads_on o s ≡ true
      → Leads (λ p s. stands p s ≡ true) (λ r s. ends r s ≡ true) o s
  leads_so (Goes p) s e = e
  leads_so (Answers r) s e = e

  abbrev row_carries : P → S → Seen × Outcome P → Bool
  row_carries p s (seen, o) = leads_on o (moved_by next (op_of (step p)) seen s)

  -- every row of this position keeps the test, if the position passes it
  abbrev pub carries : P → S → Bool
  carries p s = if stands p s then list_all (row_carries p s) (rows p) else true

  pub by_tests : {T W : Type 0} → ((p : P) (s : S) → carries p s ≡ true) → (p : P) (s : S) (xs : List (Event T W))
      (r : Reply) → stands p s ≡ true → Run step (λ p seen. row_for seen (rows p)) p xs r
      → ends r (phase_from next s (words xs)) ≡ true
  by_tests all =
      by_rows (λ p s. stands p s ≡ true) (λ r s. ends r s ≡ true) step rows next
      (λ p s seen o is row. leads_so o (moved_by next (op_of (step p)) seen s)
      (row_passes (row_carries p s) (rows p) seen o
      (if_so (stands p s) (list_all (row_carries p s) (rows p)) (all p s) is) row))

-- a test that all rows' next phases pass, and the phase without a row, the phase after an operation passes
pub next_passes : {At : Type 0} (test : At → Bool) (nowhere : At) (rows : List (Row At)) (op : Op) (seen : Seen)
    → test nowhere ≡ true → list_all (λ row. test row.3) rows ≡ true → test (next_by nowhere rows op seen) ≡ true
next_passes test nowhere [] op seen none all = none
next_passes test nowhere (row ∷ rows) op seen none all =
    let parts = and_parts (test row.3) (list_all (λ row. test row.3) rows) all in
    by (is_row_for op seen row) parts.0 (next_passes test nowhere rows op seen none parts.1)
  where
    by : (b : Bool) → test row.3 ≡ true → test (next_by nowhere rows op seen) ≡ true
        → test (if b then row.3 else next_by nowhere rows op seen) ≡ true
    by true now later = now
    by false now later = later
