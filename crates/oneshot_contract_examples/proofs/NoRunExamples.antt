-- The lists of events that are no run of a call, computed.
use Rattle.std.proofs.Common.{◌≡◌, ℕ, List, [], ◌∷◌, ◌++◌, Option, Some, true, false, refl, subst}
use Rattle.oneshot_machine.specs.declared.machine.Reply.{Reply}
use Rattle.oneshot_machine.specs.declared.machine.Seen.{Seen}
use Rattle.oneshot_machine.specs.declared.machine.Step.{Step}
use Rattle.oneshot_machine.specs.declared.machine.receiver.ReceiverPos.TheVariants.{Try, Ref, Timed, Drop}
use Rattle.oneshot_machine.specs.declared.machine.try_recv.TryPos.TheVariants.{Close}
use Rattle.oneshot_machine.specs.declared.machine.by_ref.RefPos.TheVariants.{StartLoad, StartWrite, StartSwap, Park, ParkLoad}
use Rattle.oneshot_machine.specs.declared.machine.timed.TimedPos.TheVariants.{Clock, TimedPark, TimedLoad, EndSwap}
use Rattle.oneshot_machine.specs.declared.machine.drop.DropPos.TheVariants.{DropMessage}
use Rattle.oneshot_machine.specs.declared.machine.sender.SenderPos.TheVariants.{SendAdd, SendTakeWaker, SendFinal}
use Rattle.oneshot_machine.specs.Logs.{Event, clocked}
use Rattle.oneshot_machine.specs.TableRows.{Outcome, Goes, Answers}
use Rattle.oneshot_machine.specs.Runs.{Run, last, more}
use Rattle.oneshot_contract_examples.specs.RunExamples.{ReceiverRun, waited_once, running_out, RunsThatAreNot}

module _ {P : Type 0} {step : P → Step} {row : P → Seen → Option (Outcome P)} where
  -- a run's first step is that of its position
  pub begins : {p : P} {x : Event ℕ ℕ} {xs : List (Event ℕ ℕ)} {r : Reply} → Run step row p (x ∷ xs) r → x.step ≡ step p
  begins (last x is leads) = is
  begins (more next x xs is leads rest) = is

  no_run : {p : P} {r : Reply} → Run {T = ℕ} {W = ℕ} step row p [] r → ⊥
  no_run run = elim run [ ]

  -- a run of one step ends in its reply
  pub answers : {p : P} {x : Event ℕ ℕ} {r : Reply} → Run step row p (x ∷ []) r → row p x.seen ≡ Some (Answers r)
  answers (last x is leads) = leads
  answers (more next x xs is leads rest) = absurd (no_run rest)

  -- a longer run goes on where its first row leads
  pub does_go_on : {p : P} {x y : Event ℕ ℕ} {ys : List (Event ℕ ℕ)} {r : Reply} → Run step row p (x ∷ y ∷ ys) r
      → (q : P) × (row p x.seen ≡ Some (Goes q)) × Run step row q (y ∷ ys) r
  does_go_on (more next x xs is leads rest) = (next, leads, rest)

  pub goes_on : {p : P} {x y : Event ℕ ℕ} {ys : List (Event ℕ ℕ)} {r : Reply} (q : P) → row p x.seen ≡ Some (Goes q)
      → Run step row p (x ∷ y ∷ ys) r → Run step row q (y ∷ ys) r
  goes_on {y} {ys} {r} q to run =
      let on = does_go_on run in
      let same : on.0 ≡ q = cc in
      subst (λ p. Run step row p (y ∷ ys) r) same on.2

-- a receive with a deadline that waited once reads its clock again
asks_again : {ys : List (Event ℕ ℕ)} {r : Reply}
    → ReceiverRun (Ref (StartLoad true)) (waited_once ++ clocked true ∷ ys) r
    → ReceiverRun (Timed Clock) (clocked true ∷ ys) r
asks_again run =
    goes_on (Timed Clock) refl (goes_on (Timed TimedLoad) refl
    (goes_on (Timed TimedPark) refl
    (goes_on (Timed Clock) refl (goes_on (Ref (StartSwap true)) refl (goes_on (Ref (StartWrite true)) refl run)))))

-- and swaps if the deadline is over
ends_its_wait : {y : Event ℕ ℕ} {ys : List (Event ℕ ℕ)} {r : Reply}
    → ReceiverRun (Ref (StartLoad true)) (running_out ++ y ∷ ys) r → ReceiverRun (Timed EndSwap) (y ∷ ys) r
ends_its_wait run = goes_on (Timed EndSwap) refl (asks_again run)

pub runs_that_are_not : RunsThatAreNot
runs_that_are_not =
    record {
      writes_nothing = λ run. let e = begins run in cc;
      says_that_it_sent = λ run. let e = answers (goes_on SendAdd refl run) in cc;
      stops_halfway = λ r run. let e = answers run in cc;
      does_not_free = λ r run. let e = answers run in cc;
      frees_unasked = λ r run. let e = (does_go_on run).1 in cc;
      takes_and_leaves_4 = λ r run. let e = begins (goes_on (Try Close) refl run) in cc;
      says_that_all_are_gone = λ run. let e = answers run in cc;
      wakes_before_its_swap =
          λ r run. let e =
          begins (goes_on SendFinal refl (goes_on SendTakeWaker refl (goes_on SendAdd refl run))) in cc;
      answers_unwoken =
          λ r run. let e =
          answers (goes_on (Ref ParkLoad) refl
          (goes_on (Ref Park) refl (goes_on (Ref ParkLoad) refl
          (goes_on (Ref Park) refl (goes_on (Ref (StartSwap false)) refl
          (goes_on (Ref (StartWrite false)) refl run))))))
          in cc;
      parks_before_it_swaps =
          λ r run. let e =
          begins (goes_on (Ref (StartSwap false)) refl (goes_on (Ref (StartWrite false)) refl run)) in cc;
      runs_out_over_4 = λ run. let e = answers (ends_its_wait run) in cc;
      runs_out_over_1 = λ run. let e = answers (ends_its_wait run) in cc;
      runs_out_by_the_clock_alone = λ r run. let e = answers (asks_again run) in cc;
      loses_the_message = λ r run. let e = begins (goes_on (Drop DropMessage) refl run) in cc;
    }
