-- Proofs of the examples of steps: each step computed, and what each counterexample lacks.
use Rattle.std.proofs.Common.{◌≡◌, ℕ, false, [], ◌∷◌, Option, Some, None, refl, ap, ◌∙◌, option_map}
use Rattle.oneshot_world.specs.World.{World, turn}
use Rattle.oneshot_world.specs.declared.script.Move.{Move}
use Rattle.oneshot_world.specs.declared.script.Move.TheVariants as M
use Rattle.oneshot_world.specs.declared.trace.Entry.{Entry}
use Rattle.oneshot_world.specs.declared.trace.Entry.TheVariants as E
use Rattle.oneshot_world.specs.declared.trace.Place.{Place}
use Rattle.oneshot_world.specs.declared.trace.Place.TheVariants as P
use Rattle.oneshot_machine.specs.declared.machine.End.TheVariants.{Sender}
use Rattle.oneshot_replay.specs.Run.{HasRun}
use Rattle.oneshot_replay.specs.Scene.{Scene}
use Rattle.oneshot_replay.specs.TraceView.{last_of}
use Rattle.oneshot_replay.proofs.Runs.{goes_on}
use Rattle.oneshot_law_examples.specs.Notation.{move_in}
use Rattle.oneshot_law_examples.specs.RecordExamples.{sends}
use Rattle.oneshot_law_examples.specs.StepExamples.{tries, writes, before, after, CallsThatAreLeft, StepsThatAre, StepsThatAreNot}
use Rattle.oneshot_law_examples.proofs.RecordExamples.{turned}

pub calls_that_are_left : CallsThatAreLeft
calls_that_are_left =
    record {
      looks_twice = refl;
      looks_and_stops = refl;
      sends_first = refl;
      tries_first = refl;
      looks_first = refl;
      drops_its_error = refl;
      polls = refl;
      none_of_the_sender = refl;
      none_of_the_receiver = refl;
    }

begins : HasRun sends tries [] [] before
begins = record { worlds = []; is_run = tt; ends = refl; count = refl; message = refl }

pub steps_that_are : StepsThatAre
steps_that_are =
    record {
      begins = begins;
      goes_on = goes_on before M.Sender writes after refl refl refl;
      has_come = record { worlds = after.world ∷ []; is_run = (refl, tt); ends = refl; count = refl; message = refl };
      shows_nothing = refl;
      shows_its_rest = refl;
    }

-- a run of one step
module _ {move : Move} {entry : Entry} {now : Scene ℕ} (run : HasRun sends tries (move ∷ []) (entry ∷ []) now) where
  is_run : turn 1 before.world move ≡ Some (entry, last_of before.world run.worlds)
  is_run = turned 1 _ run.worlds move entry run.is_run

runs_another : {now : Scene ℕ} → HasRun sends tries (M.Sender ∷ []) (E.Idle Sender ∷ []) now → ⊥
runs_another run = let made = ap (option_map (λ (t : Entry × World). t.0)) (is_run run) in cc made

-- the sender's step puts the message into its cell
never_stays : HasRun sends tries (M.Sender ∷ []) (writes ∷ []) (record before { count = 1 }) → ⊥
never_stays run =
    let last : Some (Some P.InCell) ≡ Some ((last_of before.world run.worlds).state.message) =
    ap (option_map (λ (t : Entry × World). t.1.state.message)) (is_run run) in
    let here : (last_of before.world run.worlds).state.message ≡ Some P.NotSent =
    ap (λ (w : World). w.state.message) run.ends in
    let is : Some (Some P.InCell) ≡ Some (Some P.NotSent) = last ∙ ap (λ (place : Option Place). Some place) here in
    cc is

counts : HasRun sends tries (M.Sender ∷ []) (writes ∷ []) (record after { count = 0 })
    → ⊥
counts run = let is : 0 ≡ 1 = run.count in cc is

by_the_other : HasRun sends tries (M.Receiver false false ∷ []) (writes ∷ []) after → ⊥
by_the_other run =
    let is : Some (M.Receiver false false) ≡ Some M.Sender =
    ap (option_map (λ (t : Entry × World). move_in t.0)) (is_run run) in cc is

pub steps_that_are_not : StepsThatAreNot
steps_that_are_not =
    record {
      runs_another = runs_another;
      stays_where_it_was = never_stays;
      counts_none = counts;
      has_another = λ run. let is : Some 8 ≡ Some 7 = run.message in cc is;
      has_none = λ run. let is : None ≡ Some 7 = run.message in cc is;
      goes_on_idle = λ goes. runs_another (goes sends tries [] [] begins);
      goes_nowhere = λ goes. never_stays (goes sends tries [] [] begins);
      goes_uncounted = λ goes. counts (goes sends tries [] [] begins);
      goes_by_the_other = λ goes. by_the_other (goes sends tries [] [] begins);
    }
