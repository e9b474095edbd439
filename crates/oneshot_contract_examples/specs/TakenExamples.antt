-- Examples and counterexamples of the message that a receiver took, by its log and by what a receive returned.
use Rattle.std.specs.Prelude.{◌≡◌, ◌≢◌, ⊤, ℕ, List, [], ◌∷◌, Option, Some, None, Ok, Err}
use Rattle.futures.specs.declared.task.Poll.TheVariants.{Ready, Pending}
use Rattle.oneshot_machine.specs.declared.machine.Seen.TheVariants.{Word}
use Rattle.oneshot_machine.specs.declared.states.Op.TheVariants.{Load, Add}
use Rattle.oneshot_machine.specs.declared.states.TheConstants.{EMPTY, MESSAGE}
use Rattle.oneshot_machine.specs.Noted.{Noted}
use Rattle.oneshot_machine.specs.Slots.{away}
use Rattle.oneshot_contract_examples.specs.SeatExamples.{table}
use Rattle.oneshot_word.specs.Side.{Side}
use Rattle.oneshot_ends.specs.Ends.{SenderView}
use Rattle.oneshot_contract_examples.specs.EndExamples.{ran_out, received_and_closed}
use Rattle.oneshot_ends.specs.Moments.{AtOneMoment}
use Rattle.oneshot_ends.specs.OwnWakers.{RealWaker}
use Rattle.oneshot_ends.specs.Taken.{StaysTaken, TookAsFound, KeepsTaken, Takes, TakesReady}

-- a side with this log, which gave or took this message
abbrev pub passed_by : List Noted → Option ℕ → Side ℕ RealWaker ⊤
passed_by log passed =
    record { table = table 1 2 5; log = log; message = away; waker = away; passed = passed; handed = None; about = tt }

-- a moment of a channel, whatever is promised of its messages
abbrev pub Beside : Side ℕ RealWaker ⊤ → Side ℕ RealWaker ⊤ → Type 0
Beside = AtOneMoment (λ about message. ⊤)

-- a receiver that took the message that it found, one that found none, receives that returned it or not, a
-- sender's view, which has no message, and a receiver that took what its sender gave
pub record TakesThatAre : Type 0 where
  pub found_it : TookAsFound {T = ℕ} (Some 7) received_and_closed
  pub found_none : TookAsFound {T = ℕ} None ran_out
  pub takes_it : KeepsTaken {T = ℕ} None (Some 7) [] received_and_closed
  pub returned_it : Takes {T = ℕ} {E = ℕ} (Ok 7) None (Some 7)
  pub returned_none : Takes {T = ℕ} {E = ℕ} (Err 0) (Some 7) (Some 7)
  pub is_ready : TakesReady {T = ℕ} {E = ℕ} (Ready (Ok 7)) None (Some 7)
  pub is_pending : TakesReady {T = ℕ} {E = ℕ} Pending None None
  pub sends : (sender : SenderView ℕ) → sender.log ≡ [] → TookAsFound {T = ℕ} None sender.log
  pub took_what_was_given : (m : ℕ)
      → Beside (passed_by ((Add, Word EMPTY) ∷ []) (Some m)) (passed_by ((Load, Word MESSAGE) ∷ []) (Some m))

pub record TakesThatAreNot : Type 0 where
  pub took_unfound : TookAsFound {T = ℕ} (Some 7) ran_out → ⊥
  pub found_untaken : TookAsFound {T = ℕ} None received_and_closed → ⊥
  pub took_another : StaysTaken {T = ℕ} (Some 7) (Some 8) → ⊥
  pub lost_it : KeepsTaken {T = ℕ} (Some 7) None received_and_closed received_and_closed → ⊥
  pub finds_untaken : KeepsTaken {T = ℕ} None None [] received_and_closed → ⊥
  pub returned_another : Takes {T = ℕ} {E = ℕ} (Ok 7) None (Some 8) → ⊥
  pub returned_untaken : Takes {T = ℕ} {E = ℕ} (Ok 7) None None → ⊥
  pub returned_again : Takes {T = ℕ} {E = ℕ} (Ok 7) (Some 7) (Some 7) → ⊥
  pub took_in_an_error : Takes {T = ℕ} {E = ℕ} (Err 0) None (Some 7) → ⊥
  pub ready_untaken : TakesReady {T = ℕ} {E = ℕ} (Ready (Ok 7)) None None → ⊥
  pub ready_again : TakesReady {T = ℕ} {E = ℕ} (Ready (Ok 7)) (Some 7) (Some 7) → ⊥
  pub ready_in_an_error : TakesReady {T = ℕ} {E = ℕ} (Ready (Err 0)) None (Some 7) → ⊥
  pub took_while_pending : TakesReady {T = ℕ} {E = ℕ} Pending None (Some 7) → ⊥
  pub took_anothers : (xs ys : List Noted) (m other : ℕ) → m ≢ other
      → Beside (passed_by xs (Some m)) (passed_by ys (Some other)) → ⊥
  pub took_what_none_gave : (xs ys : List Noted) (m : ℕ) → Beside (passed_by xs None) (passed_by ys (Some m)) → ⊥
