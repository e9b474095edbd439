-- A ground that was lent has the phase and the slots of the receiver's own ground, and keeps what that keeps.
use Rattle.std.proofs.Common.{◌≡◌, ℕ, List, refl, sym, ◌∙◌, subst}
use Rattle.std.proofs.Math.Nat.{le_refl}
use Rattle.futures.specs.declared.task.context.Context.{Context}
use Rattle.oneshot_machine.specs.Logs.{receiver_of}
use Rattle.oneshot_machine.specs.Phases.{ReceiverAt, Share}
use Rattle.oneshot_machine.specs.Slots.{IsSlot}
use Rattle.oneshot_drive.specs.Grounds.{GroundState, StandsIn}
use Rattle.oneshot_word.specs.Side.{Side}
use Rattle.oneshot_ends.specs.Grounds.{state_of, lent}
use Rattle.oneshot_ends.specs.Keeps.{KeepsOwn, KeepsLent, KeepsPolled}
use Rattle.oneshot_ends.specs.OwnWakers.{RealWaker}
use Rattle.oneshot_ends.specs.declared.patience.Patience.{Patience}
use Rattle.oneshot_ends.specs.Tokens.{ParkingView}

-- one ground stands as another does if both have the same phase and the same shares of the slots
pub stands_again : {Phases : ReceiverAt → Type 0} {T W V : Type 0} {s : GroundState T W} {t : GroundState T V}
    → receiver_of t.log ≡ receiver_of s.log → ((share : Share) → IsSlot share s.message → IsSlot share t.message)
    → ((share : Share) → IsSlot share s.waker → IsSlot share t.waker) → StandsIn Phases s → StandsIn Phases t
stands_again as_far message waker is =
    record {
      at = is.at;
      is_one = is.is_one;
      stands = record {
        phase = as_far
            ∙ is.stands.phase;
        message = message _ is.stands.message;
        waker = waker _ is.stands.waker;
      };
    }

module _ {T W P : Type 0} {Phases : ReceiverAt → Type 0} where
  pub as_lent : (names : List ℕ) {own s : Side T W P} → s ≡ own → StandsIn Phases (state_of own)
      → StandsIn Phases (lent names s)
  as_lent names is stands =
      subst (λ s. StandsIn Phases (lent names s)) (sym is) (stands_again refl (λ share m. m) (λ share w. w) stands)

  pub given_back : (names : List ℕ) (s : Side T W P) → StandsIn Phases (lent names s) → StandsIn Phases (state_of s)
  given_back names s = stands_again refl (λ share m. m) (λ share w. w)

-- what an operation of the receiver's own ground keeps, a ground that it is lent to keeps
module _ {T P : Type 0} {a b : Side T RealWaker P} (keeps : KeepsOwn a b) where
  pub blocking_keeps : {patience : Patience} {half : ParkingView} → KeepsLent a b patience patience half half
  blocking_keeps {patience} =
      record {
        about = keeps.about;
        deadline = refl;
        spins = le_refl patience.spins;
        token = λ took. took;
        parker = refl;
        halves = keeps.halves _;
        taken = keeps.taken;
      }

  pub polling_keeps : {cx : Context} {id : ℕ} → KeepsPolled a b cx cx id id
  polling_keeps =
      record {
        task = λ fact h. h;
        source = refl;
        about = keeps.about;
        no_thread = keeps.no_thread;
        taken = keeps.taken;
      }
