-- The sides of a new channel are new, and their grounds stand at the first phase.
use Rattle.std.proofs.Common.{◌≡◌, List, [], sym, ap, subst}
use Rattle.oneshot_machine.specs.Logs.{Log, words}
use Rattle.oneshot_machine.specs.Phases.{untouched, receiver_at, none, empty, Slots}
use Rattle.oneshot_machine.specs.Slots.{IsSlot, is_away, is_vacant}
use Rattle.oneshot_machine.specs.Noted.{Noted}
use Rattle.oneshot_drive.specs.BetweenCalls.{AtRest, rests_new}
use Rattle.oneshot_drive.specs.Grounds.{StandsWith}
use Rattle.oneshot_word.specs.Side.{Side, AreEnds}
use Rattle.oneshot_ends.specs.Grounds.{events_of, state_of, IsNew, IsNewSender, IsNewReceiver}

-- the sides of a new channel
module _ {T W P : Type 0} {about : P} {sender receiver : Side T W P} (are : AreEnds about sender receiver) where
  pub new_sender : IsNewSender sender
  new_sender =
      record {
        log = are.sender_log;
        message = subst (IsSlot empty) (sym are.sender_slots.0) is_vacant;
        waker = subst (IsSlot none) (sym are.sender_slots.1) is_away;
        passed = are.sender_passed;
      }

  pub new_receiver : IsNewReceiver receiver
  new_receiver =
      record {
        log = are.receiver_log;
        message = subst (IsSlot none) (sym are.receiver_slots.0) is_away;
        waker = subst (IsSlot none) (sym are.receiver_slots.1) is_away;
        passed = are.receiver_passed;
      }

module _ {T W P : Type 0} where
  -- how the ground of a new end stands
  new_stands : {At : Type 0} (at : List Noted → At) {slots : Slots} (s : Side T W P) → IsNew slots s
      → StandsWith (λ (l : Log T W). at (words l.list)) (at []) slots (state_of s)
  new_stands at s new =
      record {
        phase = ap (λ xs. at (words (events_of {T = T} {W = W} xs))) new.log;
        message = new.message;
        waker = new.waker;
      }

  pub rests_at_new : (s now : Side T W P) → now ≡ s → IsNewReceiver s → AtRest (state_of now)
  rests_at_new s now is new =
      subst (λ now. AtRest (state_of now)) (sym is)
      (record { at = untouched; is_one = rests_new; stands = new_stands receiver_at s new })
