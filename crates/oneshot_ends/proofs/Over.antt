-- An end whose ground shows that it is over is over by its own log, and a receiver that is over waits no more.
use Rattle.std.proofs.Common.{◌≡◌, false, List, inl, inr, refl, sym, ap, ◌∙◌, subst}
use Rattle.oneshot_machine.specs.Logs.{sender_of, receiver_of}
use Rattle.oneshot_machine.specs.Noted.{Noted}
use Rattle.oneshot_machine.specs.Over.{IsLate, is_late, is_overtaken, SenderIsOver, over_late, over_overtaken, FoundTheEnd, found_message, found_overwritten, found_no_sender, HasLeft, left_first}
use Rattle.oneshot_machine.specs.Over.{left_last, ReceiverIsOver}
use Rattle.oneshot_machine.specs.Phases.{By, SenderAt, sender_at, ReceiverAt, receiver_at}
use Rattle.oneshot_drive.specs.BetweenCalls.{AtRest, Rests, rests_new, rests_open, rests_closed}
use Rattle.oneshot_word.specs.Side.{Side}
use Rattle.oneshot_ends.specs.Grounds.{state_of}
use Rattle.oneshot_ends.specs.OwnWakers.{is_waiting}
use Rattle.oneshot_ends.proofs.GrewByRuns.{words_of}

-- a sender that found the receiver gone is over
pub late_over : {at : SenderAt} → IsLate at → (by : By) × SenderIsOver by at
late_over (is_late by) = (by, over_late)
late_over (is_overtaken by) = (by, over_overtaken)

module _ {T W P : Type 0} (s : Side T W P) {log : List Noted} (logs : s.log ≡ log) where
  pub sender_over : {by : By} → SenderIsOver by (sender_of (state_of s).log)
      → (by : By) × SenderIsOver by (sender_at log)
  sender_over {by} over = (by, subst (λ xs. SenderIsOver by (sender_at xs)) (words_of T W s.log ∙ logs) over)

  pub has_received : FoundTheEnd (receiver_of (state_of s).log) → ReceiverIsOver (receiver_at log)
  has_received found = inl (subst (λ xs. FoundTheEnd (receiver_at xs)) (words_of T W s.log ∙ logs) found)

  pub has_left : HasLeft (receiver_of (state_of s).log) → ReceiverIsOver (receiver_at log)
  has_left left = inr (subst (λ xs. HasLeft (receiver_at xs)) (words_of T W s.log ∙ logs) left)

found_idle : {at : ReceiverAt} → FoundTheEnd at → is_waiting at ≡ false
found_idle (found_message got) = refl
found_idle (found_overwritten by) = refl
found_idle (found_no_sender closing) = refl

left_idle : {at : ReceiverAt} → HasLeft at → is_waiting at ≡ false
left_idle left_first = refl
left_idle left_last = refl

pub over_idle : {at : ReceiverAt} → ReceiverIsOver at → is_waiting at ≡ false
over_idle over =
    elim over [
      | inl found ↦ found_idle found
      | inr left ↦ left_idle left
    ]

rests_idle : {at : ReceiverAt} → Rests at → is_waiting at ≡ false
rests_idle rests_new = refl
rests_idle (rests_open o) = refl
rests_idle (rests_closed c) = refl

-- nor does one between two calls
pub idle_at_rest : {T W P : Type 0} (s : Side T W P) → AtRest (state_of s) → is_waiting (receiver_at s.log) ≡ false
idle_at_rest {T} {W} s rests =
    ap (λ xs. is_waiting (receiver_at xs)) (sym (words_of T W s.log)) ∙ ap is_waiting rests.stands.phase
    ∙ rests_idle rests.is_one
