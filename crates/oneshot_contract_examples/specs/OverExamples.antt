-- Examples and counterexamples of ends that are over, at each phase.
use Rattle.oneshot_machine.specs.Over.{IsLate, SenderIsOver, FoundTheEnd, HasLeft, ReceiverIsOver}
use Rattle.oneshot_machine.specs.Phases.{By, sending, dropping, fresh, owes, finished, found_gone, overtaken, no_sender, Open, Waiting, Swapping, Got, Closing, untouched}
use Rattle.oneshot_machine.specs.Phases.{idle, waits, claimed, withdrew}
use Rattle.oneshot_machine.specs.Phases.{overdue, full, overwritten, disconnected, resolved, gone, ended, no_receiver}

pub record EndsThatAreOver : Type 0 where
  pub late_is_late : (by : By) → IsLate (found_gone by)
  pub overtaken_is_late : (by : By) → IsLate (overtaken by)
  pub finished_is_over : (by : By) → SenderIsOver by (finished by)
  pub late_is_over : (by : By) → SenderIsOver by (found_gone by)
  pub overtaken_is_over : (by : By) → SenderIsOver by (overtaken by)
  pub full_found_it : (g : Got) → FoundTheEnd (full g)
  pub overwritten_found_it : (s : Swapping) → FoundTheEnd (overwritten s)
  pub disconnected_found_it : (c : Closing) → FoundTheEnd (disconnected c)
  pub gone_has_left : HasLeft gone
  pub ended_has_left : HasLeft ended
  pub disconnected_is_over : (c : Closing) → ReceiverIsOver (disconnected c)
  pub ended_is_over : ReceiverIsOver ended

pub record EndsThatAreNotOver : Type 0 where
  pub fresh_is_late : IsLate fresh → ⊥
  pub owing_is_late : (by : By) → IsLate (owes by) → ⊥
  pub finished_is_late : (by : By) → IsLate (finished by) → ⊥
  pub no_sender_is_late : IsLate no_sender → ⊥
  pub fresh_is_over : (by : By) → SenderIsOver by fresh → ⊥
  pub owing_is_over : (by : By) → SenderIsOver by (owes by) → ⊥
  pub no_sender_is_over : (by : By) → SenderIsOver by no_sender → ⊥
  -- by the other call
  pub dropped_is_sent : SenderIsOver sending (finished dropping) → ⊥
  pub sent_is_dropped : SenderIsOver dropping (finished sending) → ⊥
  pub late_drop_is_sent : SenderIsOver sending (found_gone dropping) → ⊥
  pub late_send_is_dropped : SenderIsOver dropping (found_gone sending) → ⊥
  pub overtaken_drop_is_sent : SenderIsOver sending (overtaken dropping) → ⊥
  pub overtaken_send_is_dropped : SenderIsOver dropping (overtaken sending) → ⊥
  pub first_found_it : FoundTheEnd untouched → ⊥
  pub here_found_it : (o : Open) → FoundTheEnd (idle o) → ⊥
  pub waiting_found_it : (w : Waiting) → FoundTheEnd (waits w) → ⊥
  pub claimed_found_it : FoundTheEnd claimed → ⊥
  pub withdrew_found_it : FoundTheEnd withdrew → ⊥
  pub overdue_found_it : FoundTheEnd overdue → ⊥
  pub resolved_found_it : (c : Closing) → FoundTheEnd (resolved c) → ⊥
  pub gone_found_it : FoundTheEnd gone → ⊥
  pub ended_found_it : FoundTheEnd ended → ⊥
  pub no_receiver_found_it : FoundTheEnd no_receiver → ⊥
  pub first_has_left : HasLeft untouched → ⊥
  pub here_has_left : (o : Open) → HasLeft (idle o) → ⊥
  pub waiting_has_left : (w : Waiting) → HasLeft (waits w) → ⊥
  pub claimed_has_left : HasLeft claimed → ⊥
  pub withdrew_has_left : HasLeft withdrew → ⊥
  pub overdue_has_left : HasLeft overdue → ⊥
  pub full_has_left : (g : Got) → HasLeft (full g) → ⊥
  pub overwritten_has_left : (s : Swapping) → HasLeft (overwritten s) → ⊥
  pub disconnected_has_left : (c : Closing) → HasLeft (disconnected c) → ⊥
  pub resolved_has_left : (c : Closing) → HasLeft (resolved c) → ⊥
  pub no_receiver_has_left : HasLeft no_receiver → ⊥
  pub waiting_is_over : (w : Waiting) → ReceiverIsOver (waits w) → ⊥
