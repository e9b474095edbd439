-- Proofs of the examples of ends that are over.
use Rattle.std.proofs.Common.{inl, inr}
use Rattle.oneshot_machine.specs.Over.{is_late, is_overtaken, over_finished, over_late, over_overtaken, found_message, found_overwritten, found_no_sender, left_first, left_last}
use Rattle.oneshot_contract_examples.specs.OverExamples.{EndsThatAreOver, EndsThatAreNotOver}

pub ends_that_are_over : EndsThatAreOver
ends_that_are_over =
    record {
      late_is_late = is_late;
      overtaken_is_late = is_overtaken;
      finished_is_over = λ _. over_finished;
      late_is_over = λ _. over_late;
      overtaken_is_over = λ _. over_overtaken;
      full_found_it = found_message;
      overwritten_found_it = found_overwritten;
      disconnected_found_it = found_no_sender;
      gone_has_left = left_first;
      ended_has_left = left_last;
      disconnected_is_over = λ c. inl (found_no_sender c);
      ended_is_over = inr left_last;
    }

pub ends_that_are_not_over : EndsThatAreNotOver
ends_that_are_not_over =
    record {
      fresh_is_late = λ h. elim h [ ];
      owing_is_late = λ _ h. elim h [ ];
      finished_is_late = λ _ h. elim h [ ];
      no_sender_is_late = λ h. elim h [ ];
      fresh_is_over = λ _ h. elim h [ ];
      owing_is_over = λ _ h. elim h [ ];
      no_sender_is_over = λ _ h. elim h [ ];
      dropped_is_sent = λ h. elim h [ ];
      sent_is_dropped = λ h. elim h [ ];
      late_drop_is_sent = λ h. elim h [ ];
      late_send_is_dropped = λ h. elim h [ ];
      overtaken_drop_is_sent = λ h. elim h [ ];
      overtaken_send_is_dropped = λ h. elim h [ ];
      first_found_it = λ h. elim h [ ];
      here_found_it = λ _ h. elim h [ ];
      waiting_found_it = λ _ h. elim h [ ];
      claimed_found_it = λ h. elim h [ ];
      withdrew_found_it = λ h. elim h [ ];
      overdue_found_it = λ h. elim h [ ];
      resolved_found_it = λ _ h. elim h [ ];
      gone_found_it = λ h. elim h [ ];
      ended_found_it = λ h. elim h [ ];
      no_receiver_found_it = λ h. elim h [ ];
      first_has_left = λ h. elim h [ ];
      here_has_left = λ _ h. elim h [ ];
      waiting_has_left = λ _ h. elim h [ ];
      claimed_has_left = λ h. elim h [ ];
      withdrew_has_left = λ h. elim h [ ];
      overdue_has_left = λ h. elim h [ ];
      full_has_left = λ _ h. elim h [ ];
      overwritten_has_left = λ _ h. elim h [ ];
      disconnected_has_left = λ _ h. elim h [ ];
      resolved_has_left = λ _ h. elim h [ ];
      no_receiver_has_left = λ h. elim h [ ];
      waiting_is_over = λ w over.
          elim over [
            | inl found ↦ elim found [ ]
            | inr left ↦ elim left [ ]
          ];
    }
