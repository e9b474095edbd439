-- Proofs of the examples of ends, of what a call leaves, of replies and of hands.
use Rattle.oneshot_drive.proofs.Names.{inl, inr, refl, closed_itself, found_closed, after_load, after_timeout, blocked, waits, withdrew, rests_new, rests_open, rests_closed}
use Rattle.oneshot_drive.proofs.Names.{Polled, unpolled, left_copy, kept_copy, found_sender}
use Rattle.oneshot_contract_examples.specs.DriverExamples.{PhasesThatAre, PhasesThatAreNot, CallsThatLeave, CallsThatDoNot, RepliesThatAre, HandsThatAre, HandsThatAreNot}
use Rattle.oneshot_drive.proofs.Names.{has_resolved, leaves_waiting, is_disconnected}
use Rattle.oneshot_drive.specs.Polls.{leaves_resolved, leaves_gone, tried_resolved, tried_its_copy}
use Rattle.oneshot_drive.specs.BetweenCalls.{leaves_received, leaves_closed, leaves_empty, leaves_late, last_finished, last_overtaken}

pub phases_that_are : PhasesThatAre
phases_that_are =
    record {
      new_is_open = refl;
      loaded_is_open = λ _. refl;
      registered_is_open = λ _. refl;
      claimed_is_open = refl;
      disconnected_is_closed = λ _. refl;
      resolved_is_closed = λ _. refl;
      new_rests = rests_new;
      loaded_rests = rests_open after_load;
      ran_out_rests = rests_open after_timeout;
      received_rests = rests_closed closed_itself;
      new_is_polled = unpolled rests_new;
      registered_is_polled = left_copy;
      kept_is_polled = kept_copy;
      claimed_is_polled = found_sender;
      resolved_is_polled = has_resolved found_closed;
      last_finished_it = λ _. last_finished;
      last_came_too_late = λ _. last_overtaken;
    }

blocked_is_polled : Polled (waits blocked) → ⊥
blocked_is_polled (unpolled rests) = elim rests [ ]

withdrawn_is_polled : Polled withdrew → ⊥
withdrawn_is_polled (unpolled rests) = elim rests [ ]

pub phases_that_are_not : PhasesThatAreNot
phases_that_are_not =
    record {
      disconnected_is_open = λ _ e. cc;
      resolved_is_open = λ _ e. cc;
      full_is_open = λ _ e. cc;
      gone_is_open = λ e. cc;
      ended_is_open = λ e. cc;
      overdue_is_open = λ e. cc;
      withdrawn_is_open = λ e. cc;
      overwritten_is_open = λ _ e. cc;
      new_is_closed = λ e. cc;
      loaded_is_closed = λ _ e. cc;
      registered_is_closed = λ _ e. cc;
      claimed_is_closed = λ e. cc;
      full_is_closed = λ _ e. cc;
      overdue_is_closed = λ e. cc;
      withdrawn_is_closed = λ e. cc;
      overwritten_is_closed = λ _ e. cc;
      gone_is_closed = λ e. cc;
      ended_is_closed = λ e. cc;
      waiting_rests = λ _ h. elim h [ ];
      overdue_rests = λ h. elim h [ ];
      full_rests = λ _ h. elim h [ ];
      overwritten_rests = λ _ h. elim h [ ];
      blocked_is_polled = blocked_is_polled;
      withdrawn_is_polled = withdrawn_is_polled;
      last_is_hidden = λ _ h. elim h [ ];
      last_finished_too_late = λ _ h. elim h [ ];
      last_is_of_the_other_call = λ h. elim h [ ];
    }

pub calls_that_leave : CallsThatLeave
calls_that_leave =
    record {
      takes = leaves_received;
      finds_nothing = leaves_empty;
      finds_no_sender = leaves_closed;
      runs_out = leaves_late;
      polls_it = leaves_resolved;
      polls_over_nobody = leaves_gone found_closed;
      polls_too_early = leaves_waiting;
      tries_it = tried_resolved;
      tries_too_early = tried_its_copy;
      leaves_its_copy = inl (refl, tt);
      woke_its_task = inr tt;
      stays_registered = λ _. refl;
      finds_its_sender = λ _. refl;
      stays_unregistered = λ _. refl;
    }

pub calls_that_do_not : CallsThatDoNot
calls_that_do_not =
    record {
      takes_and_is_open = λ _ h. elim h [ ];
      takes_what_another_closed = λ h. elim h [ ];
      finds_nothing_and_closes = λ _ h. elim h [ ];
      finds_no_sender_and_is_open = λ _ h. elim h [ ];
      runs_out_and_closes = λ _ h. elim h [ ];
      runs_out_while_it_waits = λ _ h. elim h [ ];
      polls_it_and_waits = λ _ h. elim h [ ];
      polls_over_nobody_and_waits = λ _ h. elim h [ ];
      pends_and_never_loaded = λ h. elim h [ ];
      pends_and_is_closed = λ _ h. elim h [ ];
      pends_with_the_message = λ _ h. elim h [ ];
      tries_it_and_waits = λ _ h. elim h [ ];
      finds_nothing_and_resolves = λ _ h. elim h [ ];
      tries_and_has_polled = λ h. elim h [ ];
      leaves_no_copy = λ h.
          elim h [
            | inl left ↦ cc left.0
            | inr none ↦ none
          ];
      leaves_an_older_copy = λ h.
          elim h [
            | inl left ↦ cc left.0
            | inr none ↦ none
          ];
      leaves_anothers_copy = λ h.
          elim h [
            | inl left ↦ left.1
            | inr none ↦ none
          ];
      takes_its_copy_back = λ stays. let e = stays refl in cc;
      registers_unasked = λ stays. let e = stays refl in cc;
    }

pub replies_that_are : RepliesThatAre
replies_that_are =
    record {
      was_sent = refl;
      was_refused = refl;
      tried = refl;
      tried_in_vain = refl;
      tried_over_nobody = refl;
      blocked_for = refl;
      blocked_in_vain = λ _. refl;
      in_time = refl;
      too_late = refl;
      over_nobody = refl;
      ready = refl;
      ready_in_vain = λ _. refl;
      pending = refl;
      gives_it = refl;
      gives_none = λ _. refl;
      polls_it = refl;
      polls_none = refl;
      is_over = is_disconnected;
      is_not_over = λ h. elim h [ ];
      has_it = λ h. elim h [ ];
    }

pub hands_that_are : HandsThatAre
hands_that_are =
    record {
      ready = λ e. absurd (cc);
      closed_without = λ _ _. refl;
    }

pub hands_that_are_not : HandsThatAreNot
hands_that_are_not =
    record {
      open_without = λ _ ready. let e = ready refl in cc;
    }
