-- Proofs of the examples of logs and runs, computed.
use Rattle.std.proofs.Common.{refl}
use Rattle.oneshot_contract_examples.specs.RunExamples.{LogsOfSender, LogsOfReceiver, RunsThatAre}
use Rattle.oneshot_contract_examples.proofs.ComputedRuns.{computed}

pub logs_of_sender : LogsOfSender
logs_of_sender =
    record {
      nothing_yet = refl;
      sent = refl;
      sent_too_late = refl;
      found_a_waker = refl;
      sent_to_it = refl;
      sent_to_one_that_stopped = refl;
      sent_to_one_that_left_meanwhile = refl;
      dropped = refl;
      dropped_before_it = refl;
      dropped_too_late = refl;
      dropped_after_one_that_left_meanwhile = refl;
      sends_over_a_message = refl;
      sends_twice = refl;
      drops_after_it_sent = refl;
      tries_again = refl;
      ends_its_send_as_a_drop = refl;
      finds_its_waker_again = refl;
      swaps = refl;
      does_not_see = refl;
    }

pub logs_of_receiver : LogsOfReceiver
logs_of_receiver =
    record {
      nothing_yet = refl;
      loaded_in_vain = refl;
      found_it = refl;
      received = refl;
      tried_again = refl;
      found_no_sender = refl;
      began_to_wait = refl;
      woke_too_early = refl;
      waited_for_it = refl;
      found_it_by_its_swap = refl;
      found_nobody_by_its_swap = refl;
      ran_out = refl;
      ran_out_and_tried_again = refl;
      ran_out_over_a_message = refl;
      ran_out_over_a_drop = refl;
      ran_out_too_late = refl;
      waited_for_the_sender = refl;
      put_it_back = refl;
      dropped_early = refl;
      dropped_over_a_message = refl;
      dropped_after_all = refl;
      leaves_the_message = refl;
      drops_in_its_call = refl;
      stores_another_word = refl;
      closes_unasked = refl;
      opens_again = refl;
      goes_on_after_its_drop = refl;
      waits_without_a_load = refl;
      drops_while_it_waits = refl;
      waits_on_a_word_that_it_left = refl;
      leaves_its_late_word = refl;
      waits_without_a_second_load = refl;
      stops_before_it_waits = refl;
      adds = refl;
    }

pub runs_that_are : RunsThatAre
runs_that_are =
    record {
      sends = computed (refl, (refl, refl));
      is_refused = computed (refl, (refl, refl));
      wakes = computed (refl, (refl, (refl, (refl, (refl, refl)))));
      is_refused_at_its_last_operation = computed (refl, (refl, (refl, (refl, (refl, refl)))));
      wakes_by_its_drop = computed (refl, (refl, (refl, (refl, refl))));
      frees_after_its_wake = computed (refl, (refl, (refl, (refl, (refl, refl)))));
      gives_it_back = computed (refl, (refl, refl));
      drops_the_error = computed (refl, (refl, refl));
      drops_the_sender = computed (refl, (refl, refl));
      receives = computed (refl, (refl, (refl, refl)));
      finds_nothing = computed (refl, refl);
      finds_no_sender = computed (refl, refl);
      waits_for_it = computed (refl, (refl, (refl, (refl, (refl, (refl, (refl, (refl, (refl, refl)))))))));
      need_not_wait = computed (refl, (refl, (refl, (refl, (refl, (refl, refl))))));
      waits_for_nobody = computed (refl, (refl, (refl, (refl, (refl, refl)))));
      runs_out = computed (refl, (refl, (refl, (refl, (refl, (refl, (refl, (refl, (refl, refl)))))))));
      runs_out_after_its_sum =
          computed (refl, (refl, (refl, (refl, (refl, (refl, (refl, (refl, (refl, (refl, refl))))))))));
      runs_out_over_a_message =
          computed (refl, (refl, (refl, (refl, (refl, (refl, (refl, (refl, (refl, (refl, refl))))))))));
      runs_out_over_a_drop = computed (refl, (refl, (refl, (refl, (refl, (refl, (refl, (refl, (refl, refl)))))))));
      waits_for_the_sender =
          computed (refl, (refl, (refl, (refl, (refl, (refl, (refl, (refl, (refl, (refl, (refl, (refl, refl))))))))))));
      never_runs_out = computed (refl, (refl, refl));
      waits_and_frees = computed (refl, (refl, (refl, (refl, (refl, (refl, (refl, (refl, (refl, refl)))))))));
      waits_for_nobody_and_frees = computed (refl, (refl, (refl, (refl, (refl, refl)))));
      drops_the_message = computed (refl, (refl, (refl, refl)));
      handed_in = refl;
      handed_out = refl;
      hands_nothing_out = refl;
      keeps_all = refl;
      keeps_no_waker = refl;
      keeps_the_word = refl;
      as_words = refl;
    }
