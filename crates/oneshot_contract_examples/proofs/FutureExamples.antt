-- Proofs of the examples of a future, computed.
use Rattle.std.proofs.Common.{refl}
use Rattle.oneshot_machine.specs.declared.machine.receiver.ReceiverPos.TheVariants.{Future, AsyncDrop}
use Rattle.oneshot_machine.specs.declared.machine.future.FuturePos.TheVariants.{PollCopy, PollWrite, PollExchange, PollBackFull, AgainCopy, PollOwn}
use Rattle.oneshot_machine.specs.declared.machine.async_drop.AsyncDropPos.TheVariants.{AsyncExchange, AsyncSwap}
use Rattle.oneshot_contract_examples.specs.FutureExamples.{LogsOfFuture, FutureRuns, FutureRunsThatAreNot}
use Rattle.oneshot_contract_examples.proofs.NoRunExamples.{begins, answers, does_go_on, goes_on}
use Rattle.oneshot_contract_examples.proofs.ComputedRuns.{computed}

pub logs_of_future : LogsOfFuture
logs_of_future =
    record {
      polls = refl;
      polls_again = refl;
      takes_its_copy_back = refl;
      stores_another_copy = refl;
      sees_the_sender_finish = refl;
      exchanges_too_late = refl;
      finds_it_by_its_load = refl;
      finds_it_by_its_exchange = refl;
      receives = refl;
      finds_nobody_by_its_exchange = refl;
      polls_after_the_end = refl;
      is_dropped_with_its_copy = refl;
      is_dropped_over_a_message = refl;
      tries_over_its_copy = refl;
      is_dropped_over_a_sender_that_finishes = refl;
      is_dropped_when_it_has_finished = refl;
      stores_without_a_load = refl;
      takes_back_without_a_load = refl;
      blocks = refl;
      stops_by_a_swap = refl;
      is_dropped_over_its_copy = refl;
      is_dropped_twice = refl;
      is_dropped_in_its_poll = refl;
      is_dropped_without_a_load = refl;
    }

pub future_runs : FutureRuns
future_runs =
    record {
      becomes_a_future = computed (refl, refl);
      waits_by_a_poll = computed (refl, (refl, (refl, (refl, refl))));
      finds_no_memory_for_a_copy = computed (refl, (refl, (refl, refl)));
      finds_the_message_by_its_exchange = computed (refl, (refl, (refl, (refl, (refl, (refl, (refl, refl)))))));
      finds_no_sender_by_its_exchange = computed (refl, (refl, (refl, (refl, (refl, refl)))));
      replaces_its_copy = computed (refl, (refl, (refl, (refl, (refl, (refl, refl))))));
      polls_too_late = computed (refl, (refl, (refl, (refl, refl))));
      polls_while_the_sender_finishes = computed (refl, (refl, refl));
      tries_in_vain = computed (refl, refl);
      tries_while_the_sender_finishes = computed (refl, refl);
      receives_by_a_try = computed (refl, (refl, (refl, refl)));
      drops_its_copy = computed (refl, (refl, (refl, (refl, refl))));
      leaves_its_copy_with_the_sender = computed (refl, (refl, (refl, refl)));
      frees_where_the_sender_has_finished = computed (refl, (refl, (refl, refl)));
    }

pub future_runs_that_are_not : FutureRunsThatAreNot
future_runs_that_are_not =
    record {
      keeps_the_old_copy = λ run. let e = answers (goes_on (Future AgainCopy) refl run) in cc;
      waits_for_nothing = λ run. let e = answers (goes_on (Future PollCopy) refl run) in cc;
      forgets_its_copy =
          λ run. let e =
          begins (goes_on (Future PollBackFull) refl
          (goes_on (Future PollExchange) refl
          (goes_on (Future PollWrite) refl (goes_on (Future PollCopy) refl run))))
          in cc;
      waits_in_its_poll = λ run. let e = begins (goes_on (Future PollOwn) refl run) in cc;
      sleeps_unwoken = λ run. let e = answers run in cc;
      tries_and_takes_its_copy_back = λ run. let e = (does_go_on run).1 in cc;
      frees_before_the_sender = λ run. let e = (does_go_on (goes_on (AsyncDrop AsyncSwap) refl run)).1 in cc;
      drops_its_copy_too_early = λ run. let e = begins (goes_on (AsyncDrop AsyncExchange) refl run) in cc;
    }
