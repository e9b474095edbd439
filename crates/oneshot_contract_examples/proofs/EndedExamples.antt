-- The examples of what is there once an end is over are so: each moment is a state that the rule has.
use Rattle.std.proofs.Common.{◌≡◌, ℕ, List, [], ◌∷◌, Option, Some, None, refl, sym, ◌∙◌}
use Rattle.std.specs.Prelude.{⊤}
use Rattle.futures.specs.declared.task.waker.Waker.{Waker}
use Rattle.oneshot_machine.specs.declared.states.TheConstants.{RECEIVING, UNPARKING, DISCONNECTED, EMPTY, MESSAGE}
use Rattle.oneshot_machine.specs.Noted.{Noted}
use Rattle.oneshot_machine.specs.Runs.{last}
use Rattle.oneshot_machine.specs.Over.{over_finished, is_late, is_overtaken, left_first}
use Rattle.oneshot_word.proofs.Names.{Word, Load, Swap, Exchange, Add, Xor, Reaches, nothing_made, sender_makes, receiver_makes, has_row, head, tail}
use Rattle.oneshot_word.proofs.Names.{lies_out, lies_bare, lies_filled, took_none, took_it, claimed_none, runs}
use Rattle.oneshot_word.specs.Rule.{Home, out, bare, has_message, Tied}
use Rattle.oneshot_word.specs.Received.{both_views}
use Rattle.oneshot_ends.specs.declared.token.WakingHalf.{WakingHalf}
use Rattle.oneshot_values.specs.FirstFound.{first_found}
use Rattle.oneshot_contract_examples.proofs.ComputedRuns.{computed}
use Rattle.oneshot_contract_examples.specs.EndedExamples.{sent_here, dropped_here, found_no_sender, FindsThatAre, FindsThatAreNot}
use Rattle.oneshot_contract_examples.specs.ExampleLogs.{loaded, waits, polled, sent_over}
use Rattle.oneshot_contract_examples.specs.StateExamples.{stopped_over, left_meanwhile, dropped_over, went}
use Rattle.oneshot_contract_examples.specs.TakenExamples.{passed_by, Beside}

-- a moment with this word and these homes
at_moment : {xs ys : List Noted} {given taken : Option ℕ} (word : ℕ) (message waker : Home ℕ WakingHalf Waker)
    → Tied {H = WakingHalf} {K = Waker} {P = ⊤} (λ about message. ⊤) tt (word ∷ []) (message ∷ waker ∷ [])
    (both_views tt xs given None ys taken None) → Beside (passed_by xs given) (passed_by ys taken)
at_moment word message waker allowed =
    record { about = tt; words = word ∷ []; homes = message ∷ waker ∷ []; allowed = allowed }

-- orders of both logs
sends : Reaches sent_here [] MESSAGE
sends = sender_makes Add nothing_made (has_row head)

drops : Reaches dropped_here [] DISCONNECTED
drops = sender_makes Xor nothing_made (has_row (tail (tail (tail head))))

loads : Reaches [] loaded EMPTY
loads = receiver_makes Load nothing_made (has_row head)

sends_after_a_load : Reaches sent_here loaded MESSAGE
sends_after_a_load = sender_makes Add loads (has_row head)

finds_a_message : Reaches sent_here ((Load, Word MESSAGE) ∷ []) MESSAGE
finds_a_message = receiver_makes Load sends (has_row (tail head))

begins_to_wait : Reaches [] waits RECEIVING
begins_to_wait = receiver_makes (Swap RECEIVING) loads (has_row (tail (tail (tail head))))

runs_late : Reaches (sent_over EMPTY) (stopped_over UNPARKING) MESSAGE
runs_late =
    sender_makes (Swap MESSAGE)
    (receiver_makes (Swap EMPTY) (sender_makes Add begins_to_wait (has_row (tail head)))
    (has_row (tail (tail (tail (tail (tail head))))))) (has_row (tail head))

drops_and_wakes : Reaches (dropped_over UNPARKING) waits DISCONNECTED
drops_and_wakes =
    sender_makes (Swap DISCONNECTED)
    (sender_makes Xor begins_to_wait (has_row (tail (tail (tail (tail head)))))) (has_row head)

finds_a_drop : Reaches dropped_here found_no_sender DISCONNECTED
finds_a_drop = receiver_makes Load drops (has_row (tail (tail head)))

goes : Reaches [] went DISCONNECTED
goes = receiver_makes (Swap DISCONNECTED) nothing_made (has_row (tail (tail (tail head))))

polls_and_waits : Reaches [] polled RECEIVING
polls_and_waits =
    receiver_makes (Exchange EMPTY RECEIVING) loads (has_row (tail (tail (tail (tail (tail (tail head)))))))

goes_meanwhile : Reaches (sent_over DISCONNECTED) left_meanwhile MESSAGE
goes_meanwhile =
    sender_makes (Swap MESSAGE)
    (receiver_makes (Swap DISCONNECTED)
    (receiver_makes Load (sender_makes Add polls_and_waits (has_row (tail head))) (has_row (tail head)))
    (has_row (tail (tail (tail head))))) (has_row (tail (tail head)))

pub finds_that_are : FindsThatAre
finds_that_are =
    record {
      sent_beside_a_new_one = λ m. (
        at_moment MESSAGE (has_message m) bare
            (runs _ _ sends (lies_filled m (tt, refl)) lies_bare took_none claimed_none),
        over_finished,
        refl,
      );
      sent_after_its_load = λ m. (
        at_moment MESSAGE (has_message m) out
            (runs _ _ sends_after_a_load (lies_filled m (tt, refl)) lies_out took_none claimed_none),
        over_finished,
        refl,
      );
      sent_to_an_overdue_one = λ m. (
        at_moment MESSAGE (has_message m) bare
            (runs _ _ runs_late (lies_filled m (tt, refl)) lies_bare took_none claimed_none),
        over_finished,
        refl,
      );
      dropped_beside_a_new_one = (
        at_moment DISCONNECTED bare bare (runs _ _ drops lies_bare lies_bare took_none claimed_none),
        over_finished,
        refl,
      );
      dropped_beside_one_that_waits = (
        at_moment DISCONNECTED bare bare (runs _ _ drops_and_wakes lies_bare lies_bare took_none claimed_none),
        over_finished,
        refl,
      );
      found_its_message = λ m. (
        at_moment MESSAGE out out
            (runs _ _ finds_a_message lies_out lies_out (took_it m refl) claimed_none),
        refl,
      );
      found_a_drop = (
        at_moment DISCONNECTED out out (runs _ _ finds_a_drop lies_out lies_out took_none claimed_none),
        refl,
        refl,
      );
      went_before_a_send = (
        at_moment DISCONNECTED out bare (runs _ _ goes lies_out lies_bare took_none claimed_none),
        left_first,
      );
      went_and_refused = (
        at_moment EMPTY out out
            (runs _ _ (sender_makes Add goes (has_row (tail (tail head)))) lies_out lies_out took_none claimed_none),
        is_late _,
      );
      went_and_overtook = (
        at_moment MESSAGE out out (runs _ _ goes_meanwhile lies_out lies_out took_none claimed_none),
        is_overtaken _,
        left_first,
      );
      is_there = λ m. record { message = m; gave = refl; waker = bare; there = refl };
      sends_leave = refl;
      drops_leave = refl;
      took_it = (computed (refl, (refl, (refl, refl))), first_found Load _);
      found_no_message = (last _ refl refl, first_found Load _);
      was_refused = (computed (refl, (refl, refl)), first_found Add _);
      ran_out_seeks = refl;
      withdrawn_seeks = refl;
      overwritten_is_answered = refl;
      received_is_answered = refl;
      a_try_receives = refl;
      a_recv_receives = refl;
      a_recv_ref_receives = refl;
      a_recv_deadline_receives = refl;
      a_recv_timeout_receives = λ representable. refl;
      a_poll_receives = refl;
      a_futures_try_receives = refl;
    }

pub finds_that_are_not : FindsThatAreNot
finds_that_are_not =
    record {
      is_lost = λ s there. cc there.there;
      is_another = λ s gave there.
          let e : ◌≡◌ {A = Option ℕ} (Some 8) (Some there.message) = sym gave ∙ there.gave in cc (e, there.there);
      was_not_given = λ s homes gave there.
          let e : ◌≡◌ {A = Option ℕ} None (Some there.message) = sym gave ∙ there.gave in cc e;
      found_it_later = λ first. elim first [ ];
      found_another = λ first. elim first [ ];
      found_none = λ first. elim first [ ];
      full_seeks = λ seeks. cc seeks;
      received_seeks = λ seeks. cc seeks;
      overwritten_seeks = λ seeks. cc seeks;
      disconnected_seeks = λ seeks. cc seeks;
      dropped_seeks = λ seeks. cc seeks;
      new_is_answered = λ answered. cc answered;
      loaded_is_answered = λ answered. cc answered;
      waiting_is_answered = λ answered. cc answered;
      overdue_is_answered = λ answered. cc answered;
      dropped_is_answered = λ answered. cc answered;
      a_look_receives = refl;
      another_look_receives = refl;
      a_drop_receives = refl;
      a_futures_drop_receives = refl;
      into_future_receives = refl;
    }
