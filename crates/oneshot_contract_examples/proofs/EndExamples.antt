-- The examples of open and closed ends, logs of calls, orders, copies and grounds, computed.
use Rattle.std.proofs.Common.{◌≡◌, ℕ, Bool, true, false, List, [], ◌∷◌, Option, Some, None, get_or, drop, refl, sym, ap, ◌∙◌, subst, inl, inr}
use Rattle.std.specs.declared.time.Duration.{Duration}
use Rattle.atomic_table.specs.Seated.{TableId}
use Rattle.futures.specs.declared.task.context.Context.{Context}
use Rattle.oneshot_machine.specs.declared.machine.Reply.{Reply}
use Rattle.oneshot_machine.specs.declared.machine.Reply.TheVariants as R
use Rattle.oneshot_machine.specs.declared.machine.Seen.TheVariants.{Word, Over}
use Rattle.oneshot_machine.specs.declared.machine.Step.TheVariants as Steps
use Rattle.oneshot_machine.specs.declared.machine.by_ref.RefPos.TheVariants.{StartLoad, StartWrite, StartSwap}
use Rattle.oneshot_machine.specs.declared.machine.receiver.ReceiverPos.TheVariants.{Ref, Timed}
use Rattle.oneshot_machine.specs.declared.machine.receiver.ReceiverStart.TheVariants.{TryRecv, RecvTimeout}
use Rattle.oneshot_machine.specs.declared.machine.sender.SenderCall.{SenderCall}
use Rattle.oneshot_machine.specs.declared.machine.sender.SenderCall.TheVariants.{Send}
use Rattle.oneshot_machine.specs.declared.machine.sender.SenderPos.TheVariants.{SendAdd}
use Rattle.oneshot_machine.specs.declared.machine.timed.TimedPos.TheVariants.{SumClock, Clock, EndSwap, EndBack}
use Rattle.oneshot_machine.specs.declared.states.Op.TheVariants.{Load, Store, Swap, Add}
use Rattle.oneshot_machine.specs.declared.states.TheConstants.{RECEIVING, DISCONNECTED, EMPTY, MESSAGE}
use Rattle.oneshot_machine.specs.Called.{not_called, became_future, SenderCalled, not_called_yet, called_once}
use Rattle.oneshot_machine.specs.Logs.{did, handed, clocked, worded}
use Rattle.oneshot_machine.specs.Noted.{Noted}
use Rattle.oneshot_machine.specs.Phases.{sending, dropping, SenderAt, fresh, finished, sender_at, no_receiver, receiver_at}
use Rattle.oneshot_machine.specs.Orders.{has_row, nothing_made, sender_makes, receiver_makes}
use Rattle.oneshot_machine.specs.Receiver.{receiver_row}
use Rattle.oneshot_machine.specs.Runs.{Run, last, more}
use Rattle.oneshot_machine.specs.Sender.{sender_start, sender_step, sender_row}
use Rattle.oneshot_machine.specs.Slots.{head}
use Rattle.oneshot_machine.specs.TableRows.{Goes, Answers}
use Rattle.oneshot_machine.proofs.FirstSteps.{tries_once, tries_in_vain, sends_with}
use Rattle.oneshot_word.proofs.Between.{between}
use Rattle.oneshot_word.proofs.RuleImplies.{Is, word_between}
use Rattle.oneshot_ends.specs.Deadlines.{TimeoutRan}
use Rattle.oneshot_ends.specs.Ends.{UnnamedWaker, SenderGrew, ReceiverGrew}
use Rattle.oneshot_contract_examples.specs.EndExamples.{ran_out, EndsThatAre, EndsThatAreNot, CallsThatGrow, CallsThatDoNotGrow, CopiesThatAre}
use Rattle.oneshot_contract_examples.specs.EndExamples.{CopiesThatAreNot, RealGroundsThatAre}
use Rattle.oneshot_ends.specs.OwnWakers.{is_waiting}
use Rattle.oneshot_contract_examples.specs.EndExamples.{RealGroundsThatAreNot, OrderedLogs, UnorderedLogs}
use Rattle.oneshot_ends.proofs.CallsAnswered.{one_more, was_refused}
use Rattle.oneshot_ends.proofs.TimeoutEnds.{with_an_end}
use Rattle.oneshot_drive.proofs.Endless.{never_runs_out}
use Rattle.oneshot_contract_examples.proofs.ComputedRuns.{computed}

module _ {T : Type 0} where
  sends_over : (word : ℕ) (r : Reply) → sender_row SendAdd (Word word) ≡ Some (Answers r)
      → SenderGrew T Send [] ((Add, Word word) ∷ []) r
  sends_over word r leads =
      record {
        run = did Steps.WriteMessage ∷ worded Add word ∷ [];
        is_run = more SendAdd _ _ refl refl (last (worded Add word) refl leads);
        list = refl;
      }

module _ (channel : TableId) where
  pub ends_that_are : EndsThatAre channel
  ends_that_are =
      record {
        new_is_open = refl;
        loaded_is_open = refl;
        ran_out_is_open = refl;
        received_is_closed = refl;
        found_closed_is_closed = refl;
        new_future_is_open = refl;
        polled_is_open = refl;
        polled_and_received_is_closed = refl;
        sender_is_gone = refl;
        error_was_refused = was_refused (sends_over 2 R.Refused refl);
      }

  pub ends_that_are_not : EndsThatAreNot channel
  ends_that_are_not =
      record {
        new_is_closed = λ e. cc;
        ran_out_is_closed = λ e. cc;
        received_is_open = λ e. cc;
        found_closed_is_open = λ e. cc;
        takes_and_is_open = λ e. cc;
        polled_is_closed = λ e. cc;
        polled_and_received_is_open = λ e. cc;
        sender_is_gone_and_it_waits = λ e. cc;
      }

module _ {T : Type 0} where
  -- a receive whose deadline is over once it has stored its waker
  runs_out : (over : Bool) → ReceiverGrew T (RecvTimeout true) [] ran_out R.Timeout
  runs_out over =
      record {
        run =
            clocked over ∷ worded Load EMPTY ∷ handed Steps.WriteWaker tt ∷ worded (Swap RECEIVING) EMPTY ∷ clocked true
            ∷ worded (Swap EMPTY) RECEIVING ∷ handed Steps.Withdraw tt ∷ [];
        is_run =
            more (Ref (StartLoad true)) _ _ refl (sums over)
            (more (Ref (StartWrite true)) _ _ refl refl
            (more (Ref (StartSwap true)) _ _ refl refl
            (more (Timed Clock) _ _ refl refl
            (more (Timed EndSwap) _ _ refl refl
            (more (Timed EndBack) _ _ refl refl (last _ refl refl))))));
        list = refl;
      }
    where
      sums : (over : Bool) → receiver_row (Timed (SumClock true)) (Over over) ≡ Some (Goes (Ref (StartLoad true)))
      sums true = refl
      sums false = refl

  pub calls_that_grow : CallsThatGrow T
  calls_that_grow =
      record {
        sends = sends_over 3 R.Sent refl;
        is_refused = sends_over 2 R.Refused refl;
        was_refused = was_refused (sends_over 2 R.Refused refl);
        tries = record { run = worded Load EMPTY ∷ []; is_run = last _ refl refl; list = refl };
        takes =
            record {
              run = worded Load MESSAGE ∷ worded (Store DISCONNECTED) MESSAGE ∷ did Steps.TakeMessage ∷ [];
              is_run = computed (refl, (refl, (refl, refl)));
              list = refl;
            };
        has_tried = (_, one_more TryRecv refl not_called tried);
        has_not_polled = (_, became_future not_called);
        runs_out_at_once = λ timeout. at_once (runs_out true);
        runs_out =
            λ timeout now fits sum. record { has_end = true; held = (λ _. sum, λ _. refl); grew = runs_out false };
        says_no_less =
            λ timeout before after reply.
            (λ grew. (None, at_once grew), λ (reading, ran). with_an_end ran.has_end ran.grew);
      }
    where
      at_once : {timeout : Duration} {before after : List Noted} {reply : Reply}
          → ReceiverGrew T (RecvTimeout true) before after reply → TimeoutRan T timeout None before after reply
      at_once grew = record { has_end = true; held = (λ _. tt, λ _. refl); grew = grew }

      tried : ReceiverGrew T TryRecv [] ((Load, Word EMPTY) ∷ []) R.Empty
      tried = record { run = worded Load EMPTY ∷ []; is_run = last _ refl refl; list = refl }

  -- the one call of an error, from its log
  refused_with : {calls : List (SenderCall × Reply)} {log : List Noted} → SenderCalled T UnnamedWaker calls log
      → calls ≡ (Send, R.Refused) ∷ [] → SenderGrew T Send [] log R.Refused
  refused_with not_called_yet is = absurd (cc is)
  refused_with (called_once call reply run its made) is =
      let same : (call, reply) ≡ (Send, R.Refused) = cc is in
      record {
        run = run;
        is_run = subst (λ (x : SenderCall × Reply). Run sender_step sender_row (sender_start x.0) run x.1) same made;
        list = refl;
      }

  -- a receive without an end never runs out, whatever its log
  never_ends : {log : List Noted} (has_end : Bool) → (has_end ≡ true → ⊥)
      → ReceiverGrew T (RecvTimeout has_end) [] log R.Timeout → ⊥
  never_ends true ends grew = ends refl
  never_ends false ends grew = never_runs_out (Timed (SumClock false)) grew.run refl grew.is_run

  pub calls_that_do_not_grow : CallsThatDoNotGrow T
  calls_that_do_not_grow =
      record {
        says_that_it_sent = λ grew. let e = sends_with {s = R.Refused} refl grew.is_run grew.list in cc;
        says_that_it_was_refused = λ grew. let e = sends_with {s = R.Sent} refl grew.is_run grew.list in cc;
        was_not_refused =
            λ was. let grew = refused_with was refl in
            let e = sends_with {s = R.Sent} refl grew.is_run grew.list in cc;
        forgets_its_add = λ grew. let e = grew.list in cc;
        finds_the_message_in_3 = λ grew. tries_in_vain grew.is_run grew.list;
        forgets_its_load = λ grew. let e = grew.list in cc;
        loads_nothing = λ grew. tries_once grew.is_run (sym grew.list);
        runs_out_of_no_end = λ timeout now log sum ran. never_ends ran.has_end (λ ends. sum (ran.held.0 ends)) ran.grew;
      }

pub ordered_logs : OrderedLogs
ordered_logs =
    record {
      sent = ([], 4, sender_makes Add nothing_made (has_row head));
      loaded = ([], 3, receiver_makes Load nothing_made (has_row head));
    }

no_order : (p : SenderAt) {word : ℕ} → Is (word_between p no_receiver) word → ⊥
no_order fresh met = elim met [ ]
no_order (finished sending) met = elim met [ ]
no_order (finished dropping) met = elim met [ ]
no_order _ met = elim met [ ]

pub unordered_logs : UnorderedLogs
unordered_logs =
    record {
      sent_over_a_message = λ (ys, word, reaches). elim (between reaches) [ ];
      found_a_waker_first = λ (xs, word, reaches). no_order (sender_at xs) (between reaches);
    }

module _ (before after : Context) where
  pub copies_that_are : CopiesThatAre before after
  copies_that_are =
      record {
        made = λ copy its wakes. (its, inr wakes);
        none_in_hand = tt;
        of_another = λ copy other. other;
        in_hand = λ copy s wakes. inr wakes;
        gave_none = λ s logs slot.
            record {
              slot = λ k e. absurd (let no = sym slot ∙ e in cc no);
              gave = λ waits. absurd (let no = sym (ap (λ xs. is_waiting (receiver_at xs)) logs) ∙ waits in cc no);
            };
      }

  pub copies_that_are_not : CopiesThatAreNot before after
  copies_that_are_not =
      record {
        made_none = λ made. made;
        made_for_another = λ copy other made. other made.0;
        wakes_another = λ copy lacks other made. elim made.1 [ inl lacking ↦ cc | inr wakes ↦ other wakes ];
        has_one = λ copy its none. none its;
        none_to_give = λ s has. has;
        has_anothers = λ copy s lacks other has. elim has [ inl lacking ↦ cc | inr wakes ↦ other wakes ];
      }

-- whether the message's slot is the end's
abbrev has_room : Option (Bool × Bool) → Bool
has_room (Some owns) = owns.0
has_room None = false

module _ (table : TableId) where
  pub real_grounds_that_are : RealGroundsThatAre table
  real_grounds_that_are =
      record {
        keeps_its_slots = refl;
        freed_the_message = refl;
        freed_the_waker = refl;
        tells_tables_apart =
            λ other same i.
            record {
              words = get_or (same i) 0 0;
              slots = get_or (same i) 1 0;
              views_name = get_or (same i) 2 0;
              atom = get_or (same i) 3 0;
              block = get_or (same i) 4 0;
              offset = get_or (same i) 5 0;
              slot_names = drop 6 (same i);
            };
        is_its_channel = refl;
        no_message = refl;
        a_message = refl;
        a_copy = refl;
        no_copy = refl;
        shows_operations = refl;
        is_not_whole = refl;
        names_its_table = refl;
        names_what_was_lent = refl;
        shows_a_token = refl;
        shows_the_message = refl;
        frees_when_closed = refl;
        frees_nothing = tt;
      }

  pub real_grounds_that_are_not : RealGroundsThatAreNot table
  real_grounds_that_are_not =
      record {
        frees_while_open = λ e. let message : false ≡ true = ap has_room e in cc message;
        frees_once_gone = λ e. let message : false ≡ true = ap has_room e in cc message;
        new_with_a_message = λ new. elim new.message [ ];
        new_with_its_waker = λ new. elim new.waker [ ];
        new_with_a_log = λ new. let e = new.log in cc;
      }
