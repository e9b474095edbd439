-- Proofs of the examples of a ground's logs: each run row by row, and what each counterexample lacks.
use Rattle.std.proofs.Common.{◌≡◌, ℕ, true, false, List, [], ◌∷◌, Option, refl, sym, ap, subst, ◌∙◌, arith}
use Rattle.oneshot_machine.specs.declared.machine.Reply.{Reply}
use Rattle.oneshot_machine.specs.declared.machine.Seen.{Seen}
use Rattle.oneshot_machine.specs.declared.machine.Step.{Step}
use Rattle.oneshot_machine.specs.declared.machine.receiver.ReceiverPos.TheVariants.{Try}
use Rattle.oneshot_machine.specs.declared.machine.sender.SenderPos.TheVariants.{SendAdd}
use Rattle.oneshot_machine.specs.declared.machine.try_recv.TryPos.TheVariants.{Close, Take}
use Rattle.oneshot_machine.specs.declared.states.Op.TheVariants.{Load}
use Rattle.oneshot_machine.specs.declared.states.TheConstants.{EMPTY}
use Rattle.oneshot_contract_examples.specs.RunExamples.{sending_7, receiving_7}
use Rattle.oneshot_contract_examples.specs.LogExamples.{logged, LogsThatGrow, LogsThatDoNot}
use Rattle.oneshot_machine.specs.Logs.{Event, worded, words, messages_given, messages_got}
use Rattle.oneshot_machine.specs.Runs.{Run, last, more, Ran}
use Rattle.oneshot_machine.specs.TableRows.{Outcome}
use Rattle.oneshot_contract_examples.proofs.CountExamples.{all_added}
use Rattle.oneshot_contract_examples.proofs.NoRunExamples.{begins, answers, does_go_on, goes_on}

pub logs_that_grow : LogsThatGrow
logs_that_grow =
    record {
      keeps_all = record { whole = refl; channel = refl; list = refl };
      keeps_its_operations = record { whole = refl; channel = refl; list = refl };
      goes_on = record { whole = refl; channel = refl; list = refl };
      stands_still = record { whole = refl; channel = refl; list = refl };
      new_sender = refl;
      has_sent = refl;
      owes_its_swap = refl;
      new_receiver = refl;
      has_received = refl;
      sends = record {
        run = sending_7;
        is_run = more SendAdd _ _ refl refl (last _ refl refl);
        grows = record { whole = refl; channel = refl; list = refl };
        gives = refl;
        gets = refl;
      };
      sends_by_its_operation = record {
        run = sending_7;
        is_run = more SendAdd _ _ refl refl (last _ refl refl);
        grows = record { whole = refl; channel = refl; list = refl };
        gives = refl;
        gets = refl;
      };
      receives = record {
        run = receiving_7;
        is_run = more (Try Close) _ _ refl refl (more (Try Take) _ _ refl refl (last _ refl refl));
        grows = record { whole = refl; channel = refl; list = refl };
        gives = refl;
        gets = refl;
      };
      receives_nothing = record {
        run = worded Load EMPTY ∷ [];
        is_run = last _ refl refl;
        grows = record { whole = refl; channel = refl; list = refl };
        gives = refl;
        gets = refl;
      };
      sends_by_two = record { added = _; list = refl; few = omega arith };
      receives_by_two = record { added = words receiving_7; list = refl; few = omega arith };
      has_no_bound = tt;
      forgets_without_a_bound = tt;
    }

-- the run of a whole ground whose log was empty is its list
module _ {P : Type 0} {step : P → Step} {row : P → Seen → Option (Outcome P)} {from : P} {list : List (Event ℕ ℕ)}
    {reply : Reply} {given got : List ℕ} (ran : Ran step row from (logged true []) (logged true list) reply given got)
  where
    its_run : Run step row from list reply
    its_run = subst (λ xs. Run step row from xs reply) (sym ran.grows.list) ran.is_run

    its_given : messages_given list ≡ given
    its_given = ap messages_given ran.grows.list ∙ ran.gives

    its_got : messages_got list ≡ got
    its_got = ap messages_got ran.grows.list ∙ ran.gets

pub logs_that_do_not : LogsThatDoNot
logs_that_do_not =
    record {
      becomes_whole = λ grows. let is : true ≡ false = grows.whole in cc is;
      changes_its_channel = λ grows. let is : 6 ∷ [] ≡ 5 ∷ [] = grows.channel in cc is;
      keeps_nothing = λ grows. let is = grows.list in cc is;
      keeps_too_much = λ grows. let is = grows.list in cc is;
      keeps_too_little = λ grows. let is = grows.list in cc is;
      forgets = λ grows. let is = grows.list in cc is;
      does_more = λ grows. let is = grows.list in cc is;
      writes_nothing = λ ran. let is = begins (its_run ran) in cc is;
      replies_otherwise = λ ran. let is = answers (goes_on SendAdd refl (its_run ran)) in cc is;
      drops = λ ran. let is = begins (its_run ran) in cc is;
      peeks = λ ran. let is = (does_go_on (its_run ran)).1 in cc is;
      does_nothing = λ ran. elim (its_run ran) [ ];
      runs_elsewhere = λ ran. let is : 6 ∷ [] ≡ 5 ∷ [] = ran.grows.channel in cc is;
      gives_another = λ ran. let is : 7 ∷ [] ≡ 8 ∷ [] = its_given ran in cc is;
      gives_none = λ ran. let is : 7 ∷ [] ≡ [] = its_given ran in cc is;
      gets_another = λ ran. let is : 7 ∷ [] ≡ 8 ∷ [] = its_got ran in cc is;
      gets_none = λ ran. let is : 7 ∷ [] ≡ [] = its_got ran in cc is;
      loads_thrice = λ grew. let few = all_added grew in omega arith;
      forgets_its_operations = λ grew. let list = grew.list in cc list;
    }
