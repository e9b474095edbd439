-- The examples of messages and wakers that pass, each from the rule, and why the others do not.
use Rattle.std.proofs.Common.{[], ◌∷◌, refl}
use Rattle.oneshot_word.proofs.Names.{Load, Add, nothing_made, sender_makes, receiver_makes, has_row, head, tail}
use Rattle.oneshot_word.proofs.Names.{lies_out, lies_bare, lies_filled, took_none, took_it, runs}
use Rattle.oneshot_word.proofs.Names.{Swap, Exchange}
use Rattle.oneshot_word.proofs.Names.{Word, Reaches, claimed_none, claimed_it}
use Rattle.oneshot_word.proofs.Names.{RECEIVING, EMPTY, MESSAGE}
use Rattle.oneshot_word.proofs.RuleReceives.{was_given, lies_given, was_put, never_claimed, rests_put}
use Rattle.oneshot_contract_examples.specs.ReceivedExamples.{MessagesThatPass, MessagesThatDoNot, WakersThatPass, WakersThatDoNot}
use Rattle.oneshot_contract_examples.specs.ExampleLogs.{polled, waits}

module _ {T P : Type 0} (H K : Type 0) (keeps : P → T → Type 0) where
  pub messages_that_pass : MessagesThatPass H K keeps
  messages_that_pass =
      record {
        lies_there = λ q m kept. runs _ _ (sender_makes Add nothing_made (has_row head)) (lies_filled m (kept, refl))
            lies_bare took_none claimed_none;
        was_taken = λ q m.
            runs _ _ (receiver_makes Load (sender_makes Add nothing_made (has_row head)) (has_row (tail head)))
            lies_out lies_out (took_it m refl) claimed_none;
      }

  pub messages_that_do_not : MessagesThatDoNot H K keeps
  messages_that_do_not =
      record {
        took_another = λ m other not_it tied. let is = was_given tied refl refl in not_it (cc is);
        took_what_none_gave = λ m tied. let is = was_given tied refl refl in cc is;
        another_lies = λ m other not_it tied. let is = lies_given tied refl refl in not_it (cc is);
        lies_and_none_gave = λ m tied. let is = lies_given tied refl refl in cc is;
      }

  loads : Reaches [] ((Load, Word EMPTY) ∷ []) EMPTY
  loads = receiver_makes Load nothing_made (has_row head)

  begins_to_wait : Reaches [] waits RECEIVING
  begins_to_wait = receiver_makes (Swap RECEIVING) loads (has_row (tail (tail (tail head))))

  polls_and_waits : Reaches [] polled RECEIVING
  polls_and_waits =
      receiver_makes (Exchange EMPTY RECEIVING) loads (has_row (tail (tail (tail (tail (tail (tail head)))))))

  pub wakers_that_pass : WakersThatPass H K keeps
  wakers_that_pass =
      record {
        rests_there = λ q k. runs _ _ begins_to_wait lies_out (lies_filled k refl) took_none claimed_none;
        was_taken = λ q k.
            runs _ _ (sender_makes Add begins_to_wait (has_row (tail head))) lies_out lies_out took_none
            (claimed_it k refl refl);
        was_used = λ q m k kept.
            runs _ _
            (sender_makes (Swap MESSAGE) (sender_makes Add begins_to_wait (has_row (tail head))) (has_row head))
            (lies_filled m (kept, refl)) lies_bare took_none (claimed_it k refl refl);
        was_used_of_a_future = λ q m k kept.
            runs _ _
            (sender_makes (Swap MESSAGE) (sender_makes Add polls_and_waits (has_row (tail head))) (has_row head))
            (lies_filled m (kept, refl)) lies_bare took_none (claimed_it k refl refl);
      }

  pub wakers_that_do_not : WakersThatDoNot H K keeps
  wakers_that_do_not =
      record {
        took_another = λ k other not_it tied. let is = was_put tied refl refl in not_it (cc is);
        took_what_none_gave = λ k tied. let is = was_put tied refl refl in cc is;
        took_it_unasked = λ k tied. never_claimed tied refl refl;
        another_rests = λ k other not_it tied. let is = rests_put tied refl refl in not_it (cc is);
      }
