-- Proofs of the examples of orders: each order operation by operation, and why the other logs have none.
use Rattle.std.proofs.Common.{ℕ, [], ◌∷◌, ◌++◌}
use Rattle.oneshot_machine.specs.declared.machine.Seen.TheVariants.{Word}
use Rattle.oneshot_machine.specs.declared.states.Op.TheVariants.{Load, Store, Swap, Exchange, Add, Xor}
use Rattle.oneshot_machine.specs.declared.states.TheConstants.{RECEIVING, UNPARKING, DISCONNECTED, EMPTY, MESSAGE}
use Rattle.oneshot_machine.specs.Orders.{Reaches, has_row, nothing_made, sender_makes, receiver_makes}
use Rattle.oneshot_contract_examples.specs.OrderExamples.{OrdersThatAre, OrdersThatAreNot}
use Rattle.oneshot_machine.specs.Slots.{head, tail}
use Rattle.oneshot_machine.proofs.OrdersAhead.{Ahead, sender_first, receiver_first, ahead}
use Rattle.oneshot_contract_examples.specs.ExampleLogs.{sent_over, waits}

loaded_empty : Reaches [] ((Load, Word EMPTY) ∷ []) EMPTY
loaded_empty = receiver_makes Load nothing_made (has_row head)

stored_first : Reaches [] waits RECEIVING
stored_first = receiver_makes (Swap RECEIVING) loaded_empty (has_row (tail (tail (tail head))))

found_waiting : Reaches ((Add, Word RECEIVING) ∷ []) waits UNPARKING
found_waiting = sender_makes Add stored_first (has_row (tail head))

sent_first : Reaches ((Add, Word EMPTY) ∷ []) [] MESSAGE
sent_first = sender_makes Add nothing_made (has_row head)

gone : Reaches [] ((Swap DISCONNECTED, Word EMPTY) ∷ []) DISCONNECTED
gone = receiver_makes (Swap DISCONNECTED) nothing_made (has_row (tail (tail (tail head))))

-- the receiver woke too early, and its deadline was over
woke : Reaches ((Add, Word RECEIVING) ∷ []) (waits ++ (Load, Word UNPARKING) ∷ []) UNPARKING
woke = receiver_makes Load found_waiting (has_row (tail head))

stopped : Reaches ((Add, Word RECEIVING) ∷ []) (waits ++ (Swap EMPTY, Word UNPARKING) ∷ (Load, Word EMPTY) ∷ []) EMPTY
stopped =
    receiver_makes Load (receiver_makes (Swap EMPTY) found_waiting (has_row (tail (tail (tail (tail (tail head)))))))
    (has_row head)

pub orders_that_are : OrdersThatAre
orders_that_are =
    record {
      new = nothing_made;
      received =
          receiver_makes (Store DISCONNECTED) (receiver_makes Load sent_first (has_row (tail head))) (has_row head);
      waited_for_it =
          receiver_makes Load (sender_makes (Swap MESSAGE) woke (has_row head)) (has_row (tail (tail head)));
      stopped_too_late = sender_makes (Swap MESSAGE) stopped (has_row (tail head));
      polled =
          receiver_makes (Exchange EMPTY RECEIVING) (sender_makes Xor loaded_empty (has_row (tail (tail (tail head)))))
          (has_row (tail (tail (tail (tail (tail (tail (tail (tail head)))))))));
      sent_too_late = sender_makes Add gone (has_row (tail (tail head)));
    }

begins_at_another_word : Ahead EMPTY [] [] 0 → ⊥
begins_at_another_word goes = elim goes [ ]

finds_what_nobody_left : {word : ℕ} → Ahead EMPTY [] ((Load, Word MESSAGE) ∷ []) word → ⊥
finds_what_nobody_left (receiver_first _ saw_so _) = cc

finds_no_waker : {word : ℕ} → Ahead EMPTY ((Add, Word RECEIVING) ∷ []) ((Load, Word EMPTY) ∷ []) word → ⊥
finds_no_waker (sender_first _ saw_so _) = cc
finds_no_waker (receiver_first _ _ (sender_first _ saw_so _)) = cc

skips_the_last : Ahead EMPTY ((Add, Word EMPTY) ∷ []) ((Load, Word EMPTY) ∷ []) EMPTY → ⊥
skips_the_last (sender_first _ _ (receiver_first _ saw_so _)) = cc
skips_the_last (receiver_first _ _ (sender_first _ _ goes)) = elim goes [ ]

skips_a_swap : {word : ℕ} → Ahead EMPTY ((Add, Word EMPTY) ∷ []) waits word → ⊥
skips_a_swap (sender_first _ _ (receiver_first _ saw_so _)) = cc
skips_a_swap (receiver_first _ _ (sender_first _ _ (receiver_first _ saw_so _))) = cc
skips_a_swap (receiver_first _ _ (receiver_first _ _ (sender_first _ saw_so _))) = cc

skips_a_stop : {word : ℕ} → Ahead EMPTY (sent_over EMPTY) (waits ++ (Load, Word MESSAGE) ∷ []) word → ⊥
skips_a_stop (sender_first _ saw_so _) = cc
skips_a_stop (receiver_first _ _ (sender_first _ saw_so _)) = cc
skips_a_stop (receiver_first _ _ (receiver_first _ _ (receiver_first _ saw_so _))) = cc
skips_a_stop (receiver_first _ _ (receiver_first _ _ (sender_first _ _ (sender_first _ saw_so _)))) = cc
skips_a_stop (receiver_first _ _ (receiver_first _ _ (sender_first _ _ (receiver_first _ saw_so _)))) = cc

pub orders_that_are_not : OrdersThatAreNot
orders_that_are_not =
    record {
      begins_at_another_word = λ order. begins_at_another_word (ahead order);
      finds_what_nobody_left = λ order. finds_what_nobody_left (ahead order);
      finds_no_waker = λ order. finds_no_waker (ahead order);
      skips_the_last = λ order. skips_the_last (ahead order);
      skips_a_swap = λ order. skips_a_swap (ahead order);
      skips_a_stop = λ order. skips_a_stop (ahead order);
    }
