-- The examples of the rule: each state by its row, and why no row fits the counterexamples.
use Rattle.std.proofs.Common.{[], ◌∷◌, refl}
use Rattle.oneshot_word.proofs.Names.{◌≢◌, Word, Add, sending, dropping}
use Rattle.oneshot_word.specs.declared.any_waker.AnyWaker.{AnyWaker}
use Rattle.oneshot_contract_examples.specs.StateExamples.{stopped_over, polled_over, exchanged_back, left_meanwhile, dropped_over, StatesThatAre}
use Rattle.oneshot_word.proofs.Names.{Home, out, bare, has_waker, IsSenders, IsReceivers, IsWords, Owned, both_open, waker_stored, waker_claimed, claimed_overdue, claimed_gone}
use Rattle.oneshot_contract_examples.specs.StateExamples.{StatesThatAreNot}
use Rattle.oneshot_word.proofs.Names.{receiver_gone, sender_after, written, sender_has_it, left_for_sender, left_for_receiver, receiver_has_it, receiver_found_it, waits_for_receiver}
use Rattle.oneshot_word.proofs.Names.{waker_at_home}
use Rattle.oneshot_word.proofs.Names.{EMPTY, RECEIVING, UNPARKING, DISCONNECTED, MESSAGE}
use Rattle.oneshot_word.specs.declared.any_waker.AnyWaker.TheVariants as R
use Rattle.oneshot_word.specs.EndLogs.{send_found, sent as sent_alone, sent_to_it, sent_to_overdue, dropped_before_overdue, sent_overtaken, dropped_overtaken}
use Rattle.oneshot_word.specs.ReadRule.{sender_sent, sender_dropped}
use Rattle.oneshot_contract_examples.specs.ExampleLogs.{claims, polled, sent_over, waits}

module _ {T H K : Type 0} where
  pub states_that_are : StatesThatAre T H K
  states_that_are =
      record {
        new = both_open refl refl refl sender_has_it left_for_receiver;
        waiting = λ k. waker_stored refl refl refl sender_has_it (waker_at_home k);
        claimed = waker_claimed sending send_found refl refl sender_has_it sender_has_it;
        claimed_too_late = claimed_overdue sending send_found refl refl sender_has_it sender_has_it;
        sent_to_it = λ x. sender_sent sent_to_it refl (waits_for_receiver x) left_for_receiver;
        sent_too_late = λ x. sender_sent sent_to_overdue refl (waits_for_receiver x) left_for_receiver;
        dropped_too_late = sender_dropped dropped_before_overdue refl left_for_receiver left_for_receiver;
        stopped_over_the_message = written sending sent_to_it refl receiver_has_it receiver_has_it;
        gone_first = receiver_gone refl refl sender_has_it left_for_sender;
        polls = λ k. waker_stored refl refl refl sender_has_it (waker_at_home k);
        took_back = both_open refl refl refl sender_has_it receiver_has_it;
        claimed_in_a_poll = waker_claimed sending send_found refl refl sender_has_it sender_has_it;
        sent_to_a_future = λ x. sender_sent sent_to_it refl (waits_for_receiver x) left_for_receiver;
        polled_too_late = sender_sent sent_alone refl receiver_found_it receiver_has_it;
        gone_meanwhile = claimed_gone sending send_found refl sender_has_it sender_has_it;
        sent_after_it = sender_after sending sent_overtaken refl sender_has_it sender_has_it;
        dropped_after_it = sender_after dropping dropped_overtaken refl sender_has_it sender_has_it;
      }

  waker_not_senders : (k : AnyWaker H K) → IsSenders {T = T} (has_waker k) → ⊥
  waker_not_senders (R.Thread half) is = elim is [ ]
  waker_not_senders (R.Task copy) is = elim is [ ]

  waker_not_receivers : (k : AnyWaker H K) → IsReceivers {T = T} (has_waker k) → ⊥
  waker_not_receivers (R.Thread half) is = elim is [ ]
  waker_not_receivers (R.Task copy) is = elim is [ ]

  bare_has_no_waker : (k : AnyWaker H K) → has_waker {T = T} k ≢ bare
  bare_has_no_waker (R.Thread half) e = cc
  bare_has_no_waker (R.Task copy) e = cc

  bare_not_words : {k : Home T H K} → IsWords k → k ≢ bare
  bare_not_words (waker_at_home k) = bare_has_no_waker k

  overdue_leaves_1 : {h k : Home T H K} → Owned claims (stopped_over UNPARKING) UNPARKING h k → ⊥
  overdue_leaves_1 (waker_claimed by found stores here m w) = cc
  overdue_leaves_1 (sender_after by made is m w) = elim made [ ]
  overdue_leaves_1 (written by made is m w) = elim made [ ]

  overdue_has_its_waker : {h : Home T H K} (k : AnyWaker H K)
      → Owned claims (stopped_over UNPARKING) EMPTY h (has_waker k) → ⊥
  overdue_has_its_waker k (both_open none stores here m w) = cc
  overdue_has_its_waker k (claimed_overdue by found late here m w) = waker_not_senders k w
  overdue_has_its_waker k (sender_after by made is m w) = elim made [ ]
  overdue_has_its_waker k (written by made is m w) = elim made [ ]

  waits_at_3 : {h k : Home T H K} → Owned claims waits EMPTY h k → ⊥
  waits_at_3 (both_open none stores here m w) = cc
  waits_at_3 (claimed_overdue by found late here m w) = cc
  waits_at_3 (sender_after by made is m w) = elim made [ ]
  waits_at_3 (written by made is m w) = elim made [ ]

  send_leaves_3 : {h k : Home T H K} → Owned (sent_over EMPTY) (stopped_over UNPARKING) EMPTY h k → ⊥
  send_leaves_3 (both_open none stores here m w) = cc
  send_leaves_3 (claimed_overdue by found late here m w) = elim found [ ]
  send_leaves_3 (sender_after by made is m w) = elim made [ ]
  send_leaves_3 (written by made is m w) = cc

  drop_leaves_3 : {h k : Home T H K} → Owned (dropped_over EMPTY) (stopped_over UNPARKING) EMPTY h k → ⊥
  drop_leaves_3 (both_open none stores here m w) = cc
  drop_leaves_3 (claimed_overdue by found late here m w) = elim found [ ]
  drop_leaves_3 (sender_after by made is m w) = elim made [ ]
  drop_leaves_3 (written by made is m w) = cc

  stop_leaves_0_over_the_message : {h k : Home T H K} → Owned (sent_over UNPARKING) (stopped_over MESSAGE) RECEIVING h k
      → ⊥
  stop_leaves_0_over_the_message (waker_stored none stores here m w) = cc
  stop_leaves_0_over_the_message (sender_after by made is m w) = elim made [ ]
  stop_leaves_0_over_the_message (written by made is m w) = cc

  stop_leaves_0_over_the_end : {h k : Home T H K}
      → Owned (dropped_over UNPARKING) (stopped_over DISCONNECTED) RECEIVING h k → ⊥
  stop_leaves_0_over_the_end (waker_stored none stores here m w) = cc
  stop_leaves_0_over_the_end (sender_after by made is m w) = elim made [ ]
  stop_leaves_0_over_the_end (written by made is m w) = cc

  message_lies_with_nobody : {k : Home T H K} → Owned (sent_over UNPARKING) waits MESSAGE bare k → ⊥
  message_lies_with_nobody (sender_after by made is m w) = elim made [ ]
  message_lies_with_nobody (sender_sent made is m w) = elim m [ ]
  message_lies_with_nobody (written by made is m w) = cc

  waker_is_gone : {h : Home T H K} → Owned [] waits RECEIVING h bare → ⊥
  waker_is_gone (waker_stored none stores here m w) = bare_not_words w refl
  waker_is_gone (sender_after by made is m w) = elim made [ ]
  waker_is_gone (written by made is m w) = elim made [ ]

  poll_leaves_3 : {h k : Home T H K} → Owned [] polled EMPTY h k → ⊥
  poll_leaves_3 (both_open none stores here m w) = cc
  poll_leaves_3 (claimed_overdue by found late here m w) = elim found [ ]
  poll_leaves_3 (sender_after by made is m w) = elim made [ ]
  poll_leaves_3 (written by made is m w) = elim made [ ]

  poll_has_its_copy : {h : Home T H K} → Owned [] polled RECEIVING h out → ⊥
  poll_has_its_copy (waker_stored none stores here m w) = elim w [ ]
  poll_has_its_copy (sender_after by made is m w) = elim made [ ]
  poll_has_its_copy (written by made is m w) = elim made [ ]

  takes_back_and_leaves_0 : {h k : Home T H K} → Owned [] (exchanged_back RECEIVING) RECEIVING h k → ⊥
  takes_back_and_leaves_0 (waker_stored none stores here m w) = cc
  takes_back_and_leaves_0 (sender_after by made is m w) = elim made [ ]
  takes_back_and_leaves_0 (written by made is m w) = elim made [ ]

  takes_nothing_back : {h : Home T H K} (k : AnyWaker H K) → Owned [] (exchanged_back RECEIVING) EMPTY h (has_waker k)
      → ⊥
  takes_nothing_back k (both_open none stores here m w) = waker_not_receivers k w
  takes_nothing_back k (claimed_overdue by found late here m w) = elim found [ ]
  takes_nothing_back k (sender_after by made is m w) = elim made [ ]
  takes_nothing_back k (written by made is m w) = elim made [ ]

  late_poll_leaves_0 : {h k : Home T H K} → Owned ((Add, Word EMPTY) ∷ []) (polled_over MESSAGE) RECEIVING h k → ⊥
  late_poll_leaves_0 (waker_stored none stores here m w) = cc
  late_poll_leaves_0 (sender_after by made is m w) = elim made [ ]
  late_poll_leaves_0 (written by made is m w) = cc

  takes_back_over_1 : {h k : Home T H K} → Owned claims (exchanged_back UNPARKING) EMPTY h k → ⊥
  takes_back_over_1 (both_open none stores here m w) = cc
  takes_back_over_1 (claimed_overdue by found late here m w) = cc
  takes_back_over_1 (sender_after by made is m w) = elim made [ ]
  takes_back_over_1 (written by made is m w) = elim made [ ]

  dropped_and_leaves_1 : {h k : Home T H K} → Owned claims left_meanwhile UNPARKING h k → ⊥
  dropped_and_leaves_1 (waker_claimed by found stores here m w) = cc
  dropped_and_leaves_1 (sender_after by made is m w) = elim made [ ]
  dropped_and_leaves_1 (written by made is m w) = elim made [ ]

  dropped_with_its_waker : {h : Home T H K} (k : AnyWaker H K)
      → Owned claims left_meanwhile DISCONNECTED h (has_waker k) → ⊥
  dropped_with_its_waker k (claimed_gone by found is m w) = waker_not_senders k w
  dropped_with_its_waker k (receiver_gone none is m w) = cc
  dropped_with_its_waker k (sender_after by made is m w) = elim made [ ]
  dropped_with_its_waker k (sender_dropped made is m w) = elim made [ ]
  dropped_with_its_waker k (written by made is m w) = elim made [ ]

  late_send_leaves_3 : {h k : Home T H K} → Owned (sent_over DISCONNECTED) left_meanwhile EMPTY h k → ⊥
  late_send_leaves_3 (both_open none stores here m w) = cc
  late_send_leaves_3 (claimed_overdue by found late here m w) = elim found [ ]
  late_send_leaves_3 (sender_after by made is m w) = elim made [ ]
  late_send_leaves_3 (written by made is m w) = elim made [ ]

  pub states_that_are_not : StatesThatAreNot T H K
  states_that_are_not =
      record {
        overdue_leaves_1 = overdue_leaves_1;
        overdue_has_its_waker = overdue_has_its_waker;
        waits_at_3 = waits_at_3;
        send_leaves_3 = send_leaves_3;
        drop_leaves_3 = drop_leaves_3;
        stop_leaves_0_over_the_message = stop_leaves_0_over_the_message;
        stop_leaves_0_over_the_end = stop_leaves_0_over_the_end;
        message_lies_with_nobody = message_lies_with_nobody;
        waker_is_gone = waker_is_gone;
        poll_leaves_3 = poll_leaves_3;
        poll_has_its_copy = poll_has_its_copy;
        takes_back_and_leaves_0 = takes_back_and_leaves_0;
        takes_nothing_back = takes_nothing_back;
        late_poll_leaves_0 = late_poll_leaves_0;
        takes_back_over_1 = takes_back_over_1;
        dropped_and_leaves_1 = dropped_and_leaves_1;
        dropped_with_its_waker = dropped_with_its_waker;
        late_send_leaves_3 = late_send_leaves_3;
      }
