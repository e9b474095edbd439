-- Examples of what logs show, and of states of the word and the slots that have a row of owners or have none.
use Rattle.std.specs.Prelude.{◌≡◌, ℕ, true, false, List, [], ◌∷◌, ◌++◌, Some, None}
use Rattle.oneshot_machine.specs.declared.machine.Seen.TheVariants.{Done, Word}
use Rattle.oneshot_machine.specs.declared.states.Op.TheVariants.{Load, Store, Swap, Exchange, Add, Xor}
use Rattle.oneshot_machine.specs.declared.states.TheConstants.{RECEIVING, UNPARKING, DISCONNECTED, EMPTY, MESSAGE}
use Rattle.oneshot_machine.specs.Noted.{Noted}
use Rattle.oneshot_word.specs.declared.any_waker.AnyWaker.{AnyWaker}
use Rattle.oneshot_word.specs.EndLogs.{stores_waker, is_overdue, is_gone, wrote_since}
use Rattle.oneshot_word.specs.ReadRule.{Owned}
use Rattle.oneshot_word.specs.Rule.{Home, out, bare, has_message, has_waker}
use Rattle.oneshot_contract_examples.specs.ExampleLogs.{claims, polled, sent_over, waits}

-- Receivers: one waits; one stopped waiting over this word (RECEIVING: in time; UNPARKING: too late; else over what the
-- sender left); one was dropped.
abbrev pub stopped_over : ℕ → List Noted
stopped_over word = waits ++ (Swap EMPTY, Word word) ∷ []

abbrev pub went : List Noted
went = (Swap DISCONNECTED, Word EMPTY) ∷ []

-- Polls: one stored its copy; one found this word by its exchange. A later one's exchange took the copy back (over
-- RECEIVING), or found a sender about to finish (UNPARKING).
abbrev pub polled_over : ℕ → List Noted
polled_over word = (Load, Word EMPTY) ∷ (Exchange EMPTY RECEIVING, Word word) ∷ []

abbrev pub exchanged_back : ℕ → List Noted
exchanged_back word = polled ++ (Load, Word RECEIVING) ∷ (Exchange RECEIVING EMPTY, Word word) ∷ []

-- a future that loaded the word while the sender was about to finish, and was dropped then
abbrev pub left_meanwhile : List Noted
left_meanwhile = polled ++ (Load, Word UNPARKING) ∷ (Swap DISCONNECTED, Word UNPARKING) ∷ []

-- Senders: one found the receiver waiting by a `send`; one finished a `send`, and one its drop, over this
-- word.
abbrev pub dropped_over : ℕ → List Noted
dropped_over word = (Xor, Word RECEIVING) ∷ (Swap DISCONNECTED, Word word) ∷ []

pub record LogsSay : Type 0 where
  pub stores : stores_waker waits ≡ true
  pub stores_on : stores_waker (waits ++ (Load, Word UNPARKING) ∷ []) ≡ true
  pub stores_no_more : stores_waker (stopped_over RECEIVING) ≡ false
  pub found_the_message : stores_waker ((Load, Word EMPTY) ∷ (Swap RECEIVING, Word MESSAGE) ∷ []) ≡ false
  pub overdue : is_overdue (stopped_over UNPARKING) ≡ true
  pub overdue_on : is_overdue (stopped_over UNPARKING ++ (Load, Word EMPTY) ∷ []) ≡ true
  pub stopped_in_time : is_overdue (stopped_over RECEIVING) ≡ false
  pub waits_in_time : is_overdue waits ≡ false
  pub gone : is_gone went ≡ true
  pub here : is_gone waits ≡ false
  pub wrote_nothing : wrote_since waits ≡ None
  pub wrote_too_late : wrote_since (stopped_over UNPARKING) ≡ None
  pub wrote_over_the_message : wrote_since (stopped_over MESSAGE) ≡ Some EMPTY
  pub wrote_and_closed : wrote_since (stopped_over MESSAGE ++ (Store DISCONNECTED, Done) ∷ []) ≡ Some DISCONNECTED
  -- a poll
  pub stores_its_copy : stores_waker polled ≡ true
  pub took_its_copy_back : stores_waker (exchanged_back RECEIVING) ≡ false
  pub exchanged_too_late : stores_waker (exchanged_back UNPARKING) ≡ true
  pub stores_another_copy :
      stores_waker (exchanged_back RECEIVING ++ (Exchange EMPTY RECEIVING, Word EMPTY) ∷ []) ≡ true
  pub stores_no_copy : stores_waker (polled_over MESSAGE) ≡ false
  pub exchanged_in_vain : wrote_since (polled_over MESSAGE) ≡ None
  pub left_and_gone : is_gone left_meanwhile ≡ true
  pub left_no_waker : stores_waker left_meanwhile ≡ false
  pub left_and_wrote_before_the_end : wrote_since left_meanwhile ≡ None
  pub exchanged_and_closed : wrote_since (polled_over MESSAGE ++ (Store DISCONNECTED, Done) ∷ []) ≡ Some DISCONNECTED

-- the sender's log, the receiver's log, the word, and what each slot has at home
pub record StatesThatAre (T H K : Type 0) : Type 0 where
  pub new : Owned {T = T} {H = H} {K = K} [] [] EMPTY out bare
  pub waiting : (k : AnyWaker H K) → Owned {T = T} [] waits RECEIVING out (has_waker k)
  pub claimed : Owned {T = T} {H = H} {K = K} claims waits UNPARKING out out
  pub claimed_too_late : Owned {T = T} {H = H} {K = K} claims (stopped_over UNPARKING) EMPTY out out
  pub sent_to_it : (x : T) → Owned {H = H} {K = K} (sent_over UNPARKING) waits MESSAGE (has_message x) bare
  pub sent_too_late :
      (x : T) → Owned {H = H} {K = K} (sent_over EMPTY) (stopped_over UNPARKING) MESSAGE (has_message x) bare
  pub dropped_too_late :
      Owned {T = T} {H = H} {K = K} (dropped_over EMPTY) (stopped_over UNPARKING) DISCONNECTED bare bare
  pub stopped_over_the_message :
      Owned {T = T} {H = H} {K = K} (sent_over UNPARKING) (stopped_over MESSAGE) EMPTY out out
  pub gone_first : Owned {T = T} {H = H} {K = K} [] went DISCONNECTED out bare
  -- a poll
  pub polls : (k : AnyWaker H K) → Owned {T = T} [] polled RECEIVING out (has_waker k)
  pub took_back : Owned {T = T} {H = H} {K = K} [] (exchanged_back RECEIVING) EMPTY out out
  pub claimed_in_a_poll : Owned {T = T} {H = H} {K = K} claims (exchanged_back UNPARKING) UNPARKING out out
  pub sent_to_a_future : (x : T) → Owned {H = H} {K = K} (sent_over UNPARKING) polled MESSAGE (has_message x) bare
  pub polled_too_late : Owned {T = T} {H = H} {K = K} ((Add, Word EMPTY) ∷ []) (polled_over MESSAGE) MESSAGE out out
  -- the drop of a future while the sender is about to finish
  pub gone_meanwhile : Owned {T = T} {H = H} {K = K} claims left_meanwhile DISCONNECTED out out
  pub sent_after_it : Owned {T = T} {H = H} {K = K} (sent_over DISCONNECTED) left_meanwhile MESSAGE out out
  pub dropped_after_it : Owned {T = T} {H = H} {K = K} (dropped_over DISCONNECTED) left_meanwhile DISCONNECTED out out

pub record StatesThatAreNot (T H K : Type 0) : Type 0 where
  -- an overdue receiver leaves EMPTY, and its waker to the sender
  pub overdue_leaves_1 : {h k : Home T H K} → Owned claims (stopped_over UNPARKING) UNPARKING h k → ⊥
  pub overdue_has_its_waker :
      {h : Home T H K} (k : AnyWaker H K) → Owned claims (stopped_over UNPARKING) EMPTY h (has_waker k) → ⊥
  -- one that waits does not leave EMPTY
  pub waits_at_3 : {h k : Home T H K} → Owned claims waits EMPTY h k → ⊥
  -- a sender that finishes over EMPTY leaves its own word
  pub send_leaves_3 : {h k : Home T H K} → Owned (sent_over EMPTY) (stopped_over UNPARKING) EMPTY h k → ⊥
  pub drop_leaves_3 : {h k : Home T H K} → Owned (dropped_over EMPTY) (stopped_over UNPARKING) EMPTY h k → ⊥
  -- a swap of EMPTY leaves EMPTY over the message and over the sender's end
  pub stop_leaves_0_over_the_message :
      {h k : Home T H K} → Owned (sent_over UNPARKING) (stopped_over MESSAGE) RECEIVING h k → ⊥
  pub stop_leaves_0_over_the_end :
      {h k : Home T H K} → Owned (dropped_over UNPARKING) (stopped_over DISCONNECTED) RECEIVING h k → ⊥
  -- a slot that neither end owns keeps the message, or the waker
  pub message_lies_with_nobody : {k : Home T H K} → Owned (sent_over UNPARKING) waits MESSAGE bare k → ⊥
  pub waker_is_gone : {h : Home T H K} → Owned [] waits RECEIVING h bare → ⊥
  -- an exchange that found what it expects leaves its new word, and the copy with the right owner
  pub poll_leaves_3 : {h k : Home T H K} → Owned [] polled EMPTY h k → ⊥
  pub poll_has_its_copy : {h : Home T H K} → Owned [] polled RECEIVING h out → ⊥
  pub takes_back_and_leaves_0 : {h k : Home T H K} → Owned [] (exchanged_back RECEIVING) RECEIVING h k → ⊥
  pub takes_nothing_back :
      {h : Home T H K} (k : AnyWaker H K) → Owned [] (exchanged_back RECEIVING) EMPTY h (has_waker k) → ⊥
  -- an exchange that did not leaves the word that it found
  pub late_poll_leaves_0 : {h k : Home T H K} → Owned ((Add, Word EMPTY) ∷ []) (polled_over MESSAGE) RECEIVING h k → ⊥
  pub takes_back_over_1 : {h k : Home T H K} → Owned claims (exchanged_back UNPARKING) EMPTY h k → ⊥
  -- a future that is dropped over UNPARKING leaves DISCONNECTED, and both slots to the sender
  pub dropped_and_leaves_1 : {h k : Home T H K} → Owned claims left_meanwhile UNPARKING h k → ⊥
  pub dropped_with_its_waker :
      {h : Home T H K} (k : AnyWaker H K) → Owned claims left_meanwhile DISCONNECTED h (has_waker k) → ⊥
  pub late_send_leaves_3 : {h k : Home T H K} → Owned (sent_over DISCONNECTED) left_meanwhile EMPTY h k → ⊥
