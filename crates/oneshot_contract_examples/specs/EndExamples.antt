-- Examples that the definitions of the ends accept or refuse: open and closed ends, logs of calls, logs that have an
-- order, copies of wakers, and grounds.
use Rattle.std.specs.Prelude.{◌≡◌, ◌≢◌, ◌↔◌, ⊤, ℕ, ◌+◌, true, false, List, [], ◌∷◌, ◌++◌, Option, Some, None}
use Rattle.std.specs.Duration.{as_nanos}
use Rattle.std.specs.declared.time.Duration.{Duration}
use Rattle.std.specs.Time.{instant_nanos, FitsClock}
use Rattle.std.specs.declared.time.Instant.{Instant}
use Rattle.atomic_table.specs.Seated.{TableId}
use Rattle.futures.specs.Task.{Wakes}
use Rattle.futures.specs.declared.task.context.Context.{Context}
use Rattle.futures.specs.declared.task.waker.Waker.{Waker}
use Rattle.oneshot_machine.specs.declared.machine.Reply.{Reply}
use Rattle.oneshot_machine.specs.declared.machine.Reply.TheVariants.{Sent, Refused, Message, Empty, Timeout}
use Rattle.oneshot_machine.specs.declared.machine.Seen.TheVariants.{Done, Word}
use Rattle.oneshot_machine.specs.declared.machine.receiver.ReceiverStart.TheVariants.{TryRecv, RecvTimeout}
use Rattle.oneshot_machine.specs.declared.machine.sender.SenderCall.TheVariants.{Send}
use Rattle.oneshot_machine.specs.declared.states.Op.TheVariants.{Load, Store, Swap, Add}
use Rattle.oneshot_machine.specs.declared.states.TheConstants.{RECEIVING, DISCONNECTED, EMPTY, MESSAGE}
use Rattle.oneshot_machine.specs.Called.{as_receiver, as_future}
use Rattle.oneshot_machine.specs.Logs.{worded}
use Rattle.oneshot_machine.specs.Noted.{Noted}
use Rattle.oneshot_machine.specs.Phases.{untouched, idle, after_load, disconnected, found_closed, gone}
use Rattle.oneshot_machine.specs.Slots.{away, vacant, held}
use Rattle.oneshot_word.specs.Side.{Side}
use Rattle.oneshot_ends.specs.declared.copies.Copies.{Copies}
use Rattle.oneshot_ends.specs.declared.copies.TaskCopy.{TaskCopy}
use Rattle.oneshot_ends.specs.Copies.{HasMade, HasNoneOf, PollHas}
use Rattle.oneshot_ends.specs.OwnWakers.{RealWaker}
use Rattle.oneshot_ends.specs.Ends.{Channel, ReceiverView, FutureView, channel_at, RefusedView, SenderGrew, ReceiverGrew, HasCalls, SenderIsOrdered}
use Rattle.oneshot_ends.specs.Deadlines.{TimeoutRan}
use Rattle.oneshot_ends.specs.Ends.{ReceiverIsOrdered, WasRefused}
use Rattle.oneshot_ends.specs.Ends.{IsClosed, IsOpen}
use Rattle.oneshot_ends.specs.Grounds.{channel_of, slot_of, state_of, lent, left_of, MayBeFreed, IsNewSender, IsNewReceiver}
use Rattle.oneshot_ends.specs.Polling.{token_of, polled_state}
use Rattle.oneshot_contract_examples.specs.ExampleLogs.{polled}

-- LOGS: of a receive whose deadline was over, of one that took the message, and of a poll that stored its copy
abbrev pub ran_out : List Noted
ran_out = (Load, Word EMPTY) ∷ (Swap RECEIVING, Word EMPTY) ∷ (Swap EMPTY, Word RECEIVING) ∷ []

abbrev pub received_and_closed : List Noted
received_and_closed = (Load, Word MESSAGE) ∷ (Store DISCONNECTED, Done) ∷ []

-- OPEN AND CLOSED
module _ (table : TableId) where
  abbrev pub channel : Channel ℕ
  channel = record { table = table; about = 5 }

  abbrev pub end_with : List Noted → ReceiverView ℕ ℕ
  end_with log = record { channel = channel; log = log; took = None }

  abbrev pub error_with : List Noted → RefusedView ℕ ℕ
  error_with log = record { message = 7; channel = channel; log = log }

  abbrev pub future_with : List Noted → FutureView ℕ ℕ
  future_with log = record { channel = channel; log = log; source = 1; took = None; registered = None }

  pub record EndsThatAre : Type 0 where
    pub new_is_open : IsOpen (end_with []).log
    pub loaded_is_open : IsOpen (end_with ((Load, Word EMPTY) ∷ [])).log
    pub ran_out_is_open : IsOpen (end_with ran_out).log
    pub received_is_closed : IsClosed (end_with received_and_closed).log
    pub found_closed_is_closed : IsClosed (end_with ((Load, Word DISCONNECTED) ∷ [])).log
    pub new_future_is_open : IsOpen (future_with []).log
    pub polled_is_open : IsOpen (future_with polled).log
    pub polled_and_received_is_closed : IsClosed (future_with (polled ++ received_and_closed)).log
    pub sender_is_gone : IsClosed (future_with (polled ++ (Load, Word DISCONNECTED) ∷ [])).log
    pub error_was_refused : WasRefused ℕ (error_with ((Add, Word DISCONNECTED) ∷ [])).log

  pub record EndsThatAreNot : Type 0 where
    pub new_is_closed : IsClosed (end_with []).log → ⊥
    pub ran_out_is_closed : IsClosed (end_with ran_out).log → ⊥
    pub received_is_open : IsOpen (end_with received_and_closed).log → ⊥
    pub found_closed_is_open : IsOpen (end_with ((Load, Word DISCONNECTED) ∷ [])).log → ⊥
    pub takes_and_is_open : IsOpen (end_with ((Load, Word MESSAGE) ∷ [])).log → ⊥
    pub polled_is_closed : IsClosed (future_with polled).log → ⊥
    pub polled_and_received_is_open : IsOpen (future_with (polled ++ received_and_closed)).log → ⊥
    pub sender_is_gone_and_it_waits : IsOpen (future_with (polled ++ (Load, Word DISCONNECTED) ∷ [])).log → ⊥

-- THE LOG OF A CALL
module _ (T : Type 0) where
  pub record CallsThatGrow : Type 0 where
    pub sends : SenderGrew T Send [] ((Add, Word EMPTY) ∷ []) Sent
    pub is_refused : SenderGrew T Send [] ((Add, Word DISCONNECTED) ∷ []) Refused
    pub was_refused : WasRefused T ((Add, Word DISCONNECTED) ∷ [])
    pub tries : ReceiverGrew T TryRecv ((Load, Word EMPTY) ∷ []) ((Load, Word EMPTY) ∷ (Load, Word EMPTY) ∷ []) Empty
    pub takes : ReceiverGrew T TryRecv [] received_and_closed Message
    pub has_tried : HasCalls T as_receiver ((Load, Word EMPTY) ∷ [])
    pub has_not_polled : HasCalls T as_future []
    -- a timeout whose clock failed, and one whose end an instant can hold
    pub runs_out_at_once : (timeout : Duration) → TimeoutRan T timeout None [] ran_out Timeout
    pub runs_out : (timeout : Duration) (now : Instant) → FitsClock (instant_nanos now)
        → FitsClock (instant_nanos now + as_nanos timeout) → TimeoutRan T timeout (Some now) [] ran_out Timeout
    -- what `recv_timeout` states is no less than the same for some reading of the clock
    pub says_no_less : (timeout : Duration) (before after : List Noted) (reply : Reply)
        → ReceiverGrew T (RecvTimeout true) before after reply
        ↔ ((reading : Option Instant) × TimeoutRan T timeout reading before after reply)

  pub record CallsThatDoNotGrow : Type 0 where
    pub says_that_it_sent : SenderGrew T Send [] ((Add, Word DISCONNECTED) ∷ []) Sent → ⊥
    pub says_that_it_was_refused : SenderGrew T Send [] ((Add, Word EMPTY) ∷ []) Refused → ⊥
    pub was_not_refused : WasRefused T ((Add, Word EMPTY) ∷ []) → ⊥
    pub forgets_its_add : SenderGrew T Send ((Add, Word EMPTY) ∷ []) [] Sent → ⊥
    pub finds_the_message_in_3 : ReceiverGrew T TryRecv [] ((Load, Word EMPTY) ∷ []) Message → ⊥
    pub forgets_its_load : ReceiverGrew T TryRecv ((Load, Word EMPTY) ∷ []) [] Empty → ⊥
    pub loads_nothing : ReceiverGrew T TryRecv [] [] Empty → ⊥
    -- no instant can hold the sum
    pub runs_out_of_no_end : (timeout : Duration) (now : Instant) (log : List Noted)
        → (FitsClock (instant_nanos now + as_nanos timeout) → ⊥) → TimeoutRan T timeout (Some now) [] log Timeout → ⊥

-- LOGS THAT HAVE AN ORDER with some log of the other end
pub record OrderedLogs : Type 0 where
  pub sent : SenderIsOrdered ((Add, Word EMPTY) ∷ [])
  pub loaded : ReceiverIsOrdered ((Load, Word EMPTY) ∷ [])

pub record UnorderedLogs : Type 0 where
  pub sent_over_a_message : SenderIsOrdered ((Add, Word MESSAGE) ∷ []) → ⊥
  pub found_a_waker_first : ReceiverIsOrdered ((Load, Word RECEIVING) ∷ []) → ⊥

-- COPIES of wakers: none, or one in hand
abbrev pub copies_with : Option (TaskCopy Waker) → Copies Waker
copies_with hand = record { hand = hand; spare = None; stored = 0 }

module _ (before after : Context) where
  pub record CopiesThatAre : Type 0 where
    pub made : (copy : TaskCopy Waker) → copy.task ≡ before.turn.task → Wakes copy.waker before
        → HasMade before after (copies_with (Some copy))
    pub none_in_hand : HasNoneOf before.turn.task (copies_with None)
    pub of_another : (copy : TaskCopy Waker) → copy.task ≢ before.turn.task
        → HasNoneOf before.turn.task (copies_with (Some copy))
    -- what a poll has: a copy for its task in hand, or nothing that it gave
    pub in_hand : (copy : TaskCopy Waker) (s : Side ⊤ RealWaker ⊤) → Wakes copy.waker before
        → PollHas {C = ⊤} before (copies_with (Some copy)) s (Some tt)
    pub gave_none : (s : Side ⊤ RealWaker ⊤) → s.log ≡ [] → s.waker ≡ away
        → PollHas {C = ⊤} before (copies_with None) s None

  pub record CopiesThatAreNot : Type 0 where
    pub made_none : HasMade before after (copies_with None) → ⊥
    pub made_for_another : (copy : TaskCopy Waker) → copy.task ≢ before.turn.task
        → HasMade before after (copies_with (Some copy)) → ⊥
    pub wakes_another : (copy : TaskCopy Waker) → after.lacks_waker ≡ false → (Wakes copy.waker before → ⊥)
        → HasMade before after (copies_with (Some copy)) → ⊥
    pub has_one : (copy : TaskCopy Waker) → copy.task ≡ before.turn.task
        → HasNoneOf before.turn.task (copies_with (Some copy)) → ⊥
    pub none_to_give : (s : Side ⊤ RealWaker ⊤) → PollHas {C = ⊤} before (copies_with None) s (Some tt) → ⊥
    pub has_anothers : (copy : TaskCopy Waker) (s : Side ⊤ RealWaker ⊤) → before.lacks_waker ≡ false
        → (Wakes copy.waker before → ⊥) → PollHas {C = ⊤} before (copies_with (Some copy)) s (Some tt) → ⊥

-- WHAT A GROUND SHOWS: a side with both slots, which loses them when it frees the block
module _ (table : TableId) where
  abbrev pub side_with : List Noted → Side ℕ ℕ ℕ
  side_with log =
      record { table = table; log = log; message = held 7; waker = held 1; passed = None; handed = None; about = 5 }

  pub record RealGroundsThatAre : Type 0 where
    pub keeps_its_slots : left_of false (side_with []) ≡ side_with []
    pub freed_the_message : (left_of true (side_with [])).message ≡ away
    pub freed_the_waker : (left_of true (side_with [])).waker ≡ away
    pub tells_tables_apart : (other : TableId) → channel_of table ≡ channel_of other → table ≡ other
    pub is_its_channel : channel_at (side_with []) ≡ record { table = table; about = 5 }
    pub no_message : slot_of {X = ℕ} None ≡ vacant
    pub a_message : slot_of (Some table) ≡ held table
    pub a_copy : token_of (held table) ≡ held (record {})
    pub no_copy : token_of {W = ℕ} vacant ≡ vacant
    -- its state: the operations of its log alone, with the names of its table and of what was lent
    pub shows_operations :
        (state_of (side_with received_and_closed)).log.list ≡ worded Load MESSAGE
        ∷ worded (Store DISCONNECTED) MESSAGE ∷ []
    pub is_not_whole : (state_of (side_with [])).log.whole ≡ false
    pub names_its_table : (state_of (side_with [])).log.channel ≡ channel_of table
    pub names_what_was_lent : (lent (9 ∷ []) (side_with [])).log.channel ≡ 9 ∷ channel_of table
    pub shows_a_token : (polled_state (9 ∷ []) (side_with [])).waker ≡ held (record {})
    pub shows_the_message : (polled_state (9 ∷ []) (side_with [])).message ≡ held 7
    pub frees_when_closed : MayBeFreed true (disconnected found_closed)
    pub frees_nothing : MayBeFreed false untouched

  pub record RealGroundsThatAreNot : Type 0 where
    pub frees_while_open : MayBeFreed true (idle after_load) → ⊥
    pub frees_once_gone : MayBeFreed true gone → ⊥
    pub new_with_a_message : IsNewSender (side_with []) → ⊥
    pub new_with_its_waker : IsNewReceiver (side_with []) → ⊥
    pub new_with_a_log :
        IsNewSender (record (side_with ((Add, Word EMPTY) ∷ [])) { message = vacant; waker = away }) → ⊥
