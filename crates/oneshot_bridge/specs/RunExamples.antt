-- Examples and counterexamples of what a run of both ends has: a `send`, and then a `try_recv`.
use Rattle.std.specs.Prelude.{◌≡◌, ⊤, ℕ, List, [], ◌∷◌, None, take, IsTrue, IsFalse}
use Rattle.oneshot_machine.specs.declared.machine.End.TheVariants as End
use Rattle.oneshot_machine.specs.declared.machine.Reply.{Reply}
use Rattle.oneshot_machine.specs.declared.machine.Reply.TheVariants as R
use Rattle.oneshot_machine.specs.declared.machine.Seen.TheVariants.{Done, Word}
use Rattle.oneshot_machine.specs.declared.machine.receiver.ReceiverStart.{ReceiverStart}
use Rattle.oneshot_machine.specs.declared.machine.receiver.ReceiverStart.TheVariants as RC
use Rattle.oneshot_machine.specs.declared.machine.sender.SenderCall.{SenderCall}
use Rattle.oneshot_machine.specs.declared.machine.sender.SenderCall.TheVariants as SC
use Rattle.oneshot_machine.specs.declared.machine.sender.SenderPos.TheVariants.{SendAdd}
use Rattle.oneshot_machine.specs.declared.states.Op.TheVariants.{Load, Store, Swap, Add}
use Rattle.oneshot_machine.specs.declared.states.TheConstants.{RECEIVING, DISCONNECTED, EMPTY, MESSAGE}
use Rattle.oneshot_machine.specs.Noted.{Noted}
use Rattle.oneshot_machine.specs.Orders.{InOrder}
use Rattle.oneshot_world.specs.Calls as C
use Rattle.oneshot_world.specs.Scripts.{calls_of}
use Rattle.oneshot_world.specs.declared.script.Move.{Move}
use Rattle.oneshot_world.specs.declared.script.Move.TheVariants.{Sender}
use Rattle.oneshot_world.specs.declared.script.ReceiverCall.TheVariants.{TryRecv}
use Rattle.oneshot_world.specs.declared.script.ReceiverLast.TheVariants as RL
use Rattle.oneshot_world.specs.declared.script.ReceiverScript.{ReceiverScript}
use Rattle.oneshot_world.specs.declared.script.SenderLast.TheVariants as SL
use Rattle.oneshot_world.specs.declared.script.SenderScript.{SenderScript}
use Rattle.oneshot_world.specs.declared.state.ReceiverState.TheVariants as RS
use Rattle.oneshot_world.specs.declared.state.SenderState.TheVariants as SS
use Rattle.oneshot_world.specs.declared.trace.Entry.{Entry}
use Rattle.oneshot_laws.specs.History.{has_legal_history}
use Rattle.oneshot_laws.specs.Marks.{marks}
use Rattle.oneshot_word.specs.declared.rule.Role.TheVariants as Role
use Rattle.oneshot_word.specs.Seats.{view}
use Rattle.oneshot_bridge.specs.CallsRun.{in_script, receiver_answered, sender_answered, is_at_rest, RunsCalls, RunsBoth}
use Rattle.oneshot_bridge.specs.CellExamples.{entries_by}
use Rattle.oneshot_bridge.specs.Examples.{sends, receives, r}
use Rattle.oneshot_bridge.specs.Gives.{HaveCome, WhereverTheyCome, gave_message}
use Rattle.oneshot_bridge.specs.Joined.{OfARun}
use Rattle.oneshot_bridge.specs.OrdersRun.{log_of, answered_by, RunsTo}
use Rattle.oneshot_bridge.specs.Scripted.{SendsOnly, IsOfARun}
use Rattle.oneshot_bridge.specs.Walks.{Answered, SenderStand, ReceiverStand}

abbrev pub tries : ReceiverScript
tries = record { calls = TryRecv ∷ []; last = RL.Stop }

abbrev pub stops : {T : Type 0} → SenderScript T
stops = record { looks = 0; last = SL.Stop }

-- the sender makes both its steps, and then the receiver its three
abbrev pub in_turn : List Move
in_turn = Sender ∷ Sender ∷ r ∷ r ∷ r ∷ []

-- both logs, both ends' calls, and where both ends are then
abbrev pub sent_log : List Noted
sent_log = (Add, Word EMPTY) ∷ []

abbrev pub tried_log : List Noted
tried_log = (Load, Word MESSAGE) ∷ (Store DISCONNECTED, Done) ∷ []

abbrev pub sent_call : List (SenderCall × Reply)
sent_call = (SC.Send, R.Sent) ∷ []

abbrev pub tried_call : List (ReceiverStart × Reply)
tried_call = (RC.TryRecv, R.Message) ∷ []

abbrev pub sender_stands : List Answered → SenderStand
sender_stands replies = (SS.Ended, record { calls = []; error = [] }, replies)

abbrev pub receiver_stands : List Answered → ReceiverStand
receiver_stands replies = (RS.Ready, record { calls = []; error = [] }, replies)

pub record AnswersThatAre : Type 0 where
  pub tried : receiver_answered tried_call ≡ (C.Of_receiver RC.TryRecv, R.Message) ∷ []
  pub polled : receiver_answered ((RC.Poll, R.Pending) ∷ []) ≡ (C.Poll 0, R.Pending) ∷ []
  pub became_future : in_script RC.IntoFuture ≡ C.Of_receiver RC.IntoFuture
  pub sent : sender_answered sent_call ≡ (C.Of_sender SC.Send, R.Sent) ∷ []
  -- whether a sender has no call under way, and whether a call returned the message
  pub is_ready : IsTrue (is_at_rest SS.Ready)
  pub has_ended : IsTrue (is_at_rest SS.Ended)
  pub is_sending : IsFalse (is_at_rest (SS.At SendAdd))
  pub received : IsTrue (gave_message (C.Of_receiver RC.TryRecv, R.Message))
  pub polled_it : IsTrue (gave_message (C.Poll 3, R.Message))
  pub found_nothing : IsFalse (gave_message (C.Of_receiver RC.TryRecv, R.Empty))
  pub took_it_back : IsFalse (gave_message (C.Of_sender SC.IntoInner, R.Message))

module _ {T : Type 0} (m : T) where
  abbrev pub entries_of_run : List Entry
  entries_of_run = entries_by m tries in_turn

  pub record RunsThatAre : Type 0 where
    -- the `send` replies by the second entry, and the `try_recv` by the last
    pub answered_first : answered_by End.Sender (marks (calls_of (sends m) tries) (take 2 entries_of_run))
        ≡ sender_answered sent_call
    pub not_yet : answered_by End.Receiver (marks (calls_of (sends m) tries) (take 4 entries_of_run)) ≡ []
    pub answered : answered_by End.Receiver (marks (calls_of (sends m) tries) entries_of_run)
        ≡ receiver_answered tried_call
    pub come : HaveCome InOrder (sends m) tries sent_log tried_log DISCONNECTED
        (sender_stands (sender_answered sent_call)) (receiver_stands (receiver_answered tried_call))
    pub run : RunsTo (sends m) tries sent_log tried_log DISCONNECTED
        (sender_stands (sender_answered sent_call)) (receiver_stands (receiver_answered tried_call))
    pub sends_it : SendsOnly m (sends m)
    pub sends_none : (other : T) → SendsOnly other stops
    pub state : IsOfARun m sent_log tried_log DISCONNECTED
    pub calls : RunsCalls m tried_call sent_log tried_log DISCONNECTED
    pub both : RunsBoth m sent_call tried_call sent_log tried_log DISCONNECTED
    pub have_an_order : WhereverTheyCome T InOrder (λ a b xs ys word s r. InOrder xs ys word)
    -- of a table without ends
    pub no_ends : OfARun {T = T} {H = ⊤} {K = ⊤} {P = ⊤} ⊤ tt (EMPTY ∷ []) [] (view tt Role.Maker [] None None ∷ [])

  pub record RunsThatAreNot : Type 0 where
    -- logs that have no order, or are of no walk of their script
    pub have_no_order : (s : SenderStand) (r : ReceiverStand) → HaveCome InOrder (sends m) tries [] [] RECEIVING s r → ⊥
    pub sends_unasked : (s : SenderStand) (r : ReceiverStand)
        → HaveCome InOrder (stops {T = T}) tries sent_log [] MESSAGE s r → ⊥
    pub skips_its_load : (s : SenderStand) (r : ReceiverStand)
        → HaveCome InOrder (sends m) receives [] ((Swap RECEIVING, Word EMPTY) ∷ []) RECEIVING s r → ⊥
    -- a run with these entries and another log, or with an end that has made no call
    pub has_sent_nothing : {ys : List Noted} {word : ℕ} {s : SenderStand} {r : ReceiverStand}
        (run : RunsTo (sends m) tries [] ys word s r) → run.entries ≡ entries_of_run → ⊥
    pub has_tried_nothing : {xs : List Noted} {word : ℕ} {s : SenderStand} {r : ReceiverStand}
        (run : RunsTo (sends m) tries xs [] word s r) → run.entries ≡ entries_of_run → ⊥
    pub sender_is_silent : {xs ys : List Noted} {word : ℕ} {r : ReceiverStand}
        (run : RunsTo (sends m) tries xs ys word (sender_stands []) r) → run.entries ≡ entries_of_run → ⊥
    pub receiver_is_silent : {xs ys : List Noted} {word : ℕ} {s : SenderStand}
        (run : RunsTo (sends m) tries xs ys word s (receiver_stands [])) → run.entries ≡ entries_of_run → ⊥
    -- what is false of the logs above does not hold wherever both ends come to
    pub send_nothing : WhereverTheyCome T InOrder (λ a b xs ys word s r. xs ≡ []) → ⊥
    -- a table with one end
    pub one_end : (word : ℕ)
        → OfARun {T = T} {H = ⊤} {K = ⊤} {P = ⊤} ⊤ tt (word ∷ []) [] (view tt Role.Sender [] None None ∷ []) → ⊥
    -- a script with another message
    pub sends_another : (other : T) → (m ≡ other → ⊥) → SendsOnly other (sends m) → ⊥

  -- what each field states of any run
  pub record RunsSay : Type 0 where
    pub is_legal : {xs ys : List Noted} {word : ℕ} {s : SenderStand} {r : ReceiverStand}
        (run : RunsTo (sends m) tries xs ys word s r)
        → IsTrue (has_legal_history (marks (calls_of (sends m) tries) run.entries))
    pub sends_only : {xs ys : List Noted} {word : ℕ} (state : IsOfARun m xs ys word) → SendsOnly m state.sender
    pub has_its_log : {xs ys : List Noted} {word : ℕ} (state : IsOfARun m xs ys word)
        → log_of End.Receiver state.entries ≡ ys
    pub is_right : {xs ys : List Noted} {word : ℕ} (state : IsOfARun m xs ys word)
        → IsTrue (has_legal_history (marks (calls_of state.sender state.receiver) state.entries))
    -- the receiver is between two calls, has none left, and has made these
    pub calls_send_only : {received : List (ReceiverStart × Reply)} {xs ys : List Noted} {word : ℕ}
        (calls : RunsCalls m received xs ys word) → SendsOnly m calls.sender
    pub calls_have_their_log : {received : List (ReceiverStart × Reply)} {xs ys : List Noted} {word : ℕ}
        (calls : RunsCalls m received xs ys word) → log_of End.Receiver calls.run.entries ≡ ys
    pub receiver_rests : {received : List (ReceiverStart × Reply)} {xs ys : List Noted} {word : ℕ}
        (calls : RunsCalls m received xs ys word) → calls.run.now.world.state.receiver ≡ RS.Ready
    pub receiver_has_none_left : {received : List (ReceiverStart × Reply)} {xs ys : List Noted} {word : ℕ}
        (calls : RunsCalls m received xs ys word) → calls.run.now.world.receiver.calls ≡ []
    pub receiver_answered_these : {received : List (ReceiverStart × Reply)} {xs ys : List Noted} {word : ℕ}
        (calls : RunsCalls m received xs ys word)
        → answered_by End.Receiver (marks (calls_of calls.sender calls.receiver) calls.run.entries)
        ≡ receiver_answered received
    -- and the same of the sender
    pub sender_rests : {sent : List (SenderCall × Reply)} {received : List (ReceiverStart × Reply)} {xs ys : List Noted}
        {word : ℕ} (both : RunsBoth m sent received xs ys word)
        → IsTrue (is_at_rest both.calls.run.now.world.state.sender)
    pub sender_has_none_left : {sent : List (SenderCall × Reply)} {received : List (ReceiverStart × Reply)}
        {xs ys : List Noted} {word : ℕ} (both : RunsBoth m sent received xs ys word)
        → both.calls.run.now.world.sender.calls ≡ []
    pub sender_answered_these : {sent : List (SenderCall × Reply)} {received : List (ReceiverStart × Reply)}
        {xs ys : List Noted} {word : ℕ} (both : RunsBoth m sent received xs ys word)
        → answered_by End.Sender (marks (calls_of both.calls.sender both.calls.receiver) both.calls.run.entries)
        ≡ sender_answered sent
