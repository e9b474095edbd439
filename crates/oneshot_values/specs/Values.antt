-- What the laws state of the values that a program holds: each has the log of a run of the model.
use Rattle.std.specs.Prelude.{◌≡◌, ℕ, Bool, true, false, Option, is_some, List, [], ◌∷◌, ◌++◌, filter, length}
use Rattle.oneshot_machine.specs.declared.machine.Reply.{Reply}
use Rattle.oneshot_machine.specs.declared.machine.receiver.ReceiverStart.{ReceiverStart}
use Rattle.oneshot_machine.specs.declared.machine.Reply.TheVariants as R
use Rattle.oneshot_machine.specs.declared.machine.receiver.ReceiverStart.TheVariants.{TryRecv}
use Rattle.oneshot_machine.specs.Called.{Form, as_receiver, ReceiverCalled}
use Rattle.oneshot_machine.specs.Noted.{Noted}
use Rattle.oneshot_machine.specs.Orders.{Reaches}
use Rattle.oneshot_ends.specs.Ends.{UnnamedWaker, HasCalls}
use Rattle.oneshot_bridge.specs.CallsRun.{RunsCalls, receiver_answered}
use Rattle.oneshot_bridge.specs.Gives.{gave_message}
use Rattle.oneshot_bridge.specs.Scripted.{IsOfARun}

-- how many of a receiver's calls returned the message
abbrev pub message_replies : List (ReceiverStart × Reply) → ℕ
message_replies calls = length (filter gave_message (receiver_answered calls))

abbrev pub one_if : Bool → ℕ
one_if true = 1
one_if false = 0

-- A receiver's log, or a future's, and the message that it took, if it has. With some log of a sender its
-- operations have an order, which leaves this word.
pub record ReceiverRuns (T : Type 0) (form : Form) (took : Option T) (ys : List Noted) : Type 0 where
  pub xs : List Noted
  pub word : ℕ
  pub order : Reaches xs ys word
  -- it is the log of some calls
  pub calls : HasCalls T form ys
  -- whichever calls these were, and whichever message is sent: a run of the model has these logs and this word, and
  -- exactly these calls
  pub runs : (message : T) (calls : List (ReceiverStart × Reply)) → ReceiverCalled T UnnamedWaker form calls ys
      → RunsCalls message calls xs ys word
  -- exactly one of them returned the message if the receiver took one, and otherwise none
  pub gets : (calls : List (ReceiverStart × Reply)) → ReceiverCalled T UnnamedWaker form calls ys
      → message_replies calls ≡ one_if (is_some took)

-- The log of a receiver whose last call is a `try_recv` that returned the message, and no call before it did.
abbrev pub OnlyTheLastGot : (T : Type 0) → List Noted → Type 0
OnlyTheLastGot T log =
    (calls : List (ReceiverStart × Reply))
    × ReceiverCalled T UnnamedWaker as_receiver (calls ++ (TryRecv, R.Message) ∷ []) log
    × (message_replies calls ≡ 0)

-- the message and the log of a refused `send`
pub record ErrorRuns {T : Type 0} (message : T) (xs : List Noted) : Type 0 where
  pub ys : List Noted
  pub word : ℕ
  pub order : Reaches xs ys word
  pub run : IsOfARun message xs ys word
