-- What the laws of the model state of both ends, given that what they did is one of its runs.
use Rattle.std.specs.Prelude.{◌≡◌, ◌≤◌, ℕ, Bool, true, ◌&&◌, List, ◌∷◌, ◌++◌, Some, filter, length, IsTrue, IsFalse}
use Rattle.std.specs.List.{list_any}
use Rattle.std.specs.Option.{option_map}
use Rattle.oneshot_machine.specs.declared.machine.Reply.TheVariants as R
use Rattle.oneshot_machine.specs.declared.machine.Step.TheVariants.{Park}
use Rattle.oneshot_machine.specs.Noted.{Noted}
use Rattle.oneshot_machine.specs.Orders.{InOrder}
use Rattle.oneshot_machine.specs.Receiver.{receiver_step}
use Rattle.oneshot_world.specs.Scripts.{calls_of}
use Rattle.oneshot_world.specs.declared.script.ReceiverScript.{ReceiverScript}
use Rattle.oneshot_world.specs.declared.script.SenderScript.{SenderScript}
use Rattle.oneshot_laws.specs.Actions.{is_receive, is_end_of_sender}
use Rattle.oneshot_laws.specs.Entries.{is_same_reply}
use Rattle.oneshot_laws.specs.Holders.{both_hold, frees, uses_block, is_held}
use Rattle.oneshot_laws.specs.Marks.{Mark, marks}
use Rattle.oneshot_bridge.specs.OrdersRun.{RunsTo}
use Rattle.oneshot_bridge.specs.Walks.{Answered, the_receiver, SenderStand, ReceiverStand, SenderWalk, ReceiverWalk}

-- an order of both ends' operations and the word that it leaves: `InOrder`, or `Reaches` by both phases' tables
abbrev pub OrderOfBoth : Type 1
OrderOfBoth = List Noted → List Noted → ℕ → Type 0

-- Each end alone has carried out its script up to here, and the operations of both have such an order. In the field's
-- terms: a reachable state of both ends' transition systems in parallel, which meet only in the word.
pub record HaveCome {T : Type 0} (Order : OrderOfBoth) (a : SenderScript T) (b : ReceiverScript) (xs ys : List Noted)
    (word : ℕ) (s : SenderStand) (r : ReceiverStand) : Type 0 where
  pub order : Order xs ys word
  pub sender : SenderWalk a xs s
  pub receiver : ReceiverWalk b ys r

-- this holds wherever both ends have come to
abbrev pub WhereverTheyCome : (T : Type 0) (Order : OrderOfBoth)
    → ((a : SenderScript T) (b : ReceiverScript) (xs ys : List Noted) (word : ℕ) (s : SenderStand) (r : ReceiverStand)
    → Type 0) → Type 0
WhereverTheyCome T Order holds =
    (a : SenderScript T) (b : ReceiverScript) (xs ys : List Noted) (word : ℕ) (s : SenderStand) (r : ReceiverStand)
    → HaveCome Order a b xs ys word s r → holds a b xs ys word s r

-- at most one receive returned the message
abbrev pub gave_message : Answered → Bool
gave_message answered = is_receive answered.0 && is_same_reply R.Message answered.1

abbrev pub OneReceiveGets : (T : Type 0) → Type 0
OneReceiveGets T = WhereverTheyCome T InOrder (λ a b xs ys word s r. length (filter gave_message r.2) ≤ 1)

-- If the sender's `send` or drop has replied and the receiver's next step is a park, each run that
-- leads there has a token for it: the park ends at once.
abbrev pub RunLosesNoWakeup : (T : Type 0) → Type 0
RunLosesNoWakeup T =
    WhereverTheyCome T InOrder (λ a b xs ys word s r. IsTrue (list_any (λ x. is_end_of_sender x.0) s.2)
    → option_map receiver_step (the_receiver.position r) ≡ Some Park
    → (run : RunsTo a b xs ys word s r) → run.now.world.state.wakers.token ≡ true)

-- no run that leads there frees the block twice
abbrev pub RunFreesOnce : (T : Type 0) → Type 0
RunFreesOnce T =
    WhereverTheyCome T InOrder (λ a b xs ys word s r. (run : RunsTo a b xs ys word s r)
    → length (filter frees (marks (calls_of a b) run.entries)) ≤ 1)

-- no entry uses the block after the one that frees it
abbrev pub RunFreesLast : (T : Type 0) → Type 0
RunFreesLast T =
    WhereverTheyCome T InOrder (λ a b xs ys word s r. (run : RunsTo a b xs ys word s r)
    → (earlier later : List Mark) (m : Mark) → marks (calls_of a b) run.entries ≡ earlier ++ m ∷ later
    → IsTrue (frees m) → IsFalse (list_any uses_block later))

-- only an end that holds the block uses it, and the end that frees it is the only one that holds it
abbrev pub RunFreesByItsHolder : (T : Type 0) → Type 0
RunFreesByItsHolder T =
    WhereverTheyCome T InOrder (λ a b xs ys word s r. (run : RunsTo a b xs ys word s r)
    → IsTrue (is_held both_hold (marks (calls_of a b) run.entries)))
