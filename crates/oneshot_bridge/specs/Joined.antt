-- Each state that the rule of the shared table allows is that of a run, whose message is the one that passed.
use Rattle.std.specs.Prelude.{◌≡◌, ℕ, List, [], ◌∷◌, Option, Some, None, is_some, IsTrue, IsFalse}
use Rattle.oneshot_machine.specs.declared.machine.Reply.{Reply}
use Rattle.oneshot_machine.specs.declared.machine.receiver.ReceiverStart.{ReceiverStart}
use Rattle.oneshot_machine.specs.Called.{Form, ReceiverCalled}
use Rattle.oneshot_machine.specs.Noted.{Noted}
use Rattle.oneshot_world.specs.State.{is_in_cell}
use Rattle.oneshot_replay.specs.Rest.{rest_at}
use Rattle.oneshot_replay.specs.Scene.{Scene}
use Rattle.oneshot_replay.specs.declared.rest.Rest.TheVariants.{InCell}
use Rattle.oneshot_word.specs.declared.any_waker.AnyWaker.{AnyWaker}
use Rattle.oneshot_word.specs.declared.rule.Role.TheVariants.{Maker, MakerWithSlot, Sender, Receiver}
use Rattle.oneshot_word.specs.declared.rule.View.{View}
use Rattle.oneshot_word.specs.Rule.{Home, bare, has_message, has_waker, Tied}
use Rattle.oneshot_word.specs.Seats.{view}
use Rattle.oneshot_bridge.specs.CallsRun.{RunsCalls}
use Rattle.oneshot_bridge.specs.Scripted.{IsOfARun}
use Rattle.oneshot_machine.specs.declared.states.TheConstants.{EMPTY}

-- The slots at home, the message's and the waker's, and the cells where a run has come to. A slot that
-- an end has taken is left open.
pub record SlotsAreSo {T H K : Type 0} (message waker : Home T H K) (now : Scene T) : Type 0 where
  -- a message at home is in its cell, and is the message of the run
  pub has_it : (m : T) → message ≡ has_message m → rest_at now.world.state.message now.message ≡ Some (InCell m)
  pub has_none : message ≡ bare → IsFalse (is_in_cell now.world.state.message)
  -- a waker at home is in its cell
  pub has_one : (k : AnyWaker H K) → waker ≡ has_waker k → IsTrue (is_some now.world.state.wakers.cell)
  pub has_no_waker : waker ≡ bare → now.world.state.wakers.cell ≡ None

-- what an end gave or took: no message, or this one
pub data Passed {T : Type 0} (m : T) : Option T → Type 0 where
  none_passed : Passed m None
  it_passed : Passed m (Some m)

-- the words, the slots at home and the views of all seats
pub data OfARun {T H K P : Type 0} (W : Type 0) (q : P)
    : List ℕ → List (Home T H K) → List (View T H K P) → Type 0 where
  -- before there are ends
  maker_before : {homes : List (Home T H K)} → OfARun W q (EMPTY ∷ []) homes (view q Maker [] None None ∷ [])
  maker_with_slot_before : {homes : List (Home T H K)}
      → OfARun W q (EMPTY ∷ []) homes (view q MakerWithSlot [] None None ∷ [])
  -- From then on: both views have the operations of a run, which has this word and these slots. Between
  -- two calls of the receiver there is also such a run that has made its own calls, with the same
  -- replies. The message of the run is the one that the sender gave, if it gave one, and that the
  -- receiver took, if it took one.
  is_run : {word : ℕ} {message waker : Home T H K} (m : T) (xs ys : List Noted) {given taken : Option T}
      {put woke : Option (AnyWaker H K)}
      (run : IsOfARun m xs ys word) → SlotsAreSo message waker run.now
      → ((form : Form) (received : List (ReceiverStart × Reply)) → ReceiverCalled T W form received ys
      → (calls : RunsCalls m received xs ys word) × SlotsAreSo message waker calls.run.now)
      → Passed m given → Passed m taken
      → OfARun W q (word ∷ []) (message ∷ waker ∷ []) (view q Sender xs given woke ∷ view q Receiver ys taken put ∷ [])

-- Each state that the rule allows is that of a run of the model. A sender needs a message to send.
-- In the field's terms the real table refines the model: each state that the table's invariant allows (`Tied`) is
-- related (`OfARun`) to a state that the model can reach. What passed, by a view, is a history variable: no operation
-- reads it.
abbrev pub TablesAreOfRuns : {T P : Type 0} (H K W : Type 0) → (P → T → Type 0) → Type 0
TablesAreOfRuns {T} {P} H K W keeps =
    (m : T) (q : P) (words : List ℕ) (homes : List (Home T H K)) (views : List (View T H K P))
    → Tied keeps q words homes views → OfARun W q words homes views
