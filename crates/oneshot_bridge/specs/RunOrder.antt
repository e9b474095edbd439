-- The order in which a run performs the operations of both ends.
use Rattle.std.specs.Prelude.{◌≡◌, ℕ, List, [], ◌∷◌, Option, None}
use Rattle.std.specs.List.{filter_map}
use Rattle.std.specs.Option.{option_map}
use Rattle.oneshot_machine.specs.declared.machine.End.{End}
use Rattle.oneshot_machine.specs.declared.machine.End.TheVariants.{Sender, Receiver}
use Rattle.oneshot_machine.specs.Noted.{Noted, op_of}
use Rattle.oneshot_machine.specs.Orders.{InOrder, Reaches}
use Rattle.oneshot_world.specs.declared.script.Move.{Move}
use Rattle.oneshot_world.specs.declared.script.ReceiverScript.{ReceiverScript}
use Rattle.oneshot_world.specs.declared.script.SenderScript.{SenderScript}
use Rattle.oneshot_world.specs.declared.trace.Entry.{Entry}
use Rattle.oneshot_world.specs.declared.trace.Entry.TheVariants.{Idle, Made as Made_entry}
use Rattle.oneshot_replay.specs.Scene.{Scene}
use Rattle.oneshot_word.specs.OneOrder.{ends_of}
use Rattle.oneshot_bridge.specs.Examples.{sent, received, entries}
use Rattle.oneshot_bridge.specs.OrdersRun.{RunsSo}

-- the end that made an entry, if the entry is an operation on the word
abbrev pub operator_of : Entry → Option End
operator_of (Idle side) = None
operator_of (Made_entry e) = option_map (λ op. e.side) (op_of e.step)

-- the ends that performed a trace's operations, from the first on
abbrev pub operators_of : List Entry → List End
operators_of = filter_map operator_of

-- Whatever order these logs have, a trace has their operations in it.
abbrev pub IsInOrder : List Entry → List Noted → List Noted → Type 0
IsInOrder entries xs ys = (word : ℕ) (order : InOrder xs ys word) → operators_of entries ≡ ends_of order

-- Each run with the logs of an order by both phases' tables has their operations in that order. No log
-- shows which steps are between them.
abbrev pub RunsAreInOrder : (T : Type 0) → Type 0
RunsAreInOrder T =
    (a : SenderScript T) (b : ReceiverScript) (moves : List Move) (entries : List Entry) (now : Scene T)
    (xs ys : List Noted) (word : ℕ)
    → RunsSo a b moves entries now xs ys word → Reaches xs ys word → IsInOrder entries xs ys

module _ {T : Type 0} (m : T) where
  -- the worked run, whose sender adds before the receiver loads again
  pub record WorkedOrder : Type 0 where
    pub ends : operators_of (entries m)
        ≡ Receiver ∷ Receiver ∷ Sender ∷ Receiver ∷ Sender ∷ Receiver ∷ []

  pub record WrongOrder : Type 0 where
    -- it does not load before that
    pub not_sooner : operators_of (entries m)
        ≡ Receiver ∷ Receiver ∷ Receiver ∷ Sender ∷ Sender ∷ Receiver ∷ [] → ⊥
    -- a step that is no operation is not one of them
    pub no_other_step : operators_of (entries m)
        ≡ Receiver ∷ Receiver ∷ Receiver ∷ Sender ∷ Receiver ∷ Sender ∷ Receiver ∷ [] → ⊥
    -- a trace without entries lacks them
    pub lacks_them : IsInOrder [] sent received → ⊥
