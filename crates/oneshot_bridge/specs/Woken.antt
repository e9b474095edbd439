-- What the laws of the model state of a waiting receiver: it was woken, or the sender's next step wakes it.
use Rattle.std.specs.Prelude.{◌≡◌, ℕ, ◌+◌, Bool, true, false, ◌||◌, List, [], ◌∷◌, ◌++◌, Some, IsTrue, IsFalse}
use Rattle.std.specs.List.{list_any}
use Rattle.oneshot_machine.specs.declared.machine.End.TheVariants as End
use Rattle.oneshot_machine.specs.declared.machine.Step.TheVariants.{Wake}
use Rattle.oneshot_machine.specs.declared.machine.sender.SenderPos.{SenderPos}
use Rattle.oneshot_machine.specs.Orders.{InOrder, Reaches}
use Rattle.oneshot_machine.specs.Phases.{By, SenderAt, finished, found_gone, overtaken, sender_at, gone, receiver_at}
use Rattle.oneshot_world.specs.Ahead.{ahead_of}
use Rattle.oneshot_world.specs.Scripts.{calls_of}
use Rattle.oneshot_world.specs.World.{World, turn}
use Rattle.oneshot_world.specs.declared.script.Move.TheVariants.{Sender}
use Rattle.oneshot_world.specs.declared.script.ReceiverScript.{ReceiverScript}
use Rattle.oneshot_world.specs.declared.script.SenderScript.{SenderScript}
use Rattle.oneshot_world.specs.declared.state.ReceiverState.TheVariants.{Ended}
use Rattle.oneshot_world.specs.declared.state.SenderState.TheVariants.{At}
use Rattle.oneshot_world.specs.declared.trace.Entry.{Entry}
use Rattle.oneshot_world.specs.declared.trace.Entry.TheVariants.{Made as Made_entry}
use Rattle.oneshot_world.specs.declared.trace.Made.{Made}
use Rattle.oneshot_laws.specs.Actions.{is_end_of_sender}
use Rattle.oneshot_laws.specs.Marks.{marks}
use Rattle.oneshot_laws.specs.Unwoken.{waits_in_park, waits_in_task}
use Rattle.oneshot_bridge.specs.Gives.{WhereverTheyCome}
use Rattle.oneshot_bridge.specs.OrdersRun.{RunsTo}

module _ {T : Type 0} (a : SenderScript T) (b : ReceiverScript) where
  -- The receiver waits in the world that these entries led to: its next step is a park, and no token is
  -- there; or its last poll replied "pending", and nothing has woken its task since that poll began.
  abbrev pub waits : List Entry → World → Bool
  waits entries w = waits_in_park (ahead_of w) || waits_in_task (marks (calls_of a b) entries)

  -- the sender's next step is a wake, and after it the receiver does not wait
  pub record WakesNext (entries : List Entry) (k : ℕ) (w : World) : Type 0 where
    pub made : Made
    pub next : World
    pub turns : turn k w Sender ≡ Some (Made_entry made, next)
    pub by_sender : made.side ≡ End.Sender
    pub wakes : made.step ≡ Wake
    pub woken : IsFalse (waits (entries ++ Made_entry made ∷ []) next)

-- If the sender's `send` or drop has replied, the receiver does not wait.
abbrev pub NobodyWaitsInARun : (T : Type 0) → Type 0
NobodyWaitsInARun T =
    WhereverTheyCome T InOrder (λ a b xs ys word s r. IsTrue (list_any (λ x. is_end_of_sender x.0) s.2)
    → (run : RunsTo a b xs ys word s r) → IsFalse (waits a b run.entries run.now.world))

-- If the sender's last operation found the receiver here and its call is still under way, the sender's
-- next step is the wake.
abbrev pub WakeIsNextInARun : (T : Type 0) → Type 0
WakeIsNextInARun T =
    WhereverTheyCome T Reaches (λ a b xs ys word s r. (by : By) (p : SenderPos)
    → sender_at xs ≡ finished by → s.0 ≡ At p
    → (run : RunsTo a b xs ys word s r) → WakesNext a b run.entries (run.now.count + 1) run.now.world)

-- If the sender's last operation found the receiver gone, the receiver's last operation is that of its drop.
abbrev pub found_it_gone : SenderAt → Bool
found_it_gone (found_gone by) = true
found_it_gone (overtaken by) = true
found_it_gone _ = false

abbrev pub WasDropped : (T : Type 0) → Type 0
WasDropped T =
    WhereverTheyCome T Reaches (λ a b xs ys word s r. IsTrue (found_it_gone (sender_at xs))
    → receiver_at ys ≡ gone)

-- In that case the receiver has ended: nobody is left to wait.
abbrev pub NobodyIsLeft : (T : Type 0) → Type 0
NobodyIsLeft T =
    WhereverTheyCome T Reaches (λ a b xs ys word s r. IsTrue (found_it_gone (sender_at xs))
    → r.0 ≡ Ended)
