-- Examples and counterexamples of the bridge: a send to a receiver that waits and wakes once too early.
use Rattle.std.specs.Prelude.{◌≡◌, ℕ, ◌+◌, false, List, [], ◌∷◌, map, Some, None}
use Rattle.oneshot_machine.specs.declared.machine.Seen.TheVariants.{Word}
use Rattle.oneshot_machine.specs.declared.states.Op.TheVariants.{Load, Swap, Add}
use Rattle.oneshot_machine.specs.declared.states.TheConstants.{RECEIVING, UNPARKING, EMPTY, MESSAGE}
use Rattle.oneshot_machine.specs.Noted.{Noted}
use Rattle.oneshot_machine.specs.Orders.{Reaches}
use Rattle.oneshot_world.specs.World.{World, opening, turn}
use Rattle.oneshot_world.specs.declared.script.ErrorLast.TheVariants as EL
use Rattle.oneshot_world.specs.declared.script.Move.{Move}
use Rattle.oneshot_world.specs.declared.script.Move.TheVariants.{Sender, Receiver}
use Rattle.oneshot_world.specs.declared.script.ReceiverLast.TheVariants as RL
use Rattle.oneshot_world.specs.declared.script.ReceiverScript.{ReceiverScript}
use Rattle.oneshot_world.specs.declared.script.SenderLast.TheVariants as SL
use Rattle.oneshot_world.specs.declared.script.SenderScript.{SenderScript}
use Rattle.oneshot_world.specs.declared.trace.Entry.{Entry}
use Rattle.oneshot_replay.specs.Scene.{Scene}
use Rattle.oneshot_replay.specs.TraceView.{last_of}
use Rattle.oneshot_bridge.specs.Walks.{SenderStand, ReceiverStand, SenderWalk, ReceiverWalk}
use Rattle.oneshot_bridge.specs.OrdersRun.{RunsSo}

-- the scripts: a `send`, and a `recv`
abbrev pub sends : {T : Type 0} → T → SenderScript T
sends m = record { looks = 0; last = SL.Send m (record { looks = 0; last = EL.Stop }) }

abbrev pub receives : ReceiverScript
receives = record { calls = []; last = RL.Recv }

-- both logs
abbrev pub sent : List Noted
sent = (Add, Word RECEIVING) ∷ (Swap MESSAGE, Word UNPARKING) ∷ []

abbrev pub received : List Noted
received = (Load, Word EMPTY) ∷ (Swap RECEIVING, Word EMPTY) ∷ (Load, Word UNPARKING) ∷ (Load, Word MESSAGE) ∷ []

-- the schedule: the receiver stores its waker; the sender adds; the receiver wakes too early and parks again;
-- the sender finishes; the receiver takes the message
abbrev pub r : Move
r = Receiver false false

abbrev pub schedule : List Move
schedule =
    r ∷ r ∷ r ∷ Sender ∷ Sender ∷ r ∷ r ∷ Sender ∷ Sender ∷ Sender ∷ r ∷ r ∷ r ∷ r ∷ []

-- what a schedule leads to: for each move an entry, and the world after it
abbrev pub trace_from : ℕ → World → List Move → List (Entry × World)
trace_from n w [] = []
trace_from n w (move ∷ moves) =
    elim (turn n w move) [ None ↦ [] | Some trace ↦ trace ∷ trace_from (n + 1) trace.1 moves ]

module _ {T : Type 0} (m : T) where
  abbrev pub trace : List (Entry × World)
  trace = trace_from 1 (opening (sends m) receives) schedule

  abbrev pub entries : List Entry
  entries = map (λ (t : Entry × World). t.0) trace

  abbrev pub worlds : List World
  worlds = map (λ (t : Entry × World). t.1) trace

  abbrev pub last : Scene T
  last = record { world = last_of (opening (sends m) receives) worlds; count = 14; message = Some m }

  pub record WorkedRun : Type 0 where
    pub sender : (s : SenderStand) × SenderWalk (sends m) sent s
    pub receiver : (s : ReceiverStand) × ReceiverWalk receives received s
    pub order : Reaches sent received MESSAGE
    pub run : RunsSo (sends m) receives schedule entries last sent received MESSAGE

  pub record WrongRuns : Type 0 where
    -- a receive that does not load first
    pub skips_its_load : (s : ReceiverStand) → ReceiverWalk receives ((Swap RECEIVING, Word EMPTY) ∷ []) s → ⊥
    -- a receive that finds a waker that it did not store
    pub finds_a_waker : (s : ReceiverStand) → ReceiverWalk receives ((Load, Word RECEIVING) ∷ []) s → ⊥
    -- a log with other words than the run found: its add found RECEIVING, and its second load UNPARKING
    pub adds_to_another_word : (now : Scene T) (ys : List Noted) (word : ℕ)
        → RunsSo (sends m) receives schedule entries now
        ((Add, Word EMPTY) ∷ (Swap MESSAGE, Word UNPARKING) ∷ []) ys word → ⊥
    pub wakes_before_the_add : (now : Scene T) (xs : List Noted) (word : ℕ)
        → RunsSo (sends m) receives schedule entries now xs
        ((Load, Word EMPTY) ∷ (Swap RECEIVING, Word EMPTY) ∷ (Load, Word RECEIVING) ∷ (Load, Word MESSAGE) ∷ []) word
        → ⊥
    -- a log that lacks an operation
    pub skips_the_swap : (now : Scene T) (ys : List Noted) (word : ℕ)
        → RunsSo (sends m) receives schedule entries now ((Add, Word RECEIVING) ∷ []) ys word → ⊥
    -- the run leaves no other word than MESSAGE
    pub leaves_another_word : (word : ℕ) → RunsSo (sends m) receives schedule entries last sent received word
        → word ≡ MESSAGE
