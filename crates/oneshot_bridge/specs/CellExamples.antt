-- Examples and counterexamples of cells, slots at home and waiting receivers: a run up to the sender's wake.
use Rattle.std.specs.Prelude.{◌≡◌, ℕ, true, List, [], ◌∷◌, ◌++◌, map, Option, Some, None, IsTrue, IsFalse}
use Rattle.oneshot_machine.specs.declared.machine.Seen.TheVariants.{Word}
use Rattle.oneshot_machine.specs.declared.states.Op.TheVariants.{Load, Swap, Add, Xor}
use Rattle.oneshot_machine.specs.declared.states.TheConstants.{RECEIVING, DISCONNECTED, EMPTY}
use Rattle.oneshot_machine.specs.Noted.{Noted}
use Rattle.oneshot_machine.specs.Phases.{sender_at, none, filled}
use Rattle.oneshot_world.specs.Scripts.{calls_of}
use Rattle.oneshot_world.specs.World.{World, opening}
use Rattle.oneshot_world.specs.declared.script.AsyncCall.TheVariants as AC
use Rattle.oneshot_world.specs.declared.script.AsyncLast.TheVariants as AL
use Rattle.oneshot_world.specs.declared.script.Move.{Move}
use Rattle.oneshot_world.specs.declared.script.Move.TheVariants.{Sender}
use Rattle.oneshot_world.specs.declared.script.ReceiverLast.TheVariants as RL
use Rattle.oneshot_world.specs.declared.script.ReceiverScript.{ReceiverScript}
use Rattle.oneshot_world.specs.declared.state.State.{State}
use Rattle.oneshot_world.specs.declared.trace.Entry.{Entry}
use Rattle.oneshot_world.specs.declared.trace.Place.TheVariants.{InCell, Delivered}
use Rattle.oneshot_world.specs.declared.trace.WakerName.{WakerName}
use Rattle.oneshot_world.specs.declared.trace.WakerName.TheVariants.{Parker, Copy}
use Rattle.oneshot_laws.specs.Holders.{both_hold, is_held, is_free_last}
use Rattle.oneshot_laws.specs.Marks.{Mark, marks}
use Rattle.oneshot_replay.specs.Scene.{Scene}
use Rattle.oneshot_replay.specs.TraceView.{last_of}
use Rattle.oneshot_word.specs.Rule.{bare, has_message}
use Rattle.oneshot_bridge.specs.Examples.{sends, receives, sent, r, entries, trace_from}
use Rattle.oneshot_bridge.specs.Homes.{message_of_logs, waker_of_logs, CellsAreSo}
use Rattle.oneshot_bridge.specs.Joined.{SlotsAreSo, Passed}
use Rattle.oneshot_bridge.specs.OrdersRun.{RunsSo}
use Rattle.oneshot_bridge.specs.Woken.{waits, WakesNext, found_it_gone}

-- a receiver that has stored its waker: the log of a call that blocks, and the script of a poll
abbrev pub stored : List Noted
stored = (Load, Word EMPTY) ∷ (Swap RECEIVING, Word EMPTY) ∷ []

abbrev pub polls : ReceiverScript
polls = record { calls = []; last = RL.IntoFuture (record { calls = AC.Poll 7 ∷ []; last = AL.Stop }) }

-- then the sender performs both its operations, and is about to wake
abbrev pub to_wake : List Move
to_wake = Sender ∷ Sender ∷ Sender ∷ Sender ∷ []

module _ {T : Type 0} (m : T) where
  -- where a schedule leads
  abbrev pub entries_by : ReceiverScript → List Move → List Entry
  entries_by b moves = map (λ (t : Entry × World). t.0) (trace_from 1 (opening (sends m) b) moves)

  abbrev pub worlds_by : ReceiverScript → List Move → List World
  worlds_by b moves = map (λ (t : Entry × World). t.1) (trace_from 1 (opening (sends m) b) moves)

  abbrev pub world_by : ReceiverScript → List Move → World
  world_by b moves = last_of (opening (sends m) b) (worlds_by b moves)

  abbrev pub scene_at : World → ℕ → Scene T
  scene_at w count = record { world = w; count = count; message = Some m }

  -- in a park, and in a task
  abbrev pub in_park : List Move
  in_park = r ∷ r ∷ r ∷ to_wake

  abbrev pub in_task : List Move
  in_task = r ∷ r ∷ r ∷ r ∷ r ∷ to_wake

  abbrev pub w : World
  w = world_by receives in_park

  -- slots at home, in a table whose wakers have a unit type
  abbrev pub Slots : Option T → Scene T → Type 0
  Slots None now = SlotsAreSo {T = T} {H = Unit {0}} {K = Unit {0}} bare bare now
  Slots (Some m) now = SlotsAreSo {T = T} {H = Unit {0}} {K = Unit {0}} (has_message m) bare now

  pub record WorkedCells : Type 0 where
    -- the message is at home
    pub message : message_of_logs sent stored ≡ filled
    pub cells : CellsAreSo sent stored w.state
    pub slots : Slots (Some m) (scene_at w 7)
    -- a receiver that waits, and that the next step wakes
    pub parks : IsTrue (waits (sends m) receives (entries_by receives in_park) w)
    pub woken : WakesNext (sends m) receives (entries_by receives in_park) 8 w
    pub task_waits : IsTrue (waits (sends m) polls (entries_by polls in_task) (world_by polls in_task))
    pub task_woken : WakesNext (sends m) polls (entries_by polls in_task) 10 (world_by polls in_task)
    -- a sender that found the receiver gone, and the one of this run
    pub finds_gone : IsTrue (found_it_gone (sender_at ((Add, Word DISCONNECTED) ∷ [])))
    pub finds_here : IsFalse (found_it_gone (sender_at sent))
    -- an end's slot: with this log its cell is empty first, and then full
    pub has_slot : waker_of_logs [] ((Load, Word EMPTY) ∷ []) ≡ none
    pub before : RunsSo (sends m) receives (r ∷ []) (entries_by receives (r ∷ []))
        (scene_at (world_by receives (r ∷ [])) 1) [] ((Load, Word EMPTY) ∷ []) EMPTY
    pub is_empty : (world_by receives (r ∷ [])).state.wakers.cell ≡ None
    pub after : RunsSo (sends m) receives (r ∷ r ∷ []) (entries_by receives (r ∷ r ∷ []))
        (scene_at (world_by receives (r ∷ r ∷ [])) 2) [] ((Load, Word EMPTY) ∷ []) EMPTY
    pub is_full : (world_by receives (r ∷ r ∷ [])).state.wakers.cell ≡ Some Parker

  -- the same state with other cells, or with a freed block
  abbrev pub with_cell : Option WakerName → State
  with_cell cell = record w.state { wakers = record w.state.wakers { cell = cell } }

  abbrev pub with_taken : Option WakerName → World
  with_taken taken = record w { state = record w.state { wakers = record w.state.wakers { taken = taken } } }

  pub record WrongCells : Type 0 where
    -- the message at home was already taken
    pub takes_early : CellsAreSo sent stored (record w.state { message = Some Delivered }) → ⊥
    -- a sender that was dropped left a message
    pub sends_and_drops : CellsAreSo ((Xor, Word EMPTY) ∷ []) [] (record w.state { message = Some InCell }) → ⊥
    -- the waker that a receiver stored is missing
    pub stores_nothing : CellsAreSo [] stored (with_cell None) → ⊥
    -- the sender is done and left the waker in its cell
    pub leaves_waker : CellsAreSo sent stored (with_cell (Some Parker)) → ⊥
    -- the block is freed while the message is at home
    pub frees_early : CellsAreSo sent stored (record w.state { freed = true }) → ⊥
    -- the message at home is not that of the run
    pub other_message : (other : T) → (other ≡ m → ⊥) → Slots (Some other) (scene_at w 7) → ⊥
    -- an end gave or took another message than the run's
    pub passed_another : (other : T) → (other ≡ m → ⊥) → Passed m (Some other) → ⊥
    -- a slot that holds one is not bare
    pub no_message : Slots None (scene_at w 7) → ⊥
    -- the sender is about to wake another waker than the one that waits, or nobody
    pub wakes_another : WakesNext (sends m) receives (entries_by receives in_park) 8 (with_taken (Some (Copy 0 1))) → ⊥
    pub wakes_nobody : WakesNext (sends m) receives (entries_by receives in_park) 8 (with_taken None) → ⊥

  -- a trace that uses its block once more after freeing it: the free is not the last use, and the user
  -- does not hold the block
  abbrev pub used_freed : List Mark
  used_freed = marks (calls_of (sends m) receives) (entries m ++ entries_by receives (r ∷ []))

  pub record WrongUses : Type 0 where
    pub after_free : IsFalse (is_free_last used_freed)
    pub by_no_holder : IsFalse (is_held both_hold used_freed)
