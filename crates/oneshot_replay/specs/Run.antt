-- A run that is stepped by hand: what it has reached, and how it goes on.
use Rattle.std.specs.Prelude.{◌≡◌, List, [], ◌∷◌, ◌++◌, length}
use Rattle.oneshot_world.specs.World.{World, opening, IsRun}
use Rattle.oneshot_world.specs.declared.script.Move.{Move}
use Rattle.oneshot_world.specs.declared.script.ReceiverScript.{ReceiverScript}
use Rattle.oneshot_world.specs.declared.script.SenderScript.{SenderScript}
use Rattle.oneshot_world.specs.declared.trace.Entry.{Entry}
use Rattle.oneshot_replay.specs.Rest.{message_of, rest_at}
use Rattle.oneshot_replay.specs.Scene.{Scene}
use Rattle.oneshot_replay.specs.TraceView.{TraceView, last_of}

-- A run of these scripts under these moves, which made these entries and reached `now`: entry k reports the
-- step from world k to world k + 1.
pub record HasRun {T : Type 0} (s : SenderScript T) (r : ReceiverScript) (moves : List Move) (entries : List Entry)
    (now : Scene T) : Type 0 where
  pub worlds : List World
  pub is_run : IsRun (opening s r) worlds moves entries
  pub ends : last_of (opening s r) worlds ≡ now.world
  pub count : now.count ≡ length moves
  pub message : now.message ≡ message_of s.last

-- the trace that ends here
abbrev pub trace_at : {T : Type 0} → List Entry → Scene T → TraceView T
trace_at entries now =
    record {
      entries = entries;
      block_freed = now.world.state.freed;
      rest = rest_at now.world.state.message now.message;
    }

-- every run that has reached the one scene goes on to the other, by this move and with this entry
abbrev pub GoesOn : {T : Type 0} → Scene T → Move → Entry → Scene T → Type 0
GoesOn {T = T} from move entry to =
    (s : SenderScript T) (r : ReceiverScript) (moves : List Move) (entries : List Entry)
    → HasRun s r moves entries from → HasRun s r (moves ++ move ∷ []) (entries ++ entry ∷ []) to

-- this holds of every run of two scripts, at every point
abbrev pub OfEachRun : (T : Type 0) → (SenderScript T → ReceiverScript → List Move → List Entry → Scene T → Type 0)
    → Type 0
OfEachRun T holds =
    (s : SenderScript T) (r : ReceiverScript) (moves : List Move) (entries : List Entry) (now : Scene T)
    → HasRun s r moves entries now → holds s r moves entries now
