-- What a contract sees of a trace: its entries, whether the block is freed, and the message's rest.
use Rattle.std.specs.Prelude.{◌≡◌, Bool, List, [], ◌∷◌, Option}
use Rattle.oneshot_world.specs.World.{World, opening, IsRun}
use Rattle.oneshot_world.specs.declared.script.Move.{Move}
use Rattle.oneshot_world.specs.declared.script.ReceiverScript.{ReceiverScript}
use Rattle.oneshot_world.specs.declared.script.SenderScript.{SenderScript}
use Rattle.oneshot_world.specs.declared.trace.Entry.{Entry}
use Rattle.oneshot_replay.specs.Rest.{message_of, rest_at}
use Rattle.oneshot_replay.specs.declared.rest.Rest.{Rest}

pub record TraceView (T : Type 0) : Type 0 where
  pub entries : List Entry
  pub block_freed : Bool
  pub rest : Option (Rest T)

-- the last of these worlds, or the one before them if there are none
abbrev pub last_of : World → List World → World
last_of w [] = w
last_of w (next ∷ worlds) = last_of next worlds

-- The two scripts have a run, a list of worlds one longer than the moves: entry k reports the step from world
-- k to world k + 1. The block and the message's place are those of the last world, and the message is that of
-- the script.
pub record IsReplayed {T : Type 0} (s : SenderScript T) (r : ReceiverScript) (moves : List Move) (t : TraceView T)
    : Type 0 where
  pub worlds : List World
  pub is_run : IsRun (opening s r) worlds moves t.entries
  pub block_freed : t.block_freed ≡ (last_of (opening s r) worlds).state.freed
  pub rest : t.rest ≡ rest_at (last_of (opening s r) worlds).state.message (message_of s.last)

-- Two scripts have at most one trace under these moves.
abbrev pub IsDetermined : (T : Type 0) → Type 0
IsDetermined T =
    (s : SenderScript T) (r : ReceiverScript) (moves : List Move) (t u : TraceView T)
    → IsReplayed s r moves t → IsReplayed s r moves u → t ≡ u
