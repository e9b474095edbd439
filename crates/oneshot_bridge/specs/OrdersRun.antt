-- The bridge: each order of both ends' operations is that of a run of the model, which keeps every law.
use Rattle.std.specs.Prelude.{◌≡◌, ℕ, List, Option, None, if◌then◌else◌}
use Rattle.std.specs.List.{filter_map}
use Rattle.std.specs.Option.{option_map}
use Rattle.oneshot_machine.specs.declared.machine.End.{End}
use Rattle.oneshot_machine.specs.declared.machine.End.TheVariants.{Sender, Receiver}
use Rattle.oneshot_machine.specs.Noted.{Noted, op_of}
use Rattle.oneshot_machine.specs.Orders.{InOrder}
use Rattle.oneshot_world.specs.Scripts.{calls_of}
use Rattle.oneshot_world.specs.World.{by_end}
use Rattle.oneshot_world.specs.declared.script.Move.{Move}
use Rattle.oneshot_world.specs.declared.script.ReceiverScript.{ReceiverScript}
use Rattle.oneshot_world.specs.declared.script.SenderScript.{SenderScript}
use Rattle.oneshot_world.specs.declared.trace.Entry.{Entry}
use Rattle.oneshot_world.specs.declared.trace.Entry.TheVariants.{Idle, Made as Made_entry}
use Rattle.oneshot_world.specs.declared.trace.Made.{Made}
use Rattle.oneshot_laws.specs.Entries.{is_same_end}
use Rattle.oneshot_laws.specs.Marks.{Mark, marks, side}
use Rattle.oneshot_replay.specs.Right.{IsRight}
use Rattle.oneshot_replay.specs.Run.{HasRun, trace_at}
use Rattle.oneshot_replay.specs.Scene.{Scene}
use Rattle.oneshot_bridge.specs.Walks.{Answered, SenderStand, ReceiverStand, SenderWalk, ReceiverWalk}

-- an entry's operation on the word, if it has one, with what it saw
abbrev pub operation_of : Made → Option Noted
operation_of e = option_map (λ op. (op, e.seen)) (op_of e.step)

-- the same if this end made the entry, otherwise none
abbrev pub noted_of : End → Entry → Option Noted
noted_of end (Idle side) = None
noted_of Sender (Made_entry e) = by_end e.side (operation_of e) None
noted_of Receiver (Made_entry e) = by_end e.side None (operation_of e)

-- an end's log, as a trace shows it
abbrev pub log_of : End → List Entry → List Noted
log_of end = filter_map (noted_of end)

-- an end's calls that have replied, each with its reply, as the marks of a trace show them
abbrev pub answered_at : End → Mark → Option Answered
answered_at end m = if is_same_end (side m) end then option_map (λ reply. (m.call, reply)) m.entry.reply else None

abbrev pub answered_by : End → List Mark → List Answered
answered_by end = filter_map (answered_at end)

-- A run of both scripts under these moves, whose entries have these logs, and whose last world has this word.
-- It relates the model to what both real ends show, as a simulation relation relates two systems.
pub record RunsSo {T : Type 0} (a : SenderScript T) (b : ReceiverScript) (moves : List Move) (entries : List Entry)
    (now : Scene T) (xs ys : List Noted) (word : ℕ) : Type 0 where
  pub run : HasRun a b moves entries now
  pub sender_log : log_of Sender entries ≡ xs
  pub receiver_log : log_of Receiver entries ≡ ys
  pub leaves : now.world.state.word ≡ word

-- There is such a run. At its end both ends are here in their scripts, with the same calls and replies, and the run
-- keeps every law.
pub record RunsTo {T : Type 0} (a : SenderScript T) (b : ReceiverScript) (xs ys : List Noted) (word : ℕ)
    (s : SenderStand) (r : ReceiverStand) : Type 0 where
  pub moves : List Move
  pub entries : List Entry
  pub now : Scene T
  pub run : RunsSo a b moves entries now xs ys word
  pub sender : (now.world.state.sender, now.world.sender, answered_by Sender (marks (calls_of a b) entries)) ≡ s
  pub receiver : (now.world.state.receiver, now.world.receiver, answered_by Receiver (marks (calls_of a b) entries)) ≡ r
  pub right : IsRight a b moves (trace_at entries now)

-- Whatever order the operations of both ends had: if each end alone carries out its script, a schedule
-- leads the model through the same operations, which find the same words, to where both ends are, with
-- the same replies. In the field's terms this is a forward simulation; `Got` of proofs/Worlds.antt is its relation.
abbrev pub OrdersAreRuns : (T : Type 0) → Type 0
OrdersAreRuns T =
    (a : SenderScript T) (b : ReceiverScript) (xs ys : List Noted) (word : ℕ) (s : SenderStand) (r : ReceiverStand)
    → InOrder xs ys word → SenderWalk a xs s → ReceiverWalk b ys r → RunsTo a b xs ys word s r
