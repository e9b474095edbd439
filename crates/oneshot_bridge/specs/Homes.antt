-- What a run's cells hold, given the slots that the rule of the word has at home, and when the block may be freed.
-- A slot is at home while it is in the shared table: no end has taken it. In the field's terms the table's invariant
-- owns it. Both phases fix which slots are at home: `message_home` and `waker_home` of oneshot_word/specs/Rule.antt.
use Rattle.std.specs.Prelude.{◌≡◌, ℕ, Bool, true, false, ◌&&◌, ◌||◌, List, [], ◌∷◌, Option, Some, None, is_some, IsTrue, IsFalse}
use Rattle.oneshot_machine.specs.Noted.{Noted}
use Rattle.oneshot_machine.specs.Orders.{Reaches}
use Rattle.oneshot_machine.specs.Phases.{SenderAt, sender_at, sender_moves, sender_owns, ReceiverAt, receiver_at, receiver_moves, receiver_owns, Share, empty, filled}
use Rattle.oneshot_world.specs.State.{is_in_cell}
use Rattle.oneshot_world.specs.declared.script.Move.{Move}
use Rattle.oneshot_world.specs.declared.script.ReceiverScript.{ReceiverScript}
use Rattle.oneshot_world.specs.declared.script.SenderScript.{SenderScript}
use Rattle.oneshot_world.specs.declared.state.State.{State}
use Rattle.oneshot_world.specs.declared.trace.Entry.{Entry}
use Rattle.oneshot_world.specs.declared.trace.Place.TheVariants.{InCell}
use Rattle.oneshot_replay.specs.Scene.{Scene}
use Rattle.oneshot_word.specs.Rule.{message_home, waker_home}
use Rattle.oneshot_bridge.specs.OrdersRun.{RunsSo}

-- what the rule has at home of each slot: nothing while an end has the slot
abbrev pub message_of_logs : List Noted → List Noted → Share
message_of_logs xs ys = message_home (sender_at xs) (receiver_at ys)

abbrev pub waker_of_logs : List Noted → List Noted → Share
waker_of_logs xs ys = waker_home (sender_at xs) (receiver_at ys)

-- one end has both slots, and the other has no operation left
abbrev pub has_both : Option (Bool × Bool) → Bool
has_both (Some (message, waker)) = message && waker
has_both None = false

abbrev pub has_no_more : {X : Type 0} → List X → Bool
has_no_more [] = true
has_no_more (row ∷ rows) = false

abbrev pub one_has_both : SenderAt → ReceiverAt → Bool
one_has_both p q =
    has_both (sender_owns p) && has_no_more (receiver_moves q)
    || has_both (receiver_owns q) && has_no_more (sender_moves p)

-- The cells of a world to which a run with these logs leads. The logs do not show whether the cell of
-- an end's slot is full, since the end fills and empties it by steps that are in no log.
pub record CellsAreSo (xs ys : List Noted) (s : State) : Type 0 where
  -- a message at home is in its cell, and the cell of an empty home is empty
  pub message : message_of_logs xs ys ≡ filled → s.message ≡ Some InCell
  pub no_message : message_of_logs xs ys ≡ empty → IsFalse (is_in_cell s.message)
  -- a waker at home is in its cell, and the cell of an empty home is empty
  pub waker : waker_of_logs xs ys ≡ filled → IsTrue (is_some s.wakers.cell)
  pub no_waker : waker_of_logs xs ys ≡ empty → s.wakers.cell ≡ None
  -- the block is freed only where one end has both slots, and the other has no operation left
  pub freed : IsTrue s.freed → IsTrue (one_has_both (sender_at xs) (receiver_at ys))

-- The cells of each run with the logs of an order by both phases' tables.
abbrev pub RunsHaveCells : (T : Type 0) → Type 0
RunsHaveCells T =
    (a : SenderScript T) (b : ReceiverScript) (moves : List Move) (entries : List Entry) (now : Scene T)
    (xs ys : List Noted) (word : ℕ)
    → RunsSo a b moves entries now xs ys word → Reaches xs ys word → CellsAreSo xs ys now.world.state
