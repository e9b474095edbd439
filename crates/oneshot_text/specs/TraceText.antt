-- The text of a trace: a line for each entry, then where the message is left, and then whether the block is freed.
use Rattle.std.specs.Prelude.{◌≡◌, ℕ, ◌+◌, List, [], ◌∷◌, ◌++◌, codes, Option, unwrap_or}
use Rattle.std.specs.Option.{option_and_then}
use Rattle.oneshot_world.specs.Calls.{first, as_receiver_call}
use Rattle.oneshot_world.specs.World.{World, IsRunFrom}
use Rattle.oneshot_replay.specs.Rest.{rest_at}
use Rattle.oneshot_replay.specs.TraceView.{last_of}
use Rattle.oneshot_replay.specs.declared.Entry.{Entry}
use Rattle.oneshot_replay.specs.declared.Move.{Move}
use Rattle.oneshot_text.specs.declared.show.entry.EntryLine.{EntryLine}
use Rattle.oneshot_text.specs.EntryText.{entry_text}
use Rattle.oneshot_text.specs.RestText.{rest_text, block_text}

abbrev pub line : List ℕ → List ℕ
line text = text ++ 10 ∷ []

-- an entry with all that its line shows
abbrev pub line_of : EntryLine → List ℕ
line_of e = line (entry_text e.number e.call e.message e.entry)

-- the entries from this number on, each with the world before it: the receiver's call there is the one
-- that a reply ends
abbrev pub entries_text : ℕ → ℕ → World → List World → List Entry → List ℕ
entries_text message number w (next ∷ worlds) (entry ∷ entries) =
    line (entry_text number (option_and_then as_receiver_call (first w.receiver.calls)) message entry)
    ++ entries_text message (number + 1) next worlds entries
entries_text message number w worlds entries = []

-- the last two lines
abbrev pub end_text : Option ℕ → World → List ℕ
end_text message w =
    line (codes "rest " ++ rest_text (rest_at w.state.message message))
    ++ line (codes "block " ++ block_text w.state.freed)

-- The text of the run from this world on under these moves, whose first entry has this number. If the
-- script has no message, no reply shows one.
pub record IsTextOf (message : Option ℕ) (number : ℕ) (w : World) (moves : List Move) (text : List ℕ) : Type 0 where
  pub worlds : List World
  pub entries : List Entry
  pub is_run : IsRunFrom number w worlds moves entries
  pub written : text ≡ entries_text (unwrap_or message 0) number w worlds entries ++ end_text message (last_of w worlds)
