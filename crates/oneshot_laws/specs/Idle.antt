-- An end is idle only if it has no call under way and none left.
use Rattle.std.specs.Prelude.{Bool, true, ◌&&◌, List, [], ◌∷◌}
use Rattle.oneshot_world.specs.Calls.{Calls, is_none_left}
use Rattle.oneshot_world.specs.World.{by_end}
use Rattle.oneshot_world.specs.declared.trace.Entry.{Entry}
use Rattle.oneshot_world.specs.declared.trace.Entry.TheVariants.{Idle, Made as Made_entry}
use Rattle.oneshot_laws.specs.Marks.{Reading, read, sender_reading, receiver_reading}

abbrev pub is_idle_right_from : Reading → Reading → List Entry → Bool
is_idle_right_from s r [] = true
is_idle_right_from s r (Idle side ∷ entries) =
    is_none_left (by_end side s r).left.calls && is_idle_right_from s r entries
is_idle_right_from s r (Made_entry e ∷ entries) =
    is_idle_right_from (by_end e.side (read s e) s) (by_end e.side r (read r e)) entries

abbrev pub is_idle_right : Calls → List Entry → Bool
is_idle_right c entries = is_idle_right_from (sender_reading c) (receiver_reading c) entries
