-- A call during which the other end makes no step replies as the object does, and leaves the same state.
use Rattle.std.specs.Prelude.{Bool, true, false, not, ◌&&◌, ◌||◌, List, [], ◌∷◌, Option, if◌then◌else◌}
use Rattle.oneshot_world.specs.Calls.{Call}
use Rattle.oneshot_laws.specs.Entries.{only_if, is_same_end}
use Rattle.oneshot_laws.specs.Object.{Object, is_same_object}
use Rattle.oneshot_laws.specs.Actions.{action_of, fixed_reply_of, reply_on, stepped}
use Rattle.oneshot_laws.specs.Marks.{Mark, ends, side, object_then}
use Rattle.oneshot_laws.specs.History.{agrees, is_object_step}
use Rattle.oneshot_machine.specs.declared.machine.End.{End}
use Rattle.oneshot_machine.specs.declared.machine.Reply.{Reply}

-- the reply of a call that runs alone on this object
abbrev pub lone_reply : Call → Object → Option Reply
lone_reply call o = elim (is_object_step call) [ true ↦ reply_on call o (action_of call) | false ↦ fixed_reply_of call ]

-- its reply, and the object that it leaves, are those of a call alone on `o`
abbrev pub is_lone_answer : Object → Mark → Bool
is_lone_answer o m =
    agrees m.entry.reply (lone_reply m.call o)
    && is_same_object (object_then m) (stepped (action_of m.call) o)

-- from a call's mark on: if the other end makes no step before the reply, the reply is right
abbrev pub is_lone_call : Object → End → List Mark → Bool
is_lone_call o end [] = true
is_lone_call o end (m ∷ later) =
    not (is_same_end (side m) end) || (if ends m then is_lone_answer o m else is_lone_call o end later)

abbrev pub are_lone_calls_right : List Mark → Bool
are_lone_calls_right [] = true
are_lone_calls_right (m ∷ later) =
    only_if m.begins (is_lone_call m.object (side m) (m ∷ later)) && are_lone_calls_right later
