-- Linearizability: each reply is the object's at the call's acting entry, so the calls, in the order of these
-- entries, are a legal history of the object.
use Rattle.std.specs.Prelude.{Bool, true, false, not, ◌&&◌, List, Option, Some, None, is_some, filter}
use Rattle.std.specs.List.{list_all}
use Rattle.oneshot_machine.specs.declared.machine.Reply.{Reply}
use Rattle.oneshot_world.specs.Calls.{Call}
use Rattle.oneshot_laws.specs.Entries.{only_if, is_same_reply}
use Rattle.oneshot_laws.specs.Actions.{action_of, reply_on, fixed_reply_of, is_stray}
use Rattle.oneshot_laws.specs.Marks.{Mark, ends}

-- the calls in the order of their acting entries, also those that have acted and not replied
abbrev pub history : List Mark → List Mark
history ms = filter (λ m. m.acting) ms

-- if a call has replied, its reply is the expected one
abbrev pub agrees : Option Reply → Option Reply → Bool
agrees None expected = true
agrees (Some reply) None = false
agrees (Some reply) (Some expected) = is_same_reply reply expected

-- the object's reply at a mark
abbrev pub object_reply : Mark → Option Reply
object_reply m = reply_on m.call m.object (action_of m.call)

abbrev pub is_object_step : Call → Bool
is_object_step call = is_some (action_of call)

-- every call of the history that has replied has the object's reply there
abbrev pub is_legal : List Mark → Bool
is_legal ms = list_all (λ m. agrees m.answer (object_reply m)) (history ms)

-- every step of the object that has replied has acted by then
abbrev pub is_complete : List Mark → Bool
is_complete ms = list_all (λ m. only_if (ends m && is_object_step m.call) m.acted) ms

-- the other calls have their fixed replies
abbrev pub is_right_outside : List Mark → Bool
is_right_outside ms =
    list_all (λ m. only_if (not (is_object_step m.call) && not (is_stray m.call))
    (agrees m.entry.reply (fixed_reply_of m.call))) ms

-- every entry belongs to a call of the scripts
abbrev pub is_covered : List Mark → Bool
is_covered ms = list_all (λ m. not (is_stray m.call)) ms

abbrev pub has_legal_history : List Mark → Bool
has_legal_history ms = is_legal ms && is_complete ms && is_right_outside ms && is_covered ms
