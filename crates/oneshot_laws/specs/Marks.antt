-- Marks: each entry of a trace with its call, the call's reply, whether it begins or acts here, and the object.
use Rattle.std.specs.Prelude.{ℕ, ◌+◌, Bool, true, false, not, ◌&&◌, ◌||◌, List, [], ◌∷◌, ◌++◌, Option, Some, None, is_some}
use Rattle.std.specs.List.{list_any}
use Rattle.oneshot_machine.specs.declared.machine.End.{End}
use Rattle.oneshot_machine.specs.declared.machine.Reply.{Reply}
use Rattle.oneshot_world.specs.Calls.{Call, Stray, Calls, Unanswered, first, is_none_left, left_by}
use Rattle.oneshot_world.specs.World.{by_end}
use Rattle.oneshot_world.specs.declared.trace.Entry.{Entry}
use Rattle.oneshot_world.specs.declared.trace.Entry.TheVariants.{Idle, Made as Made_entry}
use Rattle.oneshot_world.specs.declared.trace.Made.{Made}
use Rattle.oneshot_laws.specs.Entries.{is_same_end, is_nothing_yet, is_word, is_load, is_add_or_xor, is_swap, is_swap_of, found}
use Rattle.oneshot_laws.specs.Object.{Action, Send, Sender_gone, Take, Take_and_go, Look_full, Look_closed, Look_receiver_gone, Receiver_gone, Object, new_object}
use Rattle.oneshot_laws.specs.Actions.{action_of, stepped}
use Rattle.oneshot_machine.specs.declared.states.TheConstants.{DISCONNECTED, EMPTY, MESSAGE}

-- The acting entry of a call is the first, or the last, of its entries that pass a test; a call that is no
-- step of the object has none.
pub data Rule : Type 0 where
  First : (test : Made → Bool) → Rule
  Last : (test : Made → Bool) → Rule
  Never : Rule

abbrev pub loads : Made → Bool
loads e = is_load e.step

-- an add or an xor that found EMPTY or DISCONNECTED, or else the final swap: a call has only one
abbrev pub finishes : Made → Bool
finishes e = is_add_or_xor e.step && (found EMPTY e.before || found DISCONNECTED e.before) || is_swap e.step

abbrev pub works_on_word : Made → Bool
works_on_word e = is_word e.step

abbrev pub finds_full_or_closed : Made → Bool
finds_full_or_closed e = is_word e.step && (found MESSAGE e.before || found DISCONNECTED e.before)

abbrev pub swaps_closed_in : Made → Bool
swaps_closed_in e = is_swap_of DISCONNECTED e.step

-- A receive that replies "nothing yet" acts at its last operation on the word. Any other receive, also one
-- that has not replied, acts where it first finds MESSAGE or DISCONNECTED.
abbrev pub receive_rule : Option Reply → Rule
receive_rule answer = elim (is_nothing_yet answer) [ true ↦ Last works_on_word | false ↦ First finds_full_or_closed ]

-- by the call's step of the object, and its reply if the trace has one
abbrev pub rule_of : Action → Option Reply → Rule
rule_of Send answer = First finishes
rule_of Sender_gone answer = First finishes
rule_of Take answer = receive_rule answer
rule_of Take_and_go answer = receive_rule answer
rule_of Look_full answer = First loads
rule_of Look_closed answer = First loads
rule_of Look_receiver_gone answer = First loads
rule_of Receiver_gone answer = First swaps_closed_in

abbrev pub rule : Call → Option Reply → Rule
rule call answer = elim (action_of call) [ None ↦ Never | Some action ↦ rule_of action answer ]

-- whether an entry is the acting one of a call with these entries before and after it
abbrev pub acts : Rule → List Made → Made → List Made → Bool
acts (First test) earlier e later = test e && not (list_any test earlier)
acts (Last test) earlier e later = test e && not (list_any test later)
acts Never earlier e later = false

-- whether a call has acted, with these entries so far and these still to come
abbrev pub has_acted : Rule → List Made → List Made → Bool
has_acted (First test) so_far later = list_any test so_far
has_acted (Last test) so_far later = list_any test so_far && not (list_any test later)
has_acted Never so_far later = false

-- `before` while there is no reply, else `after`
abbrev pub until_reply : {X : Type 0} → Option Reply → X → X → X
until_reply None before after = before
until_reply (Some reply) before after = after

-- an end's entries up to its next reply
abbrev pub to_reply : End → List Entry → List Made
to_reply end [] = []
to_reply end (Idle side ∷ entries) = to_reply end entries
to_reply end (Made_entry e ∷ entries) =
    elim (is_same_end e.side end) [
      | true ↦ e ∷ until_reply e.reply (to_reply end entries) []
      | false ↦ to_reply end entries
    ]

-- the reply of these entries
abbrev pub reply_among : List Made → Option Reply
reply_among [] = None
reply_among (e ∷ entries) = until_reply e.reply (reply_among entries) e.reply

-- a reading of the trace at one end: what its script has left, and the entries so far of the call under
-- way
pub record Reading : Type 0 where
  pub left : Unanswered
  pub earlier : List Made

abbrev pub read_by : End → Reading → Made → Reading
read_by side at e =
    record {
      left = left_by side e.reply at.left;
      earlier = until_reply e.reply (at.earlier ++ e ∷ []) [];
    }

abbrev pub read : Reading → Made → Reading
read at e = read_by e.side at e

-- `number` is the entry's, counted from 1; `object` is the state that the acting entries before it left;
-- `acted` is whether the call has acted, here or before.
pub record Mark : Type 0 where
  pub number : ℕ
  pub entry : Made
  pub call : Call
  pub answer : Option Reply
  pub begins : Bool
  pub acting : Bool
  pub acted : Bool
  pub object : Object

-- the call that an entry belongs to: the first that its end has left
abbrev pub or_stray : Option Call → Call
or_stray None = Stray
or_stray (Some call) = call

abbrev pub call_under_way : Unanswered → Call
call_under_way left = or_stray (first left.calls)

-- the mark of an entry, by the later entries of its call
abbrev pub mark_at : ℕ → Object → Reading → Made → List Made → Mark
mark_at number o at e later =
    record {
      number = number;
      entry = e;
      call = call_under_way at.left;
      answer = reply_among (e ∷ later);
      begins = is_none_left at.earlier;
      acting = acts (rule (call_under_way at.left) (reply_among (e ∷ later))) at.earlier e later;
      acted = has_acted (rule (call_under_way at.left) (reply_among (e ∷ later))) (at.earlier ++ e ∷ []) later;
      object = o;
    }

-- the object after a mark
abbrev pub object_then : Mark → Object
object_then m = elim m.acting [ true ↦ stepped (action_of m.call) m.object | false ↦ m.object ]

-- the marks of the entries from here on
abbrev pub marks_from : Reading → Reading → ℕ → Object → List Entry → List Mark
marks_from s r number o [] = []
marks_from s r number o (Idle side ∷ entries) = marks_from s r (number + 1) o entries
marks_from s r number o (Made_entry e ∷ entries) =
    let mark : Mark = mark_at number o (by_end e.side s r) e (until_reply e.reply (to_reply e.side entries) [])
    in mark
    ∷ marks_from (by_end e.side (read s e) s) (by_end e.side r (read r e)) (number + 1) (object_then mark) entries

-- the readings before the first entry
abbrev pub sender_reading : Calls → Reading
sender_reading c = record { left = record { calls = c.sender; error = c.error }; earlier = [] }

abbrev pub receiver_reading : Calls → Reading
receiver_reading c = record { left = record { calls = c.receiver; error = [] }; earlier = [] }

abbrev pub marks : Calls → List Entry → List Mark
marks c entries = marks_from (sender_reading c) (receiver_reading c) 1 new_object entries

-- whether an entry has its call's reply
abbrev pub ends : Mark → Bool
ends m = is_some m.entry.reply

abbrev pub side : Mark → End
side m = m.entry.side

-- the marks of the call that an end has under way or begins next, up to its reply
abbrev pub call_marks : End → List Mark → List Mark
call_marks end [] = []
call_marks end (m ∷ later) =
    elim (is_same_end (side m) end) [
      | true ↦ m ∷ until_reply m.entry.reply (call_marks end later) []
      | false ↦ call_marks end later
    ]

-- a claim on the marks of each call
abbrev pub each_call : (List Mark → Bool) → List Mark → Bool
each_call claim [] = true
each_call claim (m ∷ later) = (not m.begins || claim (call_marks (side m) (m ∷ later))) && each_call claim later

-- a claim on what follows each mark that passes a test
abbrev pub after_each : (Mark → Bool) → (List Mark → Bool) → List Mark → Bool
after_each test claim [] = true
after_each test claim (m ∷ later) = (not (test m) || claim later) && after_each test claim later
