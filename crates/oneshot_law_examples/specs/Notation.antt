-- The notation of the examples: how a trace is written, and how it is damaged.
use Rattle.std.specs.Prelude.{ℕ, ◌+◌, ◌-◌, Bool, true, false, take, drop, map, List, ◌++◌, Option, Some, None}
use Rattle.oneshot_machine.specs.declared.machine.End.{End}
use Rattle.oneshot_machine.specs.declared.machine.End.TheVariants.{Sender, Receiver}
use Rattle.oneshot_machine.specs.declared.machine.Reply.{Reply}
use Rattle.oneshot_machine.specs.declared.machine.Seen.{Seen}
use Rattle.oneshot_machine.specs.declared.machine.Seen.TheVariants as S
use Rattle.oneshot_machine.specs.declared.machine.Step.{Step}
use Rattle.oneshot_machine.specs.declared.machine.Step.TheVariants as T
use Rattle.oneshot_machine.specs.declared.states.Op.{Op}
use Rattle.oneshot_machine.specs.declared.states.Op.TheVariants as O
use Rattle.oneshot_world.specs.Calls.{Calls}
use Rattle.oneshot_world.specs.declared.script.Move.{Move}
use Rattle.oneshot_world.specs.declared.script.Move.TheVariants as M
use Rattle.oneshot_world.specs.declared.trace.Entry.{Entry}
use Rattle.oneshot_world.specs.declared.trace.Entry.TheVariants as E
use Rattle.oneshot_world.specs.declared.trace.Made.{Made}
use Rattle.oneshot_world.specs.declared.trace.Place.{Place}
use Rattle.oneshot_world.specs.declared.trace.WakerName.{WakerName}
use Rattle.oneshot_world.specs.declared.trace.WakerPlace.{WakerPlace}

-- a trace with its scripts
pub record Example : Type 0 where
  pub calls : Calls
  pub entries : List Entry

abbrev pub seen_at : Step → Option ℕ → Seen
seen_at (T.Word (O.Store new)) before = S.Done
seen_at (T.Word op) (Some word) = S.Word word
seen_at _ before = S.Done

-- the move that makes an entry, by what its clock or its copy saw
abbrev pub moved_when : Seen → Move
moved_when (S.Over over) = M.Receiver over false
moved_when (S.Refused refuse) = M.Receiver false refuse
moved_when _ = M.Receiver false false

abbrev pub move_in : Entry → Move
move_in (E.Idle Sender) = M.Sender
move_in (E.Idle Receiver) = M.Receiver false false
move_in (E.Made e) = elim e.side [ Sender ↦ M.Sender | Receiver ↦ moved_when e.seen ]

-- an end's step, with the word before and after it; none once the block is freed
abbrev pub step_of : End → Step → Option ℕ → Option ℕ → Made
step_of end step before after =
    record {
      side = end;
      step = step;
      seen = seen_at step before;
      before = before;
      after = after;
      message = None;
      waker = None;
      token_set = false;
      own = None;
      reply = None;
    }

abbrev pub sender : Step → ℕ → ℕ → Made
sender step before after = step_of Sender step (Some before) (Some after)

abbrev pub receiver : Step → ℕ → ℕ → Made
receiver step before after = step_of Receiver step (Some before) (Some after)

abbrev pub frees : End → ℕ → Made
frees end before = step_of end T.Free (Some before) None

-- a step after the block was freed
abbrev pub without_block : End → Step → Made
without_block end step = step_of end step None None

-- a park, which ended by its token or without one
abbrev pub parked : Bool → ℕ → Made
parked by_token before = record (receiver T.Park before before) { seen = S.Token by_token }

-- a copy of a task's waker, which is refused or not
abbrev pub copied : Bool → ℕ → Made
copied refused before = record (receiver T.Copy before before) { seen = S.Refused refused }

-- a reading of the clock
abbrev pub clocked : Bool → ℕ → Made
clocked over before = record (receiver T.Clock before before) { seen = S.Over over }

-- the message's move, a waker's move, a token that is set, a poll's own wake, and the reply
abbrev pub moving : Place → Place → Made → Made
moving from to e = record e { message = Some (from, to) }

abbrev pub carrying : WakerName → WakerPlace → WakerPlace → Made → Made
carrying name from to e = record e { waker = Some (name, from, to) }

abbrev pub setting_token : Made → Made
setting_token e = record e { token_set = true }

abbrev pub waking_own : ℕ → Made → Made
waking_own number e = record e { own = Some number }

abbrev pub replying : Reply → Made → Made
replying reply e = record e { reply = Some reply }

-- the first k entries alone
abbrev pub up_to : ℕ → Example → Example
up_to k x = record x { entries = take k x.entries }

-- damages to entry k, counted from 1: it is taken out, exchanged with the next one, put behind a later one or
-- before an earlier one, repeated, or changed in its reply, in the message's move or in a waker's
abbrev pub without : ℕ → Example → Example
without k x = record x { entries = take (k - 1) x.entries ++ drop k x.entries }

abbrev pub exchanged : ℕ → Example → Example
exchanged k x =
    record x {
      entries =
          take (k - 1) x.entries
          ++ take 1 (drop k x.entries)
          ++ take 1 (drop (k - 1) x.entries)
          ++ drop (k + 1) x.entries;
    }

abbrev pub put_behind : ℕ → ℕ → Example → Example
put_behind later k x =
    record x {
      entries =
          take (k - 1) x.entries
          ++ take (later - k) (drop k x.entries)
          ++ take 1 (drop (k - 1) x.entries)
          ++ drop later x.entries;
    }

abbrev pub put_before : ℕ → ℕ → Example → Example
put_before earlier k x =
    record x {
      entries =
          take (earlier - 1) x.entries
          ++ take 1 (drop (k - 1) x.entries)
          ++ take (k - earlier) (drop (earlier - 1) x.entries)
          ++ drop k x.entries;
    }

abbrev pub twice : ℕ → Example → Example
twice k x = record x { entries = take k x.entries ++ drop (k - 1) x.entries }

abbrev pub changed : (Made → Made) → Entry → Entry
changed change (E.Idle side) = E.Idle side
changed change (E.Made e) = E.Made (change e)

abbrev pub changed_at : ℕ → (Made → Made) → Example → Example
changed_at k change x =
    record x {
      entries =
          take (k - 1) x.entries
          ++ map (changed change) (take 1 (drop (k - 1) x.entries))
          ++ drop k x.entries;
    }

-- the word of an entry is changed: what it finds, or the operation
abbrev pub finding_at : ℕ → ℕ → Example → Example
finding_at k word x = changed_at k (λ e. record e { before = Some word }) x

abbrev pub operating_at : ℕ → Op → ℕ → ℕ → Example → Example
operating_at k op before after x =
    changed_at k (λ e.
    record e {
      step = T.Word op;
      seen = seen_at (T.Word op) (Some before);
      before = Some before;
      after = Some after;
    }) x

abbrev pub answered_by : ℕ → Reply → Example → Example
answered_by k reply x = changed_at k (replying reply) x

abbrev pub unmoving : Made → Made
unmoving e = record e { message = None }

abbrev pub unmoved_by : ℕ → Example → Example
unmoved_by k x = changed_at k unmoving x

abbrev pub moved_by : ℕ → Place → Place → Example → Example
moved_by k from to x = changed_at k (moving from to) x

abbrev pub uncarrying : Made → Made
uncarrying e = record e { waker = None }

abbrev pub uncarried_by : ℕ → Example → Example
uncarried_by k x = changed_at k uncarrying x

abbrev pub carried_by : ℕ → WakerName → WakerPlace → WakerPlace → Example → Example
carried_by k name from to x = changed_at k (carrying name from to) x
