-- A walk: one end carries out its script alone, each step by a row of its table.
-- It notes its operations on the word and the replies of its calls. It knows no other end, no schedule,
-- and only the words that it found.
-- In the field's terms each end is a labelled transition system, and a walk is one of its executions. The walk's log is
-- the execution's trace: an operation is a visible label, and a quiet step is a silent one.
use Rattle.std.specs.Prelude.{◌≡◌, Bool, true, false, List, [], ◌∷◌, ◌++◌, Option, Some, None}
use Rattle.std.specs.Option.{option_and_then}
use Rattle.oneshot_machine.specs.declared.machine.End.{End}
use Rattle.oneshot_machine.specs.declared.machine.End.TheVariants.{Sender, Receiver}
use Rattle.oneshot_machine.specs.declared.machine.Reply.{Reply}
use Rattle.oneshot_machine.specs.declared.machine.Seen.{Seen}
use Rattle.oneshot_machine.specs.declared.machine.Seen.TheVariants.{Done, Over, Refused, Token}
use Rattle.oneshot_machine.specs.declared.machine.Step.{Step}
use Rattle.oneshot_machine.specs.declared.machine.Step.TheVariants.{Word, Park, Clock, Copy}
use Rattle.oneshot_machine.specs.declared.machine.receiver.ReceiverPos.{ReceiverPos}
use Rattle.oneshot_machine.specs.declared.machine.sender.SenderPos.{SenderPos}
use Rattle.oneshot_machine.specs.Noted.{Noted}
use Rattle.oneshot_machine.specs.Receiver.{receiver_step, receiver_row}
use Rattle.oneshot_machine.specs.Sender.{sender_step, sender_row}
use Rattle.oneshot_machine.specs.TableRows.{Outcome}
use Rattle.oneshot_world.specs.Calls.{Call, Unanswered, as_sender_call, as_receiver_call, first, left_by}
use Rattle.oneshot_world.specs.Effects.{reply_of, sender_goes, receiver_goes}
use Rattle.oneshot_world.specs.Scripts.{sender_calls, error_calls, receiver_calls}
use Rattle.oneshot_world.specs.State.{sender_position, receiver_position}
use Rattle.oneshot_world.specs.declared.script.ReceiverScript.{ReceiverScript}
use Rattle.oneshot_world.specs.declared.script.SenderScript.{SenderScript}
use Rattle.oneshot_world.specs.declared.state.ReceiverState.{ReceiverState}
use Rattle.oneshot_world.specs.declared.state.ReceiverState.TheVariants as RS
use Rattle.oneshot_world.specs.declared.state.SenderState.{SenderState}
use Rattle.oneshot_world.specs.declared.state.SenderState.TheVariants as SS
use Rattle.oneshot_laws.specs.Marks.{call_under_way}

-- a call that has replied, with its reply
abbrev pub Answered : Type 0
Answered = Call × Reply

-- An end's state in its call, what is left of its script, and its calls that have replied. The last part is a history
-- variable: no step reads it.
abbrev pub Stand : Type 0 → Type 0
Stand S = S × Unanswered × List Answered

-- the call under way with its reply, if a step replies to it
abbrev pub answers_with : Unanswered → Option Reply → List Answered
answers_with left None = []
answers_with left (Some reply) = (call_under_way left, reply) ∷ []

-- An end by its table: the position of its next step, the step there, the row for what that step sees,
-- and where the row leads the end.
pub record Walker (P S : Type 0) : Type 0 where
  pub side : End
  pub position : Stand S → Option P
  pub step : P → Step
  pub row : P → Seen → Option (Outcome P)
  pub goes : Step → Outcome P → S

-- What a step that is no operation on the word may see: a park its token or none, a clock either
-- answer, a copy of a waker its refusal or none.
abbrev pub may_see : Step → Seen → Bool
may_see (Word op) seen = false
may_see Park (Token woken) = true
may_see Park seen = false
may_see Clock (Over over) = true
may_see Clock seen = false
may_see Copy (Refused refused) = true
may_see Copy seen = false
may_see _ Done = true
may_see _ seen = false

module _ {P S : Type 0} (w : Walker P S) where
  -- where the end is after a row
  abbrev pub stands_after : P → Outcome P → Unanswered → List Answered → Stand S
  stands_after p row left replies =
      (w.goes (w.step p) row, left_by w.side (reply_of row) left, replies ++ answers_with left (reply_of row))

  -- one step that is no operation on the word
  pub data Quiet : Stand S → Stand S → Type 0 where
    quiet : {s : S} {left : Unanswered} {replies : List Answered} (p : P) (seen : Seen) (row : Outcome P)
        → w.position (s, left, replies) ≡ Some p → may_see (w.step p) seen ≡ true → w.row p seen ≡ Some row
        → Quiet (s, left, replies) (stands_after p row left replies)

  -- one operation on the word, with what it saw
  pub data Operates : Stand S → Noted → Stand S → Type 0 where
    operates : {s : S} {left : Unanswered} {replies : List Answered} (p : P) (x : Noted) (row : Outcome P)
        → w.position (s, left, replies) ≡ Some p → w.step p ≡ Word x.0 → w.row p x.1 ≡ Some row
        → Operates (s, left, replies) x (stands_after p row left replies)

-- steps from here on, with the log of their operations
pub data Walk {At : Type 0} (Rests : At → At → Type 0) (Makes : At → Noted → At → Type 0) (from : At)
    : List Noted → At → Type 0 where
  begins : Walk Rests Makes from [] from
  quietly : {xs : List Noted} {s next : At}
      → Walk Rests Makes from xs s → Rests s next → Walk Rests Makes from xs next
  by_one : {xs : List Noted} {s next : At} (x : Noted)
      → Walk Rests Makes from xs s → Makes s x next → Walk Rests Makes from (xs ++ x ∷ []) next

-- the sender
abbrev pub SenderStand : Type 0
SenderStand = Stand SenderState

abbrev pub the_sender : Walker SenderPos SenderState
the_sender =
    record {
      side = Sender;
      position = λ (at : SenderStand). sender_position at.0 (option_and_then as_sender_call (first at.1.calls));
      step = sender_step;
      row = sender_row;
      goes = sender_goes;
    }

abbrev pub opening_sender : {T : Type 0} → SenderScript T → SenderStand
opening_sender s = (SS.Ready, record { calls = sender_calls s; error = error_calls s.last }, [])

abbrev pub SenderWalk : {T : Type 0} → SenderScript T → List Noted → SenderStand → Type 0
SenderWalk s = Walk (Quiet the_sender) (Operates the_sender) (opening_sender s)

-- the receiver
abbrev pub ReceiverStand : Type 0
ReceiverStand = Stand ReceiverState

abbrev pub the_receiver : Walker ReceiverPos ReceiverState
the_receiver =
    record {
      side = Receiver;
      position = λ (at : ReceiverStand). receiver_position at.0 (option_and_then as_receiver_call (first at.1.calls));
      step = receiver_step;
      row = receiver_row;
      goes = receiver_goes;
    }

abbrev pub opening_receiver : ReceiverScript → ReceiverStand
opening_receiver r = (RS.Ready, record { calls = receiver_calls r.calls r.last; error = [] }, [])

abbrev pub ReceiverWalk : ReceiverScript → List Noted → ReceiverStand → Type 0
ReceiverWalk r = Walk (Quiet the_receiver) (Operates the_receiver) (opening_receiver r)
