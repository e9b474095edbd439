-- Examples of what a ground did between two of its logs, and of what it did not.
use Rattle.std.specs.Prelude.{◌≡◌, ℕ, Bool, true, false, List, [], ◌∷◌, ◌++◌, None}
use Rattle.oneshot_machine.specs.declared.machine.Reply.TheVariants.{Sent, Refused, Message}
use Rattle.oneshot_machine.specs.declared.machine.Reply.TheVariants as R
use Rattle.oneshot_machine.specs.declared.machine.receiver.ReceiverStart.TheVariants as RC
use Rattle.oneshot_machine.specs.declared.machine.sender.SenderCall.TheVariants as SC
use Rattle.oneshot_machine.specs.declared.states.Op.TheVariants.{Load, Swap, Add}
use Rattle.oneshot_machine.specs.declared.states.TheConstants.{RECEIVING, UNPARKING, DISCONNECTED, EMPTY, MESSAGE}
use Rattle.oneshot_machine.specs.Counts.{sender_bound, receiver_bound, GrewWithin, MakesWithin}
use Rattle.oneshot_contract_examples.specs.RunExamples.{sending_7, receiving_7, waking}
use Rattle.oneshot_machine.specs.Logs.{Event, worded, words, Log, Grows, sender_of, receiver_of}
use Rattle.oneshot_machine.specs.Phases.{sending, fresh, owes, finished, untouched, disconnected, closed_itself}
use Rattle.oneshot_machine.specs.Runs.{SenderRan, ReceiverRan}

-- the log of a ground, whole or not, of one channel
abbrev pub logged : Bool → List (Event ℕ ℕ) → Log ℕ ℕ
logged whole list = record { whole = whole; channel = 5 ∷ []; list = list }

abbrev pub elsewhere : List (Event ℕ ℕ) → Log ℕ ℕ
elsewhere list = record { whole = true; channel = 6 ∷ []; list = list }

-- the operations of a `send` to a receiver that waits, and of one to a receiver that does not
abbrev pub waking_words : List (Event ℕ ℕ)
waking_words = worded Add RECEIVING ∷ worded (Swap MESSAGE) UNPARKING ∷ []

abbrev pub sending_words : List (Event ℕ ℕ)
sending_words = worded Add EMPTY ∷ []

-- three loads
abbrev pub loading : List (Event ℕ ℕ)
loading = worded Load EMPTY ∷ worded Load EMPTY ∷ worded Load EMPTY ∷ []

pub record LogsThatGrow : Type 0 where
  pub keeps_all : Grows (logged true []) (logged true sending_7) sending_7
  pub keeps_its_operations : Grows (logged false []) (logged false waking_words) waking
  pub goes_on :
      Grows (logged true receiving_7) (logged true (receiving_7 ++ worded Load DISCONNECTED ∷ []))
      (worded Load DISCONNECTED ∷ [])
  pub stands_still : Grows (logged true sending_7) (logged true sending_7) []
  -- the phase of its end
  pub new_sender : sender_of (logged true []) ≡ fresh
  pub has_sent : sender_of (logged true sending_7) ≡ finished sending
  pub owes_its_swap : sender_of (logged false (worded Add RECEIVING ∷ [])) ≡ owes sending
  pub new_receiver : receiver_of (logged true []) ≡ untouched
  pub has_received : receiver_of (logged true receiving_7) ≡ disconnected closed_itself
  -- one run, with what it was handed and what it handed out
  pub sends : SenderRan SC.Send (logged true []) (logged true sending_7) Sent (7 ∷ []) []
  pub sends_by_its_operation : SenderRan SC.Send (logged false []) (logged false sending_words) Sent (7 ∷ []) []
  pub receives : ReceiverRan RC.TryRecv (logged true []) (logged true receiving_7) Message [] (7 ∷ [])
  pub receives_nothing : ReceiverRan RC.TryRecv (logged true loading) (logged true (loading ++ worded Load EMPTY ∷ []))
      R.Empty [] []
  -- operations within a bound, or without one
  pub sends_by_two : MakesWithin (sender_bound SC.Send) (logged true []) (logged true waking)
  pub receives_by_two : MakesWithin (receiver_bound RC.TryRecv) (logged true loading)
      (logged true (loading ++ receiving_7))
  pub has_no_bound : MakesWithin (receiver_bound RC.RecvRef) (logged false []) (logged false loading)
  pub forgets_without_a_bound : GrewWithin None (words loading) []

pub record LogsThatDoNot : Type 0 where
  -- a log keeps its kind, its channel, what it had and its new steps
  pub becomes_whole : Grows (logged false []) (logged true []) [] → ⊥
  pub changes_its_channel : Grows (logged true []) (elsewhere []) [] → ⊥
  pub keeps_nothing : Grows (logged true []) (logged true []) sending_7 → ⊥
  pub keeps_too_much : Grows (logged false []) (logged false sending_7) sending_7 → ⊥
  pub keeps_too_little : Grows (logged true []) (logged true sending_words) sending_7 → ⊥
  pub forgets : Grows (logged true sending_7) (logged true []) [] → ⊥
  pub does_more : Grows (logged true []) (logged true sending_7) [] → ⊥
  -- steps that are no run, another reply, another call, and no run at all
  pub writes_nothing : SenderRan SC.Send (logged true []) (logged true sending_words) Sent [] [] → ⊥
  pub replies_otherwise : SenderRan SC.Send (logged true []) (logged true sending_7) Refused (7 ∷ []) [] → ⊥
  pub drops : SenderRan SC.Drop (logged true []) (logged true sending_7) R.Done (7 ∷ []) [] → ⊥
  pub peeks : ReceiverRan RC.HasMessage (logged true []) (logged true receiving_7) Message [] (7 ∷ []) → ⊥
  pub does_nothing : SenderRan SC.Send (logged true []) (logged true []) Sent (7 ∷ []) [] → ⊥
  pub runs_elsewhere : SenderRan SC.Send (logged true []) (elsewhere sending_7) Sent (7 ∷ []) [] → ⊥
  -- other messages, or none
  pub gives_another : SenderRan SC.Send (logged true []) (logged true sending_7) Sent (8 ∷ []) [] → ⊥
  pub gives_none : SenderRan SC.Send (logged true []) (logged true sending_7) Sent [] [] → ⊥
  pub gets_another : ReceiverRan RC.TryRecv (logged true []) (logged true receiving_7) Message [] (8 ∷ []) → ⊥
  pub gets_none : ReceiverRan RC.TryRecv (logged true []) (logged true receiving_7) Message [] [] → ⊥
  -- one operation more than the bound, and a log that forgets
  pub loads_thrice : MakesWithin (receiver_bound RC.TryRecv) (logged true []) (logged true loading) → ⊥
  pub forgets_its_operations : MakesWithin (sender_bound SC.Send) (logged false waking_words) (logged false []) → ⊥
