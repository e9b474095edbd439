-- The message that a receiver took: which one, when, and how its log shows it.
use Rattle.std.specs.Prelude.{◌≡◌, Bool, true, false, List, Option, Some, None, is_some, Result, Ok, Err}
use Rattle.std.specs.List.{list_any}
use Rattle.futures.specs.declared.task.Poll.{Poll}
use Rattle.futures.specs.declared.task.Poll.TheVariants.{Ready, Pending}
use Rattle.oneshot_machine.specs.declared.machine.Reply.{Reply}
use Rattle.oneshot_machine.specs.declared.machine.Reply.TheVariants as R
use Rattle.oneshot_machine.specs.declared.machine.Seen.TheVariants.{Word}
use Rattle.oneshot_machine.specs.Noted.{Noted}
use Rattle.oneshot_machine.specs.TableRows.{is_same_seen}
use Rattle.oneshot_machine.specs.declared.states.TheConstants.{MESSAGE}

-- a message that was taken is still the one
abbrev pub StaysTaken : {T : Type 0} → Option T → Option T → Type 0
StaysTaken {T} before after = (x : T) → before ≡ Some x → after ≡ Some x

-- whether one of these operations found the message
abbrev pub has_found : List Noted → Bool
has_found = list_any (λ x. is_same_seen x.1 (Word MESSAGE))

-- a receiver has taken a message exactly if its log has an operation that found one
abbrev pub TookAsFound : {T : Type 0} → Option T → List Noted → Type 0
TookAsFound took log = is_some took ≡ has_found log

-- what its ground keeps of that
pub record KeepsTaken {T : Type 0} (before after : Option T) (log next : List Noted) : Type 0 where
  pub stays : StaysTaken before after
  pub found : TookAsFound before log → TookAsFound after next

-- A receive that returned a message had taken none, and has taken that one. Any other takes none.
abbrev pub Takes : {T E : Type 0} → Result T E → Option T → Option T → Type 0
Takes (Ok x) before after = (before ≡ None) × (after ≡ Some x)
Takes (Err e) before after = after ≡ before

-- the same of a poll
abbrev pub TakesReady : {T E : Type 0} → Poll (Result T E) → Option T → Option T → Type 0
TakesReady (Ready answer) before after = Takes answer before after
TakesReady Pending before after = after ≡ before

-- a reply with the message
abbrev pub is_message : Reply → Bool
is_message R.Message = true
is_message _ = false
