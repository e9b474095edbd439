-- The most operations on the word that a call performs.
use Rattle.std.specs.Prelude.{◌≡◌, ℕ, ⊤, ◌≤◌, List, ◌++◌, length, Option, Some, None}
use Rattle.oneshot_machine.specs.declared.machine.receiver.ReceiverStart.{ReceiverStart}
use Rattle.oneshot_machine.specs.declared.machine.receiver.ReceiverStart.TheVariants as RS
use Rattle.oneshot_machine.specs.declared.machine.sender.SenderCall.{SenderCall}
use Rattle.oneshot_machine.specs.declared.machine.sender.SenderCall.TheVariants as SC
use Rattle.oneshot_machine.specs.Noted.{Noted}
use Rattle.oneshot_machine.specs.Logs.{Log, words}

-- the bound of each call that has one
abbrev pub sender_bound : SenderCall → Option ℕ
sender_bound SC.Send = Some 2
sender_bound SC.Drop = Some 2
sender_bound _ = None

abbrev pub receiver_bound : ReceiverStart → Option ℕ
receiver_bound RS.TryRecv = Some 2
receiver_bound RS.AsyncTryRecv = Some 2
receiver_bound RS.Drop = Some 1
receiver_bound RS.Poll = Some 4
receiver_bound RS.DropAsync = Some 3
receiver_bound _ = None

-- A log grew by at most this many operations.
pub record GrewAtMost (limit : ℕ) (before after : List Noted) : Type 0 where
  pub added : List Noted
  pub list : after ≡ before ++ added
  pub few : length added ≤ limit

-- It grew within this bound, if there is one.
abbrev pub GrewWithin : Option ℕ → List Noted → List Noted → Type 0
GrewWithin None before after = ⊤
GrewWithin (Some limit) before after = GrewAtMost limit before after

-- Between the two logs a ground performed operations within this bound.
abbrev pub MakesWithin : {T W : Type 0} → Option ℕ → Log T W → Log T W → Type 0
MakesWithin bound before after = GrewWithin bound (words before.list) (words after.list)
