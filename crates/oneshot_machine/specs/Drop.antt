-- The table of a receiver's drop.
use Rattle.std.specs.Prelude.{ℕ, List, [], ◌∷◌}
use Rattle.oneshot_machine.specs.declared.machine.receiver.ReceiverPos.{ReceiverPos}
use Rattle.oneshot_machine.specs.declared.machine.receiver.ReceiverPos.TheVariants.{Drop}
use Rattle.oneshot_machine.specs.declared.machine.drop.DropPos.{DropPos}
use Rattle.oneshot_machine.specs.declared.machine.drop.DropPos.TheVariants.{DropSwap, DropMessage, DropFree}
use Rattle.oneshot_machine.specs.declared.machine.Reply.TheVariants as R
use Rattle.oneshot_machine.specs.declared.machine.Seen.TheVariants.{Done, Word}
use Rattle.oneshot_machine.specs.declared.machine.Step.{Step}
use Rattle.oneshot_machine.specs.declared.machine.Step.TheVariants as T
use Rattle.oneshot_machine.specs.declared.states.Op.TheVariants as O
use Rattle.oneshot_machine.specs.declared.states.TheConstants.{DISCONNECTED, EMPTY, MESSAGE}
use Rattle.oneshot_machine.specs.TableRows.{Goes, Answers, Rows}

abbrev pub drop_step : DropPos → Step
drop_step DropSwap = T.Word (O.Swap DISCONNECTED)
drop_step DropMessage = T.DropMessage
drop_step DropFree = T.Free

abbrev pub drop_rows : DropPos → Rows ReceiverPos
drop_rows DropSwap =
    (Word EMPTY, Answers R.Done)
    ∷ (Word MESSAGE, Goes (Drop DropMessage))
    ∷ (Word DISCONNECTED, Goes (Drop DropFree))
    ∷ []
drop_rows DropMessage = (Done, Goes (Drop DropFree)) ∷ []
drop_rows DropFree = (Done, Answers R.Done) ∷ []

-- the positions, and the number of each in their list
abbrev pub drop_positions : List DropPos
drop_positions =
    DropSwap
    ∷ DropMessage
    ∷ DropFree
    ∷ []

abbrev pub drop_number : DropPos → ℕ
drop_number DropSwap = 0
drop_number DropMessage = 1
drop_number DropFree = 2
