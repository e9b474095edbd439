-- The table of a future's drop.
use Rattle.std.specs.Prelude.{ℕ, List, [], ◌∷◌}
use Rattle.oneshot_machine.specs.declared.machine.receiver.ReceiverPos.{ReceiverPos}
use Rattle.oneshot_machine.specs.declared.machine.receiver.ReceiverPos.TheVariants.{AsyncDrop, Drop}
use Rattle.oneshot_machine.specs.declared.machine.async_drop.AsyncDropPos.{AsyncDropPos}
use Rattle.oneshot_machine.specs.declared.machine.async_drop.AsyncDropPos.TheVariants.{AsyncLoad, AsyncExchange, AsyncBack, AsyncSwap}
use Rattle.oneshot_machine.specs.declared.machine.drop.DropPos.TheVariants.{DropMessage, DropFree}
use Rattle.oneshot_machine.specs.declared.machine.Reply.TheVariants as R
use Rattle.oneshot_machine.specs.declared.machine.Seen.TheVariants.{Done, Word}
use Rattle.oneshot_machine.specs.declared.machine.Step.{Step}
use Rattle.oneshot_machine.specs.declared.machine.Step.TheVariants as T
use Rattle.oneshot_machine.specs.declared.states.Op.TheVariants as O
use Rattle.oneshot_machine.specs.declared.states.TheConstants.{RECEIVING, UNPARKING, DISCONNECTED, EMPTY, MESSAGE}
use Rattle.oneshot_machine.specs.TableRows.{Goes, Answers, Rows}

abbrev pub async_drop_step : AsyncDropPos → Step
async_drop_step AsyncLoad = T.Word O.Load
async_drop_step AsyncExchange = T.Word (O.Exchange RECEIVING EMPTY)
async_drop_step AsyncBack = T.Withdraw
async_drop_step AsyncSwap = T.Word (O.Swap DISCONNECTED)

abbrev pub async_drop_rows : AsyncDropPos → Rows ReceiverPos
async_drop_rows AsyncLoad =
    (Word RECEIVING, Goes (AsyncDrop AsyncExchange))
    ∷ (Word UNPARKING, Goes (AsyncDrop AsyncSwap))
    ∷ (Word DISCONNECTED, Goes (AsyncDrop AsyncSwap))
    ∷ (Word EMPTY, Goes (AsyncDrop AsyncSwap))
    ∷ (Word MESSAGE, Goes (AsyncDrop AsyncSwap))
    ∷ []
async_drop_rows AsyncExchange =
    (Word RECEIVING, Goes (AsyncDrop AsyncBack))
    ∷ (Word UNPARKING, Goes (AsyncDrop AsyncSwap))
    ∷ (Word DISCONNECTED, Goes (AsyncDrop AsyncSwap))
    ∷ (Word MESSAGE, Goes (AsyncDrop AsyncSwap))
    ∷ []
async_drop_rows AsyncBack = (Done, Goes (AsyncDrop AsyncSwap)) ∷ []
async_drop_rows AsyncSwap =
    (Word EMPTY, Answers R.Done)
    ∷ (Word UNPARKING, Answers R.Done)
    ∷ (Word MESSAGE, Goes (Drop DropMessage))
    ∷ (Word DISCONNECTED, Goes (Drop DropFree))
    ∷ []

-- the positions, and the number of each in their list
abbrev pub async_drop_positions : List AsyncDropPos
async_drop_positions =
    AsyncLoad
    ∷ AsyncExchange
    ∷ AsyncBack
    ∷ AsyncSwap
    ∷ []

abbrev pub async_drop_number : AsyncDropPos → ℕ
async_drop_number AsyncLoad = 0
async_drop_number AsyncExchange = 1
async_drop_number AsyncBack = 2
async_drop_number AsyncSwap = 3
