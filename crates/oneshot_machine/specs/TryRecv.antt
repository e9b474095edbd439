-- The table of `try_recv`, and of the last steps that every other receive but `recv` shares with it.
use Rattle.std.specs.Prelude.{ℕ, List, [], ◌∷◌}
use Rattle.oneshot_machine.specs.declared.machine.receiver.ReceiverPos.{ReceiverPos}
use Rattle.oneshot_machine.specs.declared.machine.receiver.ReceiverPos.TheVariants.{Try}
use Rattle.oneshot_machine.specs.declared.machine.try_recv.TryPos.{TryPos}
use Rattle.oneshot_machine.specs.declared.machine.try_recv.TryPos.TheVariants.{TryLoad, Close, Take, CloseOnly}
use Rattle.oneshot_machine.specs.declared.machine.Reply.TheVariants as R
use Rattle.oneshot_machine.specs.declared.machine.Seen.TheVariants.{Done, Word}
use Rattle.oneshot_machine.specs.declared.machine.Step.{Step}
use Rattle.oneshot_machine.specs.declared.machine.Step.TheVariants as T
use Rattle.oneshot_machine.specs.declared.states.Op.TheVariants as O
use Rattle.oneshot_machine.specs.declared.states.TheConstants.{DISCONNECTED, EMPTY, MESSAGE}
use Rattle.oneshot_machine.specs.TableRows.{Goes, Answers, Rows}

abbrev pub try_step : TryPos → Step
try_step TryLoad = T.Word O.Load
try_step Close = T.Word (O.Store DISCONNECTED)
try_step Take = T.TakeMessage
try_step CloseOnly = T.Word (O.Store DISCONNECTED)

abbrev pub try_rows : TryPos → Rows ReceiverPos
try_rows TryLoad =
    (Word MESSAGE, Goes (Try Close))
    ∷ (Word EMPTY, Answers R.Empty)
    ∷ (Word DISCONNECTED, Answers R.Disconnected)
    ∷ []
try_rows Close = (Done, Goes (Try Take)) ∷ []
try_rows Take = (Done, Answers R.Message) ∷ []
try_rows CloseOnly = (Done, Answers R.Disconnected) ∷ []

-- the positions, and the number of each in their list
abbrev pub try_positions : List TryPos
try_positions = TryLoad ∷ Close ∷ Take ∷ CloseOnly ∷ []

abbrev pub try_number : TryPos → ℕ
try_number TryLoad = 0
try_number Close = 1
try_number Take = 2
try_number CloseOnly = 3
