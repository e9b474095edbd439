-- The sender's transition table.
use Rattle.std.specs.Prelude.{ℕ, List, Option, [], ◌∷◌}
use Rattle.oneshot_machine.specs.declared.machine.sender.SenderCall.{SenderCall}
use Rattle.oneshot_machine.specs.declared.machine.sender.SenderCall.TheVariants.{IsClosed, Send, Drop, AsInner, IntoInner, DropError}
use Rattle.oneshot_machine.specs.declared.machine.sender.SenderPos.{SenderPos}
use Rattle.oneshot_machine.specs.declared.machine.sender.SenderPos.TheVariants.{LookClosed, SendWrite, SendAdd, SendTakeWaker, SendFinal, SendWake, SendLateWake, DropXor, DropTakeWaker, DropFinal}
use Rattle.oneshot_machine.specs.declared.machine.sender.SenderPos.TheVariants.{DropWake, DropLateWake, DropFree, ErrorLook, IntoTake, IntoFree, ErrorDrop, ErrorFree}
use Rattle.oneshot_machine.specs.declared.machine.Reply.TheVariants as R
use Rattle.oneshot_machine.specs.declared.machine.Seen.{Seen}
use Rattle.oneshot_machine.specs.declared.machine.Seen.TheVariants.{Done, Word}
use Rattle.oneshot_machine.specs.declared.machine.Step.{Step}
use Rattle.oneshot_machine.specs.declared.machine.Step.TheVariants as T
use Rattle.oneshot_machine.specs.declared.states.Op.TheVariants as O
use Rattle.oneshot_machine.specs.declared.states.TheConstants.{RECEIVING, UNPARKING, DISCONNECTED, EMPTY, MESSAGE}
use Rattle.oneshot_machine.specs.TableRows.{Outcome, Goes, Answers, Rows, row_for}

abbrev pub sender_start : SenderCall → SenderPos
sender_start IsClosed = LookClosed
sender_start Send = SendWrite
sender_start Drop = DropXor
sender_start AsInner = ErrorLook
sender_start IntoInner = IntoTake
sender_start DropError = ErrorDrop

abbrev pub sender_step : SenderPos → Step
sender_step LookClosed = T.Word O.Load
sender_step SendWrite = T.WriteMessage
sender_step SendAdd = T.Word O.Add
sender_step SendTakeWaker = T.TakeWaker
sender_step SendFinal = T.Word (O.Swap MESSAGE)
sender_step SendWake = T.Wake
sender_step SendLateWake = T.Wake
sender_step DropXor = T.Word O.Xor
sender_step DropTakeWaker = T.TakeWaker
sender_step DropFinal = T.Word (O.Swap DISCONNECTED)
sender_step DropWake = T.Wake
sender_step DropLateWake = T.Wake
sender_step DropFree = T.Free
sender_step ErrorLook = T.Plain
sender_step IntoTake = T.TakeMessage
sender_step IntoFree = T.Free
sender_step ErrorDrop = T.DropMessage
sender_step ErrorFree = T.Free

abbrev pub sender_rows : SenderPos → Rows SenderPos
sender_rows LookClosed =
    (Word DISCONNECTED, Answers R.Yes)
    ∷ (Word RECEIVING, Answers R.No)
    ∷ (Word EMPTY, Answers R.No)
    ∷ []
sender_rows SendWrite = (Done, Goes SendAdd) ∷ []
sender_rows SendAdd =
    (Word EMPTY, Answers R.Sent)
    ∷ (Word RECEIVING, Goes SendTakeWaker)
    ∷ (Word DISCONNECTED, Answers R.Refused)
    ∷ []
sender_rows SendTakeWaker = (Done, Goes SendFinal) ∷ []
sender_rows SendFinal =
    (Word UNPARKING, Goes SendWake)
    ∷ (Word EMPTY, Goes SendWake)
    ∷ (Word DISCONNECTED, Goes SendLateWake)
    ∷ []
sender_rows SendWake = (Done, Answers R.Sent) ∷ []
sender_rows SendLateWake = (Done, Answers R.Refused) ∷ []
sender_rows DropXor =
    (Word EMPTY, Answers R.Done)
    ∷ (Word RECEIVING, Goes DropTakeWaker)
    ∷ (Word DISCONNECTED, Goes DropFree)
    ∷ []
sender_rows DropTakeWaker = (Done, Goes DropFinal) ∷ []
sender_rows DropFinal =
    (Word UNPARKING, Goes DropWake)
    ∷ (Word EMPTY, Goes DropWake)
    ∷ (Word DISCONNECTED, Goes DropLateWake)
    ∷ []
sender_rows DropWake = (Done, Answers R.Done) ∷ []
sender_rows DropLateWake = (Done, Goes DropFree) ∷ []
sender_rows DropFree = (Done, Answers R.Done) ∷ []
sender_rows ErrorLook = (Done, Answers R.Message) ∷ []
sender_rows IntoTake = (Done, Goes IntoFree) ∷ []
sender_rows IntoFree = (Done, Answers R.Message) ∷ []
sender_rows ErrorDrop = (Done, Goes ErrorFree) ∷ []
sender_rows ErrorFree = (Done, Answers R.Done) ∷ []

abbrev pub sender_row : SenderPos → Seen → Option (Outcome SenderPos)
sender_row position seen = row_for seen (sender_rows position)

-- every position, and a number for each
abbrev pub sender_positions : List SenderPos
sender_positions =
    LookClosed
    ∷ SendWrite
    ∷ SendAdd
    ∷ SendTakeWaker
    ∷ SendFinal
    ∷ SendWake
    ∷ SendLateWake
    ∷ DropXor
    ∷ DropTakeWaker
    ∷ DropFinal
    ∷ DropWake
    ∷ DropLateWake
    ∷ DropFree
    ∷ ErrorLook
    ∷ IntoTake
    ∷ IntoFree
    ∷ ErrorDrop
    ∷ ErrorFree
    ∷ []

abbrev pub sender_number : SenderPos → ℕ
sender_number LookClosed = 0
sender_number SendWrite = 1
sender_number SendAdd = 2
sender_number SendTakeWaker = 3
sender_number SendFinal = 4
sender_number SendWake = 5
sender_number SendLateWake = 6
sender_number DropXor = 7
sender_number DropTakeWaker = 8
sender_number DropFinal = 9
sender_number DropWake = 10
sender_number DropLateWake = 11
sender_number DropFree = 12
sender_number ErrorLook = 13
sender_number IntoTake = 14
sender_number IntoFree = 15
sender_number ErrorDrop = 16
sender_number ErrorFree = 17
