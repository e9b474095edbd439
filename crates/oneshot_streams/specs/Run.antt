-- What the program writes for an input, or which fault it reports.
use Rattle.std.specs.Prelude.{◌≢◌, IfSome, Option, ℕ, ◌<◌, ◌≤◌, List, length}
use Rattle.std.specs.Io.KnownBytes.{Appends, Keeps}
use Rattle.std.specs.Str.{IsAscii}
use Rattle.std.specs.declared.alloc.AllocError.{AllocError}
use Rattle.oneshot_world.specs.World.{opening}
use Rattle.oneshot_replay.specs.Rest.{message_of}
use Rattle.oneshot_replay.specs.declared.Move.{Move}
use Rattle.oneshot_replay.specs.declared.ReceiverScript.{ReceiverScript}
use Rattle.oneshot_replay.specs.declared.SenderScript.{SenderScript}
use Rattle.oneshot_text.specs.FirstFault.{HasFault}
use Rattle.oneshot_text.specs.Request.{Asks}
use Rattle.oneshot_text.specs.TraceText.{IsTextOf}
use Rattle.oneshot_text.specs.declared.fault.Malformed.{Malformed}
use Rattle.oneshot_streams.specs.Fault.{status_of}
use Rattle.oneshot_streams.specs.declared.fault.Fault.{Fault}
use Rattle.oneshot_streams.specs.declared.fault.Fault.TheVariants as F

-- the most bytes that an input may have
abbrev pub most_bytes : ℕ
most_bytes = 1048576

-- an input that is not too long, and is ASCII
abbrev pub IsReadable : List ℕ → Type 0
IsReadable input = (length input ≤ most_bytes) × IsAscii input

-- an input that asks for the run of these scripts under these moves
pub record AsksFor (input : List ℕ) (sender : SenderScript ℕ) (receiver : ReceiverScript) (moves : List Move) : Type
    0 where
  pub readable : IsReadable input
  pub asks : Asks input sender receiver moves

-- the writer, if its content is known, received the text of this run
pub record IsWritten (sender : SenderScript ℕ) (receiver : ReceiverScript) (moves : List Move)
    (before after : Option (List ℕ)) : Type 0 where
  pub text : List ℕ
  pub is_text : IsTextOf (message_of sender.last) 1 (opening sender receiver) moves text
  pub appends : Appends before after text

-- the writer received the text of the run that the input asks for
pub record IsAnswered (input : List ℕ) (before after : Option (List ℕ)) : Type 0 where
  pub sender : SenderScript ℕ
  pub receiver : ReceiverScript
  pub moves : List Move
  pub asked : AsksFor input sender receiver moves
  pub written : IsWritten sender receiver moves before after

-- When the program may report each fault. Among the faults of the input an earlier one excludes the later
-- ones. Whether a stream fails or memory runs out does not depend on the input.
pub data IsFault (input : List ℕ) : Fault → Type 0 where
  is_unread : IsFault input F.ReadFailed
  is_too_long : most_bytes < length input → IsFault input F.InputTooLong
  is_no_text : length input ≤ most_bytes → ¬ (IsAscii input) → IsFault input F.NotAscii
  is_malformed : {fault : Malformed} → IsReadable input → HasFault input fault → IsFault input (F.Malformed fault)
  is_out_of_memory : {refusal : AllocError} → IsFault input (F.OutOfMemory refusal)
  is_unwritten : (sender : SenderScript ℕ) (receiver : ReceiverScript) (moves : List Move)
      → AsksFor input sender receiver moves → IsFault input F.WriteFailed

-- The exit status: 0 if the trace was written, else that of the fault. Of the faults, only a failed write
-- may change the output.
pub data EndsWith (known : Option (List ℕ)) (before after : Option (List ℕ)) : ℕ → Type 0 where
  is_answered : IfSome known (λ input. IsAnswered input before after) → EndsWith known before after 0
  is_faulty : (fault : Fault) → IfSome known (λ input. IsFault input fault)
      → (fault ≢ F.WriteFailed → Keeps before after) → EndsWith known before after (status_of fault)
