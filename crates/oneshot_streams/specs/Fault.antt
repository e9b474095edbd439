-- The program's faults: the fault for each error of the parser, and the exit status of each fault.
use Rattle.std.specs.Prelude.{ℕ}
use Rattle.oneshot_streams.specs.declared.fault.Fault.{Fault}
use Rattle.oneshot_streams.specs.declared.fault.Fault.TheVariants.{ReadFailed, WriteFailed, InputTooLong, NotAscii, Malformed, OutOfMemory}
use Rattle.oneshot_text.specs.declared.fault.ParseError.{ParseError}
use Rattle.oneshot_text.specs.declared.fault.ParseError.TheVariants as P

abbrev pub fault_of : ParseError → Fault
fault_of (P.Malformed fault) = Malformed fault
fault_of (P.OutOfMemory refusal) = OutOfMemory refusal

-- 1: a stream failed; 2: the input is at fault; 3: out of memory
abbrev pub status_of : Fault → ℕ
status_of ReadFailed = 1
status_of WriteFailed = 1
status_of InputTooLong = 2
status_of NotAscii = 2
status_of (Malformed fault) = 2
status_of (OutOfMemory refusal) = 3
