-- Which faults an input may have, if its bytes are known.
use Rattle.std.proofs.Common.{arith, ◌≡◌, ℕ, ◌+◌, ◌<◌, ◌≤◌, List, length, Option, Some, None, IfSome, IfErr, IsOkUnless, Result, Ok, Err, refl, ap, ◌∙◌, subst}
use Rattle.std.proofs.lemmas.List.{length-append}
use Rattle.std.specs.Io.KnownBytes.{Consumes}
use Rattle.std.specs.declared.alloc.AllocError.{AllocError}
use Rattle.std.specs.Result.{IsErrAnd}
use Rattle.std.specs.Str.{IsAscii}
use Rattle.oneshot_replay.specs.declared.Move.{Move}
use Rattle.oneshot_replay.specs.declared.ReceiverScript.{ReceiverScript}
use Rattle.oneshot_replay.specs.declared.SenderScript.{SenderScript}
use Rattle.oneshot_text.specs.FirstFault.{HasFault}
use Rattle.oneshot_text.specs.declared.fault.Malformed.{Malformed}
use Rattle.oneshot_text.specs.declared.fault.ParseError.{ParseError}
use Rattle.oneshot_text.specs.declared.fault.ParseError.TheVariants as P
use Rattle.oneshot_streams.specs.Fault.{fault_of}
use Rattle.oneshot_streams.specs.declared.fault.Fault.{Fault}
use Rattle.oneshot_streams.specs.declared.fault.Fault.TheVariants as F
use Rattle.oneshot_streams.specs.Run.{AsksFor, IsFault, is_unread, is_out_of_memory, is_too_long, is_no_text, is_malformed, is_unwritten, most_bytes}

-- a result that passes on this fault
pub passed_on : {T : Type 0} (known : Option (List ℕ)) (fault : Fault) (r : Result T Fault)
    → IsErrAnd r (λ told. told ≡ fault) → IfSome known (λ input. IsFault input fault)
    → IfErr r (λ told. IfSome known (λ input. IsFault input told))
passed_on known fault (Ok value) told is = elim told [ ]
passed_on known fault (Err other) told is = rw told is

pub unread : (known : Option (List ℕ)) → IfSome known (λ input. IsFault input F.ReadFailed)
unread None = tt
unread (Some input) = is_unread

pub no_memory : (known : Option (List ℕ)) (refusal : AllocError)
    → IfSome known (λ input. IsFault input (F.OutOfMemory refusal))
no_memory None refusal = tt
no_memory (Some input) refusal = is_out_of_memory

pub too_long : (known left : Option (List ℕ)) (bytes : List ℕ) → Consumes known left bytes → most_bytes < length bytes
    → IfSome known (λ input. IsFault input F.InputTooLong)
too_long None left bytes reads many = tt
too_long (Some input) None bytes reads many = elim reads [ ]
too_long (Some input) (Some left) bytes reads many =
    let whole : length input ≡ length bytes + length left = ap (λ all. length all) reads ∙ length-append bytes left in
    is_too_long (omega (arith, whole, many))

-- the bytes that were read are the input
pub no_text : (known : Option (List ℕ)) (bytes : List ℕ) → IfSome known (λ input. bytes ≡ input)
    → length bytes ≤ most_bytes → ¬ (IsAscii bytes) → IfSome known (λ input. IsFault input F.NotAscii)
no_text None bytes is short other = tt
no_text (Some input) bytes is short other = subst (λ b. IsFault b F.NotAscii) is (is_no_text short other)

pub no_request : (known : Option (List ℕ)) (bytes : List ℕ) (error : ParseError) → IfSome known (λ input. bytes ≡ input)
    → length bytes ≤ most_bytes → IsAscii bytes
    → ((fault : Malformed) → error ≡ P.Malformed fault → HasFault bytes fault)
    → IfSome known (λ input. IsFault input (fault_of error))
no_request None bytes error is short ascii faulty = tt
no_request (Some input) bytes (P.Malformed fault) is short ascii faulty =
    subst (λ b. IsFault b (F.Malformed fault)) is (is_malformed (short, ascii) (faulty fault refl))
no_request (Some input) bytes (P.OutOfMemory refusal) is short ascii faulty = is_out_of_memory

-- a run that was asked for, and could not be written
pub no_write : (known : Option (List ℕ)) (r : Result (Unit {0}) Fault) (sender : SenderScript ℕ)
    (receiver : ReceiverScript) (moves : List Move) → IsOkUnless r F.WriteFailed
    → IfSome known (λ input. AsksFor input sender receiver moves)
    → IfErr r (λ told. IfSome known (λ input. IsFault input told))
no_write known (Ok done) sender receiver moves failed asked = tt
no_write None (Err fault) sender receiver moves failed asked = tt
no_write (Some input) (Err fault) sender receiver moves failed asked =
    rw failed (is_unwritten sender receiver moves asked)
