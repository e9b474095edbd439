-- The words of a receiver's script determine its first calls and its last one.
use Rattle.std.proofs.Common.{◌≡◌, ◌≢◌, ℕ, List, ◌++◌, Option, Some, None, true, false, Result, Ok, Err, if◌then◌else◌, map, slice_get, codes, refl, sym, ap, ◌∙◌, arith}
use Rattle.std.specs.Result.{IsErrAnd, MatchResult}
use Rattle.std.specs.Str.{bytes_eq}
use Rattle.std.proofs.lemmas.Grind.{common_steps}
use Rattle.oneshot_replay.specs.declared.ReceiverCall.{ReceiverCall}
use Rattle.oneshot_replay.specs.declared.ReceiverCall.TheVariants.{TryRecv, RecvRef, RecvDeadline, RecvTimeout, HasMessage, IsClosed}
use Rattle.oneshot_replay.specs.declared.ReceiverLast.{ReceiverLast}
use Rattle.oneshot_replay.specs.declared.ReceiverLast.TheVariants.{Recv, Drop, IntoFuture, Stop}
use Rattle.oneshot_replay.specs.declared.ReceiverScript.{ReceiverScript}
use Rattle.oneshot_text.specs.Receiver.{word_of_call, words_of_receiver_last, words_of_receiver}
use Rattle.oneshot_text.proofs.Runs.{map-same}

abbrev call_named : List ℕ → Option ReceiverCall
call_named word =
    if bytes_eq word (codes "try") then Some TryRecv
    else (if bytes_eq word (codes "ref") then Some RecvRef
    else (if bytes_eq word (codes "deadline") then Some RecvDeadline
    else (if bytes_eq word (codes "timeout") then Some (RecvTimeout true)
    else (if bytes_eq word (codes "forever") then Some (RecvTimeout false)
    else (if bytes_eq word (codes "full") then Some HasMessage
    else (if bytes_eq word (codes "closed") then Some IsClosed else None))))))

call_named-word : (call : ReceiverCall) → call_named (word_of_call call) ≡ Some call
call_named-word TryRecv = refl
call_named-word RecvRef = refl
call_named-word RecvDeadline = refl
call_named-word (RecvTimeout true) = refl
call_named-word (RecvTimeout false) = refl
call_named-word HasMessage = refl
call_named-word IsClosed = refl

-- each call has a word of its own
word_of_call-same : (a b : ReceiverCall) → word_of_call a ≡ word_of_call b → a ≡ b
word_of_call-same a b is = cc (sym (call_named-word a) ∙ ap call_named is ∙ call_named-word b)

-- no last call begins with a call
pub receiver_last-no_call : (last : ReceiverLast) (call : ReceiverCall)
    → slice_get (words_of_receiver_last last) 0 ≢ Some (word_of_call call)
receiver_last-no_call Recv TryRecv = λ is. grind (arith, common_steps)
receiver_last-no_call Recv RecvRef = λ is. grind (arith, common_steps)
receiver_last-no_call Recv RecvDeadline = λ is. grind (arith, common_steps)
receiver_last-no_call Recv (RecvTimeout true) = λ is. grind (arith, common_steps)
receiver_last-no_call Recv (RecvTimeout false) = λ is. grind (arith, common_steps)
receiver_last-no_call Recv HasMessage = λ is. grind (arith, common_steps)
receiver_last-no_call Recv IsClosed = λ is. grind (arith, common_steps)
receiver_last-no_call Drop TryRecv = λ is. grind (arith, common_steps)
receiver_last-no_call Drop RecvRef = λ is. grind (arith, common_steps)
receiver_last-no_call Drop RecvDeadline = λ is. grind (arith, common_steps)
receiver_last-no_call Drop (RecvTimeout true) = λ is. grind (arith, common_steps)
receiver_last-no_call Drop (RecvTimeout false) = λ is. grind (arith, common_steps)
receiver_last-no_call Drop HasMessage = λ is. grind (arith, common_steps)
receiver_last-no_call Drop IsClosed = λ is. grind (arith, common_steps)
receiver_last-no_call (IntoFuture future) TryRecv = λ is. grind (arith, common_steps)
receiver_last-no_call (IntoFuture future) RecvRef = λ is. grind (arith, common_steps)
receiver_last-no_call (IntoFuture future) RecvDeadline = λ is. grind (arith, common_steps)
receiver_last-no_call (IntoFuture future) (RecvTimeout true) = λ is. grind (arith, common_steps)
receiver_last-no_call (IntoFuture future) (RecvTimeout false) = λ is. grind (arith, common_steps)
receiver_last-no_call (IntoFuture future) HasMessage = λ is. grind (arith, common_steps)
receiver_last-no_call (IntoFuture future) IsClosed = λ is. grind (arith, common_steps)
receiver_last-no_call Stop call = λ is. grind (arith, common_steps)

pub receiver-same : (calls : List ReceiverCall) (rest : List (List ℕ)) (receiver : ReceiverScript)
    → ((call : ReceiverCall) → slice_get rest 0 ≢ Some (word_of_call call))
    → map word_of_call calls ++ rest ≡ words_of_receiver receiver
    → (calls ≡ receiver.calls) × (rest ≡ words_of_receiver_last receiver.last)
receiver-same calls rest receiver whole is =
    map-same word_of_call word_of_call-same calls receiver.calls rest (words_of_receiver_last receiver.last) whole
    (receiver_last-no_call receiver.last) is

-- a script is its calls and its last one
pub receiver-of : (calls : List ReceiverCall) (last : ReceiverLast) (receiver : ReceiverScript) → calls ≡ receiver.calls
    → last ≡ receiver.last
    → record { calls = calls; last = last } ≡ receiver
receiver-of calls last receiver same_calls same_last =
    let script : List ReceiverCall → ReceiverLast → ReceiverScript = λ cs l. record { calls = cs; last = l } in
    ap (λ cs. script cs last) same_calls ∙ ap (λ l. script receiver.calls l) same_last

-- an error that is passed on
pub passed_on : {T E : Type 0} (P : T → Type 0) (result : Result T E) (passed error : E)
    → IsErrAnd result (λ e. e ≡ passed) → passed ≡ error → MatchResult result P (λ e. e ≡ error)
passed_on P (Ok x) passed error told same = absurd told
passed_on P (Err e) passed error told same = told ∙ same
