-- A fault is one of a call, or one after the calls.
use Rattle.std.proofs.Common.{refl}
use Rattle.oneshot_text.specs.Future.{words_of_future_calls}
use Rattle.oneshot_text.specs.Grammar.{AsksForFuture}
use Rattle.oneshot_text.proofs.FutureFaults.{calls_to, calls_from}
use Rattle.oneshot_text.proofs.LineFaults.{error_is, fault_converted, fault_behind}
use Rattle.oneshot_text.proofs.future.parse_future.Goals as goal

pub returns-in_err-calls-clause-faulty : goal.returns-in_err-calls-clause-faulty
returns-in_err-calls-clause-faulty c = λ fault is.
    c.parse_calls.ensures.faulty fault
    (error_is c.parse_calls.result c.in_err-calls.field-0.0 fault c.in_err-calls.was c.from_residual.result
    c.from_residual.ensures.1 is)

pub returns-in_err-last-clause-faulty : goal.returns-in_err-last-clause-faulty
returns-in_err-last-clause-faulty c = λ fault is.
    let given = c.in_err-last.field-0.0 in
    let calls = c.in_ok-calls.calls.items in
    let run = c.in_ok-calls.ensures in
    fault_converted AsksForFuture c.args.words c.from_residual-in_err-last.result given fault
    c.from_residual-in_err-last.ensures.1 is
    (fault_behind AsksForFuture AsksForFuture (words_of_future_calls calls) (calls_to calls run.numbers)
    (calls_from calls)
    c.args.words _ given run.line run.written (c.in_err-last.ensures.faulty run.whole given refl))
