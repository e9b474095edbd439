-- Other words have other calls, or another last one.
use Rattle.std.proofs.Common.{map, sym, ◌∙◌}
use Rattle.oneshot_text.specs.Grammar.{AsksForReceiver}
use Rattle.oneshot_text.specs.Receiver.{word_of_call}
use Rattle.oneshot_text.proofs.LineFaults.{error_is, fault_behind}
use Rattle.oneshot_text.proofs.ReceiverFaults.{call_to, call_from}
use Rattle.oneshot_text.proofs.ReceiverWords.{receiver-same, receiver-of, passed_on}
use Rattle.oneshot_text.proofs.Runs.{map_to, map_from}
use Rattle.oneshot_text.proofs.receiver.parse_receiver.Goals as goal

pub returns-in_err-last-clause-each : goal.returns-in_err-last-clause-each
returns-in_err-last-clause-each c = λ receiver pollable is.
    let run = c.in_ok-calls.ensures in
    let same = receiver-same _ _ receiver run.whole (sym run.run ∙ is) in
    passed_on _ c.from_residual-in_err-last.result _ _ c.from_residual-in_err-last.ensures.1
    (c.in_err-last.ensures.each receiver.last pollable same.1)

pub returns-clause-each : goal.returns-clause-each
returns-clause-each c = λ receiver pollable is.
    let run = c.in_ok-calls.ensures in
    let same = receiver-same _ _ receiver run.whole (sym run.run ∙ is) in
    receiver-of _ _ receiver (c.into.ensures ∙ same.0) (c.in_ok-last.ensures.each receiver.last pollable same.1)

pub returns-in_err-last-clause-faulty : goal.returns-in_err-last-clause-faulty
returns-in_err-last-clause-faulty c = λ fault is.
    let run = c.in_ok-calls.ensures in
    let calls = c.in_ok-calls.calls.items in
    let was =
    error_is c.parse_last.result c.in_err-last.field-0.0 fault c.in_err-last.was c.from_residual-in_err-last.result
    c.from_residual-in_err-last.ensures.1 is in
    fault_behind AsksForReceiver AsksForReceiver (map word_of_call calls)
    (map_to AsksForReceiver word_of_call call_to calls) (map_from AsksForReceiver word_of_call call_from calls)
    c.args.words _ fault run.line run.run (c.parse_last.ensures.faulty run.whole fault was)
