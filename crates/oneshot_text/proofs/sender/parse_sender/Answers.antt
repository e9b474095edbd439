-- Other words have other looks, or another last call.
use Rattle.std.proofs.Common.{codes, sym, ◌∙◌, refl}
use Rattle.oneshot_text.specs.Grammar.{AsksForSender}
use Rattle.oneshot_text.proofs.LastCalls.{run_passed}
use Rattle.oneshot_text.proofs.SenderFaults.{closed_to, closed_from}
use Rattle.oneshot_text.proofs.SenderWords.{sender-same, sender-of}
use Rattle.oneshot_text.proofs.sender.parse_sender.Goals as goal

pub returns-in_err-last-clause-each : goal.returns-in_err-last-clause-each
returns-in_err-last-clause-each c = λ sender sendable is.
    let run = c.take_run-looks.ensures in
    let same = sender-same _ _ sender run.whole (sym run.run ∙ is) in
    cc (c.in_err-last.ensures.each sender.last sendable same.1)

pub returns-clause-each : goal.returns-clause-each
returns-clause-each c = λ sender sendable is.
    let run = c.take_run-looks.ensures in
    let same = sender-same _ _ sender run.whole (sym run.run ∙ is) in
    sender-of _ _ sender same.0 (c.in_ok-last.ensures.each sender.last sendable same.1)

pub returns-in_err-last-clause-faulty : goal.returns-in_err-last-clause-faulty
returns-in_err-last-clause-faulty c = λ fault is.
    let run = c.take_run-looks.ensures in
    let given = c.in_err-last.field-0.0 in
    run_passed AsksForSender c.args.words given fault (codes "closed") closed_to closed_from
    c.take_run-looks.result _ run.line run.run
    (c.in_err-last.ensures.faulty run.whole given refl) c.from_residual.result c.from_residual.ensures.1 is
