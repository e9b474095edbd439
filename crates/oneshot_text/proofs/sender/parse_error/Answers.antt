-- Other words have other looks, or another last call.
use Rattle.std.proofs.Common.{codes, sym, ◌∙◌, refl}
use Rattle.oneshot_text.specs.Grammar.{AsksForError}
use Rattle.oneshot_text.proofs.LastCalls.{run_passed}
use Rattle.oneshot_text.proofs.SenderFaults.{inner_to, inner_from}
use Rattle.oneshot_text.proofs.SenderWords.{error-same}
use Rattle.oneshot_text.proofs.sender.parse_error.Goals as goal

pub returns-in_err-last-clause-each : goal.returns-in_err-last-clause-each
returns-in_err-last-clause-each c = λ error is.
    let run = c.take_run-looks.ensures in
    let same = error-same _ _ error run.whole (sym run.run ∙ is) in
    cc (c.in_err-last.ensures.each error.last same.1)

pub returns-in_err-last-clause-faulty : goal.returns-in_err-last-clause-faulty
returns-in_err-last-clause-faulty c = λ fault is.
    let run = c.take_run-looks.ensures in
    let given = c.in_err-last.field-0.0 in
    run_passed AsksForError c.args.words given fault (codes "inner") inner_to inner_from
    c.take_run-looks.result _ run.line run.run
    (c.in_err-last.ensures.faulty run.whole given refl) c.from_residual.result c.from_residual.ensures.1 is
