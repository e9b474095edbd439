-- No word follows a last call, and a word that is no last call of an error is unknown.
use Rattle.std.proofs.Common.{codes, refl}
use Rattle.oneshot_text.specs.Grammar.{AsksForError}
use Rattle.oneshot_text.specs.Words.{words_left}
use Rattle.oneshot_text.proofs.LastCalls.{last_passed, unknown_passed}
use Rattle.oneshot_text.proofs.SenderFaults.{into_to, into_from, error_drop_to, error_drop_from, error-no_number, error-no_word}
use Rattle.oneshot_text.proofs.Unlike.{not_both}
use Rattle.oneshot_text.proofs.sender.parse_error_last.Goals as goal

pub returns-in_err-end-clause-faulty : goal.returns-in_err-end-clause-faulty
returns-in_err-end-clause-faulty c = λ other fault is.
    let given = c.in_err-end.field-0.0 in
    last_passed AsksForError c.args.words given fault (codes "into") into_to into_from _ _ c.next.ensures.steps
    (c.next_is.ensures.0 c.if-next_is.true) (c.in_err-end.ensures.faulty given refl) c.from_residual.result
    c.from_residual.ensures.1 is

pub returns-in_err-end-2-clause-faulty : goal.returns-in_err-end-2-clause-faulty
returns-in_err-end-2-clause-faulty c = λ other fault is.
    let given = c.in_err-end-2.field-0.0 in
    last_passed AsksForError c.args.words given fault (codes "drop") error_drop_to error_drop_from _ _
    c.next-then-next_is-2.ensures.steps (c.next_is-2.ensures.0 c.if-next_is-2.true)
    (c.in_err-end-2.ensures.faulty given refl) c.from_residual-in_err-end-2.result
    c.from_residual-in_err-end-2.ensures.1 is

pub returns-in_err-stop-clause-faulty : goal.returns-in_err-stop-clause-faulty
returns-in_err-stop-clause-faulty c = λ other fault is.
    let none =
    error-no_word (words_left c.args.words) other
    (λ at. not_both c.next_is.result c.if-next_is.false (c.next_is.ensures.1 at))
    (λ at. not_both c.next_is-2.result c.if-next_is-2.false (c.next_is-2.ensures.1 at)) in
    unknown_passed AsksForError c.args.words c.in_err-stop.field-0.0 fault (codes "drop") (error_drop_to _ refl)
    error-no_number none c.stop.result c.stop.ensures.over.1 c.stop.ensures.faulty c.in_err-stop.was
    c.from_residual-in_err-stop.result c.from_residual-in_err-stop.ensures.1 is
