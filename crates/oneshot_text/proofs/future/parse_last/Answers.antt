-- No word follows `drop`, and a word that is no call of a future is unknown.
use Rattle.std.proofs.Common.{codes, refl}
use Rattle.oneshot_text.specs.Grammar.{AsksForFuture}
use Rattle.oneshot_text.specs.Words.{words_left}
use Rattle.oneshot_text.proofs.FutureFaults.{future_drop_to, future_drop_from, future-no_number, future-no_word}
use Rattle.oneshot_text.proofs.LastCalls.{last_passed, unknown_passed}
use Rattle.oneshot_text.proofs.Unlike.{not_both}
use Rattle.oneshot_text.proofs.future.parse_last.Goals as goal

pub returns-in_err-end-clause-faulty : goal.returns-in_err-end-clause-faulty
returns-in_err-end-clause-faulty c = λ no_call fault is.
    let given = c.in_err-end.field-0.0 in
    last_passed AsksForFuture c.args.words given fault (codes "drop") future_drop_to future_drop_from _ _
    c.next.ensures.steps (c.next_is.ensures.0 c.if-next_is.true) (c.in_err-end.ensures.faulty given refl)
    c.from_residual.result c.from_residual.ensures.1 is

pub returns-in_err-stop-clause-faulty : goal.returns-in_err-stop-clause-faulty
returns-in_err-stop-clause-faulty c = λ no_call fault is.
    let none =
    future-no_word (words_left c.args.words) no_call
    (λ at. not_both c.next_is.result c.if-next_is.false (c.next_is.ensures.1 at)) in
    unknown_passed AsksForFuture c.args.words c.in_err-stop.field-0.0 fault (codes "drop") (future_drop_to _ refl)
    future-no_number none c.stop.result c.stop.ensures.over.1 c.stop.ensures.faulty c.in_err-stop.was
    c.from_residual-in_err-stop.result c.from_residual-in_err-stop.ensures.1 is
