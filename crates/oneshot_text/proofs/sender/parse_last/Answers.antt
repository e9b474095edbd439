-- No word follows `drop`, a number and an error's words follow `send`, and a word that is no last call is unknown.
use Rattle.std.proofs.Common.{[], codes, refl}
use Rattle.oneshot_text.specs.Grammar.{AsksForSender, AsksForError, NumberAnd}
use Rattle.oneshot_text.specs.Words.{words_left}
use Rattle.oneshot_text.proofs.LastCalls.{last_passed, unknown_passed}
use Rattle.oneshot_text.proofs.LineFaults.{fault_passed, fault_behind_word, fault_behind_number, number_missing}
use Rattle.oneshot_text.proofs.SenderFaults.{drop_to, drop_from, send_to, send_from, sender-no_number, sender-no_word, no_error}
use Rattle.oneshot_text.proofs.Unlike.{not_both}
use Rattle.oneshot_text.proofs.sender.parse_last.Goals as goal

pub returns-in_err-end-clause-faulty : goal.returns-in_err-end-clause-faulty
returns-in_err-end-clause-faulty c = λ other fault is.
    let given = c.in_err-end.field-0.0 in
    last_passed AsksForSender c.args.words given fault (codes "drop") drop_to drop_from _ _ c.next.ensures.steps
    (c.next_is.ensures.0 c.if-next_is.true) (c.in_err-end.ensures.faulty given refl) c.from_residual.result
    c.from_residual.ensures.1 is

pub returns-in_err-message-clause-faulty : goal.returns-in_err-message-clause-faulty
returns-in_err-message-clause-faulty c = λ other fault is.
    let given = c.in_err-message.field-0.0 in
    let number = c.number.ensures in
    let send = c.next_is-2.ensures.0 c.if-next_is-2.true in
    let missing =
    number_missing AsksForError c.next-then-next_is-2.new.self [] no_error c.number.result number.each number.faulty
    given c.in_err-message.was in
    fault_passed AsksForSender c.args.words c.from_residual-in_err-message.result given fault
    c.from_residual-in_err-message.ensures.1 is
    (fault_behind_word (NumberAnd AsksForError) AsksForSender (codes "send") send_to send_from c.args.words _ _
    c.next-then-next_is-2.ensures.steps send given missing)

pub returns-in_err-error-clause-faulty : goal.returns-in_err-error-clause-faulty
returns-in_err-error-clause-faulty c = λ other fault is.
    let given = c.in_err-error.field-0.0 in
    let number = c.in_ok-message.ensures in
    let send = c.next_is-2.ensures.0 c.if-next_is-2.true in
    let behind =
    fault_behind_number AsksForError c.in_ok-message.message number.small c.next-then-next_is-2.new.self
    c.number.new.self number.line number.written given (c.in_err-error.ensures.faulty given refl) in
    fault_passed AsksForSender c.args.words c.from_residual-in_err-error.result given fault
    c.from_residual-in_err-error.ensures.1 is
    (fault_behind_word (NumberAnd AsksForError) AsksForSender (codes "send") send_to send_from c.args.words _ _
    c.next-then-next_is-2.ensures.steps send given behind)

pub returns-in_err-stop-clause-faulty : goal.returns-in_err-stop-clause-faulty
returns-in_err-stop-clause-faulty c = λ other fault is.
    let none =
    sender-no_word (words_left c.args.words) other
    (λ at. not_both c.next_is-2.result c.if-next_is-2.false (c.next_is-2.ensures.1 at))
    (λ at. not_both c.next_is.result c.if-next_is.false (c.next_is.ensures.1 at)) in
    unknown_passed AsksForSender c.args.words c.in_err-stop.field-0.0 fault (codes "drop") (drop_to _ refl)
    sender-no_number none c.stop.result c.stop.ensures.over.1 c.stop.ensures.faulty c.in_err-stop.was
    c.from_residual-in_err-stop.result c.from_residual-in_err-stop.ensures.1 is
