-- No word follows `recv` or `drop`, a future's words follow `future`, and a word that is no last call is unknown.
use Rattle.std.proofs.Common.{codes, refl}
use Rattle.oneshot_text.specs.Grammar.{AsksForReceiver, AsksForFuture}
use Rattle.oneshot_text.specs.Words.{words_left}
use Rattle.oneshot_text.proofs.LastCalls.{last_converted, unknown_converted}
use Rattle.oneshot_text.proofs.LineFaults.{error_is, fault_behind_word}
use Rattle.oneshot_text.proofs.ReceiverFaults.{recv_to, recv_from, receiver_drop_to, receiver_drop_from, future_to, future_from, receiver-no_number, receiver-no_word}
use Rattle.oneshot_text.proofs.Unlike.{not_both}
use Rattle.oneshot_text.proofs.receiver.parse_last.Goals as goal

pub returns-in_err-parse_future-clause-faulty : goal.returns-in_err-parse_future-clause-faulty
returns-in_err-parse_future-clause-faulty c = λ no_call fault is.
    let future = c.next_is.ensures.0 c.if-next_is.true in
    let was =
    error_is c.parse_future.result c.in_err-parse_future.field-0.0 fault c.in_err-parse_future.was
    c.from_residual.result c.from_residual.ensures.1 is in
    fault_behind_word AsksForFuture AsksForReceiver (codes "future") future_to future_from c.args.words _ _
    c.next.ensures.steps future fault (c.parse_future.ensures.faulty fault was)

pub returns-in_err-end-clause-faulty : goal.returns-in_err-end-clause-faulty
returns-in_err-end-clause-faulty c = λ no_call fault is.
    let given = c.in_err-end.field-0.0 in
    last_converted AsksForReceiver c.args.words given fault (codes "recv") recv_to recv_from _ _
    c.next-then-next_is-2.ensures.steps (c.next_is-2.ensures.0 c.if-next_is-2.true)
    (c.in_err-end.ensures.faulty given refl) c.from_residual-in_err-end.result c.from_residual-in_err-end.ensures.1 is

pub returns-in_err-end-2-clause-faulty : goal.returns-in_err-end-2-clause-faulty
returns-in_err-end-2-clause-faulty c = λ no_call fault is.
    let given = c.in_err-end-2.field-0.0 in
    last_converted AsksForReceiver c.args.words given fault (codes "drop") receiver_drop_to receiver_drop_from _ _
    c.next-then-next_is-3.ensures.steps (c.next_is-3.ensures.0 c.if-next_is-3.true)
    (c.in_err-end-2.ensures.faulty given refl) c.from_residual-in_err-end-2.result
    c.from_residual-in_err-end-2.ensures.1 is

pub returns-in_err-stop-clause-faulty : goal.returns-in_err-stop-clause-faulty
returns-in_err-stop-clause-faulty c = λ no_call fault is.
    let none =
    receiver-no_word (words_left c.args.words) no_call
    (λ at. not_both c.next_is.result c.if-next_is.false (c.next_is.ensures.1 at))
    (λ at. not_both c.next_is-2.result c.if-next_is-2.false (c.next_is-2.ensures.1 at))
    (λ at. not_both c.next_is-3.result c.if-next_is-3.false (c.next_is-3.ensures.1 at)) in
    unknown_converted AsksForReceiver c.args.words c.in_err-stop.field-0.0 fault (codes "drop")
    (receiver_drop_to _ refl)
    receiver-no_number none c.stop.result c.stop.ensures.over.1 c.stop.ensures.faulty c.in_err-stop.was
    c.from_residual-in_err-stop.result c.from_residual-in_err-stop.ensures.1 is
