-- If the words left begin with no call, none of the four tests passed. After `poll` a number must come.
use Rattle.std.proofs.Common.{[], codes}
use Rattle.oneshot_replay.specs.declared.AsyncCall.TheVariants.{Poll, TryRecv, HasMessage, IsClosed}
use Rattle.oneshot_text.specs.Grammar.{AsksForFuture, NumberAnd}
use Rattle.oneshot_text.proofs.FutureFaults.{no_future, poll_to, poll_from}
use Rattle.oneshot_text.proofs.LineFaults.{fault_passed, fault_behind_word, number_missing}
use Rattle.oneshot_text.proofs.future.next_call.Goals.{then-next_is-2, else-next_is-2+then-next_is-3, else-next_is-2+else-next_is-3+then-next_is-4}
use Rattle.oneshot_text.proofs.future.next_call.Goals as goal

pub returns-in_err-number-clause-only_then : goal.returns-in_err-number-clause-only_then
returns-in_err-number-clause-only_then c = λ none. absurd (none (Poll 0) (c.next_is.ensures.0 c.if-next_is.true))

pub returns-then-next_is-clause-only_then : goal.returns-then-next_is-clause-only_then
returns-then-next_is-clause-only_then c = λ none. absurd (none (Poll 0) (c.next_is.ensures.0 c.if-next_is.true))

pub returns-clause-only_then : goal.returns-clause-only_then
returns-clause-only_then c = λ none.
    elim c.if-next_is-2.branch [
      | then-next_is-2 w ↦ absurd (none TryRecv (c.next_is-2.ensures.0 w.if-next_is-2.true))
      | else-next_is-2+then-next_is-3 w ↦ absurd
          (none HasMessage (w.next_is-else-next_is-2.ensures.0 w.if-next_is-3.true))
      | else-next_is-2+else-next_is-3+then-next_is-4 w ↦ absurd
          (none IsClosed (w.next_is-else-next_is-3.ensures.0 w.if-next_is-4.true))
    ]

pub returns-in_err-number-clause-faulty : goal.returns-in_err-number-clause-faulty
returns-in_err-number-clause-faulty c = λ fault is.
    let given = c.in_err-number.field-0.0 in
    let number = c.number.ensures in
    let poll = c.next_is.ensures.0 c.if-next_is.true in
    let missing =
    number_missing AsksForFuture c.next.new.self [] no_future c.number.result number.each number.faulty given
    c.in_err-number.was in
    fault_passed AsksForFuture c.args.words.now c.from_residual.result given fault c.from_residual.ensures.1 is
    (fault_behind_word (NumberAnd AsksForFuture) AsksForFuture (codes "poll") poll_to poll_from c.args.words.now _ _
    c.next.ensures.steps poll given missing)
