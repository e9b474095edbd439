-- If all words ask for a script, each call taken is its next one, no fault is found, and at the end none is left.
use Rattle.std.proofs.Common.{◌≡◌, ◌++◌, Some, None, Ok, slice_get, ap, sym, ◌∙◌}
use Rattle.oneshot_text.specs.Future.{words_of_future_call, words_of_future_calls, HasNumber}
use Rattle.oneshot_text.specs.Grammar.{AsksForFuture}
use Rattle.oneshot_text.specs.Words.{words_left, IsSameLine}
use Rattle.oneshot_text.proofs.FutureFaults.{calls_to, calls_from, numbers_more}
use Rattle.oneshot_text.proofs.FutureWords.{future_written_more, takes_one, takes_none, no_fault}
use Rattle.oneshot_text.proofs.LineFaults.{fault_converted, fault_behind, same_line_on}
use Rattle.oneshot_text.proofs.future.parse_calls.Goals as goal

pub returns-in_err-call-clause-each : goal.returns-in_err-call-clause-each
returns-in_err-call-clause-each c = λ future numbers asks.
    let next = c.next_call.ensures in
    absurd (no_fault _ _ _ c.next_call.result c.in_err-call.field-0.0 c.loop-calls.invariant.each c.in_err-call.was
    next.each next.only_then future numbers asks)

pub loop-calls-preserved : goal.loop-calls-preserved
loop-calls-preserved c =
    let next = c.next_call.ensures in
    let is : c.next_call.result ≡ Ok (Some c.in-Some.call) = cc (c.in_ok-call.was, c.in-Some.is) in
    let taken : words_left c.loop-calls.words
    ≡ words_of_future_call c.in-Some.call ++ words_left c.next_call.new.words = rw is at next.taken in
    let small : HasNumber c.in-Some.call = rw is at next.numbers in
    let line : IsSameLine c.loop-calls.words c.next_call.new.words = rw is at next.line in
    rw c.in_ok-push.ensures.items (record {
      written = future_written_more _ _ _ c.loop-calls.calls.items c.in-Some.call c.loop-calls.invariant.written taken;
      each = takes_one _ _ _ _ c.in-Some.call c.next_call.result c.loop-calls.invariant.each is taken next.each;
      numbers = numbers_more c.loop-calls.calls.items c.in-Some.call c.loop-calls.invariant.numbers small;
      line = same_line_on _ _ _ c.loop-calls.invariant.line line;
    })

pub returns-clause-each : goal.returns-clause-each
returns-clause-each c = λ future numbers asks.
    let next = c.next_call.ensures in
    let none : c.next_call.result ≡ Ok None = cc (c.in_ok-call.was, c.in_default.is) in
    let all = takes_none _ _ _ c.loop-calls.invariant.each (next.none none) future numbers asks in
    (all.0, next.left none ∙ all.1)

pub returns-clause-whole : goal.returns-clause-whole
returns-clause-whole c = λ call at.
    let next = c.next_call.ensures in
    let none : c.next_call.result ≡ Ok None = cc (c.in_ok-call.was, c.in_default.is) in
    next.none none call (ap (λ ws. slice_get ws 0) (sym (next.left none)) ∙ at)

pub returns-clause-line : goal.returns-clause-line
returns-clause-line c =
    let none : c.next_call.result ≡ Ok None = cc (c.in_ok-call.was, c.in_default.is) in
    let line : IsSameLine c.loop-calls.words c.next_call.new.words = rw none at c.next_call.ensures.line in
    same_line_on _ _ _ c.loop-calls.invariant.line line

pub returns-in_err-call-clause-faulty : goal.returns-in_err-call-clause-faulty
returns-in_err-call-clause-faulty c = λ fault is.
    let given = c.in_err-call.field-0.0 in
    let calls = c.loop-calls.calls.items in
    let so_far = c.loop-calls.invariant in
    fault_converted AsksForFuture c.args.words.now c.from_residual.result given fault c.from_residual.ensures.1 is
    (fault_behind AsksForFuture AsksForFuture (words_of_future_calls calls) (calls_to calls so_far.numbers)
    (calls_from calls)
    c.args.words.now c.loop-calls.words given so_far.line so_far.written
    (c.next_call.ensures.faulty given c.in_err-call.was))
