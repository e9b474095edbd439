-- The line has one word, with the letters of these moves and no others.
use Rattle.std.proofs.Common.{◌≡◌, ◌<◌, [], ◌∷◌, length, refl, arith}
use Rattle.oneshot_text.specs.Grammar.{AsksForMoves, IsOver}
use Rattle.oneshot_text.specs.Words.{words_left}
use Rattle.oneshot_text.proofs.Letters.{schedule-same}
use Rattle.oneshot_text.proofs.LineFaults.{error_is, fault_converted, fault_behind}
use Rattle.oneshot_text.proofs.ScheduleFaults.{moves_to, moves_from, schedule_unknown}
use Rattle.oneshot_text.proofs.schedule.parse_schedule.Goals as goal

pub returns-clause-each : goal.returns-clause-each
returns-clause-each c = λ moves is.
    let word = c.in-Some.letters.text.now in
    let line : words_left c.args.words ≡ word ∷ [] = rw (← c.in_ok-end.ensures.over.0 refl) c.in-Some.ensures.steps.0 in
    schedule-same _ moves word c.in_ok-moves.ensures.written (rw line at is)

pub returns-in_err-moves-clause-faulty : goal.returns-in_err-moves-clause-faulty
returns-in_err-moves-clause-faulty c = λ fault is.
    let next = c.in-Some.ensures.steps in
    let was =
    error_is c.parse_moves.result c.in_err-moves.field-0.0 fault c.in_err-moves.was c.from_residual.result
    c.from_residual.ensures.1 is in
    schedule_unknown (λ moves. moves.items) c.args.words c.in-Some.letters _ next.0 next.2 c.parse_moves.result
    c.parse_moves.ensures.each fault was (c.parse_moves.ensures.faulty fault was)

pub returns-in_err-end-clause-faulty : goal.returns-in_err-end-clause-faulty
returns-in_err-end-clause-faulty c = λ fault is.
    let next = c.in-Some.ensures.steps in
    let word = c.in-Some.letters.text.now in
    let moves = c.in_ok-moves.ensures in
    let some : 0 < length c.in_ok-moves.moves.items = omega (arith, moves.some) in
    let given = c.in_err-end.field-0.0 in
    fault_converted AsksForMoves c.args.words c.from_residual-in_err-end.result given fault
    c.from_residual-in_err-end.ensures.1 is
    (fault_behind IsOver AsksForMoves (word ∷ []) (moves_to c.in_ok-moves.moves.items word some moves.written)
    (moves_from word) c.args.words _ given next.1 next.0 (c.in_err-end.ensures.faulty given refl))
