-- Each letter is that of a move, and no other moves have these letters.
use Rattle.std.proofs.Common.{◌≡◌, ◌≢◌, ◌≤◌, Some, None, length, map, sym, ap, ◌∙◌}
use Rattle.std.proofs.lemmas.List.{take_all}
use Rattle.oneshot_replay.specs.declared.Move.{Move}
use Rattle.oneshot_text.specs.Schedule.{letter_of}
use Rattle.oneshot_text.proofs.Letters.{moves-same, letter-at}
use Rattle.oneshot_text.proofs.schedule.parse_moves.Goals as goal

no_move : (move : Move) → None ≢ Some move
no_move move is = cc

pub returns-in_err-ok_or-clause-each : goal.returns-in_err-ok_or-clause-each
returns-in_err-ok_or-clause-each c = λ moves some is.
    let read : map letter_of moves ≡ map Some c.as_bytes-letter-items.result.now =
    is ∙ ap (map Some) (sym c.as_bytes-letter-items.ensures.value) in
    let here = letter-at moves _ c.loop-letter.letter-index read c.loop-letter-test.true in
    absurd (no_move here.0 (sym c.in_err-ok_or.ensures.ok_part ∙ (c.move_of.ensures here.0).1 here.1))

pub returns-clause-each : goal.returns-clause-each
returns-clause-each c = λ moves some is.
    let text = c.args.letters.text.now in
    let ends : length text ≤ c.loop-letter.letter-index =
    rw c.as_bytes-letter-items.ensures.value at c.loop-letter-test.false in
    moves-same _ moves _ (c.loop-letter.invariant ∙ ap (map Some) (take_all _ _ ends)) is
