-- The fault is the first one: it is in a line, and the lines before are right.
use Rattle.std.proofs.Common.{[], ◌∷◌, refl, sym, ◌∙◌}
use Rattle.oneshot_text.specs.declared.line.Line.TheVariants.{Sender, Receiver, Schedule}
use Rattle.oneshot_text.proofs.FirstFaults.{line_wrong, line_later, sender_right, receiver_right, moves_right}
use Rattle.oneshot_text.proofs.LineFaults.{converted_is, error_is}
use Rattle.oneshot_text.proofs.request.parse_request.Goals as goal

pub returns-in_err-sender-clause-faulty : goal.returns-in_err-sender-clause-faulty
returns-in_err-sender-clause-faulty c = λ fault is.
    let given = c.in_err-sender.field-0.0 in
    let line = c.in_ok-take.ensures in
    let same =
    converted_is c.from_residual-in_err-sender.result given fault c.from_residual-in_err-sender.ensures.1 is in
    rw same (line_wrong Sender _ _ c.in_ok-take.field-0 _ given (sym c.new-lines.ensures ∙ line.read) line.first
    (c.in_err-sender.ensures.faulty given refl))

pub returns-in_err-take-2-clause-faulty : goal.returns-in_err-take-2-clause-faulty
returns-in_err-take-2-clause-faulty c = λ fault is.
    let given = c.in_err-take-2.field-0.0 in
    let sender = sender_right _ c.in_ok-sender.sender c.in_ok-sender.ensures.written c.in_ok-sender.ensures.fits in
    let same =
    converted_is c.from_residual-in_err-take-2.result given fault c.from_residual-in_err-take-2.ensures.1 is in
    rw same (line_later Sender _ _ _ _ given (sym c.new-lines.ensures ∙ c.in_ok-take.ensures.read) sender
    (c.in_err-take-2.ensures.faulty given refl (Schedule ∷ [])))

pub returns-in_err-receiver-clause-faulty : goal.returns-in_err-receiver-clause-faulty
returns-in_err-receiver-clause-faulty c = λ fault is.
    let sender = sender_right _ c.in_ok-sender.sender c.in_ok-sender.ensures.written c.in_ok-sender.ensures.fits in
    let line = c.in_ok-take-2.ensures in
    let was =
    error_is c.parse_receiver.result c.in_err-receiver.field-0.0 fault c.in_err-receiver.was
    c.from_residual-in_err-receiver.result c.from_residual-in_err-receiver.ensures.1 is in
    line_later Sender _ _ _ _ fault (sym c.new-lines.ensures ∙ c.in_ok-take.ensures.read) sender
    (line_wrong Receiver _ _ c.in_ok-take-2.field-0 _ fault line.read line.first
    (c.parse_receiver.ensures.faulty fault was))

pub returns-in_err-take-3-clause-faulty : goal.returns-in_err-take-3-clause-faulty
returns-in_err-take-3-clause-faulty c = λ fault is.
    let given = c.in_err-take-3.field-0.0 in
    let sender = sender_right _ c.in_ok-sender.sender c.in_ok-sender.ensures.written c.in_ok-sender.ensures.fits in
    let receiver =
    receiver_right _ c.in_ok-receiver.receiver c.in_ok-receiver.ensures.written c.in_ok-receiver.ensures.fits in
    let same =
    converted_is c.from_residual-in_err-take-3.result given fault c.from_residual-in_err-take-3.ensures.1 is in
    rw same (line_later Sender _ _ _ _ given (sym c.new-lines.ensures ∙ c.in_ok-take.ensures.read) sender
    (line_later Receiver _ _ _ _ given c.in_ok-take-2.ensures.read receiver
    (c.in_err-take-3.ensures.faulty given refl [])))

pub returns-in_err-moves-clause-faulty : goal.returns-in_err-moves-clause-faulty
returns-in_err-moves-clause-faulty c = λ fault is.
    let sender = sender_right _ c.in_ok-sender.sender c.in_ok-sender.ensures.written c.in_ok-sender.ensures.fits in
    let receiver =
    receiver_right _ c.in_ok-receiver.receiver c.in_ok-receiver.ensures.written c.in_ok-receiver.ensures.fits in
    let line = c.in_ok-take-3.ensures in
    let was =
    error_is c.parse_schedule.result c.in_err-moves.field-0.0 fault c.in_err-moves.was
    c.from_residual-in_err-moves.result c.from_residual-in_err-moves.ensures.1 is in
    line_later Sender _ _ _ _ fault (sym c.new-lines.ensures ∙ c.in_ok-take.ensures.read) sender
    (line_later Receiver _ _ _ _ fault c.in_ok-take-2.ensures.read receiver
    (line_wrong Schedule _ _ c.in_ok-take-3.field-0 _ fault line.read line.first
    (c.parse_schedule.ensures.faulty fault was)))

pub returns-in_err-end-clause-faulty : goal.returns-in_err-end-clause-faulty
returns-in_err-end-clause-faulty c = λ fault is.
    let given = c.in_err-end.field-0.0 in
    let sender = sender_right _ c.in_ok-sender.sender c.in_ok-sender.ensures.written c.in_ok-sender.ensures.fits in
    let receiver =
    receiver_right _ c.in_ok-receiver.receiver c.in_ok-receiver.ensures.written c.in_ok-receiver.ensures.fits in
    let moves = moves_right _ c.in_ok-moves.moves.items c.in_ok-moves.ensures.written in
    let same = converted_is c.from_residual-in_err-end.result given fault c.from_residual-in_err-end.ensures.1 is in
    rw same (line_later Sender _ _ _ _ given (sym c.new-lines.ensures ∙ c.in_ok-take.ensures.read) sender
    (line_later Receiver _ _ _ _ given c.in_ok-take-2.ensures.read receiver
    (line_later Schedule _ _ _ _ given c.in_ok-take-3.ensures.read moves (c.in_err-end.ensures.faulty given refl))))
