-- A word that is left is where none may follow.
use Rattle.std.proofs.Common.{◌∙◌, sym}
use Rattle.oneshot_text.proofs.LineFaults.{fault_of_err, word_over}
use Rattle.oneshot_text.proofs.words.Words.end.Goals as goal

pub returns-in-Some-clause-faulty : goal.returns-in-Some-clause-faulty
returns-in-Some-clause-faulty c = λ fault is.
    let next = c.in-Some.ensures.steps in
    word_over c.args.self c.in-Some.word _ next.0 next.2 fault
    (sym c.follows_last_call.ensures ∙ fault_of_err c.follows_last_call.result fault is)
