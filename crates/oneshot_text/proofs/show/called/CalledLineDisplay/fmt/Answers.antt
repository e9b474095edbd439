-- The line, and after it the call.
use Rattle.std.proofs.Common.{refl}
use Rattle.std.proofs.Output.{has_written_append}
use Rattle.oneshot_text.proofs.show.called.CalledLineDisplay.fmt.Goals as goal

pub returns-clause-writes : goal.returns-clause-writes
returns-clause-writes g c = λ plain ok.
    let line = c.in_ok-fmt.ensures.writes plain refl in
    let call = c.write_call.ensures line.plain ok in
    has_written_append _ _ _ _ _ _ line (rw c.call_word.ensures at call)
