-- The program's exit status.
use Rattle.std.proofs.Common.{subst, sym}
use Rattle.oneshot_streams.specs.Run.{EndsWith, is_answered, is_faulty}
use Rattle.oneshot_streams.proofs.answer.answer.Goals as goal

pub returns-in-Ok-clause-status : goal.returns-in-Ok-clause-status
returns-in-Ok-clause-status g c = is_answered c.in-Ok.ensures.answered

pub returns-in-Err-clause-status : goal.returns-in-Err-clause-status
returns-in-Err-clause-status g c =
    subst (EndsWith _ _ _) (sym c.status.ensures)
    (is_faulty c.in-Err.fault c.in-Err.ensures.faulty c.in-Err.ensures.untouched)
