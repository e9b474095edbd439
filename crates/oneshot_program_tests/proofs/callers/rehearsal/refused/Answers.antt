-- The trace's rest is the run's.
use Rattle.std.proofs.Common.{◌≡◌, [], ◌∙◌, refl}
use Rattle.oneshot_program_tests.proofs.Refused.{comes_back}
use Rattle.oneshot_program_tests.proofs.callers.rehearsal.refused.Goals as goal

pub returns-in-Ok : goal.returns-in-Ok
returns-in-Ok c =
    let no_calls : c.from.result ≡ [] = c.from.ensures ∙ c.new.ensures.items in
    rw (c.into_rest.ensures, comes_back c.args.message _ c.in-Ok.trace (rw no_calls at c.in-Ok.ensures.right.run)) refl
