-- Proofs of the goals that `step` leaves.
use Rattle.std.proofs.Common.{refl}
use Rattle.oneshot_replay.specs.Scene.{Scene}
use Rattle.oneshot_replay.proofs.Runs.{goes_on}
use Rattle.oneshot_replay.proofs.replayer.Replayer.step.Goals as goal

pub returns-clause-goes_on : goal.returns-clause-goes_on
returns-clause-goes_on g c =
    let from : Scene g.row.T.Denot =
    record { world = c.self.inside.world; count = c.self.inside.count; message = c.self.inside.message } in
    rw c.self.view_is at (goes_on from c.args.m c.step.result _ c.step.ensures refl refl)
