-- Proofs of the goals that `copy` of `Polling` as a `TaskGround` leaves.
use Rattle.oneshot_ends.proofs.TaskWakers.{made_for}
use Rattle.oneshot_ends.proofs.ground.task.PollingChannelReceiverTaskGroundCopied.copy.Goals as goal

pub returns-then-register-clause-has : goal.returns-then-register-clause-has
returns-then-register-clause-has g c =
    made_for c.args.self.now.cx.now c.register.new.cx c.register.new.copies c.register.ensures.kept
    (c.register.ensures.made c.if-register.true)
