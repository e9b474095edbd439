-- Proofs of the goals that `load` of `Polling` as a `ReceiverGround` leaves.
use Rattle.std.proofs.Common.{refl, [], ◌∷◌}
use Rattle.oneshot_machine.specs.declared.states.Op.TheVariants.{Load}
use Rattle.oneshot_ends.proofs.LentGrounds.{polling_keeps}
use Rattle.oneshot_ends.proofs.PollingTokens.{told, token_can, token_found}
use Rattle.oneshot_ends.proofs.ground.task.PollingChannelReceiverReceiverGroundCopied.load.Goals as goal

pub load-requires : goal.load-requires
load-requires g c = token_can [] c.args.self.now.ground.now Load c.requires

pub returns-clause-log : goal.returns-clause-log
returns-clause-log g c = told (_ ∷ _ ∷ _ ∷ []) c.args.self.now.ground.now c.load.new.self _ _ refl c.load.ensures.log

pub returns-clause-finds : goal.returns-clause-finds
returns-clause-finds g c =
    token_found [] c.args.self.now.ground.now c.load.new.self Load c.load.result c.load.ensures.finds

pub returns-clause-keeps : goal.returns-clause-keeps
returns-clause-keeps g c = polling_keeps c.load.ensures.keeps
