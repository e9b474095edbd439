-- Proofs of the goals that `store` of `Polling` as a `ReceiverGround` leaves.
use Rattle.std.proofs.Common.{refl, [], ◌∷◌}
use Rattle.oneshot_machine.specs.declared.states.Op.TheVariants.{Store}
use Rattle.oneshot_ends.proofs.LentGrounds.{polling_keeps}
use Rattle.oneshot_ends.proofs.PollingTokens.{told, token_can, token_found}
use Rattle.oneshot_ends.proofs.ground.task.PollingChannelReceiverReceiverGroundCopied.store.Goals as goal

pub store-requires : goal.store-requires
store-requires g c = token_can [] c.args.self.now.ground.now (Store c.args.new) c.requires

pub returns-clause-log : goal.returns-clause-log
returns-clause-log g c =
    told (_ ∷ _ ∷ _ ∷ []) c.args.self.now.ground.now c.store.new.self _ _ refl c.store.ensures.log

pub returns-clause-finds : goal.returns-clause-finds
returns-clause-finds g c =
    token_found [] c.args.self.now.ground.now c.store.new.self (Store c.args.new) c.store.result c.store.ensures.finds

pub returns-clause-keeps : goal.returns-clause-keeps
returns-clause-keeps g c = polling_keeps c.store.ensures.keeps
