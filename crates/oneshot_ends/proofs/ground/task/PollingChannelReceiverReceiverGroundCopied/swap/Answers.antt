-- Proofs of the goals that `swap` of `Polling` as a `ReceiverGround` leaves.
use Rattle.std.proofs.Common.{refl, [], ◌∷◌}
use Rattle.oneshot_machine.specs.declared.states.Op.TheVariants.{Swap}
use Rattle.oneshot_ends.proofs.LentGrounds.{polling_keeps}
use Rattle.oneshot_ends.proofs.PollingTokens.{told, token_can, token_found}
use Rattle.oneshot_ends.proofs.ground.task.PollingChannelReceiverReceiverGroundCopied.swap.Goals as goal

pub swap-requires : goal.swap-requires
swap-requires g c = token_can [] c.args.self.now.ground.now (Swap c.args.new) c.requires

pub returns-clause-log : goal.returns-clause-log
returns-clause-log g c = told (_ ∷ _ ∷ _ ∷ []) c.args.self.now.ground.now c.swap.new.self _ _ refl c.swap.ensures.log

pub returns-clause-finds : goal.returns-clause-finds
returns-clause-finds g c =
    token_found [] c.args.self.now.ground.now c.swap.new.self (Swap c.args.new) c.swap.result c.swap.ensures.finds

pub returns-clause-keeps : goal.returns-clause-keeps
returns-clause-keeps g c = polling_keeps c.swap.ensures.keeps
