-- Proofs of the goals that `exchange` of `Polling` as a `ReceiverGround` leaves.
use Rattle.std.proofs.Common.{refl, [], ◌∷◌}
use Rattle.oneshot_machine.specs.declared.states.Op.TheVariants.{Exchange}
use Rattle.oneshot_ends.proofs.LentGrounds.{polling_keeps}
use Rattle.oneshot_ends.proofs.PollingTokens.{told, token_can, token_found}
use Rattle.oneshot_ends.proofs.TaskWakers.{has_polled}
use Rattle.oneshot_ends.proofs.ground.task.PollingChannelReceiverReceiverGroundCopied.exchange.Goals as goal

pub exchange-requires : goal.exchange-requires
exchange-requires g c = token_can [] c.args.self.now.ground.now (Exchange c.args.expected c.args.new) c.requires

pub returns-clause-log : goal.returns-clause-log
returns-clause-log g c =
    told (_ ∷ _ ∷ _ ∷ []) c.args.self.now.ground.now c.exchange.new.self _ _ refl c.exchange.ensures.log

pub returns-clause-finds : goal.returns-clause-finds
returns-clause-finds g c =
    token_found [] c.args.self.now.ground.now c.exchange.new.self (Exchange c.args.expected c.args.new)
    c.exchange.result c.exchange.ensures.finds

pub returns-clause-keeps : goal.returns-clause-keeps
returns-clause-keeps g c = polling_keeps c.exchange.ensures.keeps

pub returns-clause-has : goal.returns-clause-has
returns-clause-has g c =
    λ hand has.
    has_polled c.args.self.now.cx.now c.args.self.now.copies.now hand c.exchange.ensures.keeps has
