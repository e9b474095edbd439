-- Proofs of the goals that `withdraw` of `Polling` as a `ReceiverGround` leaves.
use Rattle.std.proofs.Common.{refl, [], ◌∷◌}
use Rattle.oneshot_ends.proofs.LentGrounds.{polling_keeps}
use Rattle.oneshot_ends.proofs.PollingTokens.{told, token_held}
use Rattle.oneshot_ends.proofs.TaskWakers.{stays_in_hand}
use Rattle.oneshot_ends.proofs.ground.task.PollingChannelReceiverReceiverGroundCopied.withdraw.Goals as goal

pub withdraw-copy-requires : goal.withdraw-copy-requires
withdraw-copy-requires g c = token_held c.args.self.now.ground.now.waker c.requires.1

pub returns-clause-log : goal.returns-clause-log
returns-clause-log g c =
    told (_ ∷ _ ∷ _ ∷ []) c.args.self.now.ground.now c.withdraw-copy.new.self _ _ refl c.withdraw-copy.ensures.log

pub returns-clause-keeps : goal.returns-clause-keeps
returns-clause-keeps g c = polling_keeps c.withdraw-copy.ensures.keeps

pub returns-clause-has : goal.returns-clause-has
returns-clause-has g c = λ copied has.
    stays_in_hand c.args.self.now.cx.now c.args.self.now.copies.now.hand c.keep.new.copies.hand c.keep.ensures has
