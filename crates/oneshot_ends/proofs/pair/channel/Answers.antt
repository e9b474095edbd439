-- Proofs of the goals that `channel` leaves.
use Rattle.oneshot_ends.proofs.NewEnds.{new_sender, new_receiver}
use Rattle.oneshot_ends.proofs.pair.channel.Goals as goal

pub new-requires : goal.new-requires
new-requires g c = new_sender c.in_ok-sender.ensures

pub new-requires-2-clause-new : goal.new-requires-2-clause-new
new-requires-2-clause-new g c = new_receiver c.in_ok-sender.ensures
