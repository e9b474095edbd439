-- Proofs of two goals of `watch`. `search` finds them too. Over a wrong body an answer fails at once,
-- and names what differs.
use Rattle.oneshot_watch.proofs.pair.watch.Goals as goal

pub returns-clause-new_watch : goal.returns-clause-new_watch
returns-clause-new_watch g c = rw c.new-2.ensures c.in_ok-sender.ensures.new_receiver

pub returns-clause-open : goal.returns-clause-open
returns-clause-open g c = rw c.new-2.ensures c.in_ok-sender.ensures.open
