-- Proofs of the goals that `drop_async` leaves.
use Rattle.oneshot_drive.proofs.Names.{rules, drop_async_few}
use Rattle.oneshot_drive.proofs.PollLoads.{meet_asks, met, met_copied, met_end, met_none}
use Rattle.oneshot_drive.proofs.DroppedFutures.{drop_after, drop_at_once}
use Rattle.oneshot_drive.proofs.polling.drop_async.Goals as goal

pub load-requires : goal.load-requires
load-requires g c = meet_asks c.requires

pub take_back-requires : goal.take_back-requires
take_back-requires g c = met_copied (met c.load.result c.requires c.load.ensures.finds c.load.ensures.log) c.in-0.is

pub close-requires-in-1 : goal.close-requires-in-1
close-requires-in-1 g c =
    (met_end (met c.load.result c.requires c.load.ensures.finds c.load.ensures.log) (search rules)).0

pub returns-in-0-clause-run : goal.returns-in-0-clause-run
returns-in-0-clause-run g c =
    drop_after c.load.result c.load.ensures.log c.in-0.is c.take_back.ensures.path c.close.ensures.run

pub returns-in-1-clause-run : goal.returns-in-1-clause-run
returns-in-1-clause-run g c =
    drop_at_once c.load.result c.load.ensures.log
    (met_end (met c.load.result c.requires c.load.ensures.finds c.load.ensures.log) (search rules)).1
    c.close-in-1.ensures.run

pub returns-in-0-clause-bounded : goal.returns-in-0-clause-bounded
returns-in-0-clause-bounded g c = drop_async_few (returns-in-0-clause-run g c)

pub returns-in-1-clause-bounded : goal.returns-in-1-clause-bounded
returns-in-1-clause-bounded g c = drop_async_few (returns-in-1-clause-run g c)

pub unreachable-requires : goal.unreachable-requires
unreachable-requires g c =
    met_none (met c.load.result c.requires c.load.ensures.finds c.load.ensures.log) (search rules) (search rules)
    (search rules) (search rules) (search rules)
