-- Proofs of the goals that `meet` leaves.
use Rattle.oneshot_drive.proofs.Names.{rules, refl, inr, leaves_claimed, RECEIVING, DISCONNECTED, EMPTY, MESSAGE}
use Rattle.oneshot_drive.proofs.PollLoads.{meet_asks, met, met_open, met_copied, met_claimed, met_full, met_over, met_none, met_path, met_own, loaded_to}
use Rattle.oneshot_drive.proofs.LeftCopies.{owned_ends}
use Rattle.oneshot_drive.proofs.OwnCopies.{wrote_none, on_word, on_own}
use Rattle.oneshot_drive.proofs.polling.meet.Goals as goal

pub load-requires : goal.load-requires
load-requires g c = meet_asks c.requires

pub leave_first-requires : goal.leave_first-requires
leave_first-requires g c =
    met_open (met c.load.result c.requires c.load.ensures.finds c.load.ensures.log) c.in-3.is

pub returns-in-3-clause-path : goal.returns-in-3-clause-path
returns-in-3-clause-path g c = met_path c.load.result EMPTY refl c.in-3.is c.load.ensures.log c.leave_first.ensures.path

pub leave_again-requires : goal.leave_again-requires
leave_again-requires g c =
    met_copied (met c.load.result c.requires c.load.ensures.finds c.load.ensures.log) c.in-0.is

pub returns-in-0-clause-path : goal.returns-in-0-clause-path
returns-in-0-clause-path g c =
    met_path c.load.result RECEIVING refl c.in-0.is c.load.ensures.log c.leave_again.ensures.path

pub returns-in-4-clause-path : goal.returns-in-4-clause-path
returns-in-4-clause-path g c = loaded_to _ c.load.result MESSAGE refl refl c.in-4.is c.load.ensures.log

pub returns-in-4-clause-ends : goal.returns-in-4-clause-ends
returns-in-4-clause-ends g c =
    met_full (met c.load.result c.requires c.load.ensures.finds c.load.ensures.log) c.in-4.is

pub returns-in-1-clause-path : goal.returns-in-1-clause-path
returns-in-1-clause-path g c = met_own c.load.result c.in-1.is c.load.ensures.log c.wake_own.ensures.log

pub returns-in-1-clause-ends : goal.returns-in-1-clause-ends
returns-in-1-clause-ends g c =
    owned_ends leaves_claimed (met_claimed (met c.load.result c.requires c.load.ensures.finds c.load.ensures.log)
    c.in-1.is) c.wake_own.ensures.log c.wake_own.ensures.message c.wake_own.ensures.waker

pub returns-in-2-clause-path : goal.returns-in-2-clause-path
returns-in-2-clause-path g c = loaded_to _ c.load.result DISCONNECTED refl refl c.in-2.is c.load.ensures.log

pub returns-in-2-clause-ends : goal.returns-in-2-clause-ends
returns-in-2-clause-ends g c =
    met_over (met c.load.result c.requires c.load.ensures.finds c.load.ensures.log) c.in-2.is

pub unreachable-requires : goal.unreachable-requires
unreachable-requires g c =
    met_none (met c.load.result c.requires c.load.ensures.finds c.load.ensures.log) (search rules) (search rules)
    (search rules) (search rules) (search rules)

pub returns-in-3-clause-own : goal.returns-in-3-clause-own
returns-in-3-clause-own g c = on_word _ c.load.result c.load.ensures.log c.leave_first.ensures.own

pub returns-in-0-clause-own : goal.returns-in-0-clause-own
returns-in-0-clause-own g c = on_word _ c.load.result c.load.ensures.log c.leave_again.ensures.own

pub returns-in-1-clause-own : goal.returns-in-1-clause-own
returns-in-1-clause-own g c =
    on_word _ c.load.result c.load.ensures.log (on_own c.wake_own.ensures.log (wrote_none _))

pub returns-in-4-clause-own : goal.returns-in-4-clause-own
returns-in-4-clause-own g c = on_word _ c.load.result c.load.ensures.log (wrote_none _)

pub returns-in-2-clause-own : goal.returns-in-2-clause-own
returns-in-2-clause-own g c = on_word _ c.load.result c.load.ensures.log (wrote_none _)

pub returns-in-1-clause-task : goal.returns-in-1-clause-task
returns-in-1-clause-task g c = λ nothing. inr c.wake_own.ensures.woken
