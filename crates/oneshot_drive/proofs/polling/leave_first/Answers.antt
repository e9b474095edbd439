-- Proofs of the goals that `leave_first` leaves.
use Rattle.std.specs.Prelude.{IfSome}
use Rattle.oneshot_drive.proofs.Names.{Some, rules, refl, subst, inr, leaves_uncopied}
use Rattle.oneshot_drive.proofs.LeftCopies.{copy_refused, copied_on, owned_ends, may_leave, first_left}
use Rattle.oneshot_drive.proofs.OwnCopies.{wrote_none, on_own, on_copy, on_refusal}
use Rattle.oneshot_drive.proofs.polling.leave_first.Goals as goal

pub returns-in_default-clause-path : goal.returns-in_default-clause-path
returns-in_default-clause-path g c =
    copy_refused c.copy.result (search rules) refl refl c.copy.ensures.log c.wake_own.ensures.log

pub returns-in_default-clause-ends : goal.returns-in_default-clause-ends
returns-in_default-clause-ends g c =
    owned_ends leaves_uncopied (copied_on c.copy.result c.requires c.copy.ensures.log
    c.copy.ensures.message c.copy.ensures.waker) c.wake_own.ensures.log c.wake_own.ensures.message
    c.wake_own.ensures.waker

pub leave-requires-clause-open : goal.leave-requires-clause-open
leave-requires-clause-open g c =
    may_leave (copied_on c.copy.result c.requires c.copy.ensures.log c.copy.ensures.message
    c.copy.ensures.waker) refl

pub returns-clause-path : goal.returns-clause-path
returns-clause-path g c =
    first_left c.copy.result c.in-Some.copy c.in-Some.is c.copy.ensures.log c.leave.result c.leave.ensures.path

pub returns-in_default-clause-own : goal.returns-in_default-clause-own
returns-in_default-clause-own g c = on_refusal c.copy.ensures.log (on_own c.wake_own.ensures.log (wrote_none _))

pub returns-clause-own : goal.returns-clause-own
returns-clause-own g c = on_copy c.in-Some.copy c.in-Some.is c.copy.ensures.log c.leave.ensures.own

pub leave-requires-clause-has : goal.leave-requires-clause-has
leave-requires-clause-has g c =
    subst (λ hand. IfSome hand (λ copy. g.G.ReceiverGround.has c.copy.new.self (Some copy))) c.in-Some.is
    c.copy.ensures.has

pub returns-in_default-clause-task : goal.returns-in_default-clause-task
returns-in_default-clause-task g c = λ nothing. inr c.wake_own.ensures.woken

pub returns-in_default-clause-keeps : goal.returns-in_default-clause-keeps
returns-in_default-clause-keeps g c =
    g.G.ReceiverGround.keeps_on _ _ _ c.copy.ensures.keeps c.wake_own.ensures.keeps

pub returns-clause-keeps : goal.returns-clause-keeps
returns-clause-keeps g c = g.G.ReceiverGround.keeps_on _ _ _ c.copy.ensures.keeps c.leave.ensures.keeps
