-- Proofs of the goals that `finish` leaves.
use Rattle.oneshot_drive.proofs.Names.{◌∙◌}
use Rattle.oneshot_drive.proofs.SenderCalls.{finish_asks, finished_as, overtaken_as, given_over}
use Rattle.oneshot_drive.proofs.EndsOver.{finished_over}
use Rattle.oneshot_drive.proofs.sender.finish.Goals as goal

pub swap-found-requires : goal.swap-found-requires
swap-found-requires g c =
    finish_asks c.take_waker-waker.result c.requires c.take_waker-waker.ensures.log c.take_waker-waker.ensures.message
    c.take_waker-waker.ensures.waker

pub returns-clause-finishes : goal.returns-clause-finishes
returns-clause-finishes g c =
    finished_as c.take_waker-waker.result c.requires c.take_waker-waker.ensures.log c.take_waker-waker.ensures.message
    c.take_waker-waker.ensures.waker c.swap-found.result c.swap-found.ensures.finds c.swap-found.ensures.log
    c.wake.ensures.log c.wake.ensures.woken

pub returns-clause-gone : goal.returns-clause-gone
returns-clause-gone g c gone =
    overtaken_as c.requires c.take_waker-waker.ensures.message c.swap-found.result c.swap-found.ensures.finds
    c.wake.ensures.message c.wake.ensures.waker gone

pub wake-requires : goal.wake-requires
wake-requires g c = c.swap-found.ensures.owed _ c.take_waker-waker.ensures.owed

pub returns-clause-gave : goal.returns-clause-gave
returns-clause-gave g c here x has =
    c.wake.ensures.gave x
    (c.swap-found.ensures.gave x (c.take_waker-waker.ensures.message ∙ has)
    (given_over c.swap-found.ensures.finds here))

pub returns-clause-over : goal.returns-clause-over
returns-clause-over g c by owing =
    finished_over c.args.last c.take_waker-waker.result c.swap-found.result owing c.take_waker-waker.ensures.log
    c.swap-found.ensures.finds c.swap-found.ensures.log c.wake.ensures.log

pub returns-clause-keeps : goal.returns-clause-keeps
returns-clause-keeps g c =
    let on = g.G.SenderGround.keeps_on in
    on _ _ _ c.take_waker-waker.ensures.keeps (on _ _ _ c.swap-found.ensures.keeps c.wake.ensures.keeps)
