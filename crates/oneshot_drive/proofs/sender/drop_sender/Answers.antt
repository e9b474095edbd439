-- Proofs of the goals that `drop_sender` leaves.
use Rattle.oneshot_drive.proofs.Names.{rules, refl, ◌∙◌, [], ◌∷◌, did, Xor, is_room, drop_few}
use Rattle.oneshot_machine.specs.declared.machine.Step.TheVariants.{Free}
use Rattle.oneshot_machine.specs.Phases.{dropping}
use Rattle.oneshot_drive.proofs.EndsOver.{xored_over, xored_owes, late_over, last_is_over, sender_stays_over, woken_by}
use Rattle.oneshot_drive.proofs.AfterOperations.{sender_asks}
use Rattle.oneshot_drive.proofs.SenderCalls.{drop_owes, xored, xored_none, xored_room}
use Rattle.oneshot_drive.proofs.SenderRuns.{drop_ran, drop_woke, drop_freed_late, drop_freed}
use Rattle.oneshot_drive.proofs.sender.drop_sender.Goals as goal

pub xor-requires : goal.xor-requires
xor-requires g c = sender_asks Xor c.requires refl

pub finish-requires : goal.finish-requires
finish-requires g c = drop_owes c.xor.result c.requires c.in-0.is c.xor.ensures.finds c.xor.ensures.log

pub returns-in-3 : goal.returns-in-3
returns-in-3 g c =
    let ran = drop_ran (g.G.SenderGround.woken c.xor.new.self) c.xor.result c.in-3.is c.xor.ensures.log in
    let over =
    xored_over c.xor.result c.requires c.in-3.is c.xor.ensures.finds c.xor.ensures.log in
    record {
      run = ran.ran;
      ended = g.G.SenderGround.ended_by dropping _ over (woken_by c.requires.phase ran);
      bounded = drop_few ran.ran;
    }

pub free-requires-clause-message : goal.free-requires-clause-message
free-requires-clause-message g c =
    let gone =
    c.finish.ensures.gone (search rules) in
    gone.message ∙ xored_room c.xor.result c.requires c.in-0.is c.xor.ensures.finds c.xor.ensures.log

pub free-requires-clause-waker : goal.free-requires-clause-waker
free-requires-clause-waker g c = (c.finish.ensures.gone (search rules)).waker

pub returns-then-not-finish : goal.returns-then-not-finish
returns-then-not-finish g c =
    let ran =
    drop_freed_late _ c.xor.result c.in-0.is c.xor.ensures.log c.if-not-finish.ensures.finishes
    c.free.ensures.log c.free.ensures.woken in
    let over =
    sender_stays_over (did Free ∷ []) refl c.free.ensures.log (last_is_over (c.if-not-finish.ensures.over dropping
    (xored_owes c.xor.result c.requires c.in-0.is c.xor.ensures.finds c.xor.ensures.log))) in
    record {
      run = ran.ran;
      ended = g.G.SenderGround.ended_by dropping _ over (woken_by c.requires.phase ran);
      bounded = drop_few ran.ran;
    }

pub returns-else-not-finish : goal.returns-else-not-finish
returns-else-not-finish g c =
    let ran = drop_woke _ c.xor.result c.in-0.is c.xor.ensures.log c.if-not-finish.ensures.finishes in
    let over =
    last_is_over (c.if-not-finish.ensures.over dropping
    (xored_owes c.xor.result c.requires c.in-0.is c.xor.ensures.finds c.xor.ensures.log)) in
    record {
      run = ran.ran;
      ended = g.G.SenderGround.ended_by dropping _ over (woken_by c.requires.phase ran);
      bounded = drop_few ran.ran;
    }

pub free-requires-in-2-clause-message : goal.free-requires-in-2-clause-message
free-requires-in-2-clause-message g c =
    is_room (xored c.xor.result c.requires c.in-2.is c.xor.ensures.finds
    c.xor.ensures.log).stands.message

pub free-requires-in-2-clause-waker : goal.free-requires-in-2-clause-waker
free-requires-in-2-clause-waker g c =
    is_room (xored c.xor.result c.requires c.in-2.is c.xor.ensures.finds
    c.xor.ensures.log).stands.waker

pub returns-in-2 : goal.returns-in-2
returns-in-2 g c =
    let gone =
    xored c.xor.result c.requires c.in-2.is c.xor.ensures.finds c.xor.ensures.log in
    let ran =
    drop_freed (g.G.SenderGround.woken c.free-in-2.new.self) c.xor.result gone.word c.xor.ensures.log
    c.free-in-2.ensures.log in
    let over =
    sender_stays_over (did Free ∷ []) refl c.free-in-2.ensures.log (late_over gone.stands) in
    record {
      run = ran.ran;
      ended = g.G.SenderGround.ended_by dropping _ over (woken_by c.requires.phase ran);
      bounded = drop_few ran.ran;
    }

pub unreachable-requires : goal.unreachable-requires
unreachable-requires g c =
    xored_none c.xor.result c.requires (search rules) (search rules) (search rules) c.xor.ensures.finds
    c.xor.ensures.log
