-- Proofs of the goals that `poll` leaves.
use Rattle.oneshot_drive.proofs.Names.{rules, is_in, poll_few}
use Rattle.oneshot_drive.proofs.AfterOperations.{took_message}
use Rattle.oneshot_drive.proofs.Stretches.{whole}
use Rattle.oneshot_drive.proofs.Receives.{full_asks, closed_over}
use Rattle.oneshot_drive.proofs.PollLoads.{taken_rests, poll_ran, pending_rests, poll_gone, gone_rests}
use Rattle.oneshot_drive.proofs.OwnCopies.{then_word, then_took}
use Rattle.oneshot_drive.proofs.polling.poll.Goals as goal

pub store-requires : goal.store-requires
store-requires g c = let ends = rw c.in-Message.is at c.meet.ensures.ends in full_asks ends.2

pub take_message-requires : goal.take_message-requires
take_message-requires g c =
    let ends = rw c.in-Message.is at c.meet.ensures.ends in
    is_in (closed_over c.store.result ends.2 c.store.ensures.finds c.store.ensures.log).message

pub returns-in-Message : goal.returns-in-Message
returns-in-Message g c =
    let ends = rw c.in-Message.is at c.meet.ensures.ends in
    let over = took_message (closed_over c.store.result ends.2 c.store.ensures.finds c.store.ensures.log)
    c.take_message.ensures.log c.take_message.ensures.message c.take_message.ensures.waker in
    let run = poll_ran c.store.result c.take_message.result (rw c.in-Message.is at c.meet.ensures.path)
    c.store.ensures.log c.take_message.ensures.log in
    let kept = g.G.ReceiverGround.keeps_on _ _ _ c.meet.ensures.keeps c.store.ensures.keeps in
    record {
      run = run;
      rests = taken_rests ends.0 over;
      bounded = poll_few run;
      own_copy = then_took c.take_message.result
          (then_word _ c.store.result c.meet.ensures.own c.store.ensures.log) c.take_message.ensures.log;
      heard = search rules;
      task = search rules;
      given = g.G.ReceiverGround.gives_on _ _ _ kept c.take_message.ensures.given;
      had = c.take_message.ensures.had;
      keeps = g.G.ReceiverGround.keeps_on _ _ _ kept c.take_message.ensures.keeps;
    }

pub returns-in-Nothing : goal.returns-in-Nothing
returns-in-Nothing g c =
    let ends = rw c.in-Nothing.is at c.meet.ensures.ends in
    let run = whole (rw c.in-Nothing.is at c.meet.ensures.path) in
    record {
      run = run;
      rests = pending_rests ends;
      bounded = poll_few run;
      own_copy = c.meet.ensures.own;
      heard = c.meet.ensures.heard c.in-Nothing.is;
      task = c.meet.ensures.task c.in-Nothing.is;
      given = search rules;
      had = search rules;
      keeps = c.meet.ensures.keeps;
    }

pub returns-in-Closed : goal.returns-in-Closed
returns-in-Closed g c =
    let over = poll_gone (g.G.ReceiverGround.state c.meet.new.g) c.meet.result c.meet.ensures.ends (search rules)
    (search rules) in
    let run = whole (rw over.0 at c.meet.ensures.path) in
    record {
      run = run;
      rests = gone_rests over.1;
      bounded = poll_few run;
      own_copy = c.meet.ensures.own;
      heard = search rules;
      task = search rules;
      given = search rules;
      had = search rules;
      keeps = c.meet.ensures.keeps;
    }
