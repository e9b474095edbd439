-- Proofs of the goals that `receive` leaves.
use Rattle.oneshot_drive.proofs.Names.{rules, refl, Store, receiver_of, disconnected, closed_itself, filled, empty, StandsWith, by_ref, is_in, DISCONNECTED}
use Rattle.oneshot_drive.proofs.AfterOperations.{asks, took_message}
use Rattle.oneshot_drive.proofs.RestLoads.{rests_over}
use Rattle.oneshot_drive.proofs.Receives.{full_asks, ended_full, full_ran, shut, shut_ran, out_rests, closed_ready}
use Rattle.oneshot_drive.proofs.Stretches.{whole}
use Rattle.oneshot_drive.proofs.blocking.receive.Given as given
use Rattle.oneshot_drive.proofs.blocking.receive.Goals as goal
use Rattle.oneshot_drive.proofs.blocking.receive.Goals.{After-store}

pub store-requires : goal.store-requires
store-requires g c = (let ends = rw c.in-Message.is at c.find.ensures.ends in full_asks ends.2)

-- it found the message, and closed the channel
closed : (g : given.Over) (c : After-store g)
    → StandsWith receiver_of (disconnected closed_itself) (filled, empty) (g.G.ReceiverGround.state c.store.new.self)
closed g c =
    ended_full c.store.result (rw c.in-Message.is at c.find.ensures.ends) c.store.ensures.finds c.store.ensures.log

pub take_message-requires : goal.take_message-requires
take_message-requires g c = is_in (closed g (goal.at.take_message-requires g c).After-store).message

pub returns-in-Message : goal.returns-in-Message
returns-in-Message g c =
    let on = g.G.ReceiverGround.keeps_on in
    let gives = g.G.ReceiverGround.gives_on in
    let over = took_message (closed g (goal.at.returns-in-Message g c).After-store) c.take_message.ensures.log
    c.take_message.ensures.message c.take_message.ensures.waker in
    record {
      run = full_ran c.store.result c.take_message.result
          (rw c.in-Message.is at (c.find.ensures.path (by_ref c.args.timed))) c.store.ensures.log
          c.take_message.ensures.log;
      rests = rests_over over;
      ready = closed_ready closed_itself over.phase;
      given = gives _ _ _ c.find.ensures.keeps (gives _ _ _ c.store.ensures.keeps c.take_message.ensures.given);
      has = g.met.G.BlockGround.has_on _ _ _ (on _ _ _ c.store.ensures.keeps c.take_message.ensures.keeps)
          c.find.ensures.has;
      had = c.take_message.ensures.had;
      keeps = on _ _ _ c.find.ensures.keeps (on _ _ _ c.store.ensures.keeps c.take_message.ensures.keeps);
    }

pub returns-in-Closed : goal.returns-in-Closed
returns-in-Closed g c =
    let ends = rw c.in-Closed.is at c.find.ensures.ends in
    record {
      run = whole (rw c.in-Closed.is at (c.find.ensures.path (by_ref c.args.timed)));
      rests = rests_over ends.1;
      ready = closed_ready ends.0 ends.1.phase;
      given = search rules;
      has = c.find.ensures.has;
      had = search rules;
      keeps = c.find.ensures.keeps;
    }

pub store-requires-in-Overwritten : goal.store-requires-in-Overwritten
store-requires-in-Overwritten g c =
    (let ends = rw c.in-Overwritten.is at c.find.ensures.ends in asks (Store DISCONNECTED) ends.1 refl)

pub returns-in-Overwritten : goal.returns-in-Overwritten
returns-in-Overwritten g c =
    let ends = rw c.in-Overwritten.is at c.find.ensures.ends in
    let over =
    shut c.store-in-Overwritten.result ends.1 c.store-in-Overwritten.ensures.finds c.store-in-Overwritten.ensures.log in
    record {
      run = shut_ran c.store-in-Overwritten.result
          (rw c.in-Overwritten.is at (c.find.ensures.path (by_ref c.args.timed)))
          c.store-in-Overwritten.ensures.log;
      rests = rests_over over;
      ready = closed_ready closed_itself over.phase;
      given = search rules;
      has = g.met.G.BlockGround.has_on _ _ _ c.store-in-Overwritten.ensures.keeps c.find.ensures.has;
      had = search rules;
      keeps = g.G.ReceiverGround.keeps_on _ _ _ c.find.ensures.keeps c.store-in-Overwritten.ensures.keeps;
    }

pub returns-in-Nothing : goal.returns-in-Nothing
returns-in-Nothing g c =
    let ends = rw c.in-Nothing.is at c.find.ensures.ends in
    record {
      run = whole (rw c.in-Nothing.is at (c.find.ensures.path (by_ref c.args.timed)));
      rests = out_rests ends.1;
      ready = λ none. absurd (c.find.ensures.hand c.in-Nothing.is none);
      given = search rules;
      has = c.find.ensures.has;
      had = search rules;
      keeps = c.find.ensures.keeps;
    }
