-- Proofs of the goals that `try_recv` leaves.
use Rattle.oneshot_drive.proofs.Names.{rules, refl, Store, is_in, try_recv_few, DISCONNECTED}
use Rattle.oneshot_drive.proofs.AfterOperations.{Came, asks, took_message}
use Rattle.oneshot_drive.proofs.RestLoads.{LoadFinds, load_asks, loaded, loaded_full, loaded_open, loaded_closed, loaded_none, closed, rests_over, rests_here}
use Rattle.oneshot_drive.proofs.RestLoads.{took_ran, empty_ran, gone_ran}
use Rattle.oneshot_drive.proofs.receiver.try_recv.Given as given
use Rattle.oneshot_drive.proofs.receiver.try_recv.Goals as goal
use Rattle.oneshot_drive.proofs.receiver.try_recv.Goals.{After-load}

pub load-requires : goal.load-requires
load-requires g c = load_asks c.requires

-- what its load found
found : (g : given.Over) (c : After-load g) → Came LoadFinds c.load.result (g.G.ReceiverGround.state c.load.new.self)
found g c = loaded c.load.result c.requires c.load.ensures.finds c.load.ensures.log

pub store-requires : goal.store-requires
store-requires g c =
    asks (Store DISCONNECTED) (loaded_full (found g (goal.at.store-requires g c).After-load) c.in-4.is) refl

pub take_message-requires : goal.take_message-requires
take_message-requires g c =
    let full = loaded_full (found g (goal.at.take_message-requires g c).After-load) c.in-4.is in
    is_in (closed c.store.result full c.store.ensures.finds c.store.ensures.log).message

pub returns-in-4 : goal.returns-in-4
returns-in-4 g c =
    let full = loaded_full (found g (goal.at.returns-in-4 g c).After-load) c.in-4.is in
    let over = took_message (closed c.store.result full c.store.ensures.finds c.store.ensures.log)
    c.take_message.ensures.log c.take_message.ensures.message c.take_message.ensures.waker in
    let run = took_ran c.load.result c.store.result c.take_message.result c.in-4.is c.load.ensures.log
    c.store.ensures.log c.take_message.ensures.log in
    let kept = g.G.ReceiverGround.keeps_on _ _ _ c.load.ensures.keeps c.store.ensures.keeps in
    record {
      run = run;
      rests = rests_over over;
      bounded = try_recv_few run;
      given = g.G.ReceiverGround.gives_on _ _ _ kept c.take_message.ensures.given;
      had = c.take_message.ensures.had;
      keeps = g.G.ReceiverGround.keeps_on _ _ _ kept c.take_message.ensures.keeps;
    }

pub returns-in-3 : goal.returns-in-3
returns-in-3 g c =
    let here = loaded_open (found g (goal.at.returns-in-3 g c).After-load) c.in-3.is in
    let run = empty_ran c.load.result c.in-3.is c.load.ensures.log in
    record {
      run = run;
      rests = rests_here here;
      bounded = try_recv_few run;
      given = search rules;
      had = search rules;
      keeps = c.load.ensures.keeps;
    }

pub returns-in-2 : goal.returns-in-2
returns-in-2 g c =
    let over = loaded_closed (found g (goal.at.returns-in-2 g c).After-load) c.in-2.is in
    let run = gone_ran c.load.result c.in-2.is c.load.ensures.log in
    record {
      run = run;
      rests = rests_over over.1;
      bounded = try_recv_few run;
      given = search rules;
      had = search rules;
      keeps = c.load.ensures.keeps;
    }

pub unreachable-requires : goal.unreachable-requires
unreachable-requires g c =
    loaded_none (loaded c.load.result c.requires c.load.ensures.finds c.load.ensures.log) (search rules) (search rules)
    (search rules)
