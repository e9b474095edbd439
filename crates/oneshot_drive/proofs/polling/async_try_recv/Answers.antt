-- Proofs of the goals that `async_try_recv` leaves.
use Rattle.oneshot_drive.proofs.Names.{rules, IsPolled, is_in, async_try_recv_few}
use Rattle.oneshot_drive.proofs.AfterOperations.{Came, took_message}
use Rattle.oneshot_drive.proofs.Receives.{full_asks, closed_over}
use Rattle.oneshot_drive.proofs.PollLoads.{Met, meet_asks, met, met_full, met_none, taken_rests}
use Rattle.oneshot_drive.proofs.TriedFutures.{met_rests, taken_ran, over_ran, unsent_ran, load_alone, words_alone}
use Rattle.oneshot_drive.proofs.polling.async_try_recv.Given as given
use Rattle.oneshot_drive.proofs.polling.async_try_recv.Goals as goal
use Rattle.oneshot_drive.proofs.polling.async_try_recv.Goals.{After-load, After-take_message}

pub load-requires : goal.load-requires
load-requires g c = meet_asks c.requires

-- what its load met
loaded : (g : given.Over) (c : After-load g) → Came Met c.load.result (g.G.ReceiverGround.state c.load.new.self)
loaded g c = met c.load.result c.requires c.load.ensures.finds c.load.ensures.log

pub store-requires : goal.store-requires
store-requires g c = full_asks (met_full (loaded g (goal.at.store-requires g c).After-load) c.in-4.is).2

pub take_message-requires : goal.take_message-requires
take_message-requires g c =
    let full = met_full (loaded g (goal.at.take_message-requires g c).After-load) c.in-4.is in
    is_in (closed_over c.store.result full.2 c.store.ensures.finds c.store.ensures.log).message

-- it took the message that its load met
taken : (g : given.Over) (c : After-take_message g) → IsPolled (g.G.ReceiverGround.state c.take_message.new.self)
taken g c =
    let full = met_full (met c.load.result c.requires c.load.ensures.finds c.load.ensures.log) c.in-4.is in
    taken_rests full.0
    (took_message (closed_over c.store.result full.2 c.store.ensures.finds c.store.ensures.log)
    c.take_message.ensures.log c.take_message.ensures.message c.take_message.ensures.waker)

pub returns-in-4 : goal.returns-in-4
returns-in-4 g c =
    let run = taken_ran c.load.result c.store.result c.take_message.result c.in-4.is c.load.ensures.log
    c.store.ensures.log c.take_message.ensures.log in
    let kept = g.G.ReceiverGround.keeps_on _ _ _ c.load.ensures.keeps c.store.ensures.keeps in
    record {
      run = run;
      rests = taken g (goal.at.returns-in-4 g c).After-take_message;
      bounded = async_try_recv_few run;
      wakers = words_alone c.load.result c.store.result c.take_message.result c.load.ensures.log c.store.ensures.log
          c.take_message.ensures.log;
      given = g.G.ReceiverGround.gives_on _ _ _ kept c.take_message.ensures.given;
      had = c.take_message.ensures.had;
      keeps = g.G.ReceiverGround.keeps_on _ _ _ kept c.take_message.ensures.keeps;
    }

pub returns-in-2 : goal.returns-in-2
returns-in-2 g c =
    let run = over_ran c.load.result c.in-2.is c.load.ensures.log in
    record {
      run = run;
      rests = met_rests (loaded g (goal.at.returns-in-2 g c).After-load) (search rules);
      bounded = async_try_recv_few run;
      wakers = load_alone c.load.result c.load.ensures.log;
      given = search rules;
      had = search rules;
      keeps = c.load.ensures.keeps;
    }

pub returns-in-0 : goal.returns-in-0
returns-in-0 g c =
    let found = loaded g (goal.at.returns-in-0 g c).After-load in
    let run = unsent_ran c.load.result found (search rules) (search rules) c.load.ensures.log in
    record {
      run = run;
      rests = met_rests found (search rules);
      bounded = async_try_recv_few run;
      wakers = load_alone c.load.result c.load.ensures.log;
      given = search rules;
      had = search rules;
      keeps = c.load.ensures.keeps;
    }

pub unreachable-requires : goal.unreachable-requires
unreachable-requires g c =
    met_none (met c.load.result c.requires c.load.ensures.finds c.load.ensures.log) (search rules) (search rules)
    (search rules) (search rules) (search rules)
