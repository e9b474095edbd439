-- Proofs of the goals that `find` leaves.
use Rattle.oneshot_drive.proofs.Names.{rules, refl, at_once}
use Rattle.oneshot_drive.proofs.RestLoads.{load_asks, loaded, loaded_full, loaded_open, loaded_closed, loaded_none}
use Rattle.oneshot_drive.proofs.StoredWaker.{full_at_once, found_none, over_at_once, ready_waker}
use Rattle.oneshot_drive.proofs.waiting.find.Goals as goal

pub load-requires : goal.load-requires
load-requires g c = load_asks c.requires.rests

pub returns-in-4 : goal.returns-in-4
returns-in-4 g c =
    let full = loaded_full (loaded c.load.result c.requires.rests c.load.ensures.finds c.load.ensures.log) c.in-4.is in
    record {
      path = λ way. full_at_once way c.load.result c.in-4.is c.load.ensures.log;
      ends = (at_once, refl, full);
      hand = search rules;
      has = g.met.G.BlockGround.has_on _ _ _ c.load.ensures.keeps c.requires.has;
      keeps = c.load.ensures.keeps;
    }

pub store_and_wait-requires-clause-open : goal.store_and_wait-requires-clause-open
store_and_wait-requires-clause-open g c =
    loaded_open (loaded c.load.result c.requires.rests c.load.ensures.finds c.load.ensures.log) c.in-3.is

pub store_and_wait-requires-clause-ready : goal.store_and_wait-requires-clause-ready
store_and_wait-requires-clause-ready g c =
    ready_waker c.args.hand.now c.load.result c.requires.ready c.load.ensures.finds c.in-3.is

pub returns-in-3-clause-path : goal.returns-in-3-clause-path
returns-in-3-clause-path g c way =
    found_none way c.load.result c.in-3.is c.load.ensures.log (c.store_and_wait.ensures.path way)

pub returns-in-3-clause-keeps : goal.returns-in-3-clause-keeps
returns-in-3-clause-keeps g c =
    g.G.ReceiverGround.keeps_on _ _ _ c.load.ensures.keeps c.store_and_wait.ensures.keeps

pub returns-in-2 : goal.returns-in-2
returns-in-2 g c =
    record {
      path = λ way. over_at_once way c.load.result c.in-2.is c.load.ensures.log;
      ends = loaded_closed (loaded c.load.result c.requires.rests c.load.ensures.finds c.load.ensures.log) c.in-2.is;
      hand = search rules;
      has = g.met.G.BlockGround.has_on _ _ _ c.load.ensures.keeps c.requires.has;
      keeps = c.load.ensures.keeps;
    }

pub unreachable-requires : goal.unreachable-requires
unreachable-requires g c =
    loaded_none (loaded c.load.result c.requires.rests c.load.ensures.finds c.load.ensures.log) (search rules)
    (search rules) (search rules)

pub store_and_wait-requires-clause-has : goal.store_and_wait-requires-clause-has
store_and_wait-requires-clause-has g c = g.met.G.BlockGround.has_on _ _ _ c.load.ensures.keeps c.requires.has
