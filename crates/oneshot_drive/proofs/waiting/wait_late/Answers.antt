-- Proofs of the goals that `wait_late` leaves.
use Rattle.oneshot_drive.proofs.Names.{◌≡◌, ℕ, false, refl, rules, Found, Timed, LatePark, Path, ref_end, EndsAt, EMPTY}
use Rattle.oneshot_drive.proofs.Stretches.{begun}
use Rattle.oneshot_drive.proofs.Waits.{may_park_late, parked_asks, woke, Decides, by_message, by_end, ended_at, ended_again, ended_none, late_decided, late_to}
use Rattle.oneshot_drive.proofs.waiting.wait_late.Given as given
use Rattle.oneshot_drive.proofs.waiting.wait_late.Goals as goal
use Rattle.oneshot_drive.proofs.waiting.wait_late.Goals.{After-load}

pub loop-init : goal.loop-init
loop-init g c =
    record {
      can_next = tt;
      is_finite = tt;
      path = begun (Timed LatePark) (g.G.ReceiverGround.state c.args.g.now).log;
      overdue = c.requires.late;
      keeps = g.G.ReceiverGround.keeps_same _;
    }

pub park-requires-clause-waits : goal.park-requires-clause-waits
park-requires-clause-waits g c = may_park_late c.loop.invariant.overdue

pub load-requires : goal.load-requires
load-requires g c =
    parked_asks c.park.ensures.log.0 c.loop.invariant.overdue c.park.ensures.log.1 c.park.ensures.message
    c.park.ensures.waker refl

-- a load that decides it
decided : (g : given.Over) (c : After-load g) {word : ℕ} {f : Found} → Decides word f → c.load.result ≡ word
    → Path (Timed LatePark) (ref_end f) (g.G.ReceiverGround.state c.args.g.now).log
    (g.G.ReceiverGround.state c.load.new.self).log
    × EndsAt false f (g.G.ReceiverGround.state c.load.new.self) × g.G.ReceiverGround.keeps c.args.g.now c.load.new.self
decided g c by e =
    let on = g.G.ReceiverGround.keeps_on in (
      late_decided by c.load.result e c.loop.invariant.path c.park.ensures.log.0 c.park.ensures.log.1
          c.load.ensures.log,
      ended_at (woke c.park.ensures.log.0 c.loop.invariant.overdue c.park.ensures.log.1 c.park.ensures.message
          c.park.ensures.waker c.load.result c.load.ensures.finds c.load.ensures.log) by e,
      on _ _ _ c.loop.invariant.keeps (on _ _ _ c.park.ensures.keeps c.load.ensures.keeps),
    )

pub returns-in-4 : goal.returns-in-4
returns-in-4 g c =
    let d = decided g (goal.at.returns-in-4 g c).After-load by_message c.in-4.is in
    record { path = d.0; ends = d.1; keeps = d.2 }

pub returns-in-2 : goal.returns-in-2
returns-in-2 g c =
    let d = decided g (goal.at.returns-in-2 g c).After-load by_end c.in-2.is in
    record { path = d.0; ends = d.1; keeps = d.2 }

pub loop-preserved : goal.loop-preserved
loop-preserved g c =
    let on = g.G.ReceiverGround.keeps_on in
    let again =
    ended_again (woke c.park.ensures.log.0 c.loop.invariant.overdue c.park.ensures.log.1 c.park.ensures.message
    c.park.ensures.waker c.load.result c.load.ensures.finds c.load.ensures.log) c.in-3.is in
    record {
      can_next = tt;
      is_finite = tt;
      path =
          late_to _ c.load.result EMPTY refl c.in-3.is c.loop.invariant.path c.park.ensures.log.0 c.park.ensures.log.1
          c.load.ensures.log;
      overdue = again;
      keeps = on _ _ _ c.loop.invariant.keeps (on _ _ _ c.park.ensures.keeps c.load.ensures.keeps);
    }

pub park-requires-clause-has : goal.park-requires-clause-has
park-requires-clause-has g c = g.met.G.BlockGround.has_on _ _ _ c.loop.invariant.keeps c.requires.has

pub unreachable-requires : goal.unreachable-requires
unreachable-requires g c =
    ended_none (woke c.park.ensures.log.0 c.loop.invariant.overdue c.park.ensures.log.1 c.park.ensures.message
    c.park.ensures.waker c.load.result c.load.ensures.finds c.load.ensures.log) (search rules) (search rules)
    (search rules)
