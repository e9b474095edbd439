-- Proofs of the goals that `wait` leaves.
use Rattle.oneshot_drive.proofs.Names.{◌≡◌, ℕ, refl, sym, ◌∙◌, subst, rules, Found, Path, ReceiveBy, wait_of, end_of, EndsAt}
use Rattle.oneshot_drive.proofs.Stretches.{begun}
use Rattle.oneshot_drive.proofs.Waits.{may_park, parked_asks, woke, Decides, by_message, by_end, woke_at, woke_again, woke_none, parks_again, parks_decided, stops_path}
use Rattle.oneshot_drive.proofs.waiting.wait.Given as given
use Rattle.oneshot_drive.proofs.waiting.wait.Goals as goal
use Rattle.oneshot_drive.proofs.waiting.wait.Goals.{After-load}

pub loop-init : goal.loop-init
loop-init g c =
    record {
      can_next = tt;
      is_finite = tt;
      path = λ way. begun (wait_of way) (g.G.ReceiverGround.state c.args.g.now).log;
      waits = c.requires.waits;
      hand = refl;
      keeps = g.G.ReceiverGround.keeps_same _;
    }

pub returns-then-is_over-clause-path : goal.returns-then-is_over-clause-path
returns-then-is_over-clause-path g c way =
    stops_path c.stop.result way (c.loop.invariant.path way) (c.is_over.ensures.path way) c.if-is_over.true
    (c.is_over.ensures.deadline c.if-is_over.true) c.stop.ensures.path

pub returns-then-is_over-clause-keeps : goal.returns-then-is_over-clause-keeps
returns-then-is_over-clause-keeps g c =
    let on = g.G.ReceiverGround.keeps_on in
    on _ _ _ c.loop.invariant.keeps (on _ _ _ c.is_over.ensures.keeps c.stop.ensures.keeps)

pub park-requires-clause-waits : goal.park-requires-clause-waits
park-requires-clause-waits g c = may_park c.args.timed c.is_over.ensures.waits

pub load-requires : goal.load-requires
load-requires g c =
    parked_asks c.park.ensures.log.0 c.is_over.ensures.waits c.park.ensures.log.1 c.park.ensures.message
    c.park.ensures.waker refl

-- a load that decides it
decided : (g : given.Over) (c : After-load g) {word : ℕ} {f : Found} → Decides word f → c.load.result ≡ word
    → record {
      path : (way : ReceiveBy c.args.timed) → Path (wait_of way) (end_of way f)
          (g.G.ReceiverGround.state c.args.g.now).log (g.G.ReceiverGround.state c.load.new.self).log;
      ends : EndsAt c.args.timed f (g.G.ReceiverGround.state c.load.new.self);
      has : g.G.ReceiverGround.has c.load.new.self c.loop.hand;
      keeps : g.G.ReceiverGround.keeps c.args.g.now c.load.new.self;
    }
decided g c by e =
    let on = g.G.ReceiverGround.keeps_on in
    let keeps =
    on _ _ _ c.loop.invariant.keeps
    (on _ _ _ c.is_over.ensures.keeps (on _ _ _ c.park.ensures.keeps c.load.ensures.keeps)) in
    record {
      path = λ way. parks_decided way (c.loop.invariant.path way) (c.is_over.ensures.path way) c.if-is_over.false
          c.park.ensures.log.0 c.park.ensures.log.1 c.load.result c.load.ensures.log by e;
      ends = woke_at (woke c.park.ensures.log.0 c.is_over.ensures.waits c.park.ensures.log.1 c.park.ensures.message
          c.park.ensures.waker c.load.result c.load.ensures.finds c.load.ensures.log) c.args.timed by e;
      has = subst (λ hand. g.G.ReceiverGround.has c.load.new.self hand)
          (sym (c.loop.invariant.hand ∙ c.requires.empty)) (g.met.G.BlockGround.has_on _ _ _ keeps c.requires.has);
      keeps = keeps;
    }

pub returns-in-4 : goal.returns-in-4
returns-in-4 g c =
    let d = decided g (goal.at.returns-in-4 g c).After-load by_message c.in-4.is in
    record { path = d.path; ends = d.ends; hand = search rules; has = d.has; keeps = d.keeps }

pub returns-in-2 : goal.returns-in-2
returns-in-2 g c =
    let d = decided g (goal.at.returns-in-2 g c).After-load by_end c.in-2.is in
    record { path = d.path; ends = d.ends; hand = search rules; has = d.has; keeps = d.keeps }

pub loop-preserved : goal.loop-preserved
loop-preserved g c =
    let on = g.G.ReceiverGround.keeps_on in
    let found =
    woke c.park.ensures.log.0 c.is_over.ensures.waits c.park.ensures.log.1 c.park.ensures.message
    c.park.ensures.waker c.load.result c.load.ensures.finds c.load.ensures.log in
    record {
      can_next = tt;
      is_finite = tt;
      path = λ way. parks_again way (c.loop.invariant.path way) (c.is_over.ensures.path way) c.if-is_over.false
          c.park.ensures.log.0 c.park.ensures.log.1 c.load.result c.load.ensures.log found (search rules)
          (search rules);
      waits = woke_again found (search rules) (search rules);
      hand = c.loop.invariant.hand;
      keeps = on _ _ _ c.loop.invariant.keeps
          (on _ _ _ c.is_over.ensures.keeps (on _ _ _ c.park.ensures.keeps c.load.ensures.keeps));
    }

pub stop-requires-clause-empty : goal.stop-requires-clause-empty
stop-requires-clause-empty g c = c.loop.invariant.hand ∙ c.requires.empty

pub stop-requires-clause-has : goal.stop-requires-clause-has
stop-requires-clause-has g c =
    let on = g.G.ReceiverGround.keeps_on in
    g.met.G.BlockGround.has_on _ _ _ (on _ _ _ c.loop.invariant.keeps c.is_over.ensures.keeps) c.requires.has

pub park-requires-clause-has : goal.park-requires-clause-has
park-requires-clause-has g c =
    let on = g.G.ReceiverGround.keeps_on in
    g.met.G.BlockGround.has_on _ _ _ (on _ _ _ c.loop.invariant.keeps c.is_over.ensures.keeps) c.requires.has

pub unreachable-requires : goal.unreachable-requires
unreachable-requires g c =
    woke_none (woke c.park.ensures.log.0 c.is_over.ensures.waits c.park.ensures.log.1 c.park.ensures.message
    c.park.ensures.waker c.load.result c.load.ensures.finds c.load.ensures.log) (search rules) (search rules)
    (search rules) (search rules)
