-- Proofs of the goals that `park` of `Blocking` as a `BlockGround` leaves.
use Rattle.std.proofs.Common.{◌≡◌, false, true, sym, ap, ◌∙◌}
use Rattle.oneshot_ends.specs.Tokens.{ParkingView}
use Rattle.oneshot_ends.proofs.OwnWakers.{parked}
use Rattle.oneshot_ends.proofs.ground.thread.BlockingChannelReceiverBlockGroundChannelWaker.park.Goals as goal

pub returns-then-not-timed-clause-keeps : goal.returns-then-not-timed-clause-keeps
returns-then-not-timed-clause-keeps g c =
    let takes = c.park.ensures.takes in
    parked c.args.self.now.ground.now (c.try_spin.ensures.rests c.if-try_spin.false)
    (λ _. ap (λ (p : ParkingView). p.taken) takes) (ap (λ (p : ParkingView). p.parker) takes)

pub returns-in-Never-clause-keeps : goal.returns-in-Never-clause-keeps
returns-in-Never-clause-keeps g c =
    let takes = c.park-in-Never.ensures.takes in
    parked c.args.self.now.ground.now (c.try_spin.ensures.rests c.if-try_spin.false)
    (λ _. ap (λ (p : ParkingView). p.taken) takes) (ap (λ (p : ParkingView). p.parker) takes)

pub returns-in-At-clause-keeps : goal.returns-in-At-clause-keeps
returns-in-At-clause-keeps g c =
    let takes = c.park_until-in_time.ensures.takes in
    parked c.args.self.now.ground.now (c.try_spin.ensures.rests c.if-try_spin.false)
    (λ took. let e : false ≡ true = sym c.if-has_taken.false ∙ c.has_taken.ensures ∙ took in absurd (cc e))
    (ap (λ (p : ParkingView). p.parker) takes)
