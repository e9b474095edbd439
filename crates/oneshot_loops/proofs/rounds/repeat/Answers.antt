-- After the loop, all rounds are made.
use Rattle.std.proofs.Common.{◌≡◌, arith}
use Rattle.oneshot_loops.proofs.rounds.repeat.Goals as goal

pub returns : goal.returns
returns g c =
    let whole : c.loop-made._made ≡ c.args.count = omega arith in
    (c.loop-made.round, rw whole at c.loop-made.invariant.1)
