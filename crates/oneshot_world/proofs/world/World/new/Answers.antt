-- The world before the first move is reached.
use Rattle.oneshot_world.proofs.Names.{rules, ◌≡◌, sym, subst, IsReached, World, opening}
use Rattle.oneshot_world.proofs.ReachedOpening.{opening_reached}
use Rattle.oneshot_world.proofs.world.World.new.Goals as goal

pub invariant_of-result : goal.invariant_of-result
invariant_of-result g c =
    let w : World = record { state = c.new.result; sender = c.new-2.result; receiver = c.new-3.result } in
    let same : w ≡ opening c.args.sender.now c.args.receiver = search rules in
    subst (λ w. IsReached w) (sym same) (opening_reached c.args.sender.now c.args.receiver)
