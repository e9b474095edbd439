-- The invariant of the loop in `wait`.
use Rattle.oneshot_drive.proofs.Names.{◌≡◌, waits, blocked, Goes, Stands, Path, ReceiveBy, wait_of}
use Rattle.oneshot_drive.proofs.waiting.wait.Given as goal

abbrev pub invariant-loop : goal.invariant-loop
invariant-loop g l =
    record {
      can_next : (goal.iterator-loop g).can_next l.iterator';
      is_finite : (goal.iterator-loop g).is_finite l.iterator';
      path : (way : ReceiveBy l.fn.timed) → Path (wait_of way) (Goes (wait_of way))
          (g.G.ReceiverGround.state l.fn.g).log (g.G.ReceiverGround.state l.g).log;
      waits : Stands (waits blocked) (g.G.ReceiverGround.state l.g);
      hand : l.hand ≡ l.fn.hand;
      keeps : g.G.ReceiverGround.keeps l.fn.g l.g;
    }
