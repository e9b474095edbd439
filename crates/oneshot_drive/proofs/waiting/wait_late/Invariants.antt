-- The invariant of the loop in `wait_late`.
use Rattle.oneshot_drive.proofs.Names.{Timed, LatePark, overdue, Goes, Stands, Path}
use Rattle.oneshot_drive.proofs.waiting.wait_late.Given as goal

abbrev pub invariant-loop : goal.invariant-loop
invariant-loop g l =
    record {
      can_next : (goal.iterator-loop g).can_next l.iterator';
      is_finite : (goal.iterator-loop g).is_finite l.iterator';
      path : Path (Timed LatePark) (Goes (Timed LatePark)) (g.G.ReceiverGround.state l.fn.g).log
          (g.G.ReceiverGround.state l.g).log;
      overdue : Stands overdue (g.G.ReceiverGround.state l.g);
      keeps : g.G.ReceiverGround.keeps l.fn.g l.g;
    }
