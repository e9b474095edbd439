-- Proofs of the goals that `new` of `Receiver` leaves.
use Rattle.oneshot_ends.proofs.CallsAnswered.{none_answered}
use Rattle.oneshot_ends.proofs.NewEnds.{rests_at_new}
use Rattle.oneshot_ends.proofs.OwnWakers.{own_new}
use Rattle.oneshot_ends.proofs.Taken.{new_found}
use Rattle.oneshot_ends.proofs.receiver.Receiver.new.Goals as goal

pub invariant_of-result : goal.invariant_of-result
invariant_of-result g c =
    record {
      rests = rests_at_new c.args.side c.new.result c.new.ensures c.requires.new;
      ready = λ none. absurd (cc none);
      calls = none_answered c.args.side c.new.result c.new.ensures c.requires.new;
      halves = own_new c.args.parker.parker c.args.side c.new.result c.new.ensures c.requires.new;
      half = c.requires.own;
      took = new_found c.args.side c.new.result c.new.ensures c.requires.new.log c.requires.new.passed;
    }
