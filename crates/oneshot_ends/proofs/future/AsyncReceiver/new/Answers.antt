-- Proofs of the goals that `new` of `AsyncReceiver` leaves.
use Rattle.oneshot_drive.specs.Polls.{unpolled}
use Rattle.oneshot_ends.specs.OwnWakers.{IsNoThread}
use Rattle.oneshot_ends.proofs.CallsAnswered.{then_future}
use Rattle.oneshot_ends.proofs.OwnWakers.{rests_free}
use Rattle.oneshot_ends.proofs.future.AsyncReceiver.new.Goals as goal

pub invariant_of-result : goal.invariant_of-result
invariant_of-result g c =
    let rests = c.requires.rests in
    record {
      rests = record { at = rests.at; is_one = unpolled rests.is_one; stands = rests.stands };
      calls = then_future c.requires.calls;
      no_thread = rests_free IsNoThread c.args.ground rests;
      took = c.requires.found;
    }
