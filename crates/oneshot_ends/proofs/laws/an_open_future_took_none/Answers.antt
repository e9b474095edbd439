-- Proof of the goal that `an_open_future_took_none` leaves.
use Rattle.oneshot_ends.proofs.OpenTaken.{open_took_none}
use Rattle.oneshot_ends.proofs.laws.an_open_future_took_none.Goals as goal

pub returns : goal.returns
returns g c open_at = open_took_none _ c.args.future.now.log c.a_future_took_what_it_found.ensures open_at
