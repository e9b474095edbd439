-- Proof of the goal that `calls_add_up` leaves.
use Rattle.oneshot_ends.proofs.CallsAnswered.{one_more}
use Rattle.oneshot_ends.proofs.laws.calls_add_up.Goals as goal

pub returns : goal.returns
returns g c = λ form calls before after reply call its was grew. one_more call its was grew
