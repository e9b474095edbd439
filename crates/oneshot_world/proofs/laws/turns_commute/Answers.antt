-- A turn by classes is the turn, by those classes.
use Rattle.oneshot_world.proofs.CommutesTurns.{turns_as}
use Rattle.oneshot_world.proofs.laws.turns_commute.Goals as goal

pub returns : goal.returns
returns c = turns_as
