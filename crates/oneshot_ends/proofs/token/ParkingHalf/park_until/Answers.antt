-- Proofs of the goals that `park_until` of `ParkingHalf` leaves.
use Rattle.oneshot_ends.proofs.Tokens.{can_take}
use Rattle.oneshot_ends.proofs.token.ParkingHalf.park_until.Goals as goal

pub park_deadline_as-in_time-requires-clause-rule : goal.park_deadline_as-in_time-requires-clause-rule
park_deadline_as-in_time-requires-clause-rule g c = can_take c.self.inside.pass.id _ c.self.invariant.1
