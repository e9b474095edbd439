-- Proofs of the goals that `park` of `ParkingHalf` leaves.
use Rattle.std.proofs.Common.{true}
use Rattle.oneshot_ends.proofs.Tokens.{can_take}
use Rattle.oneshot_ends.proofs.token.ParkingHalf.park.Goals as goal

pub park_as-requires-clause-rule : goal.park_as-requires-clause-rule
park_as-requires-clause-rule g c = can_take c.self.inside.pass.id _ c.self.invariant.1 true
