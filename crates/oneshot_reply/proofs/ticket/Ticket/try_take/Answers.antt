-- Proofs of the goals of `try_take` that its must-fail edits break. `search` finds them too. Over a wrong body
-- an answer fails sooner, and the prover offers no other.
use Rattle.std.proofs.Common.{rules}
use Rattle.oneshot_reply.proofs.ticket.Ticket.try_take.Goals as goal

pub returns-clause-leaves : goal.returns-clause-leaves
returns-clause-leaves g c = search rules

pub returns-clause-run : goal.returns-clause-run
returns-clause-run g c = search rules

pub returns-clause-stays_open : goal.returns-clause-stays_open
returns-clause-stays_open g c = search rules

pub returns-clause-took : goal.returns-clause-took
returns-clause-took g c = search rules
