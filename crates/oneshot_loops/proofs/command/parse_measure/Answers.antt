-- Proofs of the goals that `parse_measure` leaves.
use Rattle.std.proofs.Common.{sym}
use Rattle.oneshot_loops.specs.Command.{Writes}
use Rattle.oneshot_loops.proofs.Asked.{measure-asked}
use Rattle.oneshot_loops.proofs.command.parse_measure.Goals as goal

pub returns : goal.returns
returns c = λ command.
    let read = c.in_ok-count.ensures in
    let writes : Writes c.args.count.now c.in_ok-count.count =
    record { numeral = read.0.0; fits = read.0.1; value = sym read.1 } in
    measure-asked c.args.channel c.args.name.now c.args.count.now c.in_ok-kind.kind c.in_ok-count.count command
    c.in_ok-kind.ensures writes
