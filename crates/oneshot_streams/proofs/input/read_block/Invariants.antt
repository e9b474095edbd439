-- An interrupted read takes nothing from the input.
use Rattle.std.specs.Io.KnownBytes.{Keeps}
use Rattle.oneshot_streams.proofs.input.read_block.Given as goal

abbrev pub invariant-loop : goal.invariant-loop
invariant-loop g l = Keeps (g.R.Read.remaining l.initial.input) (g.R.Read.remaining l.input)
