-- The bytes read so far are the first of the input, and each block leaves less room.
use Rattle.std.proofs.Common.{◌+◌, ◌-◌, vec_len}
use Rattle.std.specs.Io.KnownBytes.{Consumes}
use Rattle.oneshot_streams.specs.declared.input.TheConstants.{MOST}
use Rattle.oneshot_streams.proofs.input.read_input.Given as goal

abbrev pub invariant-loop-block : goal.invariant-loop-block
invariant-loop-block g l = Consumes (g.R.Read.remaining l.initial.input) (g.R.Read.remaining l.input) l.bytes.items

abbrev pub decreases-loop-block : goal.decreases-loop-block
decreases-loop-block g l = MOST + 1 - vec_len l.bytes
