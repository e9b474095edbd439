-- The faults that `?` passes on.
use Rattle.std.proofs.Common.{rules}
use Rattle.oneshot_streams.proofs.Faults.{unread, no_memory, passed_on}
use Rattle.oneshot_streams.proofs.input.read_input.Goals as goal

pub returns-in_err-count-clause-faulty : goal.returns-in_err-count-clause-faulty
returns-in_err-count-clause-faulty g c = search (rules, unread (g.R.Read.remaining c.args.input.now))

pub returns-in_err-extend_from_slice-clause-faulty : goal.returns-in_err-extend_from_slice-clause-faulty
returns-in_err-extend_from_slice-clause-faulty g c =
    passed_on _ _ c.from_residual-in_err-extend_from_slice.result c.from_residual-in_err-extend_from_slice.ensures.1
    (no_memory (g.R.Read.remaining c.args.input.now) _)
