-- The fault of a run that could not be written.
use Rattle.oneshot_streams.proofs.Faults.{no_write}
use Rattle.oneshot_streams.proofs.run.run.Goals as goal

pub returns-clause-faulty : goal.returns-clause-faulty
returns-clause-faulty g c =
    no_write (g.R.Read.remaining c.args.input.now) c.write_answer.result _ _ _ c.write_answer.ensures.err
    c.in_ok-request.ensures.asked
