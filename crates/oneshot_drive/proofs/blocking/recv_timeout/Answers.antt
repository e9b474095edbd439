-- Proofs of the goals that `recv_timeout` leaves.
use Rattle.oneshot_drive.proofs.Names.{IfOk-weaker}
use Rattle.oneshot_drive.proofs.Receives.{clock_rests, clock_ready, sum_ran}
use Rattle.oneshot_drive.proofs.blocking.recv_timeout.Goals as goal

pub receive-requires-clause-rests : goal.receive-requires-clause-rests
receive-requires-clause-rests g c =
    clock_rests c.requires.rests c.over.result c.over.ensures.log c.over.ensures.message c.over.ensures.waker

pub receive-requires-clause-ready : goal.receive-requires-clause-ready
receive-requires-clause-ready g c = clock_ready c.requires.ready c.over.result c.over.ensures.log

pub returns-clause-run : goal.returns-clause-run
returns-clause-run g c = sum_ran c.over.result c.over.ensures.log c.receive.ensures.run

pub returns-clause-given : goal.returns-clause-given
returns-clause-given g c =
    IfOk-weaker _ _ _ (λ x. g.G.ReceiverGround.gives_on _ _ x c.over.ensures.keeps) c.receive.ensures.given

pub returns-clause-keeps : goal.returns-clause-keeps
returns-clause-keeps g c =
    g.G.ReceiverGround.keeps_on _ _ _ c.over.ensures.keeps c.receive.ensures.keeps

pub receive-requires-clause-has : goal.receive-requires-clause-has
receive-requires-clause-has g c = g.met.G.BlockGround.has_on _ _ _ c.over.ensures.keeps c.requires.has
