-- What a later poll may give, this one may have given.
use Rattle.std.proofs.Common.{Ok}
use Rattle.std.proofs.lemmas.Result.{IfOk-weaker}
use Rattle.oneshot_tokio.proofs.within.WithinFuture.poll.Goals as goal

pub returns-in-Pending-clause-same : goal.returns-in-Pending-clause-same
returns-in-Pending-clause-same g c x kept =
    IfOk-weaker x _ _ (λ message keeps. c.in-Pending.ensures.same (Ok (Ok message)) keeps) kept
