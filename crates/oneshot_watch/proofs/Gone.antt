-- A pending poll is not disconnected, so a future that has found its guard gone is ready at each later poll.
use Rattle.futures.specs.declared.task.Poll.TheVariants.{Pending}
use Rattle.oneshot_channel.specs.Polls.{IsDisconnected}
use Rattle.oneshot_watch.specs.declared.never.Never.{Never}

pub not_pending : IsDisconnected {T = Never} Pending → ⊥
not_pending is = elim is [ ]
