-- A receiver that is no future makes no poll.
use Rattle.oneshot_world.proofs.Names.{◌≡◌, None, drop, sym}
use Rattle.oneshot_world.proofs.ScriptsAnswered.{not_polled}
use Rattle.oneshot_world.proofs.calls.receiver.ReceiverCalls.number.Goals as goal

pub returns-in-None : goal.returns-in-None
returns-in-None c =
    let none : c.self.inside.future ≡ None = cc in
    rw (← c.self.view_is, none) (sym (not_polled (drop c.self.inside.answered c.self.inside.calls) c.self.inside.last))
