-- Once a call has replied, those after it are left.
use Rattle.oneshot_world.proofs.Names.{◌<◌, length, refl}
use Rattle.oneshot_world.proofs.ScriptsAnswered.{future_from_here}
use Rattle.oneshot_world.proofs.calls.future.FutureCalls.answer.Goals as goal

pub returns-then-self-as_slice : goal.returns-then-self-as_slice
returns-then-self-as_slice c =
    let here : c.self.inside.answered < length c.self.inside.calls =
    rw (c.as_slice.ensures) at c.if-self-as_slice.true in
    rw (← c.self.view_is, future_from_here c.self.inside.calls c.self.inside.answered c.self.inside.last here) refl
