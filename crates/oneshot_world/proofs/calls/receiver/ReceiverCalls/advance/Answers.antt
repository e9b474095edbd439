-- Once a call has replied, those after it are left.
use Rattle.oneshot_world.proofs.Names.{◌≡◌, ◌<◌, None, length, refl}
use Rattle.oneshot_world.proofs.ScriptsAnswered.{from_here, answers}
use Rattle.oneshot_world.proofs.calls.receiver.ReceiverCalls.advance.Goals as goal

pub returns-then-self-as_slice : goal.returns-then-self-as_slice
returns-then-self-as_slice c =
    let here : c.self.inside.answered < length c.self.inside.calls =
    rw (c.as_slice.ensures) at c.if-self-as_slice.true in
    let none : c.self.inside.future ≡ None = cc in
    rw (
      answers c.args.reply c.args.self.now c.if-is_none.ensures,
      ← c.self.view_is,
      none,
      from_here c.self.inside.calls
          c.self.inside.answered c.self.inside.last here,
    ) refl
