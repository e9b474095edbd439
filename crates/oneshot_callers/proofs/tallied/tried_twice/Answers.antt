-- The log of two calls, one after the other.
use Rattle.std.proofs.Common.{[], refl, sym, subst}
use Rattle.oneshot_channel.specs.Called.{as_receiver, ReceiverCalled, not_called}
use Rattle.oneshot_channel.specs.Ends.{UnnamedWaker}
use Rattle.oneshot_channel.specs.ReceiverStart.TheVariants.{TryRecv}
use Rattle.oneshot_callers.proofs.tallied.tried_twice.Goals as goal

pub returns : goal.returns
returns g c =
    let none = subst (ReceiverCalled _ UnnamedWaker as_receiver []) (sym c.requires) not_called in
    c.calls_add_up.ensures as_receiver _ _ _ _ TryRecv refl
    (c.calls_add_up.ensures as_receiver [] _ _ _ TryRecv refl none c.try_recv-first.ensures.run)
    c.try_recv-second.ensures.run
