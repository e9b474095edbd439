-- Proofs of the goals that `recv` leaves.
use Rattle.oneshot_drive.proofs.Names.{refl, ◌∙◌, [], ◌∷◌, did, took, by_value, is_in, is_room}
use Rattle.oneshot_machine.specs.declared.machine.Step.TheVariants as Steps
use Rattle.oneshot_machine.specs.Over.{FoundTheEnd}
use Rattle.oneshot_drive.proofs.EndsOver.{found, stays_at}
use Rattle.oneshot_drive.proofs.Receives.{has_message, full_freed, gone, gone_freed}
use Rattle.oneshot_drive.proofs.blocking.recv.Goals as goal

pub free-requires : goal.free-requires
free-requires g c =
    let none =
    gone (g.G.ReceiverGround.state c.find.new.g) c.find.result c.in_default.not-Message c.find.ensures.ends in
    record { message = none.message; waker = none.waker }

pub returns-in_default : goal.returns-in_default
returns-in_default g c =
    record {
      run = gone_freed (gone (g.G.ReceiverGround.state c.find.new.g) c.find.result c.in_default.not-Message
          c.find.ensures.ends) (c.find.ensures.path by_value) c.free.ensures.log;
      found = stays_at FoundTheEnd (did Steps.Free ∷ []) refl c.free.ensures.log
          (found c.find.result (g.G.ReceiverGround.state c.find.new.g) c.find.ensures.ends);
      freed = c.free.ensures.message;
      given = tt;
      had = tt;
      keeps = g.G.ReceiverGround.keeps_on _ _ _ c.find.ensures.keeps c.free.ensures.keeps;
    }

pub take_message-message-requires : goal.take_message-message-requires
take_message-message-requires g c =
    (let ends = rw c.in-Message.is at c.find.ensures.ends in is_in (has_message ends.2).message)

pub free-requires-2-clause-waker : goal.free-requires-2-clause-waker
free-requires-2-clause-waker g c =
    (let ends = rw c.in-Message.is at c.find.ensures.ends in
    c.take_message-message.ensures.waker ∙ is_room (has_message ends.2).waker)

pub returns-clause-run : goal.returns-clause-run
returns-clause-run g c =
    full_freed c.take_message-message.result (rw c.in-Message.is at (c.find.ensures.path by_value))
    c.take_message-message.ensures.log c.free-2.ensures.log

pub returns-clause-found : goal.returns-clause-found
returns-clause-found g c =
    stays_at FoundTheEnd (did Steps.Free ∷ []) refl c.free-2.ensures.log
    (stays_at FoundTheEnd (took c.take_message-message.result ∷ []) refl c.take_message-message.ensures.log
    (found c.find.result (g.G.ReceiverGround.state c.find.new.g) c.find.ensures.ends))

pub returns-clause-given : goal.returns-clause-given
returns-clause-given g c =
    g.G.ReceiverGround.gives_on _ _ _ c.find.ensures.keeps c.take_message-message.ensures.given

pub returns-clause-had : goal.returns-clause-had
returns-clause-had g c =
    g.G.ReceiverGround.had_on _ _ _ c.free-2.ensures.keeps c.take_message-message.ensures.had

pub returns-clause-keeps : goal.returns-clause-keeps
returns-clause-keeps g c =
    let on = g.G.ReceiverGround.keeps_on in
    on _ _ _ c.find.ensures.keeps (on _ _ _ c.take_message-message.ensures.keeps c.free-2.ensures.keeps)
