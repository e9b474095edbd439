-- Whether a poll or a `try_recv` leaves its future closed or open, by its result, and registered or not.
use Rattle.std.proofs.Common.{◌≡◌, ◌≢◌, List, Result, Ok, Err, refl, sym, ap, ◌∙◌}
use Rattle.futures.specs.declared.task.Poll.{Poll}
use Rattle.futures.specs.declared.task.Poll.TheVariants.{Ready, Pending}
use Rattle.oneshot_errors.specs.declared.recv.RecvError.{RecvError}
use Rattle.oneshot_errors.specs.declared.try_recv.TryRecvError.{TryRecvError}
use Rattle.oneshot_errors.specs.declared.try_recv.TryRecvError.TheVariants as Tried
use Rattle.oneshot_drive.specs.BetweenCalls.{IsClosedAt, IsOpenAt, try_recv_reply}
use Rattle.oneshot_drive.specs.Polls.{LeavesPolled, leaves_resolved, leaves_over, leaves_gone, leaves_uncopied, LeavesTried, tried_received, tried_resolved, tried_closed, tried_uncopied}
use Rattle.oneshot_drive.specs.Polls.{StaysRegistered, is_registered, poll_reply, leaves_message}
use Rattle.oneshot_machine.specs.Noted.{Noted}
use Rattle.oneshot_machine.specs.Phases.{ReceiverAt, receiver_at}

module _ {T : Type 0} where
  pub closed_polled : {at : ReceiverAt} (result : Poll (Result T RecvError)) → LeavesPolled (poll_reply result) at
      → result ≢ Pending → IsClosedAt at
  closed_polled (Ready (Ok x)) leaves_message ready = refl
  closed_polled (Ready (Ok x)) leaves_resolved ready = refl
  closed_polled (Ready (Err e)) (leaves_over c) ready = refl
  closed_polled (Ready (Err e)) (leaves_gone c) ready = refl
  closed_polled Pending leaves ready = absurd (ready refl)

  pub open_polled : {at : ReceiverAt} (result : Poll (Result T RecvError)) → LeavesPolled (poll_reply result) at
      → result ≡ Pending → IsOpenAt at
  open_polled Pending leaves_uncopied pending = refl
  open_polled Pending _ pending = refl
  open_polled _ leaves pending = absurd (cc pending)

  pub closed_tried : {at : ReceiverAt} (result : Result T TryRecvError) → LeavesTried (try_recv_reply result) at
      → result ≢ Err Tried.Empty → IsClosedAt at
  closed_tried (Ok x) tried_received found = refl
  closed_tried (Ok x) tried_resolved found = refl
  closed_tried (Err Tried.Empty) leaves found = absurd (found refl)
  closed_tried (Err Tried.Disconnected) (tried_closed c) found = refl

  pub open_tried : {at : ReceiverAt} (result : Result T TryRecvError) → LeavesTried (try_recv_reply result) at
      → result ≡ Err Tried.Empty → IsOpenAt at
  open_tried (Err Tried.Empty) tried_uncopied nothing = refl
  open_tried (Err Tried.Empty) _ nothing = refl
  open_tried _ leaves nothing = absurd (cc nothing)

  -- the same of equal logs
  pub registered_as_tried : (result : Result T TryRecvError) {xs ys before after : List Noted} → xs ≡ before → ys
      ≡ after
      → StaysRegistered result (receiver_at xs) (receiver_at ys)
      → StaysRegistered result (receiver_at before) (receiver_at after)
  registered_as_tried result was is stays nothing =
      ap (λ ns. is_registered (receiver_at ns)) (sym is) ∙ stays nothing ∙ ap (λ ns. is_registered (receiver_at ns)) was
