-- Whether a call leaves its receiver open or closed, by its result.
use Rattle.oneshot_drive.proofs.Names.{◌≡◌, ◌≢◌, Result, Ok, Err, refl, IsClosedAt, IsOpenAt, RecvError, RecvTimeoutError, TryRecvError, ReceiverAt}
use Rattle.oneshot_drive.specs.BetweenCalls.{Leaves, leaves_received, leaves_closed, leaves_empty, leaves_late, try_recv_reply, recv_reply, timed_reply}
use Rattle.oneshot_errors.specs.declared.recv_timeout.RecvTimeoutError.TheVariants as Timed
use Rattle.oneshot_errors.specs.declared.try_recv.TryRecvError.TheVariants as Tried

module _ {T : Type 0} where
  -- `try_recv` leaves the receiver open after `Empty`, otherwise closed
  pub closed_tried : {at : ReceiverAt} (result : Result T TryRecvError) → Leaves (try_recv_reply result) at
      → result ≢ Err Tried.Empty → IsClosedAt at
  closed_tried (Ok x) leaves_received found = refl
  closed_tried (Err Tried.Empty) leaves found = absurd (found refl)
  closed_tried (Err Tried.Disconnected) (leaves_closed c) found = refl

  pub open_tried : {at : ReceiverAt} (result : Result T TryRecvError) → Leaves (try_recv_reply result) at
      → result ≡ Err Tried.Empty → IsOpenAt at
  open_tried (Err Tried.Empty) leaves_empty nothing = refl
  open_tried _ leaves nothing = absurd (cc nothing)

  -- `recv_ref` closes it
  pub closed_by : {at : ReceiverAt} (result : Result T RecvError) → Leaves (recv_reply result) at → IsClosedAt at
  closed_by (Ok x) leaves_received = refl
  closed_by (Err e) (leaves_closed c) = refl

  -- a receive with a deadline leaves it open after `Timeout`, otherwise closed
  pub closed_in_time : {at : ReceiverAt} (result : Result T RecvTimeoutError) → Leaves (timed_reply result) at
      → result ≢ Err Timed.Timeout → IsClosedAt at
  closed_in_time (Ok x) leaves_received found = refl
  closed_in_time (Err Timed.Timeout) leaves found = absurd (found refl)
  closed_in_time (Err Timed.Disconnected) (leaves_closed c) found = refl

  pub open_too_late : {at : ReceiverAt} (result : Result T RecvTimeoutError) → Leaves (timed_reply result) at
      → result ≡ Err Timed.Timeout → IsOpenAt at
  open_too_late (Err Timed.Timeout) leaves_late late = refl
  open_too_late _ leaves late = absurd (cc late)
