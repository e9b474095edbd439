-- A step by a row is assembled from its parts.
use Rattle.oneshot_world.proofs.Names.{◌≡◌, Bool, true, false, Option, Some, None, refl, if◌then◌else◌, ◌||◌, option_map, IsSome, receiver_step, receiver_row, outcome, sender_step, sender_row, Sender}
use Rattle.oneshot_world.proofs.Names.{Receiver, Reply, ReceiverPos, SenderPos, made, moved, hand_kept, sender_fits, receiver_fits, sender_stepped, receiver_stepped, sender_steps, receiver_steps}
use Rattle.oneshot_world.proofs.Names.{is_future, seen_by, sender_puts, receiver_puts, sender_goes, receiver_goes, State, Made, Step, Input}

made_where_it_fits : {P : Type 0} (fits : Bool) (f : P → Made × State) (row : Option P) (r : P)
    → IsSome (if fits then option_map f row else None) → row ≡ Some r
    → (if fits then option_map f row else None) ≡ Some (f r)
made_where_it_fits true f row r there at = rw at refl
made_where_it_fits false f row r there at = cc

-- the sender's step, by the row that `next` returns
pub sender_made_of : (t : Input) (s : State) (position : SenderPos) (n : SenderPos × Option Reply)
    → IsSome (sender_steps t s position)
    → sender_row position (seen_by t.answer s (sender_step position)) ≡ Some (outcome n)
    → sender_steps t s position ≡ Some (
      made Sender t s (sender_step position) n.1 (sender_puts (sender_step position) n.1),
      record (moved t s (sender_step position) (sender_puts (sender_step position) n.1)) {
        sender = sender_goes
            (sender_step position) (outcome n);
      },
    )
sender_made_of t s position (next, None) there at =
    made_where_it_fits (sender_fits s (sender_step position)) (sender_stepped t s (sender_step position))
    (sender_row position (seen_by t.answer s (sender_step position))) (outcome (next, None)) there at
sender_made_of t s position (next, Some reply) there at =
    made_where_it_fits (sender_fits s (sender_step position)) (sender_stepped t s (sender_step position))
    (sender_row position (seen_by t.answer s (sender_step position))) (outcome (next, Some reply)) there at

abbrev pub receiver_left_by_row : Input → State → Step → ReceiverPos × Option Reply → State
receiver_left_by_row t s step n =
    record (moved t s step (receiver_puts step)) {
      receiver = receiver_goes step (outcome n);
      future = s.future || is_future n.1;
      wakers = hand_kept (is_future n.1) (moved t s step (receiver_puts step)).wakers;
    }

-- the receiver's
pub receiver_made_of : (t : Input) (s : State) (position : ReceiverPos) (n : ReceiverPos × Option Reply)
    → IsSome (receiver_steps t s position)
    → receiver_row position (seen_by t.answer s (receiver_step position)) ≡ Some (outcome n)
    → receiver_steps t s position ≡ Some (
      made Receiver t s (receiver_step position) n.1 (receiver_puts (receiver_step position)),
      receiver_left_by_row t s
          (receiver_step position) n,
    )
receiver_made_of t s position (next, None) there at =
    made_where_it_fits (receiver_fits s (receiver_step position)) (receiver_stepped t s (receiver_step position))
    (receiver_row position (seen_by t.answer s (receiver_step position))) (outcome (next, None)) there at
receiver_made_of t s position (next, Some reply) there at =
    made_where_it_fits (receiver_fits s (receiver_step position)) (receiver_stepped t s (receiver_step position))
    (receiver_row position (seen_by t.answer s (receiver_step position))) (outcome (next, Some reply)) there at
