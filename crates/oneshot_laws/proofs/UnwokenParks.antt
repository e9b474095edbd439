-- No receiver waits unwoken in a park, in any pair of world and reader that the checker found.
use Rattle.oneshot_laws.proofs.Names.{◌≡◌, Bool, true, false, not, ◌&&◌, ◌||◌, Option, Some, None, is_some, refl, ap, option_map, option_and_then, receiver_step, End, ReceiverStart, Call, first}
use Rattle.oneshot_laws.proofs.Names.{as_receiver_call, all_alike, Control, control_of, as_control, all_in, receiver_position, World, ReceiverState, Made, passes_where_found, is_end_of_sender, Ahead}
use Rattle.oneshot_laws.proofs.Names.{is_some_park, ahead_of, waits_in_park}
use Rattle.oneshot_machine.specs.declared.machine.receiver.ReceiverStart.TheVariants as RC
use Rattle.oneshot_world.specs.declared.state.ReceiverState.TheVariants as RS
use Rattle.oneshot_laws.proofs.Coding.{flags}
use Rattle.oneshot_laws.proofs.Product.{Product, Automaton, Explored, no_names, all_products, product_coding}
use Rattle.oneshot_laws.proofs.ProductRuns.{Classed, all_classed, IsFound}

-- the reader keeps whether the sender's last call has replied
abbrev all_are_fine : End → Call → Made → Bool → Bool
all_are_fine side call e ended = true

abbrev pub ends_sender_at : Call → Made → Bool
ends_sender_at call e = is_some e.reply && is_end_of_sender call

abbrev ended_then : End → Call → Made → Bool → Bool
ended_then side call e ended = ended || ends_sender_at call e

abbrev pub ended_reader : Automaton Bool
ended_reader =
    record { coding = flags; accepts = all_are_fine; reads = ended_then; names = no_names; first = λ place. false }

-- what lies ahead of a world, as its finite part shows it
abbrev parks_at : ReceiverState → Bool
parks_at (RS.At position) = is_some_park (Some (receiver_step position))
parks_at _ = false

abbrev ahead_at : Control → Ahead
ahead_at c = record { parks = parks_at c.state.receiver; token = c.state.wakers.token }

begins_unparked : (call : Option ReceiverStart)
    → is_some_park (option_map receiver_step (receiver_position RS.Ready call)) ≡ false
begins_unparked None = refl
begins_unparked (Some RC.TryRecv) = refl
begins_unparked (Some RC.Recv) = refl
begins_unparked (Some RC.RecvRef) = refl
begins_unparked (Some RC.RecvDeadline) = refl
begins_unparked (Some (RC.RecvTimeout representable)) = refl
begins_unparked (Some RC.HasMessage) = refl
begins_unparked (Some RC.IsClosed) = refl
begins_unparked (Some RC.IntoFuture) = refl
begins_unparked (Some RC.Poll) = refl
begins_unparked (Some RC.AsyncTryRecv) = refl
begins_unparked (Some RC.Drop) = refl
begins_unparked (Some RC.DropAsync) = refl

parks_as : (s : ReceiverState) (call : Option ReceiverStart)
    → is_some_park (option_map receiver_step (receiver_position s call)) ≡ parks_at s
parks_as RS.Ready call = begins_unparked call
parks_as (RS.At position) call = refl
parks_as RS.Ended call = refl

waits_as : (w : World) → waits_in_park (ahead_of w) ≡ waits_in_park (ahead_at (control_of w))
waits_as w =
    ap (λ parks. parks && not w.state.wakers.token)
    (parks_as w.state.receiver (option_and_then as_receiver_call (first w.receiver.calls)))

abbrev is_awake : Product Bool → Bool
is_awake x = not (x.reader && waits_in_park (ahead_at x.control))

-- all that a run can reach; nobody in it waits unwoken in a park
pub explored : Explored ended_reader
explored = record { found = all_products ended_reader; all = refl }

all_awake : all_in is_awake explored.found ≡ true
unfolding explored
all_awake = refl

abbrev pub ended_classed : Classed ended_reader all_alike
ended_classed = all_classed ended_reader refl

abbrev pub Found : World → Bool → Type 0
Found w ended = IsFound ended_reader all_alike ended_classed explored w ended

pub awake : (w : World) (ended : Bool) → Found w ended → not (ended && waits_in_park (ahead_of w)) ≡ true
awake w ended f =
    rw (waits_as w)
    (passes_where_found (product_coding ended_reader).code (product_coding ended_reader).is_same
    (product_coding ended_reader).sound is_awake explored.found
    (record { control = as_control all_alike (control_of w); reader = ended }) all_awake f)
