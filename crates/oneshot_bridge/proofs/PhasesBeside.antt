-- The checker explores phases and machines together, and in all that it finds the cells are as the rule has them.
-- In the field's terms it explores a product automaton. One factor is the finite part of the model's world (`Control`
-- of oneshot_world). The other is `phase_reader`, whose state is the phases of both logs so far. `explored` has every
-- pair that a run can reach, and perhaps more. `all_right`, `all_wake` and `all_end` test each of its pairs.
use Rattle.std.proofs.Common.{is_some}
use Rattle.oneshot_bridge.proofs.Names.{◌≡◌, Bool, true, false, not, ◌&&◌, Option, Some, None, refl, End, Receiver, Done, Step, Wake, SenderPos, Noted, SenderAt, fresh, finished, no_sender}
use Rattle.oneshot_bridge.proofs.Names.{sender_next, ReceiverAt, gone, no_receiver, receiver_next, Share, none, empty, filled, sender_step, sender_row, Outcome, Answers, Call, all_in, is_in_cell}
use Rattle.oneshot_bridge.proofs.Names.{ReceiverState, SenderState, State, Made, is_end_of_sender, only_if, or_stray, Product, Automaton, Explored, no_names, all_products, message_home, waker_home}
use Rattle.oneshot_bridge.proofs.Names.{one_has_both, operation_of, found_it_gone}
use Rattle.oneshot_machine.specs.declared.machine.End.TheVariants.{Sender}
use Rattle.oneshot_machine.specs.Phases.{untouched}
use Rattle.oneshot_world.specs.declared.state.ReceiverState.TheVariants as RS
use Rattle.oneshot_world.specs.declared.state.SenderState.TheVariants as SS
use Rattle.oneshot_bridge.proofs.PhaseCodes.{Phases, phases}

-- both phases, if each is that of an end
abbrev pub with_phases : SenderAt → ReceiverAt → Phases
with_phases no_sender q = None
with_phases p no_receiver = None
with_phases p q = Some (p, q)

-- the phase after an entry, by its operation
abbrev pub sender_after : Option Noted → SenderAt → SenderAt
sender_after None p = p
sender_after (Some x) p = sender_next p x.0 x.1

abbrev pub receiver_after : Option Noted → ReceiverAt → ReceiverAt
receiver_after None q = q
receiver_after (Some x) q = receiver_next q x.0 x.1

abbrev pub reads_phases : End → Option Noted → Phases → Phases
reads_phases end x None = None
reads_phases Sender x (Some m) = with_phases (sender_after x m.0) m.1
reads_phases Receiver x (Some m) = with_phases m.0 (receiver_after x m.1)

abbrev accepts_all : End → Call → Made → Phases → Bool
accepts_all side call e m = true

abbrev reads_made : End → Call → Made → Phases → Phases
reads_made side call e m = reads_phases side (operation_of e) m

abbrev pub phase_reader : Automaton Phases
phase_reader =
    record {
      coding = phases;
      accepts = accepts_all;
      reads = reads_made;
      names = no_names;
      first = λ place. Some (fresh, untouched);
    }

-- WHAT IS COMPUTED: the cells of every state that a run can reach
abbrev pub is_so : Share → Bool → Bool
is_so none full = true
is_so empty full = not full
is_so filled full = full

abbrev pub cells_are_so : State → SenderAt → ReceiverAt → Bool
cells_are_so s p q =
    is_so (message_home p q) (is_in_cell s.message)
    && (is_so (waker_home p q) (is_some s.wakers.cell)
    && only_if s.freed (one_has_both p q))

abbrev pub phases_are_so : State → Phases → Bool
phases_are_so s None = true
phases_are_so s (Some m) = cells_are_so s m.0 m.1

abbrev pub is_right : Product Phases → Bool
is_right x = phases_are_so x.control.state x.reader

pub explored : Explored phase_reader
explored = record { found = all_products phase_reader; all = refl }

pub all_right : all_in is_right explored.found ≡ true
unfolding explored
all_right = refl

-- If the sender's last operation found the receiver here and its call is under way, its next step wakes
-- the receiver and completes the call.
abbrev pub is_wake : Step → Bool
is_wake Wake = true
is_wake _ = false

abbrev pub is_answer_row : Option (Outcome SenderPos) → Bool
is_answer_row (Some (Answers reply)) = true
is_answer_row _ = false

abbrev pub wakes_at : SenderState → Option Call → Bool
wakes_at (SS.At p) call = is_wake (sender_step p)
    && (is_answer_row (sender_row p Done) && is_end_of_sender (or_stray call))
wakes_at _ call = true

abbrev pub wakes_if_finished : SenderState → Option Call → Phases → Bool
wakes_if_finished s call (Some (finished by, q)) = wakes_at s call
wakes_if_finished s call _ = true

abbrev pub wakes_well : Product Phases → Bool
wakes_well x = wakes_if_finished x.control.state.sender x.control.sender x.reader

pub all_wake : all_in wakes_well explored.found ≡ true
unfolding explored
all_wake = refl

-- a receiver that the sender's last operation found gone
abbrev pub is_gone : ReceiverAt → Bool
is_gone gone = true
is_gone _ = false

abbrev pub is_over : ReceiverState → Bool
is_over RS.Ended = true
is_over _ = false

abbrev pub ended_if_gone : ReceiverState → Phases → Bool
ended_if_gone s None = true
ended_if_gone s (Some m) = only_if (found_it_gone m.0) (is_gone m.1 && is_over s)

abbrev pub ends_well : Product Phases → Bool
ends_well x = ended_if_gone x.control.state.receiver x.reader

pub all_end : all_in ends_well explored.found ≡ true
unfolding explored
all_end = refl
