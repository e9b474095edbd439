-- Proofs of the examples of grounds and of the wakers that a call passes on.
use Rattle.oneshot_drive.proofs.Names.{◌≡◌, ℕ, true, List, [], None, refl, sym, subst, Event, Grows, receiver_of, ReceiverAt, blocked, untouched, idle, after_load}
use Rattle.oneshot_drive.proofs.Names.{disconnected, found_closed, waits, polled, is_away, is_vacant, IsSlot, rests_new, rests_open, rests_closed}
use Rattle.oneshot_contract_examples.proofs.RowExamples.{slots_that_are, slots_that_are_not}
use Rattle.oneshot_drive.proofs.Names.{parks_waiting, parks_overdue, GroundState, StandsIn, receiver_slots, WritesCopies}
use Rattle.oneshot_contract_examples.specs.DriverExamples.{log_of, GroundsThatAre, GroundsThatAreNot, WakersThatAre, WakersThatAreNot}
use Rattle.oneshot_drive.proofs.Names.{WritesItsCopy, left_copy, wakers_handed, HandsNoWaker}

pub grounds_that_are : GroundsThatAre
grounds_that_are =
    record {
      fresh_sender = record { phase = refl; message = is_vacant; waker = is_away };
      refused = record { keeps = refl; no_waker = refl };
      new_receiver =
          record {
            at = untouched;
            is_one = rests_new;
            stands = record { phase = refl; message = is_away; waker = is_away };
          };
      has_loaded =
          record {
            at = idle after_load;
            is_one = rests_open after_load;
            stands = record { phase = refl; message = is_away; waker = is_vacant };
          };
      found_closed_word =
          record {
            at = disconnected found_closed;
            is_one = rests_closed found_closed;
            stands = record { phase = refl; message = is_vacant; waker = is_vacant };
          };
      has_registered =
          record {
            at = waits polled;
            is_one = left_copy;
            stands = record { phase = refl; message = is_away; waker = is_away };
          };
      asks_to_add = slots_that_are.sends;
      adds = slots_that_are.gives_its_message;
      asks_to_load = slots_that_are.loads;
      finds_it = slots_that_are.gets_a_message;
      parks_until = parks_waiting true blocked;
      parks_on = parks_overdue;
    }

-- a ground at one of some phases is at its log's phase, with that phase's slots
module _ {Phases : ReceiverAt → Type 0} {s : GroundState ℕ ℕ} (stands : StandsIn Phases s) where
  is_one_of_them : Phases (receiver_of s.log)
  is_one_of_them = subst Phases (sym stands.stands.phase) stands.is_one

  has_its_waker : IsSlot (receiver_slots (receiver_of s.log)).1 s.waker
  has_its_waker = subst (λ at. IsSlot (receiver_slots at).1 s.waker) (sym stands.stands.phase) stands.stands.waker

pub grounds_that_are_not : GroundsThatAreNot
grounds_that_are_not =
    record {
      has_sent = λ stands. let e = stands.phase in cc;
      holds_a_message = λ stands. elim stands.message [ ];
      lost_its_message = λ error. let e = error.keeps in cc;
      another_message = λ error. let e = error.keeps in cc;
      has_the_message = λ stands. elim (is_one_of_them stands) [ ];
      lost_its_slot = λ stands. elim (has_its_waker stands) [ ];
      blocks_in_a_poll = λ stands. elim (is_one_of_them stands) [ ];
      adds_without_a_message = slots_that_are_not.sends_nothing;
      adds_and_keeps_it = slots_that_are_not.sends_and_keeps;
      waits_without_a_waker = slots_that_are_not.waits_without_a_waker;
      finds_none_in_4 = slots_that_are_not.gets_no_message;
      parks_open = λ _ parks. elim parks [ ];
      parks_until_what_is_over = λ parks. elim parks [ ];
    }

-- a whole ground that began with an empty log made the steps that its log has
begun : (xs : List (Event ℕ ℕ)) → Grows (log_of []) (log_of xs) xs
begun xs = record { whole = refl; channel = refl; list = refl }

pub wakers_that_are : WakersThatAre
wakers_that_are =
    record {
      its_own_copy = record { steps = _; grows = begun _; own = (tt, (tt, (refl, (tt, tt)))) };
      a_later_copy = record { steps = _; grows = begun _; own = (tt, (tt, (refl, tt))) };
      no_copy = record { steps = _; grows = begun _; own = (tt, (tt, tt)) };
      loads_alone = record { steps = _; grows = begun _; none = refl };
    }

all_its_own : (xs : List (Event ℕ ℕ)) → WritesItsCopy (log_of []) (log_of xs) → WritesCopies None xs
all_its_own xs wrote = subst (WritesCopies None) (sym wrote.grows.list) wrote.own

hands_none : (xs : List (Event ℕ ℕ)) → HandsNoWaker (log_of []) (log_of xs) → wakers_handed xs ≡ []
hands_none xs hands = subst (λ steps. wakers_handed steps ≡ []) (sym hands.grows.list) hands.none

pub wakers_that_are_not : WakersThatAreNot
wakers_that_are_not =
    record {
      another_copy = λ wrote. let e = (all_its_own _ wrote).1.0 in cc;
      the_old_copy = λ wrote. let e = (all_its_own _ wrote).1.0 in cc;
      a_refused_copy = λ wrote. let e = (all_its_own _ wrote).1.0 in cc;
      takes_it_back = λ hands. let e = hands_none _ hands in cc;
      writes_one = λ hands. let e = hands_none _ hands in cc;
      copies_one = λ hands. let e = hands_none _ hands in cc;
    }
