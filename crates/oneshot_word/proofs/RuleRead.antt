-- The rule of the table implies its public rows.
use Rattle.std.proofs.Common.{ℕ, List, Bool, Option, refl}
use Rattle.oneshot_word.proofs.Names.{Noted, sending, dropping, SenderAt, at_once, waited, swapped, by_future, by_poll, found_closed, closed_itself, ReceiverAt, untouched, idle, claimed, withdrew}
use Rattle.oneshot_word.proofs.Names.{overdue, full, overwritten, disconnected, resolved, gone, Held, IsOwned, not_its_own, own_vacant, own_held, Owns, AnyWaker, Slot, View, Ordered, maker_before}
use Rattle.oneshot_word.proofs.Names.{maker_with_slot_before, in_order, sender_has_it, left_for_sender, receiver_has_it, left_for_receiver, receiver_found_it, waits_for_receiver, waker_at_home, Owned}
use Rattle.oneshot_word.proofs.Names.{both_open, waker_stored, waker_claimed, claimed_overdue, claimed_gone, receiver_gone, sender_after, written, Ruled, maker_alone}
use Rattle.oneshot_word.proofs.Names.{maker_with_slot_alone, two_ends, Home}
use Rattle.oneshot_word.proofs.Names.{lies_out, lies_bare, lies_filled, Tied, opened, slot_taken, runs, Carried, slot_vacant, slot_held, Part, not_carried, carried, Front, SeatOf, seat_of}
use Rattle.oneshot_machine.specs.Phases.{waits, ended}
use Rattle.oneshot_machine.specs.Slots.{owns}
use Rattle.oneshot_word.specs.ReadRule.{sender_sent, sender_dropped}
use Rattle.oneshot_word.proofs.Between.{between, sender_told, receiver_told}
use Rattle.oneshot_word.proofs.RuleImplies.{is, Meet, meet, SenderSays, says_none, says_owes, says_last, says_late, says_overtaken, ReceiverSays}

module _ {T H K : Type 0} where
  pair_reads : {kept : T → Type 0} {fits : AnyWaker H K → Type 0} {xs ys : List Noted} {p : SenderAt} {w : ℕ}
      {h k : Home T H K} → SenderSays xs p
      → (q : ReceiverAt) → ReceiverSays ys q → Meet T H K kept fits p q w h k → Owned xs ys w h k
  pair_reads says_none untouched r (meet is lies_out lies_bare) =
      both_open refl r.stores r.gone sender_has_it left_for_receiver
  pair_reads says_none (idle f) r (meet is lies_out lies_out) =
      both_open refl r.stores r.gone sender_has_it receiver_has_it
  pair_reads says_none withdrew r (meet is lies_out lies_out) =
      both_open refl r.stores r.gone sender_has_it receiver_has_it
  pair_reads says_none (waits a) r (meet is lies_out (lies_filled k _)) =
      waker_stored refl r.stores r.gone sender_has_it (waker_at_home k)
  pair_reads says_none gone r (meet is lies_out lies_bare) = receiver_gone refl r.gone sender_has_it left_for_sender
  pair_reads (says_owes by found) (waits a) r (meet is lies_out lies_out) =
      waker_claimed by found r.stores r.gone sender_has_it sender_has_it
  pair_reads (says_owes by found) claimed r (meet is lies_out lies_out) =
      waker_claimed by found r.stores r.gone sender_has_it sender_has_it
  pair_reads (says_owes by found) overdue r (meet is lies_out lies_out) =
      claimed_overdue by found r.overdue r.gone sender_has_it sender_has_it
  pair_reads (says_owes by found) gone r (meet is lies_out lies_out) =
      claimed_gone by found r.gone sender_has_it sender_has_it
  pair_reads (says_overtaken by made) gone r (meet is lies_out lies_out) =
      sender_after by made r.gone sender_has_it sender_has_it
  pair_reads (says_late by made) gone r (meet is lies_out lies_out) =
      sender_after by made r.gone sender_has_it sender_has_it
  pair_reads (says_last sending made) untouched r (meet is (lies_filled m _) lies_bare) =
      sender_sent made r.wrote (waits_for_receiver m) left_for_receiver
  pair_reads (says_last dropping made) untouched r (meet is lies_bare lies_bare) =
      sender_dropped made r.wrote left_for_receiver left_for_receiver
  pair_reads (says_last sending made) (idle f) r (meet is (lies_filled m _) lies_out) =
      sender_sent made r.wrote (waits_for_receiver m) receiver_has_it
  pair_reads (says_last dropping made) (idle f) r (meet is lies_bare lies_out) =
      sender_dropped made r.wrote left_for_receiver receiver_has_it
  pair_reads (says_last sending made) (waits a) r (meet is (lies_filled m _) lies_bare) =
      sender_sent made r.wrote (waits_for_receiver m) left_for_receiver
  pair_reads (says_last dropping made) (waits a) r (meet is lies_bare lies_bare) =
      sender_dropped made r.wrote left_for_receiver left_for_receiver
  pair_reads (says_last sending made) claimed r (meet is (lies_filled m _) lies_bare) =
      sender_sent made r.wrote (waits_for_receiver m) left_for_receiver
  pair_reads (says_last dropping made) claimed r (meet is lies_bare lies_bare) =
      sender_dropped made r.wrote left_for_receiver left_for_receiver
  pair_reads (says_last sending made) withdrew r (meet is (lies_filled m _) lies_out) =
      sender_sent made r.wrote (waits_for_receiver m) receiver_has_it
  pair_reads (says_last dropping made) withdrew r (meet is lies_bare lies_out) =
      sender_dropped made r.wrote left_for_receiver receiver_has_it
  pair_reads (says_last sending made) overdue r (meet is (lies_filled m _) lies_bare) =
      sender_sent made r.wrote (waits_for_receiver m) left_for_receiver
  pair_reads (says_last dropping made) overdue r (meet is lies_bare lies_bare) =
      sender_dropped made r.wrote left_for_receiver left_for_receiver
  pair_reads (says_last sending made) (full at_once) r (meet is lies_out lies_out) =
      sender_sent made r.wrote receiver_found_it receiver_has_it
  pair_reads (says_last sending made) (full waited) r (meet is lies_out lies_out) =
      sender_sent made r.wrote receiver_found_it receiver_has_it
  pair_reads (says_last sending made) (full by_future) r (meet is lies_out lies_out) =
      sender_sent made r.wrote receiver_found_it receiver_has_it
  pair_reads (says_last sending made) (full by_poll) r (meet is lies_out lies_out) =
      sender_sent made r.wrote receiver_found_it receiver_has_it
  pair_reads (says_last sending made) (full (swapped by)) r (meet is lies_out lies_out) =
      written sending made r.wrote receiver_has_it receiver_has_it
  pair_reads (says_last dropping made) (overwritten by) r (meet is lies_out lies_out) =
      written dropping made r.wrote receiver_has_it receiver_has_it
  pair_reads (says_last dropping made) (disconnected found_closed) r (meet is lies_out lies_out) =
      sender_dropped made r.wrote receiver_has_it receiver_has_it
  pair_reads (says_last sending made) (disconnected closed_itself) r (meet is lies_out lies_out) =
      written sending made r.wrote receiver_has_it receiver_has_it
  pair_reads (says_last dropping made) (disconnected closed_itself) r (meet is lies_out lies_out) =
      written dropping made r.wrote receiver_has_it receiver_has_it
  pair_reads (says_last dropping made) (resolved found_closed) r (meet is lies_out lies_out) =
      sender_dropped made r.wrote receiver_has_it receiver_has_it
  pair_reads (says_last sending made) (resolved closed_itself) r (meet is lies_out lies_out) =
      written sending made r.wrote receiver_has_it receiver_has_it
  pair_reads (says_last dropping made) (resolved closed_itself) r (meet is lies_out lies_out) =
      written dropping made r.wrote receiver_has_it receiver_has_it
  pair_reads (says_last sending made) ended r (meet is lies_out lies_out) =
      written sending made r.wrote receiver_has_it receiver_has_it
  pair_reads (says_last dropping made) ended r (meet is lies_out lies_out) =
      written dropping made r.wrote receiver_has_it receiver_has_it
  pair_reads _ _ r (meet none _ _) = elim none [ ]

  -- a channel about this value
  module _ {P : Type 0} {keeps : P → T → Type 0} (q : P) where
    pub rule_reads : (words : List ℕ) (homes : List (Home T H K)) (views : List (View T H K P))
        → Tied keeps q words homes views → Ruled q words homes views
    rule_reads _ _ _ opened = maker_alone
    rule_reads _ _ _ slot_taken = maker_with_slot_alone
    rule_reads _ _ _ (runs xs ys order lies lies' same claim) =
        two_ends xs ys (pair_reads (sender_told order) _ (receiver_told order) (meet (between order) lies lies'))

    -- and both logs have an order
    pub rule_orders : (words : List ℕ) (homes : List (Home T H K)) (views : List (View T H K P))
        → Tied keeps q words homes views → Ordered q words views
    rule_orders _ _ _ opened = maker_before
    rule_orders _ _ _ slot_taken = maker_with_slot_before
    rule_orders _ _ _ (runs xs ys order lies lies' same claim) = in_order xs ys order

  is_own : {X : Type 0} {kept : X → Type 0} {place : ℕ} {put : X → Slot T H K} {b : Bool} {c : Carried T H K}
      {x : Held X} → Part kept place put b c x → IsOwned b x
  is_own not_carried = not_its_own
  is_own (carried slot_vacant) = own_vacant
  is_own (carried (slot_held x _)) = own_held x

  pub seat_owns : {kept : T → Type 0} {fits : AnyWaker H K → Type 0} {front : Front}
      {o : Option (Bool × Bool)} {c : Carried T H K} {m : Held T}
      {w : Held (AnyWaker H K)} → SeatOf kept fits front o c m w → Owns o m w
  seat_owns (seat_of message waker) = owns (is_own message) (is_own waker)
