-- Every phase of an end, listed: what is computed for the list holds at each phase, and for each of its rows.
use Rattle.std.proofs.Common.{◌≡◌, ℕ, zero, suc, Bool, true, false, List, [], ◌∷◌, drop}
use Rattle.std.specs.Prelude.{if◌then◌else◌}
use Rattle.std.specs.List.{list_all}
use Rattle.oneshot_machine.specs.Phases.{sending, dropping, SenderAt, fresh, owes, finished, found_gone, overtaken, no_sender, ReceiverAt, untouched, idle, after_load, after_timeout}
use Rattle.oneshot_machine.specs.Phases.{waits, blocked, polled, again}
use Rattle.oneshot_machine.specs.Phases.{claimed, withdrew, overdue, full, at_once, waited, swapped, storing, stopping, by_future, by_poll, overwritten, disconnected, found_closed, closed_itself}
use Rattle.oneshot_machine.specs.Phases.{resolved, gone, ended, no_receiver, Row, sender_moves, receiver_moves}
use Rattle.oneshot_machine.specs.Slots.{In, head, tail}
use Rattle.oneshot_machine.proofs.Sameness.{each_passes}

abbrev pub senders : List SenderAt
senders =
    fresh ∷ owes sending ∷ owes dropping ∷ finished sending ∷ finished dropping ∷ found_gone sending
    ∷ found_gone dropping
    ∷ overtaken sending ∷ overtaken dropping ∷ no_sender ∷ []

abbrev pub receivers : List ReceiverAt
receivers =
    untouched ∷ idle after_load ∷ idle after_timeout ∷ waits blocked ∷ waits polled ∷ waits again ∷ claimed ∷ withdrew
    ∷ overdue
    ∷ full at_once ∷ full waited ∷ full (swapped storing) ∷ full (swapped stopping) ∷ full by_future ∷ full by_poll
    ∷ overwritten storing ∷ overwritten stopping ∷ disconnected found_closed ∷ disconnected closed_itself
    ∷ resolved found_closed ∷ resolved closed_itself ∷ gone ∷ ended ∷ no_receiver ∷ []

behind : {X : Type 0} {x : X} {xs : List X} (n : ℕ) → In x (drop n xs) → In x xs
behind zero there = there
behind {xs = []} (suc n) there = there
behind {xs = y ∷ ys} (suc n) there = tail (behind n there)

is_sender : (p : SenderAt) → In p senders
is_sender fresh = head
is_sender (owes sending) = behind 1 head
is_sender (owes dropping) = behind 2 head
is_sender (finished sending) = behind 3 head
is_sender (finished dropping) = behind 4 head
is_sender (found_gone sending) = behind 5 head
is_sender (found_gone dropping) = behind 6 head
is_sender (overtaken sending) = behind 7 head
is_sender (overtaken dropping) = behind 8 head
is_sender no_sender = behind 9 head

is_receiver : (q : ReceiverAt) → In q receivers
is_receiver untouched = head
is_receiver (idle after_load) = behind 1 head
is_receiver (idle after_timeout) = behind 2 head
is_receiver (waits blocked) = behind 3 head
is_receiver (waits polled) = behind 4 head
is_receiver (waits again) = behind 5 head
is_receiver claimed = behind 6 head
is_receiver withdrew = behind 7 head
is_receiver overdue = behind 8 head
is_receiver (full at_once) = behind 9 head
is_receiver (full waited) = behind 10 head
is_receiver (full (swapped storing)) = behind 11 head
is_receiver (full (swapped stopping)) = behind 12 head
is_receiver (full by_future) = behind 13 head
is_receiver (full by_poll) = behind 14 head
is_receiver (overwritten storing) = behind 15 head
is_receiver (overwritten stopping) = behind 16 head
is_receiver (disconnected found_closed) = behind 17 head
is_receiver (disconnected closed_itself) = behind 18 head
is_receiver (resolved found_closed) = behind 19 head
is_receiver (resolved closed_itself) = behind 20 head
is_receiver gone = behind 21 head
is_receiver ended = behind 22 head
is_receiver no_receiver = behind 23 head

pub at_each_sender : (test : SenderAt → Bool) → list_all test senders ≡ true → (p : SenderAt) → test p ≡ true
at_each_sender test all p = each_passes test senders all (is_sender p)

pub at_each_receiver : (test : ReceiverAt → Bool) → list_all test receivers ≡ true → (q : ReceiverAt) → test q ≡ true
at_each_receiver test all q = each_passes test receivers all (is_receiver q)

pub at_each_pair : (test : SenderAt → ReceiverAt → Bool)
    → list_all (λ q. list_all (λ p. test p q) senders) receivers ≡ true → (p : SenderAt) (q : ReceiverAt)
    → test p q ≡ true
at_each_pair test all p q =
    at_each_sender (λ p. test p q) (at_each_receiver (λ q. list_all (λ p. test p q) senders) all q) p

pub in_each_sender_row : (test : SenderAt → Row SenderAt → Bool)
    → list_all (λ p. list_all (test p) (sender_moves p)) senders ≡ true
    → (p : SenderAt) {row : Row SenderAt} → In row (sender_moves p) → test p row ≡ true
in_each_sender_row test all p row =
    each_passes (test p) (sender_moves p) (at_each_sender (λ p. list_all (test p) (sender_moves p)) all p) row

pub in_each_receiver_row : (test : ReceiverAt → Row ReceiverAt → Bool)
    → list_all (λ q. list_all (test q) (receiver_moves q)) receivers ≡ true
    → (q : ReceiverAt) {row : Row ReceiverAt} → In row (receiver_moves q) → test q row ≡ true
in_each_receiver_row test all q row =
    each_passes (test q) (receiver_moves q) (at_each_receiver (λ q. list_all (test q) (receiver_moves q)) all q) row

-- what such a test says of the phases at which it asks something
pub if_so : (b c : Bool) → (if b then c else true) ≡ true → b ≡ true → c ≡ true
if_so true c e so = e
if_so false c e so = absurd (cc so)
