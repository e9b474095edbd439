-- The phases of both ends, distinguished by numbers while the checker explores.
-- A phase's code is its number. The search of the product automaton (`PhasesBeside`) compares states by their codes.
-- `sender_back` and `receiver_back` prove that each code leads back to its phase, so no two phases share one.
use Rattle.oneshot_bridge.proofs.Names.{◌≡◌, ℕ, Option, refl, get_or, sending, dropping, SenderAt, fresh, owes, finished, found_gone, overtaken, no_sender, after_load}
use Rattle.oneshot_bridge.proofs.Names.{after_timeout, blocked, polled, again, storing}
use Rattle.oneshot_bridge.proofs.Names.{stopping, at_once, waited, swapped, by_future, by_poll, found_closed, closed_itself, ReceiverAt, idle, claimed, withdrew}
use Rattle.oneshot_bridge.proofs.Names.{overdue, full, overwritten, disconnected}
use Rattle.oneshot_bridge.proofs.Names.{resolved, gone, ended, no_receiver, Coding, listed, pairs, or_none}
use Rattle.oneshot_machine.specs.Phases.{untouched, waits}
use Rattle.oneshot_machine.proofs.EachPhase.{senders, receivers}

abbrev sender_code : SenderAt → ℕ
sender_code fresh = 0
sender_code (owes sending) = 1
sender_code (owes dropping) = 2
sender_code (finished sending) = 3
sender_code (finished dropping) = 4
sender_code (found_gone sending) = 5
sender_code (found_gone dropping) = 6
sender_code (overtaken sending) = 7
sender_code (overtaken dropping) = 8
sender_code no_sender = 9

pub sender_back : (p : SenderAt) → get_or senders (sender_code p) fresh ≡ p
sender_back fresh = refl
sender_back (owes sending) = refl
sender_back (owes dropping) = refl
sender_back (finished sending) = refl
sender_back (finished dropping) = refl
sender_back (found_gone sending) = refl
sender_back (found_gone dropping) = refl
sender_back (overtaken sending) = refl
sender_back (overtaken dropping) = refl
sender_back no_sender = refl

abbrev receiver_code : ReceiverAt → ℕ
receiver_code untouched = 0
receiver_code (idle after_load) = 1
receiver_code (idle after_timeout) = 2
receiver_code (waits blocked) = 3
receiver_code (waits polled) = 4
receiver_code (waits again) = 5
receiver_code claimed = 6
receiver_code withdrew = 7
receiver_code overdue = 8
receiver_code (full at_once) = 9
receiver_code (full waited) = 10
receiver_code (full (swapped storing)) = 11
receiver_code (full (swapped stopping)) = 12
receiver_code (full by_future) = 13
receiver_code (full by_poll) = 14
receiver_code (overwritten storing) = 15
receiver_code (overwritten stopping) = 16
receiver_code (disconnected found_closed) = 17
receiver_code (disconnected closed_itself) = 18
receiver_code (resolved found_closed) = 19
receiver_code (resolved closed_itself) = 20
receiver_code gone = 21
receiver_code ended = 22
receiver_code no_receiver = 23

pub receiver_back : (q : ReceiverAt) → get_or receivers (receiver_code q) untouched ≡ q
receiver_back untouched = refl
receiver_back (idle after_load) = refl
receiver_back (idle after_timeout) = refl
receiver_back (waits blocked) = refl
receiver_back (waits polled) = refl
receiver_back (waits again) = refl
receiver_back claimed = refl
receiver_back withdrew = refl
receiver_back overdue = refl
receiver_back (full at_once) = refl
receiver_back (full waited) = refl
receiver_back (full (swapped storing)) = refl
receiver_back (full (swapped stopping)) = refl
receiver_back (full by_future) = refl
receiver_back (full by_poll) = refl
receiver_back (overwritten storing) = refl
receiver_back (overwritten stopping) = refl
receiver_back (disconnected found_closed) = refl
receiver_back (disconnected closed_itself) = refl
receiver_back (resolved found_closed) = refl
receiver_back (resolved closed_itself) = refl
receiver_back gone = refl
receiver_back ended = refl
receiver_back no_receiver = refl

-- the phases of both ends, or none once a log is that of no end
abbrev pub Phases : Type 0
Phases = Option (SenderAt × ReceiverAt)

abbrev pub phases : Coding Phases
phases =
    or_none (pairs (listed 10 sender_code senders fresh sender_back)
    (listed 24 receiver_code receivers untouched receiver_back))
