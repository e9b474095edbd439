-- The reader of phases reads from a trace the phases of both its logs.
use Rattle.oneshot_bridge.proofs.Names.{◌≡◌, ℕ, true, List, [], ◌∷◌, Option, Some, None, refl, ap, ◌∙◌, cons_option, End, Receiver, Noted, Reaches, SenderAt, no_sender, sender_next, ReceiverAt}
use Rattle.oneshot_bridge.proofs.Names.{no_receiver, receiver_next, phase_from, by_end, Entry, is_senders, is_receivers, sender_is, receiver_is, operation_of, log_of}
use Rattle.oneshot_machine.specs.declared.machine.End.TheVariants.{Sender}
use Rattle.oneshot_machine.specs.Phases.{sender_at, receiver_at}
use Rattle.oneshot_world.specs.declared.trace.Entry.TheVariants.{Idle, Made as Made_entry}
use Rattle.oneshot_bridge.proofs.PhaseCodes.{Phases}
use Rattle.oneshot_bridge.proofs.PhasesBeside.{with_phases, sender_after, receiver_after, reads_phases}

abbrev pub reads_of : Entry → Phases → Phases
reads_of (Idle side) m = m
reads_of (Made_entry e) m = reads_phases e.side (operation_of e) m

abbrev pub read_all : Phases → List Entry → Phases
read_all m [] = m
read_all m (entry ∷ entries) = read_all (reads_of entry m) entries

-- a log that is that of no end stays so
lost_sender : (x : Option Noted) → no_sender ≡ sender_after x no_sender
lost_sender None = refl
lost_sender (Some x) = refl

lost_receiver : (x : Option Noted) → no_receiver ≡ receiver_after x no_receiver
lost_receiver None = refl
lost_receiver (Some x) = refl

without_receiver : (p : SenderAt) → None ≡ with_phases p no_receiver
without_receiver no_sender = refl
without_receiver _ = refl

-- an entry takes both phases on
reads_both : (end : End) (x : Option Noted) (p : SenderAt) (q : ReceiverAt)
    → reads_phases end x (with_phases p q)
    ≡ with_phases (by_end end (sender_after x p) p) (by_end end q (receiver_after x q))
reads_both Sender x no_sender q = ap (λ p. with_phases p q) (lost_sender x)
reads_both Receiver x no_sender q = refl
reads_both Sender x p no_receiver = without_receiver (sender_after x p)
reads_both Receiver x p no_receiver = ap (with_phases p) (lost_receiver x)
reads_both Sender x p q = refl
reads_both Receiver x p q = refl

-- the reader finds what the logs of the entries show
abbrev ReadSo : List Entry → Type 0
ReadSo entries =
    (p : SenderAt) (q : ReceiverAt) → read_all (with_phases p q) entries
    ≡ with_phases (phase_from sender_next p (log_of Sender entries))
    (phase_from receiver_next q (log_of Receiver entries))

made_logs : (entries : List Entry) → ReadSo entries → (end : End) (x : Option Noted) (p : SenderAt) (q : ReceiverAt)
    → read_all (reads_phases end x (with_phases p q)) entries
    ≡ with_phases (phase_from sender_next p (cons_option (by_end end x None) (log_of Sender entries)))
    (phase_from receiver_next q (cons_option (by_end end None x) (log_of Receiver entries)))
made_logs entries later Sender None p q =
    ap (λ m. read_all m entries) (reads_both Sender None p q) ∙ later p q
made_logs entries later Sender (Some x) p q =
    ap (λ m. read_all m entries) (reads_both Sender (Some x) p q) ∙ later (sender_next p x.0 x.1) q
made_logs entries later Receiver None p q =
    ap (λ m. read_all m entries) (reads_both Receiver None p q) ∙ later p q
made_logs entries later Receiver (Some x) p q =
    ap (λ m. read_all m entries) (reads_both Receiver (Some x) p q) ∙ later p (receiver_next q x.0 x.1)

pub read_logs : (entries : List Entry) → ReadSo entries
read_logs [] p q = refl
read_logs (Idle side ∷ entries) p q = read_logs entries p q
read_logs (Made_entry e ∷ entries) p q = made_logs entries (read_logs entries) e.side (operation_of e) p q

-- the logs of an order are those of ends
both_there : (p : SenderAt) (q : ReceiverAt) → is_senders p ≡ true → is_receivers q ≡ true
    → with_phases p q ≡ Some (p, q)
both_there no_sender q s r = absurd (cc s)
both_there p no_receiver s r = absurd (cc r)
both_there _ _ s r = refl

pub phases_are : {xs ys : List Noted} {word : ℕ} → Reaches xs ys word
    → with_phases (sender_at xs) (receiver_at ys) ≡ Some (sender_at xs, receiver_at ys)
phases_are {xs} {ys} order = both_there (sender_at xs) (receiver_at ys) (sender_is order) (receiver_is order)
