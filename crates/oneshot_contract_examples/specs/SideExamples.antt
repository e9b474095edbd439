-- Examples and counterexamples of what a side shows, which operations it allows, and what each does to it.
use Rattle.std.specs.Prelude.{◌≡◌, ℕ, List, [], ◌++◌, Option, Some, None}
use Rattle.oneshot_machine.specs.declared.states.Op.TheVariants.{Load, Swap, Add, Xor}
use Rattle.oneshot_machine.specs.declared.states.TheConstants.{RECEIVING, EMPTY, MESSAGE}
use Rattle.oneshot_machine.specs.Noted.{Noted}
use Rattle.oneshot_machine.specs.Slots.{Held, away, vacant, held}
use Rattle.oneshot_word.specs.declared.any_waker.AnyWaker.TheVariants as R
use Rattle.oneshot_word.specs.declared.rule.Role.TheVariants.{Sender, Receiver}
use Rattle.oneshot_contract_examples.specs.StateExamples.{stopped_over}
use Rattle.oneshot_contract_examples.specs.SeatExamples.{table, seat, with_half, with_message, received, sent_at_once}
use Rattle.oneshot_word.specs.Side.{Side, side_of, AreEnds, SenderCan, SenderDid, ReceiverCan, ReceiverDid}
use Rattle.oneshot_contract_examples.specs.ExampleLogs.{claims, loaded, waits}

-- a side at a table, of a channel about 7, whose wakers are numbers
abbrev pub side : List Noted → Held ℕ → Held ℕ → Option ℕ → Side ℕ ℕ ℕ
side log message waker passed =
    record {
      table = table 1 2 5;
      log = log;
      message = message;
      waker = waker;
      passed = passed;
      handed = None;
      about = 7;
    }

-- a sender that is new, is about to send, and has sent; and a receiver that is new, waits, and has received
abbrev pub new_sender : Side ℕ ℕ ℕ
new_sender = side [] vacant away None

abbrev pub about_to_send : Side ℕ ℕ ℕ
about_to_send = side [] (held 7) away None

abbrev pub has_sent : Side ℕ ℕ ℕ
has_sent = side sent_at_once away away (Some 7)

abbrev pub new_receiver : Side ℕ ℕ ℕ
new_receiver = side [] away away None

abbrev pub has_received : Side ℕ ℕ ℕ
has_received = side received (held 7) vacant (Some 7)

pub record SidesThatAre : Type 0 where
  pub shows : side_of (table 1 2 5) (seat Sender claims (Some 6) (with_half ++ with_message 7))
      ≡ record {
        table = table 1 2 5;
        log = claims;
        message = held 7;
        waker = held (R.Thread 1);
        passed = Some 6;
        handed = None;
        about = 7;
      }
  pub shows_none : side_of (table 1 2 5) (seat Receiver loaded None [])
      ≡ record {
        table = table 1 2 5;
        log = loaded;
        message = away;
        waker = away;
        passed = None;
        handed = None;
        about =
            7;
      }
  pub ends : AreEnds {P = ℕ} 7 new_sender new_receiver
  pub may_send : SenderCan about_to_send Add
  pub may_drop : SenderCan new_sender Xor
  pub may_swap : SenderCan (side claims (held 7) vacant None) (Swap MESSAGE)
  pub may_load : ReceiverCan new_receiver Load
  pub may_wait : ReceiverCan (side loaded away (held 1) None) (Swap RECEIVING)
  pub sends : SenderDid about_to_send Add EMPTY has_sent
  pub claims_a_waker :
      SenderDid about_to_send Add RECEIVING (record (side claims (held 7) (held 1) None) { handed = Some 1 })
  pub gives_its_waker : ReceiverDid (side loaded away (held 1) None) (Swap RECEIVING) EMPTY
      (record (side waits away away None) { handed = Some 1 })
  pub takes_it_back : ReceiverDid (record (side waits away away None) { handed = Some 1 }) (Swap EMPTY) RECEIVING
      (record (side (stopped_over RECEIVING) away (held 1) None) { handed = Some 1 })
  pub receives : ReceiverDid new_receiver Load MESSAGE has_received

pub record SidesThatAreNot : Type 0 where
  -- ends of a new table, each wrong in one thing
  pub sender_about_another : AreEnds {P = ℕ} 7 (record new_sender { about = 8 }) new_receiver → ⊥
  pub receiver_about_another : AreEnds {P = ℕ} 7 new_sender (record new_receiver { about = 8 }) → ⊥
  pub of_two_tables : AreEnds {P = ℕ} 7 new_sender (record new_receiver { table = table 1 2 6 }) → ⊥
  pub sender_has_operated : AreEnds {P = ℕ} 7 (record new_sender { log = claims }) new_receiver → ⊥
  pub sender_has_a_message : AreEnds {P = ℕ} 7 about_to_send new_receiver → ⊥
  pub sender_has_the_waker : AreEnds {P = ℕ} 7 (record new_sender { waker = vacant }) new_receiver → ⊥
  pub sender_has_given : AreEnds {P = ℕ} 7 (record new_sender { passed = Some 7 }) new_receiver → ⊥
  pub sender_has_woken : AreEnds {P = ℕ} 7 (record new_sender { handed = Some 1 }) new_receiver → ⊥
  pub receiver_has_operated : AreEnds {P = ℕ} 7 new_sender (record new_receiver { log = loaded }) → ⊥
  pub receiver_has_the_message : AreEnds {P = ℕ} 7 new_sender (record new_receiver { message = vacant }) → ⊥
  pub receiver_has_the_waker : AreEnds {P = ℕ} 7 new_sender (record new_receiver { waker = vacant }) → ⊥
  pub receiver_has_given : AreEnds {P = ℕ} 7 new_sender (record new_receiver { handed = Some 1 }) → ⊥
  pub receiver_has_taken : AreEnds {P = ℕ} 7 new_sender (record new_receiver { passed = Some 7 }) → ⊥
  -- operations that the side does not allow
  pub sends_nothing : SenderCan new_sender Add → ⊥
  pub sends_twice : SenderCan (side sent_at_once (held 7) away None) Add → ⊥
  pub waits_without_a_waker : ReceiverCan (side loaded away vacant None) (Swap RECEIVING) → ⊥
  -- an operation that changes the channel or the table, is not logged, does not move its slots, or
  -- loses what passed
  pub becomes_about_another : SenderDid about_to_send Add EMPTY (record has_sent { about = 8 }) → ⊥
  pub moves_to_another : SenderDid about_to_send Add EMPTY (record has_sent { table = table 1 2 6 }) → ⊥
  pub is_not_logged : SenderDid about_to_send Add EMPTY (record has_sent { log = [] }) → ⊥
  pub logs_another_word : SenderDid about_to_send Add EMPTY (record has_sent { log = claims }) → ⊥
  pub keeps_its_message : SenderDid about_to_send Add EMPTY (record has_sent { message = held 7 }) → ⊥
  pub gives_none : SenderDid about_to_send Add EMPTY (record has_sent { passed = None }) → ⊥
  pub gives_another : SenderDid about_to_send Add EMPTY (record has_sent { passed = Some 8 }) → ⊥
  pub gets_no_message : ReceiverDid new_receiver Load MESSAGE (record has_received { message = vacant }) → ⊥
  pub claims_and_notes_none : SenderDid about_to_send Add RECEIVING (side claims (held 7) (held 1) None) → ⊥
  pub claims_and_notes_another : SenderDid about_to_send Add RECEIVING
      (record (side claims (held 7) (held 1) None) { handed = Some 2 }) → ⊥
  pub gets_another_back : ReceiverDid (record (side waits away away None) { handed = Some 1 }) (Swap EMPTY) RECEIVING
      (record (side (stopped_over RECEIVING) away (held 2) None) { handed = Some 1 }) → ⊥
  pub takes_none : ReceiverDid new_receiver Load MESSAGE (record has_received { passed = None }) → ⊥
  pub takes_again : ReceiverDid (record new_receiver { passed = Some 8 }) Load MESSAGE has_received → ⊥
