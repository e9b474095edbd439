-- A receiver's ground in memory matches its log after each of its steps, and after its sender's.
use Rattle.std.proofs.Common.{◌≡◌, ℕ, Bool, true, false, not, ◌&&◌, ◌||◌, ◌==◌, List, [], ◌∷◌, ◌++◌, Option, Some, None, refl, sym, ap, subst}
use Rattle.std.specs.Prelude.{is_some, if◌then◌else◌}
use Rattle.oneshot_machine.specs.declared.states.Op.{Op}
use Rattle.oneshot_machine.specs.declared.states.Op.TheVariants.{Load, Store, Swap, Exchange, Add, Xor}
use Rattle.oneshot_machine.specs.declared.states.TheConstants.{RECEIVING, UNPARKING, DISCONNECTED, EMPTY}
use Rattle.oneshot_machine.specs.Logs.{Grows, words, receiver_of, worded}
use Rattle.oneshot_machine.specs.Noted.{saw}
use Rattle.oneshot_machine.specs.Phases.{after_load, after_timeout, blocked, polled, again, storing, stopping, at_once, waited, swapped, by_future, by_poll, ReceiverAt, untouched}
use Rattle.oneshot_machine.specs.Phases.{idle, waits, claimed, withdrew}
use Rattle.oneshot_machine.specs.Phases.{overdue, full, overwritten, disconnected, resolved, gone, ended, no_receiver, receiver_moves, receiver_owns, receiver_next, receiver_at}
use Rattle.oneshot_machine.specs.Slots.{vacant, held, In, head, tail, ReceiverMay, ReceiverFinds}
use Rattle.oneshot_machine.specs.States.{word_after}
use Rattle.oneshot_machine.proofs.GrownLogs.{receiver_moved}
use Rattle.oneshot_drive.specs.Grounds.{ReceiverAsks}
use Rattle.oneshot_memory.specs.declared.Event.{Event}
use Rattle.oneshot_memory.specs.declared.receiver.Act.{Act}
use Rattle.oneshot_memory.specs.declared.receiver.Act.TheVariants as A
use Rattle.oneshot_memory.specs.Memory.{Memory, memory_of, lies_in}
use Rattle.oneshot_memory.specs.Events.{slot_if_own, logged_event, logged}
use Rattle.oneshot_memory.specs.Receiver.{Plan, Receiving, receiving_of, receiver_has, receiver_matches, ReceiverMatches, keeps_message, keeps_waker, overtakes, waker_after, lies, is_quiet, both_here}
use Rattle.oneshot_memory.specs.Receiver.{word_after_act, message_after_act}
use Rattle.oneshot_memory.proofs.Memory.{IsSteady, comes_about, Operated, operates, slot_held}
use Rattle.oneshot_memory.proofs.Events.{words_same}

-- which memory a receiver has, and what an operation leaves it
abbrev pub is_receivers : ReceiverAt → Memory → Bool
is_receivers q = receiver_has (receiver_owns q) (receiver_moves q)

abbrev pub receiver_keeps : Op → Memory → Bool × Bool × Bool
receiver_keeps op c = (keeps_message op c.word, keeps_waker op c.word (lies_in c), not (overtakes op c.word))

abbrev word_by_act : Bool → ℕ
word_by_act true = 4
word_by_act false = 2

-- The changes between its operations, in this order: the message is taken or dropped; a waker is put into
-- its slot or taken out; both slots are freed; the sender sends or is dropped while no waker waits in the
-- slot, or while one does, which it uses up; the sender lingers.
abbrev pub receiver_changes : List (Bool → Memory → Bool × Memory)
receiver_changes =
    (λ b c. (c.owns_message, record c { has_message = false }))
    ∷ (λ there c. (c.owns_waker, record c { has_waker = there }))
    ∷ (λ b c. (
      c.owns_message && c.owns_waker && not c.has_message && not c.has_waker,
      record c { owns_message = false; owns_waker = false },
    ))
    ∷ (λ sent c. (
      is_quiet c.word && not c.owns_message && not (lies_in c),
      record c { word = word_by_act sent; has_message = sent },
    ))
    ∷ (λ sent c. (lies_in c, record c { word = word_by_act sent; has_message = sent; has_waker = false }))
    ∷ (λ b c. ((c.word == RECEIVING) && lies_in c, record c { word = UNPARKING }))
    ∷ []

-- the law, computed for each phase
pub receiver_steady : IsSteady receiver_next receiver_moves is_receivers receiver_keeps receiver_changes
receiver_steady untouched = refl
receiver_steady (idle after_load) = refl
receiver_steady (idle after_timeout) = refl
receiver_steady (waits blocked) = refl
receiver_steady (waits polled) = refl
receiver_steady (waits again) = refl
receiver_steady claimed = refl
receiver_steady withdrew = refl
receiver_steady overdue = refl
receiver_steady (full at_once) = refl
receiver_steady (full waited) = refl
receiver_steady (full (swapped storing)) = refl
receiver_steady (full (swapped stopping)) = refl
receiver_steady (full by_future) = refl
receiver_steady (full by_poll) = refl
receiver_steady (overwritten storing) = refl
receiver_steady (overwritten stopping) = refl
receiver_steady (disconnected closing) = refl
receiver_steady (resolved closing) = refl
receiver_steady gone = refl
receiver_steady ended = refl
receiver_steady no_receiver = refl

-- so after each change the ground still matches
changes_to : (q : ReceiverAt) (c : Memory) {change : Bool → Memory → Bool × Memory} (b : Bool)
    → In change receiver_changes
    → receiver_matches q c ≡ true → (change b c).0 ≡ true → receiver_matches q (change b c).1 ≡ true
changes_to = comes_about receiver_next receiver_moves is_receivers receiver_keeps receiver_changes receiver_steady

-- a waker that is not used up stays in its slot
stays_there : {W : Type 0} (used : Bool) (waker : Option W)
    → is_some (if used then None else waker) ≡ (not used && is_some waker)
stays_there true waker = refl
stays_there false waker = refl

-- and one that is used up was in a slot that the operation leaves to the sender
used_away : {W : Type 0} (closes finishing is_empty : Bool) (waker : Option W)
    → slot_if_own (not (is_empty || finishing)) (if closes && finishing then None else waker)
    ≡ slot_if_own (not (is_empty || finishing)) waker
used_away true true true waker = refl
used_away true true false waker = refl
used_away true false is_empty waker = refl
used_away false finishing is_empty waker = refl

slot_after : {W : Type 0} (op : Op) (word : ℕ) (lying : Bool) (waker : Option W)
    → slot_if_own (keeps_waker op word lying) (waker_after op word waker)
    ≡ slot_if_own (keeps_waker op word lying) waker
slot_after (Swap new) word lying waker = used_away (new == DISCONNECTED) (word == UNPARKING) (word == EMPTY) waker
slot_after Load word lying waker = refl
slot_after (Store new) word lying waker = refl
slot_after (Exchange expected new) word lying waker = refl
slot_after Add word lying waker = refl
slot_after Xor word lying waker = refl

module _ {T W : Type 0} where
  -- a step that is no operation on the word
  pub receiver_stays : (xs ys : List (Event T W)) (e : Event T W) {word : ℕ} {own own_waker : Bool} {content : Option T}
      {waker : Option W} → ys ≡ xs ++ e ∷ [] → words (logged_event e ∷ []) ≡ []
      → ReceiverMatches (receiver_of (logged xs)) word own own_waker content waker
      → ReceiverMatches (receiver_of (logged ys)) word own own_waker content waker
  receiver_stays xs ys e {word} {own} {own_waker} {content} {waker} is none =
      subst (λ q. ReceiverMatches q word own own_waker content waker)
      (ap receiver_at (sym (words_same xs ys e is none)))

  -- an operation
  abbrev pub ReceiverOperated : ReceiverAt → Op → ℕ → Bool → Bool → Option T → Option W → Type 0
  ReceiverOperated = Operated receiver_next receiver_moves is_receivers receiver_keeps receiver_changes receiver_steady

  pub receiver_operates : {q : ReceiverAt} {op : Op} (word : ℕ) (own own_waker : Bool) (content : Option T)
      (waker : Option W) → ReceiverMatches q word own own_waker content waker
      → ReceiverMay q op (slot_if_own own content) (slot_if_own own_waker waker)
      → ReceiverOperated q op word own own_waker content waker
  receiver_operates {q} word own own_waker content waker stands =
      operates receiver_next receiver_moves is_receivers receiver_keeps receiver_changes receiver_steady q word own
      own_waker content waker stands.is_so

  -- an operation that meets its `requires`, on the ground as a caller sees it
  pub receiver_asked : (events : List (Event T W)) {op : Op} {word : ℕ} {own own_waker : Bool} {content : Option T}
      {waker : Option W} {plan : Plan T} {seen : Receiving T W}
      → receiving_of events word content waker own own_waker plan ≡ seen → ReceiverAsks op seen.state
      → ReceiverMatches (receiver_of (logged events)) word own own_waker content waker
      → ReceiverOperated (receiver_of (logged events)) op word own own_waker content waker
  receiver_asked events {op} {word} {own} {own_waker} {content} {waker} is asks stands =
      receiver_operates word own own_waker content waker stands
      (subst (λ s. ReceiverAsks op s.state) (sym is) asks)

  pub receiver_found : {q : ReceiverAt} {op : Op} (word : ℕ) (own own_waker : Bool) (content : Option T)
      (waker : Option W)
      → ReceiverOperated q op word own own_waker content waker
      → ReceiverFinds q op word (slot_if_own own content) (slot_if_own own_waker waker)
      (slot_if_own (keeps_message op word) content)
      (slot_if_own (keeps_waker op word (lies own_waker waker)) (waker_after op word waker))
  receiver_found {q} {op} word own own_waker content waker operated =
      subst (λ left. ReceiverFinds q op word (slot_if_own own content) (slot_if_own own_waker waker)
      (slot_if_own (keeps_message op word) content) left) (sym (slot_after op word (lies own_waker waker) waker))
      operated.found

  pub receiver_worded : (xs ys : List (Event T W)) (op : Op) (word left : ℕ) (was own_was own own_waker : Bool)
      {content : Option T} (waker after : Option W) → Grows (logged xs) (logged ys) (worded op word ∷ [])
      → ReceiverOperated (receiver_of (logged xs)) op word was own_was content waker → left ≡ word_after op word
      → own ≡ keeps_message op word → own_waker ≡ keeps_waker op word (lies own_was waker)
      → after ≡ waker_after op word waker
      → ReceiverMatches (receiver_of (logged ys)) left own own_waker content after
  receiver_worded xs ys op word left was own_was own own_waker {content} waker after grows found is kept kept_too used =
      let stands : Bool → Bool = λ there.
      receiver_matches (receiver_next (receiver_of (logged xs)) op (saw op word))
      (record {
        word = word_after op word;
        owns_message = keeps_message op word;
        owns_waker = keeps_waker op word
            (lies own_was waker);
        has_message = is_some content;
        has_waker = there;
      }) in
      let goes_on : stands (is_some (waker_after op word waker)) ≡ true =
      subst (λ there. stands there ≡ true) (sym (stays_there (overtakes op word) waker)) found.goes_on in
      rw (receiver_moved op word grows, is, kept, kept_too, used) (record { is_so = goes_on })

  module _ {q : ReceiverAt} {word : ℕ} {own own_waker : Bool} {content : Option T} {waker : Option W}
      (stands : ReceiverMatches q word own own_waker content waker) where
    -- the message is taken out of its slot, or dropped there
    pub receiver_emptied : (x : T) → slot_if_own own content ≡ held x
        → ReceiverMatches {T = T} q word own own_waker None waker
    receiver_emptied x e =
        record {
          is_so = changes_to q (memory_of word own own_waker content waker) true head stands.is_so
              (slot_held own content x e);
        }

    -- a waker is put into its slot, or taken out of it
    pub receiver_wakers : (after : Option W) → own_waker ≡ true → ReceiverMatches q word own own_waker content after
    receiver_wakers after e =
        record {
          is_so = changes_to q (memory_of word own own_waker content waker) (is_some after) (tail head) stands.is_so
              e;
        }

    -- a free gives both slots up
    pub receiver_freed : slot_if_own own content ≡ vacant → slot_if_own own_waker waker ≡ vacant
        → ReceiverMatches q word false false content waker
    receiver_freed e f =
        record {
          is_so = changes_to q (memory_of word own own_waker content waker) true (tail (tail head)) stands.is_so
              (both_empty own own_waker content waker e f);
        }
      where
        both_empty : (own own_waker : Bool) (content : Option T) (waker : Option W) → slot_if_own own content ≡ vacant
            → slot_if_own own_waker waker ≡ vacant
            → (own && own_waker && not (is_some content) && not (is_some waker)) ≡ true
        both_empty true true None None e f = refl
        both_empty _ _ _ _ e f = absurd (cc)

    -- the sender acts while no waker waits in the slot
    pub left_open : (act : Act T) → is_quiet word ≡ true → own ≡ false → lies own_waker waker ≡ false
        → ReceiverMatches q (word_after_act act) own own_waker (message_after_act act) waker
    left_open (A.Send x) e f none =
        record {
          is_so = changes_to q (memory_of word own own_waker content waker) true (tail (tail (tail head)))
              stands.is_so (rw (e, f, none) refl);
        }
    left_open A.Drop e f none =
        record {
          is_so = changes_to q (memory_of word own own_waker content waker) false (tail (tail (tail head)))
              stands.is_so (rw (e, f, none) refl);
        }

    -- or while one does
    pub left_waiting : (act : Act T) → lies own_waker waker ≡ true
        → ReceiverMatches {T = T} {W = W} q (word_after_act act) own own_waker (message_after_act act) None
    left_waiting (A.Send x) lying =
        record {
          is_so = changes_to q (memory_of word own own_waker content waker) true (tail (tail (tail (tail head))))
              stands.is_so lying;
        }
    left_waiting A.Drop lying =
        record {
          is_so = changes_to q (memory_of word own own_waker content waker) false (tail (tail (tail (tail head))))
              stands.is_so lying;
        }

    -- or it lingers
    pub lingering : word ≡ RECEIVING → lies own_waker waker ≡ true → ReceiverMatches q 1 own own_waker content waker
    lingering e lying =
        record {
          is_so = changes_to q (memory_of word own own_waker content waker) true
              (tail (tail (tail (tail (tail head))))) stands.is_so (rw (e, lying) refl);
        }

-- both ends are here, by the ground's fields
pub record BothHere (word : ℕ) (own : Bool) : Type 0 where
  pub quiet : is_quiet word ≡ true
  pub away : own ≡ false

pub both_here_by : {X : Type 0} (word : ℕ) (own : Bool) (content : Option X)
    → both_here word (slot_if_own own content) ≡ true → BothHere word own
both_here_by word false content e = record { quiet = e; away = refl }
both_here_by word true None e = absurd (cc)
both_here_by word true (Some x) e = absurd (cc)
