-- A sender's ground in memory matches its log after each of its steps.
use Rattle.std.proofs.Common.{◌≡◌, ℕ, Bool, true, false, List, [], ◌∷◌, ◌++◌, Option, None, refl, sym, ap, subst}
use Rattle.std.specs.Prelude.{is_some}
use Rattle.oneshot_machine.specs.declared.states.Op.{Op}
use Rattle.oneshot_machine.specs.Logs.{Grows, words, sender_of, worded}
use Rattle.oneshot_machine.specs.Phases.{sending, dropping, SenderAt, fresh, owes, finished, found_gone, overtaken, no_sender, sender_moves, sender_owns, sender_next, sender_at}
use Rattle.oneshot_machine.specs.Slots.{vacant, held, In, head, tail, SenderMay}
use Rattle.oneshot_machine.specs.States.{word_after}
use Rattle.oneshot_machine.proofs.GrownLogs.{sender_moved}
use Rattle.oneshot_drive.specs.Grounds.{SenderAsks}
use Rattle.oneshot_memory.specs.declared.Event.{Event}
use Rattle.oneshot_memory.specs.declared.sender.Meanwhile.{Meanwhile}
use Rattle.oneshot_memory.specs.declared.sender.Meanwhile.TheVariants.{Waits, Stops, Leaves}
use Rattle.oneshot_memory.specs.Memory.{Memory, memory_of}
use Rattle.oneshot_memory.specs.Events.{slot_if_own, logged_event, logged}
use Rattle.oneshot_memory.specs.Sender.{Sending, sending_of, last_word, sender_has, sender_matches, SenderMatches, keeps_both, word_then}
use Rattle.oneshot_memory.proofs.Memory.{IsSteady, comes_about, Operated, operates, slot_vacant, slot_held}
use Rattle.oneshot_memory.proofs.Events.{words_same}

-- which memory a sender has, and what an operation leaves it
abbrev pub is_senders : SenderAt → Memory → Bool
is_senders p = sender_has (last_word p) (sender_owns p) (sender_moves p)

abbrev pub sender_keeps : Op → Memory → Bool × Bool × Bool
sender_keeps op c = (keeps_both c.word, keeps_both c.word, true)

-- The changes between its operations, in this order: a message is put into its slot or taken out; the waker
-- is taken out of its slot; both slots are freed; the receiver keeps waiting, stops, or leaves.
abbrev pub sender_changes : List (Bool → Memory → Bool × Memory)
sender_changes =
    (λ there c. (true, record c { has_message = there }))
    ∷ (λ b c. (c.owns_waker, record c { has_waker = false }))
    ∷ (λ b c. (c.owns_waker, record c { owns_message = false; owns_waker = false }))
    ∷ (λ b c. (true, record c { word = word_then Waits c.word }))
    ∷ (λ b c. (true, record c { word = word_then Stops c.word }))
    ∷ (λ b c. (true, record c { word = word_then Leaves c.word }))
    ∷ []

-- the law, computed for each phase
pub sender_steady : IsSteady sender_next sender_moves is_senders sender_keeps sender_changes
sender_steady fresh = refl
sender_steady (owes sending) = refl
sender_steady (owes dropping) = refl
sender_steady (finished by) = refl
sender_steady (found_gone by) = refl
sender_steady (overtaken sending) = refl
sender_steady (overtaken dropping) = refl
sender_steady no_sender = refl

-- so after each change the ground still matches
changes_to : (p : SenderAt) (c : Memory) {change : Bool → Memory → Bool × Memory} (b : Bool) → In change sender_changes
    → sender_matches p c ≡ true → (change b c).0 ≡ true → sender_matches p (change b c).1 ≡ true
changes_to = comes_about sender_next sender_moves is_senders sender_keeps sender_changes sender_steady

module _ {T W : Type 0} where
  -- a step that is no operation on the word
  pub sender_stays : (xs ys : List (Event T W)) (e : Event T W) {word : ℕ} {own own_waker : Bool} {content : Option T}
      {waker : Option W} → ys ≡ xs ++ e ∷ [] → words (logged_event e ∷ []) ≡ []
      → SenderMatches (sender_of (logged xs)) word own own_waker content waker
      → SenderMatches (sender_of (logged ys)) word own own_waker content waker
  sender_stays xs ys e {word} {own} {own_waker} {content} {waker} is none =
      subst (λ p. SenderMatches p word own own_waker content waker) (ap sender_at (sym (words_same xs ys e is none)))

  -- an operation
  abbrev pub SenderOperated : SenderAt → Op → ℕ → Bool → Bool → Option T → Option W → Type 0
  SenderOperated = Operated sender_next sender_moves is_senders sender_keeps sender_changes sender_steady

  pub sender_operates : {p : SenderAt} {op : Op} (word : ℕ) (own own_waker : Bool) (content : Option T)
      (waker : Option W)
      → SenderMatches p word own own_waker content waker
      → SenderMay p op (slot_if_own own content) (slot_if_own own_waker waker)
      → SenderOperated p op word own own_waker content waker
  sender_operates {p} word own own_waker content waker stands =
      operates sender_next sender_moves is_senders sender_keeps sender_changes sender_steady p word own own_waker
      content waker stands.is_so

  -- an operation that meets its `requires`, on the ground as a caller sees it
  pub sender_asked : (events : List (Event T W)) {op : Op} {word : ℕ} {own own_waker : Bool} {content : Option T}
      {waker : Option W} {meanwhile : Meanwhile} {seen : Sending T W}
      → sending_of events word content waker own own_waker meanwhile ≡ seen → SenderAsks op seen.state
      → SenderMatches (sender_of (logged events)) word own own_waker content waker
      → SenderOperated (sender_of (logged events)) op word own own_waker content waker
  sender_asked events {op} {word} {own} {own_waker} {content} {waker} is asks stands =
      sender_operates word own own_waker content waker stands (subst (λ s. SenderAsks op s.state) (sym is) asks)

  pub sender_worded : (xs ys : List (Event T W)) (op : Op) (word left : ℕ) (was own_was own own_waker : Bool)
      {content : Option T} {waker : Option W} → Grows (logged xs) (logged ys) (worded op word ∷ [])
      → SenderOperated (sender_of (logged xs)) op word was own_was content waker → left ≡ word_after op word
      → own ≡ keeps_both word → own_waker ≡ keeps_both word
      → SenderMatches (sender_of (logged ys)) left own own_waker content waker
  sender_worded xs ys op word left was own_was own own_waker grows found is kept kept_too =
      rw (sender_moved op word grows, is, kept, kept_too) (record { is_so = found.goes_on })

  module _ {p : SenderAt} {word : ℕ} {own own_waker : Bool} {content : Option T} {waker : Option W}
      (stands : SenderMatches p word own own_waker content waker) where
    -- a message is put into its slot, or taken out of it
    pub sender_messages : (after : Option T) → SenderMatches p word own own_waker after waker
    sender_messages after =
        record {
          is_so = changes_to p (memory_of word own own_waker content waker) (is_some after) head stands.is_so refl;
        }

    -- the waker is taken out of its slot
    pub sender_emptied : (k : W) → slot_if_own own_waker waker ≡ held k
        → SenderMatches {W = W} p word own own_waker content None
    sender_emptied k e =
        record {
          is_so = changes_to p (memory_of word own own_waker content waker) true (tail head) stands.is_so
              (slot_held own_waker waker k e);
        }

    -- a free gives both slots up
    pub sender_freed : slot_if_own own_waker waker ≡ vacant → SenderMatches p word false false content waker
    sender_freed e =
        record {
          is_so = changes_to p (memory_of word own own_waker content waker) true (tail (tail head)) stands.is_so
              (slot_vacant own_waker waker e);
        }

    -- a receiver whose waker the sender took does this
    pub sender_outlasts : (meanwhile : Meanwhile)
        → SenderMatches p (word_then meanwhile word) own own_waker content waker
    sender_outlasts Waits =
        record {
          is_so = changes_to p (memory_of word own own_waker content waker) true (tail (tail (tail head)))
              stands.is_so refl;
        }
    sender_outlasts Stops =
        record {
          is_so = changes_to p (memory_of word own own_waker content waker) true (tail (tail (tail (tail head))))
              stands.is_so refl;
        }
    sender_outlasts Leaves =
        record {
          is_so = changes_to p (memory_of word own own_waker content waker) true
              (tail (tail (tail (tail (tail head))))) stands.is_so refl;
        }
