-- The ground of a poll, with a `Copied` for each waker, may do, finds and logs what the receiver's own ground does.
use Rattle.std.proofs.Common.{◌≡◌, ℕ, false, List, ◌++◌, refl, sym, ap, ◌∙◌, subst}
use Rattle.std.proofs.lemmas.List.{map-append}
use Rattle.oneshot_machine.specs.declared.states.Op.{Op}
use Rattle.oneshot_machine.specs.Logs.{Event, Grows, words, kept}
use Rattle.oneshot_machine.specs.Phases.{ReceiverAt, receiver_at, Share}
use Rattle.oneshot_machine.specs.Slots.{Held, away, vacant, held, IsSlot, is_away, is_vacant, is_held, SlotChange, stays_away, stays_vacant, stays_held, gives_room, gives_thing}
use Rattle.oneshot_machine.specs.Slots.{gets_room, gets_thing, may}
use Rattle.oneshot_machine.specs.Slots.{finds, ReceiverMay, ReceiverFinds}
use Rattle.oneshot_drive.specs.Grounds.{StandsIn, ReceiverAsks, ReceiverMakes}
use Rattle.oneshot_word.specs.Side.{Side}
use Rattle.oneshot_ends.specs.declared.ground.task.Copied.{Copied}
use Rattle.oneshot_ends.specs.Grounds.{events_of, event_of, state_of}
use Rattle.oneshot_ends.specs.Polling.{token_of, polled_state}
use Rattle.oneshot_ends.proofs.GrewByRuns.{words_of, grown}
use Rattle.oneshot_ends.proofs.LentGrounds.{stands_again}

module _ {W : Type 0} where
  token_slot : {share : Share} {w : Held W} → IsSlot share w → IsSlot share (token_of w)
  token_slot is_away = is_away
  token_slot is_vacant = is_vacant
  token_slot (is_held k) = is_held (record {})

  slot_of_token : {share : Share} (w : Held W) → IsSlot share (token_of w) → IsSlot share w
  slot_of_token away is_away = is_away
  slot_of_token vacant is_vacant = is_vacant
  slot_of_token (held k) (is_held _) = is_held k

  -- a slot that shows a `Copied` holds a waker
  pub token_held : (w : Held W) {copied : Copied} → token_of w ≡ held copied → (k : W) × w ≡ held k
  token_held away e = absurd (cc e)
  token_held vacant e = absurd (cc e)
  token_held (held k) e = (k, refl)

  token_changes : {share then : Share} {w w' : Held W} → SlotChange share then w w'
      → SlotChange share then (token_of w) (token_of w')
  token_changes stays_away = stays_away
  token_changes stays_vacant = stays_vacant
  token_changes (stays_held k) = stays_held (record {})
  token_changes gives_room = gives_room
  token_changes (gives_thing k) = gives_thing (record {})
  token_changes gets_room = gets_room
  token_changes (gets_thing k) = gets_thing (record {})

module _ {T W : Type 0} where
  token_may : {q : ReceiverAt} {op : Op} {m : Held T} (w : Held W)
      → ReceiverMay {T = T} {W = Copied} q op m (token_of w) → ReceiverMay {T = T} {W = W} q op m w
  token_may w (may there message waker) = may there message (slot_of_token w waker)

  token_finds : {q : ReceiverAt} {op : Op} {n : ℕ} {m m' : Held T} {w w' : Held W}
      → ReceiverFinds {T = T} {W = W} q op n m w m' w'
      → ReceiverFinds {T = T} {W = Copied} q op n m (token_of w) m' (token_of w')
  token_finds (finds there message waker) = finds there message (token_changes waker)

  pub token_can : {P : Type 0} (names : List ℕ) (s : Side T W P) (op : Op) → ReceiverAsks op (polled_state names s)
      → ReceiverAsks op (state_of s)
  token_can names s op asks =
      subst (λ xs. ReceiverMay (receiver_at xs) op s.message s.waker) (sym (words_of T W s.log))
      (token_may s.waker (subst
      (λ xs. ReceiverMay {T = T} {W = Copied} (receiver_at xs) op s.message (token_of s.waker))
      (words_of T Copied s.log) asks))

  pub token_found : {P : Type 0} (names : List ℕ) (s t : Side T W P) (op : Op) (n : ℕ)
      → ReceiverMakes op n (state_of s) (state_of t) → ReceiverMakes op n (polled_state names s) (polled_state names t)
  token_found names s t op n makes =
      subst (λ xs. ReceiverFinds {T = T} {W = Copied} (receiver_at xs) op n s.message (token_of s.waker) t.message
      (token_of t.waker)) (sym (words_of T Copied s.log))
      (token_finds (subst (λ xs. ReceiverFinds (receiver_at xs) op n s.message s.waker t.message t.waker)
      (words_of T W s.log) makes))

  -- its log grows as that of the receiver's own ground does
  pub told : {P : Type 0} (names : List ℕ) (before after : Side T W P) (run : List (Event T W))
      (ys : List (Event T Copied)) → events_of {T = T} {W = Copied} (words run) ≡ kept false ys
      → Grows (state_of before).log (state_of after).log run
      → Grows (polled_state names before).log (polled_state names after).log ys
  told names before after run ys same grows =
      record {
        whole = refl;
        channel = ap (λ p. names ++ p) grows.channel;
        list = ap (λ xs. events_of {T = T} {W = Copied} xs)
            (grown (words_of T W before.log) (words_of T W after.log) run grows)
            ∙ map-append (event_of {T = T} {W = Copied}) before.log (words run)
            ∙ ap (λ ys. events_of {T = T} {W = Copied} before.log ++ ys) same;
      }

  -- and it stands as that ground does
  pub stands_by_tokens : {P : Type 0} {Phases : ReceiverAt → Type 0} (names : List ℕ) (s : Side T W P)
      → StandsIn Phases (state_of s) → StandsIn Phases (polled_state names s)
  stands_by_tokens names s =
      stands_again (ap receiver_at (words_of T Copied s.log ∙ sym (words_of T W s.log))) (λ share m. m)
      (λ share. token_slot)

  pub stands_as_told : {P : Type 0} {Phases : ReceiverAt → Type 0} (names : List ℕ) (s : Side T W P)
      → StandsIn Phases (polled_state names s) → StandsIn Phases (state_of s)
  stands_as_told names s =
      stands_again (ap receiver_at (words_of T W s.log ∙ sym (words_of T Copied s.log))) (λ share m. m)
      (λ share. slot_of_token s.waker)
