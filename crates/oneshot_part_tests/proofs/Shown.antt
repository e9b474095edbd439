-- What an operation shows of an end whose phase and slots are known.
use Rattle.std.proofs.Common.{◌≡◌, ℕ, Bool, true, false, not, true≢false, refl, sym, ap, ◌∙◌, subst}
use Rattle.std.specs.List.{list_all}
use Rattle.oneshot_machine.specs.declared.states.Op.{Op}
use Rattle.oneshot_machine.specs.declared.states.Op.TheVariants.{Store, Swap}
use Rattle.oneshot_machine.specs.declared.states.TheConstants.{RECEIVING, DISCONNECTED, EMPTY}
use Rattle.oneshot_machine.specs.Noted.{saw, is_same_op}
use Rattle.oneshot_machine.specs.Phases.{Share, filled, Got, at_once, full, idle, after_load, waits, blocked, SenderAt, fresh, sender_next, sender_at}
use Rattle.oneshot_machine.specs.Phases.{ReceiverAt, untouched, receiver_moves, receiver_next}
use Rattle.oneshot_machine.specs.Phases.{receiver_at}
use Rattle.oneshot_machine.specs.Slots.{Held, away, vacant, held, is_held, is_vacant, SlotChange, stays_vacant, stays_held, gets_thing, head, tail, may, finds, SenderMay, SenderFinds, ReceiverMay}
use Rattle.oneshot_machine.specs.Slots.{ReceiverFinds, not_its_own, owns, SenderOwns}
use Rattle.oneshot_machine.proofs.Sameness.{each_passes}
use Rattle.oneshot_machine.proofs.GrownLogs.{phase_from-snoc}
use Rattle.oneshot_word.specs.Side.{Side, SenderCan, SenderDid, ReceiverCan, ReceiverDid}

-- a side of a channel without a promise
abbrev pub Plain : Type 0 → Type 0 → Type 0
Plain T W = Side T W (Unit {0})

-- each row of a receiver that has the message leaves the message's slot filled
abbrev pub is_filled : Share → Bool
is_filled filled = true
is_filled _ = false

stays_full : (g : Got) → list_all (λ row. is_filled row.4.0) (receiver_moves (full g)) ≡ true
stays_full at_once = refl
stays_full _ = refl

kept : {T : Type 0} {s t : Share} {x : T} {m : Held T} → is_filled t ≡ true → SlotChange s t (held x) m → m ≡ held x
kept e (stays_held x) = refl
kept e _ = absurd (cc)

-- only a receiver that waits in a call that blocks may swap EMPTY in
abbrev has_no_stop : ReceiverAt → Bool
has_no_stop q = list_all (λ row. not (is_same_op (Swap EMPTY) row.0)) (receiver_moves q)

data StopsWhere : ReceiverAt → Type 0 where
  stops_waiting : StopsWhere (waits blocked)
  stops_nowhere : {q : ReceiverAt} → has_no_stop q ≡ true → StopsWhere q

where_it_stops : (q : ReceiverAt) → StopsWhere q
where_it_stops (waits blocked) = stops_waiting
where_it_stops (idle after_load) = stops_nowhere refl
where_it_stops (full at_once) = stops_nowhere refl
where_it_stops _ = stops_nowhere refl

pub stops_only : {T W : Type 0} {q : ReceiverAt} {m : Held T} {w : Held W} → ReceiverMay q (Swap EMPTY) m w
    → q ≡ waits blocked
stops_only {q} asks = by (where_it_stops q) asks
  where
    by : {T W : Type 0} {q : ReceiverAt} {m : Held T} {w : Held W} → StopsWhere q → ReceiverMay q (Swap EMPTY) m w
        → q ≡ waits blocked
    by stops_waiting asks = refl
    by {q} (stops_nowhere none) (may row _ _) =
        absurd (true≢false (sym (each_passes (λ row. not (is_same_op (Swap EMPTY) row.0)) (receiver_moves q) none row)))

module _ {T W : Type 0} where
  -- the end's phase and slots
  pub record SenderIs (s : Plain T W) (p : SenderAt) (m : Held T) (w : Held W) : Type 0 where
    pub at : sender_at s.log ≡ p
    pub message : s.message ≡ m
    pub waker : s.waker ≡ w

  pub record ReceiverIs (s : Plain T W) (q : ReceiverAt) (m : Held T) (w : Held W) : Type 0 where
    pub at : receiver_at s.log ≡ q
    pub message : s.message ≡ m
    pub waker : s.waker ≡ w

  pub sender_can : {s : Plain T W} {p : SenderAt} {m : Held T} {w : Held W} (op : Op) → SenderIs s p m w
      → SenderMay p op m w → SenderCan s op
  sender_can op is asks =
      subst (λ (z : SenderAt × Held T × Held W). SenderMay z.0 op z.1 z.2)
      (λ i. (sym is.at i, sym is.message i, sym is.waker i)) asks

  pub receiver_can : {s : Plain T W} {q : ReceiverAt} {m : Held T} {w : Held W} (op : Op) → ReceiverIs s q m w
      → ReceiverMay q op m w → ReceiverCan s op
  receiver_can op is asks =
      subst (λ (z : ReceiverAt × Held T × Held W). ReceiverMay z.0 op z.1 z.2)
      (λ i. (sym is.at i, sym is.message i, sym is.waker i)) asks

  -- what the end found
  pub sender_told : {s t : Plain T W} {p : SenderAt} {m : Held T} {w : Held W} (op : Op) (word : ℕ) {found : ℕ}
      → SenderIs s p m w → SenderDid s op found t → found ≡ word → SenderFinds p op word m w t.message t.waker
  sender_told {t} op word is did same =
      subst (λ (z : SenderAt × Held T × Held W × ℕ). SenderFinds z.0 op z.3 z.1 z.2 t.message t.waker)
      (λ i. (is.at i, is.message i, is.waker i, same i)) did.finds

  pub receiver_told : {s t : Plain T W} {q : ReceiverAt} {m : Held T} {w : Held W} (op : Op) (word : ℕ) {found : ℕ}
      → ReceiverIs s q m w → ReceiverDid s op found t → found ≡ word → ReceiverFinds q op word m w t.message t.waker
  receiver_told {t} op word is did same =
      subst (λ (z : ReceiverAt × Held T × Held W × ℕ). ReceiverFinds z.0 op z.3 z.1 z.2 t.message t.waker)
      (λ i. (is.at i, is.message i, is.waker i, same i)) did.finds

  -- and its phase then
  pub sender_went : {s t : Plain T W} {p : SenderAt} {m : Held T} {w : Held W} (op : Op) (word : ℕ) {found : ℕ}
      → SenderIs s p m w → SenderDid s op found t → found ≡ word → sender_at t.log ≡ sender_next p op (saw op word)
  sender_went {s} op word {found} is did same =
      ap sender_at did.list ∙ phase_from-snoc sender_next fresh s.log (op, saw op found)
      ∙ (λ i. sender_next (is.at i) op (saw op (same i)))

  pub receiver_went : {s t : Plain T W} {q : ReceiverAt} {m : Held T} {w : Held W} (op : Op) (word : ℕ) {found : ℕ}
      → ReceiverIs s q m w → ReceiverDid s op found t → found ≡ word
      → receiver_at t.log ≡ receiver_next q op (saw op word)
  receiver_went {s} op word {found} is did same =
      ap receiver_at did.list ∙ phase_from-snoc receiver_next untouched s.log (op, saw op found)
      ∙ (λ i. receiver_next (is.at i) op (saw op (same i)))

  -- its phase, with whatever slots it has
  pub sender_is : {p : SenderAt} (s : Plain T W) → sender_at s.log ≡ p → SenderIs s p s.message s.waker
  sender_is s at = record { at = at; message = refl; waker = refl }

  pub receiver_is : {q : ReceiverAt} (s : Plain T W) → receiver_at s.log ≡ q → ReceiverIs s q s.message s.waker
  receiver_is s at = record { at = at; message = refl; waker = refl }

  -- the same end with something else in the waker's slot
  pub sender_changed : {p : SenderAt} {m : Held T} {w : Held W} (s t : Plain T W) (w' : Held W) → SenderIs s p m w
      → t ≡ record s { waker = w' } → SenderIs t p m w'
  sender_changed s t w' is e =
      record {
        at = ap (λ (s : Plain T W). sender_at s.log) e ∙ is.at;
        message = ap (λ (s : Plain T W). s.message) e ∙ is.message;
        waker = ap (λ (s : Plain T W). s.waker) e;
      }

  pub receiver_changed : {q : ReceiverAt} {m : Held T} {w : Held W} (s t : Plain T W) (w' : Held W) → ReceiverIs s q m w
      → t ≡ record s { waker = w' } → ReceiverIs t q m w'
  receiver_changed s t w' is e =
      record {
        at = ap (λ (s : Plain T W). receiver_at s.log) e ∙ is.at;
        message = ap (λ (s : Plain T W). s.message) e ∙ is.message;
        waker = ap (λ (s : Plain T W). s.waker) e;
      }

  -- a sender that has performed no operation has no waker
  no_waker_yet : {m : Held T} {w : Held W} → SenderOwns fresh m w → w ≡ away
  no_waker_yet (owns own not_its_own) = refl

  pub begins_fresh : (s : Plain T W) {m : Held T} → sender_at s.log ≡ fresh → s.message ≡ m
      → SenderOwns (sender_at s.log) s.message s.waker → SenderIs s fresh m away
  begins_fresh s at message its =
      record { at = at; message = message; waker = no_waker_yet (subst (λ p. SenderOwns p s.message s.waker) at its) }

  -- a sender that finds RECEIVING has the receiver's waker
  found_waker : {op : Op} {m m' : Held T} {w : Held W} → SenderFinds fresh op 0 m away m' w
      → (m' ≡ m) × (k : W) × (w ≡ held k)
  found_waker (finds (tail head) (stays_held x) (gets_thing k)) = (refl, k, refl)
  found_waker (finds (tail (tail (tail (tail head)))) stays_vacant (gets_thing k)) = (refl, k, refl)
  found_waker (finds (tail (tail (tail (tail (tail (tail there)))))) _ _) = elim there [ ]

  pub finds_waker : {s t : Plain T W} {m : Held T} {found : ℕ} (op : Op) → SenderIs s fresh m away
      → SenderDid s op found t → found ≡ RECEIVING
      → (k : W) × SenderIs t (sender_next fresh op (saw op RECEIVING)) m (held k)
  finds_waker op is did same =
      let it = found_waker (sender_told op RECEIVING is did same) in
      (it.1, record { at = sender_went op RECEIVING is did same; message = it.0; waker = it.2 })

  -- a receiver that has the message may close, and keeps it
  pub closes : (g : Got) (x : T) → ReceiverMay {W = W} (full g) (Store DISCONNECTED) (held x) vacant
  closes at_once x = may head (is_held x) is_vacant
  closes _ x = may head (is_held x) is_vacant

  pub keeps_message : {g : Got} {found : ℕ} {x : T} {m : Held T} {w : Held W}
      → ReceiverFinds (full g) (Store DISCONNECTED) found (held x) vacant m w → m ≡ held x
  keeps_message {g} (finds row changes _) =
      kept (each_passes (λ row. is_filled row.4.0) (receiver_moves (full g)) (stays_full g) row) changes
