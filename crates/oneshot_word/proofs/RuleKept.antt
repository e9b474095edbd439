-- Each operation of an end keeps the rule: computed for each pair of phases.
use Rattle.std.proofs.Common.{◌≡◌, ℕ, Bool, true, [], ◌∷◌, Option, Some, None, refl}
use Rattle.oneshot_word.proofs.Names.{◌≤◌, sym, subst, leb, and_parts, leb-true, Act, Valid, homes_after, carried_after, Op, saw, Slots, Row, SenderAt, sender_moves, sender_owns, sender_next}
use Rattle.oneshot_word.proofs.Names.{ReceiverAt, receiver_moves, receiver_owns, receiver_next, Held, IsSlot, In, May, may, SenderMay, ReceiverMay, Finds, finds, each_passes, AnyWaker, Slot, Message}
use Rattle.oneshot_word.proofs.Names.{with_waker, Carried, Part, message_first, waker_first, carried_as, SeatOf, seat_of, Home, Lies}
use Rattle.oneshot_machine.proofs.EachPhase.{at_each_pair}
use Rattle.oneshot_word.proofs.WordsEqual.{is_bool, bools_are}
use Rattle.oneshot_word.proofs.FoundRow.{row_of, Found, found_none, found_row, found}
use Rattle.oneshot_word.proofs.SlotMoves.{is_owned, Carries, carries, Moved, moved, goes, acts, both}
use Rattle.oneshot_word.proofs.RuleImplies.{word_between, Is, is, Meet, meet}
use Rattle.oneshot_word.proofs.KeptRows.{stepped, is_slots, OneEnd, sender_end, receiver_end, after, leaves_word, has_act, is_right, is_kept, keeps_rule, rightly, leaves_so, keeps_word}

module _ {T H K At : Type 0} (kept : T → Type 0) (fits : AnyWaker H K → Type 0) (e : OneEnd At) where
  -- what its seat carries of both slots, together
  seated : {o : Option (Bool × Bool)} (after : Slots) {cm cw : Carried T H K} {m : Held T} {w : Held (AnyWaker H K)}
      → is_slots o after ≡ true → Part kept 0 Message (is_owned after.0) cm m
      → Part fits 1 with_waker (is_owned after.1) cw w → SeatOf kept fits e.front o (carried_as e.front cm cw) m w
  seated {o = None} after owned message waker = absurd (cc)
  seated {o = Some slots} after {cm} {cw} {m} {w} owned message waker =
      let parts = and_parts (is_bool slots.0 (is_owned after.0)) (is_bool slots.1 (is_owned after.1)) owned in
      subst (λ o. SeatOf kept fits e.front (Some o) (carried_as e.front cm cw) m w)
      (λ i. (
        sym (bools_are slots.0 (is_owned after.0) parts.0) i,
        sym
            (bools_are slots.1 (is_owned after.1) parts.1) i,
      )) (seat_of message waker)

  -- what an operation of an end did: its act on the slots, and the rule after it
  pub data Acted (at : At) (op : Op) (word : ℕ) (h k : Home T H K) (c : Carried T H K) (m : Held T)
      (w : Held (AnyWaker H K)) : Type 0 where
    has_acted : {h' k' : Home T H K} {m' : Held T} {w' : Held (AnyWaker H K)} (act : Act (Slot T H K))
        → Valid (h ∷ k ∷ []) c act → homes_after (h ∷ k ∷ []) c act ≡ h' ∷ k' ∷ []
        → Is (e.word (e.next at op (saw op word))) (stepped op word)
        → Lies kept Message (e.message (e.next at op (saw op word))) h'
        → Lies fits with_waker (e.waker (e.next at op (saw op word))) k'
        → Finds e.moves at op word m w m' w'
        → SeatOf kept fits e.front (e.owns (e.next at op (saw op word))) (carried_after c act) m' w' → word ≤ 4
        → Acted at op word h k c m w

  module _ (at : At) (op : Op) (word : ℕ) {h k : Home T H K} where
    acts_by_row : {before : Slots} (slots : Slots) {at' : At} {cm cw : Carried T H K} {m : Held T}
        {w : Held (AnyWaker H K)} → word ≤ 4 → In (op, before, word, at', slots) (e.moves at)
        → leaves_word e at op before word ≡ true → is_slots (e.owns (after e at op before word)) slots ≡ true
        → has_act e at op before word slots ≡ true
        → Moved kept 0 Message before.0 slots.0 (e.message (after e at op before word)) h cm m
        → Moved fits 1 with_waker before.1 slots.1 (e.waker (after e at op before word)) k cw w
        → Acted at op word h k (carried_as e.front cm cw) m w
    acts_by_row {before} slots code there leaves owned acted (moved {x' = m'} changes moves part lies)
        (moved {x' = w'} changes' moves' part' lies') =
        let at' = e.next at op (saw op word) in
        elim (both e.front acted moves moves') [
          | acts act valid homes left ↦
              has_acted act valid homes (leaves_so e at op word before leaves) lies lies' (finds there changes changes')
              (subst (λ c. SeatOf kept fits e.front (e.owns at') c m' w') (sym left) (seated slots owned part part'))
              code
        ]

    right : {before : Slots} {o : Option Slots} {cm cw : Carried T H K} {m : Held T} {w : Held (AnyWaker H K)}
        → word ≤ 4 → Found (e.moves at) op before word o → is_right e at op before word o ≡ true
        → Carries kept 0 Message before.0 cm m → Carries fits 1 with_waker before.1 cw w
        → Lies kept Message (e.message at) h → Lies fits with_waker (e.waker at) k
        → Acted at op word h k (carried_as e.front cm cw) m w
    right code found_none rightful message waker lies lies' = absurd (cc)
    right {before} code (found_row {after = slots} there) rightful message waker lies lies' =
        let at' = e.next at op (saw op word) in
        let so = rightly e at op word before slots rightful in
        acts_by_row slots code there so.leaves so.owned so.acted
        (goes kept 0 Message message slots.0 (e.message at') lies so.of_message)
        (goes fits 1 with_waker waker slots.1 (e.waker at') lies' so.of_waker)

    acts_from : {before : Slots} {o : Option ℕ} {owns : Option (Bool × Bool)} {c : Carried T H K} {m : Held T}
        {w : Held (AnyWaker H K)} → Is o word → is_kept e at op before o ≡ true
        → IsSlot before.0 m → IsSlot before.1 w → SeatOf kept fits e.front owns c m w → Lies kept Message (e.message at)
        h
        → Lies fits with_waker (e.waker at) k → Acted at op word h k c m w
    acts_from {before} is computed message waker (seat_of part part') lies lies' =
        let parts =
        and_parts (leb word 4) (is_right e at op before word (row_of (e.moves at) op before word)) computed in
        right (leb-true word 4 parts.0) (found (e.moves at) op before word) parts.1
        (carries kept 0 Message message part) (carries fits 1 with_waker waker part') lies lies'

    acts_rightly : {c : Carried T H K} {m : Held T} {w : Held (AnyWaker H K)} → keeps_rule e at ≡ true
        → May e.moves at op m w → SeatOf kept fits e.front (e.owns at) c m w → Is (e.word at) word
        → Lies kept Message (e.message at) h → Lies fits with_waker (e.waker at) k → Acted at op word h k c m w
    acts_rightly all (may row message waker) seat number lies lies' =
        acts_from number (each_passes (λ (row : Row At). is_kept e at row.0 row.1 (e.word at)) (e.moves at) all row)
        message waker seat lies lies'

-- so at each pair of phases
sender_keeps : (p : SenderAt) (q : ReceiverAt) → keeps_rule (sender_end q) p ≡ true
sender_keeps = at_each_pair (λ p q. keeps_rule (sender_end q) p) refl

receiver_keeps : (p : SenderAt) (q : ReceiverAt) → keeps_rule (receiver_end p) q ≡ true
receiver_keeps = at_each_pair (λ p q. keeps_rule (receiver_end p) q) refl

module _ {T H K : Type 0} {kept : T → Type 0} {fits : AnyWaker H K → Type 0} {p : SenderAt} {q : ReceiverAt} {op : Op}
    {word : ℕ} {h k : Home T H K}
    {c : Carried T H K} {m : Held T} {w : Held (AnyWaker H K)} where
  pub sender_acts : SenderMay p op m w → SeatOf kept fits waker_first (sender_owns p) c m w → Meet T H K kept fits p q
      word h k
      → Acted kept fits (sender_end q) p op word h k c m w
  sender_acts asks seat (meet now lies lies') =
      acts_rightly kept fits (sender_end q) p op word (sender_keeps p q) asks seat now lies lies'

  pub receiver_acts : ReceiverMay q op m w → SeatOf kept fits message_first (receiver_owns q) c m w
      → Meet T H K kept fits p q word h k → Acted kept fits (receiver_end p) q op word h k c m w
  receiver_acts asks seat (meet now lies lies') =
      acts_rightly kept fits (receiver_end p) q op word (receiver_keeps p q) asks seat now lies lies'

module _ (p : SenderAt) (q : ReceiverAt) {op : Op} {before after : Slots} {word : ℕ} where
  pub sender_leaves : {next : SenderAt} → Is (word_between p q) word
      → In (op, before, word, next, after) (sender_moves p)
      → Is (word_between (sender_next p op (saw op word)) q) (stepped op word)
  sender_leaves = keeps_word (sender_end q) p op word (sender_keeps p q)

  pub receiver_leaves : {next : ReceiverAt} → Is (word_between p q) word
      → In (op, before, word, next, after) (receiver_moves q)
      → Is (word_between p (receiver_next q op (saw op word))) (stepped op word)
  receiver_leaves = keeps_word (receiver_end p) q op word (receiver_keeps p q)
