-- The obligations of each call of the sender to its ground.
use Rattle.oneshot_drive.proofs.Names.{◌≡◌, ℕ, Bool, true, false, not, [], ◌∷◌, refl, sym, ◌∙◌, subst, ◌==◌, TakeWaker, Wake, Op, Swap, Add, Xor, Log, Grows, sender_of, wrote, handed, worded, By}
use Rattle.oneshot_drive.proofs.Names.{sending, dropping, SenderAt, fresh, owes, found_gone, sender_moves, Share, none, empty, filled, Slots, Held, away, vacant, held}
use Rattle.oneshot_drive.proofs.Names.{IsSlot, is_away, is_vacant}
use Rattle.oneshot_drive.proofs.Names.{is_held, SlotChange, stays_away, stays_vacant, stays_held, gives_room, gives_thing, gets_room, gets_thing, finds, SenderMay, SenderFinds}
use Rattle.oneshot_drive.proofs.Names.{and_then}
use Rattle.oneshot_drive.proofs.Names.{GroundState, StandsWith, SenderMakes, IsFresh, IsError, IsLate, is_late, Owes, LastFinds, finds_waiting, finds_overdue, finds_gone}
use Rattle.oneshot_drive.proofs.Names.{Finishes, IsOvertaken, is_in, is_room, put_in, as_before, slot_after, has_row_for, landings_of, landed, Each, each, found_so, RECEIVING, DISCONNECTED}
use Rattle.oneshot_drive.proofs.Names.{EMPTY, MESSAGE}
use Rattle.oneshot_machine.specs.Phases.{finished}
use Rattle.oneshot_drive.proofs.AfterOperations.{Lone, lone, unlisted, at_word, not_at, sender_asks, sender_lands, sender_still}

-- whether the operation is the sender's swap
abbrev pub is_swap : Op → Bool
is_swap (Swap new) = true
is_swap _ = false

-- the word that it finds, and the sender's state then
record LastEndsAt (n : ℕ) (next : SenderAt) (after : Slots) : Type 0 where
  here : Bool
  finds : LastFinds n here
  late : here ≡ false → (after.1 ≡ empty) × ¬ (after.0 ≡ none)
  given : here ≡ true → after.0 ≡ none

still_here : {n : ℕ} {next : SenderAt} → LastFinds n true → LastEndsAt n next (none, none)
still_here it = record { here = true; finds = it; late = λ e. cc; given = λ e. refl }

last_ends : (at : SenderAt) → Each LastEndsAt (landings_of is_swap (sender_moves at))
last_ends (owes sending) = (
  still_here finds_waiting,
  (
    still_here finds_overdue,
    (
      record { here = false; finds = finds_gone; late = λ e. (refl, λ e. cc); given = λ e. cc },
      tt,
    ),
  ),
)
last_ends (owes dropping) = (
  still_here finds_waiting,
  (
    still_here finds_overdue,
    (
      record { here = false; finds = finds_gone; late = λ e. (refl, λ e. cc); given = λ e. cc },
      tt,
    ),
  ),
)
last_ends _ = tt

-- a slot that is the end's before and after is unchanged
not_away : {X : Type 0} {s : Share} {h : Held X} → ¬ (s ≡ none) → IsSlot s h → ¬ (h ≡ away)
not_away own is_away e = own refl
not_away own is_vacant e = cc
not_away own (is_held x) e = cc

unmoved : {X : Type 0} {s t : Share} {h h' : Held X} → SlotChange s t h h' → ¬ (t ≡ none) → ¬ (h ≡ away) → h' ≡ h
unmoved stays_away own has = absurd (own refl)
unmoved stays_vacant own has = refl
unmoved (stays_held x) own has = refl
unmoved gives_room own has = absurd (own refl)
unmoved (gives_thing x) own has = absurd (own refl)
unmoved gets_room own has = absurd (has refl)
unmoved (gets_thing x) own has = absurd (has refl)

-- a slot that is not the end's
pub slot_left : {X : Type 0} {h : Held X} → IsSlot none h → h ≡ away
slot_left is_away = refl

-- whether the receiver is here, by the word that the swap found
here_by : {n : ℕ} {here : Bool} → LastFinds n here → here ≡ not (n == DISCONNECTED)
here_by finds_waiting = refl
here_by finds_overdue = refl
here_by finds_gone = refl

module _ {T W : Type 0} where
  -- a sender that wrote its message
  pub written : {b a : GroundState T W} (x : T) → IsFresh b → Grows b.log a.log (wrote x ∷ []) → a.message ≡ held x
      → a.waker ≡ b.waker → StandsWith sender_of fresh (filled, none) a
  written x is grows message waker =
      record {
        phase = sender_still (wrote x ∷ []) refl grows
            ∙ is.phase;
        message = put_in x message;
        waker = as_before is.waker waker;
      }

  module _ {slots : Slots} {b a : GroundState T W} (n : ℕ) (is : StandsWith sender_of fresh slots b) where
    -- it found the receiver, which has its message then; or a waiting receiver; or none
    pub added_here : n ≡ EMPTY → SenderMakes Add n b a → Grows b.log a.log (worded Add n ∷ [])
        → Lone sender_of n a (EMPTY, finished sending, (none, none))
    added_here e made grows = lone (at_word EMPTY e (sender_lands b Add n is.phase made grows))

    pub added_waiting : n ≡ RECEIVING → SenderMakes Add n b a → Grows b.log a.log (worded Add n ∷ [])
        → Lone sender_of n a (RECEIVING, owes sending, (filled, filled))
    added_waiting e made grows = lone (at_word RECEIVING e (sender_lands b Add n is.phase made grows))

    pub added : n ≡ DISCONNECTED → SenderMakes Add n b a → Grows b.log a.log (worded Add n ∷ [])
        → Lone sender_of n a (DISCONNECTED, found_gone sending, (filled, empty))
    added e made grows = lone (at_word DISCONNECTED e (sender_lands b Add n is.phase made grows))

    pub xored : n ≡ DISCONNECTED → SenderMakes Xor n b a → Grows b.log a.log (worded Xor n ∷ [])
        → Lone sender_of n a (DISCONNECTED, found_gone dropping, (empty, empty))
    xored e made grows = lone (at_word DISCONNECTED e (sender_lands b Xor n is.phase made grows))

    -- it found no other word
    module _ {X : Type 0} (not_3 : ¬ (n ≡ EMPTY)) (not_0 : ¬ (n ≡ RECEIVING)) (not_2 : ¬ (n ≡ DISCONNECTED)) where
      pub added_none : SenderMakes Add n b a → Grows b.log a.log (worded Add n ∷ []) → X
      added_none made grows =
          unlisted (not_at DISCONNECTED not_2
          (not_at RECEIVING not_0 (not_at EMPTY not_3 (sender_lands b Add n is.phase made grows))))

      pub xored_none : SenderMakes Xor n b a → Grows b.log a.log (worded Xor n ∷ []) → X
      xored_none made grows =
          unlisted (not_at DISCONNECTED not_2
          (not_at RECEIVING not_0 (not_at EMPTY not_3 (sender_lands b Xor n is.phase made grows))))

    owed : {at : SenderAt} {share : Share} (word : ℕ) → ¬ (share ≡ none) → StandsWith sender_of at (share, filled) a
        → has_row_for (Swap word) (share, empty) (sender_moves at) ≡ true → Owes word a
    owed word own stands has =
        let k = is_in stands.waker in
        record {
          waker = k.0;
          has_waker = k.1;
          has_slot = not_away own stands.message;
          asks = sender_asks {s = record { log = a.log; message = a.message; waker = vacant }} (Swap word)
              (record { phase = stands.phase; message = stands.message; waker = is_vacant }) has;
        }

    pub send_owes : n ≡ RECEIVING → SenderMakes Add n b a → Grows b.log a.log (worded Add n ∷ []) → Owes MESSAGE a
    send_owes e made grows = owed MESSAGE (λ e. cc) (added_waiting e made grows).stands refl

    pub drop_owes : n ≡ RECEIVING → SenderMakes Xor n b a → Grows b.log a.log (worded Xor n ∷ []) → Owes DISCONNECTED a
    drop_owes e made grows =
        owed DISCONNECTED (λ e. cc) (lone (at_word RECEIVING e (sender_lands b Xor n is.phase made grows))).stands refl

    -- its slot is still empty
    pub xored_room : n ≡ RECEIVING → SenderMakes Xor n b a → Grows b.log a.log (worded Xor n ∷ [])
        → a.message ≡ vacant
    xored_room e made grows =
        is_room (lone (at_word RECEIVING e (sender_lands b Xor n is.phase made grows))).stands.message

  -- a refused `send`
  pub refused_error : {by : By} {a : GroundState T W} (x : T) → StandsWith sender_of (found_gone by) (filled, empty) a
      → a.message ≡ held x → IsError (held x) a
  refused_error x stands message = record { keeps = message; no_waker = is_room stands.waker }

  pub overtaken_error : {b a : GroundState T W} {x : T} → IsOvertaken b a → b.message ≡ held x → IsError (held x) a
  overtaken_error over message = record { keeps = over.message ∙ message; no_waker = over.waker }

  pub is_too_late : {by : By} {slots : Slots} {a : GroundState T W} → StandsWith sender_of (found_gone by) slots a
      → IsLate (sender_of a.log)
  is_too_late {by} stands = subst IsLate (sym stands.phase) (is_late by)

  -- the last word to a waiting receiver
  module _ {b : GroundState T W} {k : Log T W} {m : Held T} {w : Held W} {word : ℕ} (y : W) (is : Owes word b)
      (s : Grows b.log k (handed TakeWaker y ∷ [])) (message : m ≡ b.message) (waker : w ≡ vacant) where
    pub finish_asks : SenderMay (sender_of k) (Swap word) m w
    finish_asks =
        subst (λ (z : SenderAt × Held T × Held W). SenderMay z.0 (Swap word) z.1 z.2)
        (λ i. (sym (sender_still (handed TakeWaker y ∷ []) refl s) i, sym message i, sym waker i)) is.asks

    pub finished_as : {m' : Held T} {w' : Held W} {j z : Log T W} {woken : W → Type 0} (n : ℕ)
        → SenderFinds (sender_of k) (Swap word) n m w m' w' → Grows k j (worded (Swap word) n ∷ [])
        → Grows j z (handed Wake y ∷ []) → woken y → Finishes word (not (n == DISCONNECTED)) woken b.log z
    finished_as n made t u woke =
        let ends = (found_so is_swap LastEndsAt refl (last_ends (sender_of k)) made).is_so in
        record {
          found = n;
          finds = subst (LastFinds n) (here_by ends.finds) ends.finds;
          waker = y;
          woke = woke;
          grows = and_then (handed TakeWaker y ∷ []) _ s (and_then (worded (Swap word) n ∷ []) _ t u);
        }

  -- where that found the receiver gone
  late_slots : {at : SenderAt} {new n : ℕ} {m m' : Held T} {w w' : Held W} → SenderFinds at (Swap new) n m w m' w'
      → not (n == DISCONNECTED) ≡ false → ¬ (m ≡ away) → (m' ≡ m) × (w' ≡ vacant)
  late_slots {at} {w'} (finds row message waker) e has =
      let ends =
      each LastEndsAt (landings_of is_swap (sender_moves at)) (last_ends at)
      (landed is_swap (sender_moves at) refl row) in
      let late = ends.late (here_by ends.finds ∙ e) in
      (unmoved message late.1 has, is_room (subst (λ s. IsSlot s w') late.0 (slot_after waker)))

  -- where it found the receiver, it gave its message
  pub given_over : {at : SenderAt} {new n : ℕ} {m m' : Held T} {w w' : Held W} → SenderFinds at (Swap new) n m w m' w'
      → not (n == DISCONNECTED) ≡ true → m' ≡ away
  given_over {at} {m'} (finds row message waker) e =
      let ends =
      each LastEndsAt (landings_of is_swap (sender_moves at)) (last_ends at)
      (landed is_swap (sender_moves at) refl row) in
      slot_left (subst (λ s. IsSlot s m') (ends.given (here_by ends.finds ∙ e)) (slot_after message))

  pub overtaken_as : {b z : GroundState T W} {at : SenderAt} {word : ℕ} {m m' : Held T} {w w' : Held W} → Owes word b
      → m ≡ b.message → (n : ℕ) → SenderFinds at (Swap word) n m w m' w' → z.message ≡ m' → z.waker ≡ w'
      → not (n == DISCONNECTED) ≡ false → IsOvertaken b z
  overtaken_as is message n made kept waker e =
      let late = late_slots made e (λ gone. is.has_slot (sym message ∙ gone)) in
      record { message = kept ∙ late.0 ∙ message; waker = waker ∙ late.1 }
