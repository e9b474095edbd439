-- The table begins under its rule, and its first seat is split into those of both ends.
use Rattle.std.proofs.Common.{◌≡◌, ℕ, List, [], ◌∷◌, None, refl}
use Rattle.oneshot_word.proofs.Names.{◌++◌, get_or, set, sym, subst, Me, Act, takes, Valid, Allows, Splits, homes_after, carried_after, nothing_made, Maker, MakerWithSlot, Slot}
use Rattle.oneshot_word.proofs.Names.{Empty, View, Home, lies_out}
use Rattle.oneshot_word.proofs.Names.{lies_bare, took_none, claimed_none, Tied, slot_taken, runs, view, slot_vacant, carried, not_carried, seat_of}
use Rattle.oneshot_word.proofs.Names.{gave_none, holds_no_slot, claims_no_slot, SenderSeat}
use Rattle.oneshot_word.proofs.Names.{ReceiverSeat, EMPTY}
use Rattle.oneshot_word.specs.declared.rule.Role.TheVariants.{Sender, Receiver}
use Rattle.oneshot_word.proofs.SeatShows.{Sits, maker_sits, maker_with_slot_sits, sits}
use Rattle.oneshot_word.proofs.EachStep.{Holds}

abbrev pub seat_with_slot : {T H K P : Type 0} → P → Me (Slot T H K) (View T H K P)
seat_with_slot about = (view about MakerWithSlot [] None None, (0, Empty) ∷ [])

module _ {T H K P : Type 0} (keeps : P → T → Type 0) (q : P) where
  -- the maker takes the message's slot
  has_taken_slot : {ws : List ℕ} {hs : List (Home T H K)} {vs : List (View T H K P)} {id : ℕ}
      → Sits keeps q ws hs vs id Maker [] None None
      → (v : View T H K P) × (a : Act (Slot T H K)) × Valid hs [] a
      × Tied keeps q (set ws 0 (get_or ws 0 0)) (homes_after hs [] a) (set vs id v)
      × ((v, carried_after [] a) ≡ seat_with_slot q)
  has_taken_slot maker_sits = (view q MakerWithSlot [] None None, takes 0 Empty, refl, slot_taken, refl)

  pub deal_allowed : (slots id : ℕ) (me : Me (Slot T H K) (View T H K P)) → me ≡ (view q Maker [] None None, [])
      → Allows (Holds keeps q) slots id me 0 (λ n. n) (λ r n. n ≡ seat_with_slot me.0.about)
  deal_allowed slots id me it =
      subst (λ (m : Me (Slot T H K) (View T H K P)). Allows (Holds keeps q) slots id m 0 (λ n. n)
      (λ r n. n ≡ seat_with_slot m.0.about))
      (sym it) (λ s tied _ at _. has_taken_slot (sits tied id at))

  -- its seat is split into the sender's and the receiver's
  splits : {ws : List ℕ} {hs : List (Home T H K)} {vs : List (View T H K P)} {id : ℕ}
      → Sits keeps q ws hs vs id MakerWithSlot [] None None
      → Tied keeps q ws hs (set vs id (view q Sender [] None None) ++ view q Receiver [] None None ∷ [])
  splits maker_with_slot_sits = runs [] [] nothing_made lies_out lies_bare took_none claimed_none

  pub split_allowed : (id : ℕ) (v : View T H K P) → v ≡ view q MakerWithSlot [] None None
      → Splits (Holds {T = T} {H = H} {K = K} keeps q) id v (view v.about Sender [] None None)
      (view v.about Receiver [] None None)
  split_allowed id v it =
      subst (λ (v : View T H K P). Splits (Holds {T = T} {H = H} {K = K} keeps q) id v
      (view v.about Sender [] None None)
      (view v.about Receiver [] None None))
      (sym it) (λ s tied at. splits (sits tied id at))

  pub sender_seated : SenderSeat {T = T} {H = H} {K = K} keeps (view q Sender [] None None, (0, Empty) ∷ [])
  sender_seated =
      record {
        role = refl;
        has = seat_of (carried slot_vacant) not_carried;
        passed = gave_none;
        handed = claims_no_slot;
        ordered = ([], EMPTY, nothing_made);
      }

  pub receiver_seated : ReceiverSeat {T = T} {H = H} {K = K} keeps (view q Receiver [] None None, [])
  receiver_seated =
      record {
        role = refl;
        has = seat_of not_carried not_carried;
        passed = holds_no_slot;
        handed = tt;
        ordered = ([], EMPTY, nothing_made);
      }
