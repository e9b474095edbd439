-- What happens to a slot during an operation, and the act on the table that does it.
use Rattle.std.proofs.Common.{◌≡◌, ℕ, Bool, true, false, [], ◌∷◌, refl}
use mathlib.Core.Option as maybe
use Rattle.atomic_table.specs.Table.{keeps}
use Rattle.oneshot_word.proofs.Names.{Act, takes, gives, chain, Valid, homes_after, carried_after, Share, none, empty, filled, Held, away, vacant, held, IsSlot, is_away, is_vacant}
use Rattle.oneshot_word.proofs.Names.{is_held, SlotChange}
use Rattle.oneshot_word.proofs.Names.{stays_away, stays_vacant, stays_held, gives_room, gives_thing, gets_room, gets_thing, Slot, Empty, Carried, slot_vacant, slot_held, Part, not_carried, carried}
use Rattle.oneshot_word.proofs.Names.{Front, message_first, waker_first, carried_as, Home, out, Lies, lies_out, lies_bare, lies_filled, is_same_share}

-- whether an end has a slot with this share
abbrev pub is_owned : Share → Bool
is_owned none = false
is_owned empty = true
is_owned filled = true

-- A slot during an operation of an end: whether the end has it before, and after. It stays at home or with
-- the seat, or goes from one to the other.
pub data Goes {T H K : Type 0} (place : ℕ) : Bool → Bool → Home T H K → Home T H K → Carried T H K → Carried T H K
    → Type 0 where
  stays_there : {h : Home T H K} → Goes place false false h h [] []
  stays_here : {h : Home T H K} {s : Slot T H K} → Goes place true true h h ((place, s) ∷ []) ((place, s) ∷ [])
  goes_home : {s : Slot T H K} → Goes place true false out (maybe.some s) ((place, s) ∷ []) []
  comes : {s : Slot T H K} → Goes place false true (maybe.some s) out [] ((place, s) ∷ [])

-- whether a slot can change so: the seat's shares of it before and after, then the table's after and before
abbrev pub is_change : Share → Share → Share → Share → Bool
is_change none none there' there = is_same_share there there'
is_change empty empty none none = true
is_change filled filled none none = true
is_change empty none empty none = true
is_change filled none filled none = true
is_change none empty none empty = true
is_change none filled none filled = true
is_change _ _ _ _ = false

module _ {T H K X : Type 0} (kept : X → Type 0) (place : ℕ) (put : X → Slot T H K) where
  -- what a seat carries of a slot in which it has this share
  pub data Carries : Share → Carried T H K → Held X → Type 0 where
    carries_none : Carries none [] away
    carries_empty : Carries empty ((place, Empty) ∷ []) vacant
    carries_filled : (x : X) → kept x → Carries filled ((place, put x) ∷ []) (held x)

  pub carries : {s : Share} {b : Bool} {c : Carried T H K} {x : Held X} → IsSlot s x → Part kept place put b c x
      → Carries s c x
  carries is_away not_carried = carries_none
  carries is_away (carried slot) = elim slot [ ]
  carries is_vacant (carried slot_vacant) = carries_empty
  carries (is_held x) (carried (slot_held _ k)) = carries_filled x k

  pub data Moved (s s' there' : Share) (h : Home T H K) (c : Carried T H K) (x : Held X) : Type 0 where
    moved : {h' : Home T H K} {c' : Carried T H K} {x' : Held X} → SlotChange s s' x x'
        → Goes place (is_owned s) (is_owned s') h h' c c' → Part kept place put (is_owned s') c' x'
        → Lies kept put there' h' → Moved s s' there' h c x

  pub goes : {s there : Share} {h : Home T H K} {c : Carried T H K} {x : Held X} → Carries s c x → (s' there' : Share)
      → Lies kept put there h → is_change s s' there' there ≡ true → Moved s s' there' h c x
  goes carries_none none none lies_out e = moved stays_away stays_there not_carried lies_out
  goes carries_none none empty lies_bare e = moved stays_away stays_there not_carried lies_bare
  goes carries_none none filled (lies_filled x k) e = moved stays_away stays_there not_carried (lies_filled x k)
  goes carries_empty empty none lies_out e = moved stays_vacant stays_here (carried slot_vacant) lies_out
  goes (carries_filled x k) filled none lies_out e = moved (stays_held x) stays_here (carried (slot_held x k)) lies_out
  goes carries_empty none empty lies_out e = moved gives_room goes_home not_carried lies_bare
  goes (carries_filled x k) none filled lies_out e = moved (gives_thing x) goes_home not_carried (lies_filled x k)
  goes carries_none empty none lies_bare e = moved gets_room comes (carried slot_vacant) lies_out
  goes carries_none filled none (lies_filled x k) e = moved (gets_thing x) comes (carried (slot_held x k)) lies_out
  goes _ _ _ _ e = absurd (cc)

-- the changes of who has the message's slot and the waker's for which a seat has an act
abbrev pub is_act : Front → Bool → Bool → Bool → Bool → Bool
is_act waker_first true false false false = true
is_act waker_first true true false true = true
is_act waker_first true false true false = true
is_act waker_first true true true true = true
is_act message_first false false false false = true
is_act message_first false false true true = true
is_act message_first true true true true = true
is_act message_first false false false true = true
is_act message_first false true false true = true
is_act message_first false true true true = true
is_act message_first false false true false = true
is_act _ _ _ _ _ = false

module _ {T H K : Type 0} where
  pub data Acts (h h' k k' : Home T H K) (c c' : Carried T H K) : Type 0 where
    acts : (act : Act (Slot T H K)) → Valid (h ∷ k ∷ []) c act → homes_after (h ∷ k ∷ []) c act ≡ h' ∷ k' ∷ []
        → carried_after c act ≡ c' → Acts h h' k k' c c'

  pub both : (front : Front) {m m' w w' : Bool} {h h' k k' : Home T H K} {cm cm' cw cw' : Carried T H K}
      → is_act front m m' w w' ≡ true → Goes 0 m m' h h' cm cm' → Goes 1 w w' k k' cw cw'
      → Acts h h' k k' (carried_as front cm cw) (carried_as front cm' cw')
  both waker_first e goes_home stays_there = acts gives tt refl refl
  both waker_first e stays_here (comes {s}) = acts (takes 1 s) refl refl refl
  both waker_first e goes_home goes_home = acts (chain gives gives) (tt, tt) refl refl
  both waker_first e stays_here stays_here = acts keeps tt refl refl
  both message_first e stays_there stays_there = acts keeps tt refl refl
  both message_first e stays_there stays_here = acts keeps tt refl refl
  both message_first e stays_here stays_here = acts keeps tt refl refl
  both message_first e stays_there (comes {s}) = acts (takes 1 s) refl refl refl
  both message_first e (comes {s}) (comes {s = t}) = acts (chain (takes 1 t) (takes 0 s)) (refl, refl) refl refl
  both message_first e (comes {s}) stays_here = acts (takes 0 s) refl refl refl
  both message_first e stays_there goes_home = acts gives tt refl refl
  both _ e _ _ = absurd (cc)
