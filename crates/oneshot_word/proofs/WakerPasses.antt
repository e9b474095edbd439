-- The waker that has passed after an operation: the receiver gave it, and it is at home or the sender took it.
use Rattle.std.proofs.Common.{◌≡◌, ℕ, Bool, true, false, List, [], ◌∷◌, Option, Some, refl}
use Rattle.std.specs.Prelude.{if◌then◌else◌}
use Rattle.oneshot_machine.proofs.EachPhase.{at_each_pair}
use Rattle.oneshot_word.proofs.Names.{◌++◌, ◌||◌, not, list_all, eq-eqb, each_passes, sym, ap, ◌∙◌, subst, Op, Noted, Share, none, filled, Slots, Row, In, SenderAt, fresh, sender_owns, ReceiverAt}
use Rattle.oneshot_word.proofs.Names.{receiver_owns, receiver_moves, Held, away, vacant, held, SlotChange, stays_away, stays_vacant, stays_held, gives_room, gives_thing, gets_room}
use Rattle.oneshot_word.proofs.Names.{gets_thing, AnyWaker}
use Rattle.oneshot_word.proofs.Names.{with_waker, Home, has_slots, waker_left, waker_home, Lies, lies_out, IsPut, has_made, IsClaimed, claimed_none, claimed_it, Carried, Front, slot_vacant, slot_held}
use Rattle.oneshot_word.proofs.Names.{not_carried, carried, SeatOf, seat_of, HoldsClaimed, claims_no_slot, claims_none, claims_it, gave, took}
use Rattle.oneshot_word.proofs.WordsEqual.{is_word}
use Rattle.oneshot_word.proofs.RuleImplies.{word_between, Is, is, SenderSays, says_none, says_owes, says_last, says_late, says_overtaken}

module _ {T H K : Type 0} where
  -- a waker in the end's slot satisfies the predicate
  pub seat_fits : {kept : T → Type 0} {fits fits' : AnyWaker H K → Type 0} {front : Front} {o : Option (Bool × Bool)}
      {c : Carried T H K} {m : Held T} {w : Held (AnyWaker H K)} → ((x : AnyWaker H K) → w ≡ held x → fits' x)
      → SeatOf kept fits front o c m w → SeatOf kept fits' front o c m w
  seat_fits so (seat_of message not_carried) = seat_of message not_carried
  seat_fits so (seat_of message (carried slot_vacant)) = seat_of message (carried slot_vacant)
  seat_fits so (seat_of message (carried (slot_held x k))) = seat_of message (carried (slot_held x (so x refl)))

  pub fits_so : {kept : T → Type 0} {fits : AnyWaker H K → Type 0} {front : Front} {o : Option (Bool × Bool)}
      {c : Carried T H K} {m : Held T} {w : Held (AnyWaker H K)} {x : AnyWaker H K} → SeatOf kept fits front o c m w
      → w ≡ held x → fits x
  fits_so (seat_of message not_carried) so = absurd (cc so)
  fits_so (seat_of message (carried slot_vacant)) so = absurd (cc so)
  fits_so {fits} (seat_of message (carried (slot_held y k))) so = subst fits (cc so) k

  -- if the end owns the waker's slot, nothing is at home
  owned_so : {kept : T → Type 0} {fits : AnyWaker H K → Type 0} {front : Front} {o : Option (Bool × Bool)}
      {c : Carried T H K} {m : Held T} {w : Held (AnyWaker H K)} → SeatOf kept fits front o c m w → (w ≡ away → ⊥)
      → (has_slots o).1 ≡ true
  owned_so (seat_of message not_carried) its = absurd (its refl)
  owned_so (seat_of message (carried slot)) its = refl

  lies_owned : {kept kept' : AnyWaker H K → Type 0} (a b : Bool) (share : Share) {k : Home T H K} → b ≡ true
      → Lies kept with_waker (if a || b then none else share) k
      → Lies kept' with_waker (if a || b then none else share) k
  lies_owned true b share e lies_out = lies_out
  lies_owned false true share e lies_out = lies_out
  lies_owned false false share e lies = absurd (cc e)

  -- a waker at home before and after an operation of the receiver
  pub rests_as : {kept : T → Type 0} {fits : AnyWaker H K → Type 0} {front : Front} (p : SenderAt) (r : ReceiverAt)
      {c : Carried T H K} {m : Held T} (w : Held (AnyWaker H K)) {put : Option (AnyWaker H K)} {k : Home T H K}
      → SeatOf kept fits front (receiver_owns r) c m w → Lies (IsPut put) with_waker (waker_home p r) k
      → Lies (λ x. gave w away put ≡ Some x) with_waker (waker_home p r) k
  rests_as p r away seat lies = lies
  rests_as p r vacant seat lies = lies
  rests_as p r (held y) seat lies =
      lies_owned (has_slots (sender_owns p)).1 (has_slots (receiver_owns r)).1 (waker_left p r)
      (owned_so seat (λ e. cc e)) lies

  pub put_what_rests : {kept : T → Type 0} {fits : AnyWaker H K → Type 0} {front : Front} (p : SenderAt)
      (r : ReceiverAt) {c : Carried T H K} {m : Held T} (w w' : Held (AnyWaker H K)) (put : Option (AnyWaker H K))
      {k : Home T H K} → SeatOf kept fits front (receiver_owns r) c m w'
      → Lies (λ x. gave w away put ≡ Some x) with_waker (waker_home p r) k
      → Lies (IsPut (gave w w' put)) with_waker (waker_home p r) k
  put_what_rests p r w away put seat lies = lies
  put_what_rests p r w vacant put seat lies =
      lies_owned (has_slots (sender_owns p)).1 (has_slots (receiver_owns r)).1 (waker_left p r)
      (owned_so seat (λ e. cc e)) lies
  put_what_rests p r w (held y) put seat lies =
      lies_owned (has_slots (sender_owns p)).1 (has_slots (receiver_owns r)).1 (waker_left p r)
      (owned_so seat (λ e. cc e)) lies

module _ {W : Type 0} where
  -- what is in the sender's slot is what it took
  pub claims_so : {woke : Option W} {slot : Held W} {k : W} → HoldsClaimed woke slot → slot ≡ held k → woke ≡ Some k
  claims_so claims_no_slot so = absurd (cc so)
  claims_so claims_none so = absurd (cc so)
  claims_so (claims_it k) so = ap Some (cc so)

  -- the waker that the sender holds is the one put
  pub holds_put : {put woke : Option W} {xs : List Noted} {w : Held W} {x : W} → HoldsClaimed woke w
      → IsClaimed put xs woke → w ≡ held x → put ≡ Some x
  holds_put claims_no_slot claim so = absurd (cc so)
  holds_put claims_none claim so = absurd (cc so)
  holds_put (claims_it m) (claimed_it _ same made) so = same ∙ ap Some (cc so)

  -- the waker that the sender has taken after an operation, and its slot
  pub holds_claimed : {s s' : Share} {w w' : Held W} {woke : Option W} → SlotChange s s' w w' → HoldsClaimed woke w
      → HoldsClaimed (took w w' woke) w'
  holds_claimed stays_away holds = claims_no_slot
  holds_claimed stays_vacant holds = claims_none
  holds_claimed (stays_held x) (claims_it _) = claims_it x
  holds_claimed gives_room holds = claims_no_slot
  holds_claimed (gives_thing x) holds = claims_no_slot
  holds_claimed gets_room holds = claims_none
  holds_claimed (gets_thing x) holds = claims_it x

  -- what the sender has taken after an operation of its own
  claims_on : {put woke : Option W} {xs xs' : List Noted} → IsClaimed put xs woke → has_made xs' ≡ true
      → IsClaimed put xs' woke
  claims_on claimed_none made = claimed_none
  claims_on (claimed_it k same _) made = claimed_it k same made

  pub claims_put : {s s' : Share} {w w' : Held W} {put woke : Option W} {xs xs' : List Noted} → SlotChange s s' w w'
      → IsClaimed put xs woke → has_made xs' ≡ true → ((x : W) → w' ≡ held x → put ≡ Some x)
      → IsClaimed put xs' (took w w' woke)
  claims_put (gets_thing x) claim made gets = claimed_it x (gets x refl) made
  claims_put _ claim made gets = claims_on claim made

  -- and after an operation of the receiver, which gives a waker only to a sender that has made none
  pub still_claimed : {s s' : Share} {w w' : Held W} {put woke : Option W} {xs : List Noted} → SlotChange s s' w w'
      → IsClaimed put xs woke → (s ≡ filled → s' ≡ none → has_made xs ≡ false) → IsClaimed (gave w w' put) xs woke
  still_claimed (gives_thing x) claimed_none none_made = claimed_none
  still_claimed (gives_thing x) (claimed_it k same made) none_made =
      let e = sym made ∙ none_made refl refl in absurd (cc e)
  still_claimed _ claim none_made = claim

  -- a waker that an end gets is the one noted
  pub gets_taken : {w w' : Held W} (woke : Option W) (k : W) → w ≡ away → w' ≡ held k → took w w' woke ≡ Some k
  gets_taken woke k from to = λ i. took (from i) (to i) woke

  pub gets_put : {w : Held W} (w' : Held W) (put : Option W) (k : W) → w ≡ away → gave w away put ≡ Some k
      → gave w w' put ≡ Some k
  gets_put w' put k from put_so =
      (λ i. gave (from i) w' put) ∙ (λ i. gave (sym from i) away put) ∙ put_so

-- whether an end puts what it has into a slot, or gets what is there
abbrev pub is_put : Share → Share → Bool
is_put filled none = true
is_put _ _ = false

abbrev pub is_got : Share → Share → Bool
is_got none filled = true
is_got _ _ = false

-- Only to a sender that has made no operation does the receiver give a waker: computed for each row.

abbrev is_fresh : SenderAt → Bool
is_fresh fresh = true
is_fresh _ = false

abbrev puts_alone : SenderAt → ReceiverAt → Row ReceiverAt → Bool
puts_alone p q row =
    if is_put row.1.1 row.4.1 then is_fresh p || not (is_word (word_between p q) (Some row.2)) else true

said_none : {xs : List Noted} {p : SenderAt} → SenderSays xs p → is_fresh p ≡ true → has_made xs ≡ false
said_none says_none e = refl
said_none (says_owes by found) e = absurd (cc e)
said_none (says_last by made) e = absurd (cc e)
said_none (says_late by made) e = absurd (cc e)
said_none (says_overtaken by made) e = absurd (cc e)

is_found : {o : Option ℕ} {word : ℕ} → Is o word → is_word o (Some word) ≡ true
is_found {word} is = eq-eqb word word refl

fresh_so : (fresh_p found : Bool) → found ≡ true → (fresh_p || not found) ≡ true → fresh_p ≡ true
fresh_so true found so e = refl
fresh_so false true so e = absurd (cc e)
fresh_so false false so e = absurd (cc so)

puts_so : (fresh_p found : Bool) (s s' : Share) → s ≡ filled → s' ≡ none → found ≡ true
    → (if is_put s s' then fresh_p || not found else true) ≡ true → fresh_p ≡ true
puts_so fresh_p found filled none from to so e = fresh_so fresh_p found so e
puts_so fresh_p found filled _ from to so e = absurd (cc to)
puts_so fresh_p found _ s' from to so e = absurd (cc from)

pub none_made : {xs : List Noted} (p : SenderAt) (q : ReceiverAt) {next : ReceiverAt} {op : Op} {before after : Slots}
    {word : ℕ} → SenderSays xs p → Is (word_between p q) word → In (op, before, word, next, after) (receiver_moves q)
    → before.1 ≡ filled → after.1 ≡ none → has_made xs ≡ false
none_made p q {next} {op} {before} {after} {word} said now row from to =
    said_none said
    (puts_so (is_fresh p) (is_word (word_between p q) (Some word)) before.1 after.1 from to (is_found now)
    (each_passes (puts_alone p q) (receiver_moves q)
    (at_each_pair (λ p q. list_all (puts_alone p q) (receiver_moves q)) refl p q) row))

pub made_more : (xs : List Noted) (x : Noted) → has_made (xs ++ x ∷ []) ≡ true
made_more [] x = refl
made_more (y ∷ xs) x = refl
