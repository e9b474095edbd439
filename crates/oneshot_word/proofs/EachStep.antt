-- Each operation of an end keeps the rule, and gives the end what it found.
use Rattle.std.proofs.Common.{◌≡◌, ℕ, Bool, Option, Some, None, List, [], ◌∷◌, refl}
use mathlib.Core.Option as maybe
use Rattle.oneshot_machine.specs.TableRows.{is_same_seen}
use Rattle.oneshot_word.proofs.Names.{Word, ◌++◌, get_or, set, sym, ◌∙◌, subst, State, Me, Act, Valid, Allows, homes_after, carried_after, Op, Noted, saw, Reaches, fresh, sender_at, sender_owns}
use Rattle.oneshot_word.proofs.Names.{sender_next, sender_moves, untouched, receiver_at, receiver_owns, receiver_next, receiver_moves, Held, away, SenderMay}
use Rattle.oneshot_word.proofs.Names.{ReceiverMay, Finds, finds, phase_from-snoc}
use Rattle.oneshot_word.proofs.Names.{AnyWaker, Slot, Message, View, IsPut, IsClaimed, Home, message_home, waker_home, Lies, IsGiven, IsTaken, Tied, runs, view, any, unsaid, with_waker, message_in}
use Rattle.oneshot_word.proofs.Names.{waker_in, Front, waker_first, message_first, SeatOf, GivesOnce, HoldsTaken, HoldsClaimed, gave, took, SenderSeat, ReceiverSeat, SenderStepped, ReceiverStepped}
use Rattle.oneshot_word.proofs.Names.{MESSAGE}
use Rattle.oneshot_word.specs.declared.rule.Role.TheVariants.{Sender, Receiver}
use Rattle.oneshot_word.proofs.SeatShows.{Sits, sender_sits, receiver_sits, sits, knows}
use Rattle.oneshot_word.proofs.KeptRows.{stepped}
use Rattle.oneshot_word.proofs.RuleKept.{has_acted, sender_acts, receiver_acts}
use Rattle.oneshot_word.proofs.Between.{between, sender_told, sender_reaches, receiver_reaches}
use Rattle.oneshot_word.proofs.SlotReads.{as_read, as_seat, reads}
use Rattle.oneshot_word.proofs.RuleImplies.{meet}
use Rattle.oneshot_word.proofs.WakerPasses.{seat_fits, fits_so, rests_as, put_what_rests, holds_put, holds_claimed, claims_put, still_claimed, gets_taken, gets_put, none_made, made_more}
use Rattle.oneshot_word.proofs.MessagePasses.{lies_as, seat_as, seat_keeps, gave_no, Offers, gave_what_lies, gives_once, none_taken, holds_given, holds_taken, takes_given, keeps_its_slot, stays_taken}
use Rattle.oneshot_word.proofs.MessagePasses.{finds_it_so, takes_as_found}

module _ {T H K P : Type 0} (keeps : P → T → Type 0) (q : P) where
  abbrev pub Holds : State (Slot T H K) (View T H K P) → Type 0
  Holds s = Tied keeps q s.words s.homes s.views

  -- the rule after one more operation, if the slots are as the next phase has them
  module _ {xs ys : List Noted} {given taken : Option T} {put woke : Option (AnyWaker H K)} {op : Op} {word : ℕ}
      {h k : Home T H K} {m m' : Held T} {w w' : Held (AnyWaker H K)} where
    sender_runs : Reaches xs ys word → Finds sender_moves (sender_at xs) op word m w m' w'
        → Lies (IsGiven keeps q given) Message
        (message_home (sender_next (sender_at xs) op (saw op word)) (receiver_at ys)) h
        → Lies (IsPut put) with_waker (waker_home (sender_next (sender_at xs) op (saw op word)) (receiver_at ys)) k
        → IsTaken given taken → IsClaimed put (xs ++ (op, saw op word) ∷ []) woke
        → Tied keeps q (stepped op word ∷ []) (h ∷ k ∷ [])
        (view q Sender (xs ++ (op, saw op word) ∷ []) given woke ∷ view q Receiver ys taken put ∷ [])
    sender_runs order found lies lies' same claimed =
        let after = sym (phase_from-snoc sender_next fresh xs (op, saw op word)) in
        runs (xs ++ (op, saw op word) ∷ []) ys (sender_reaches order found)
        (subst (λ p. Lies (IsGiven keeps q given) Message (message_home p (receiver_at ys)) h) after lies)
        (subst (λ p. Lies (IsPut put) with_waker (waker_home p (receiver_at ys)) k) after lies') same claimed

    receiver_runs : Reaches xs ys word → Finds receiver_moves (receiver_at ys) op word m w m' w'
        → Lies (IsGiven keeps q given) Message
        (message_home (sender_at xs) (receiver_next (receiver_at ys) op (saw op word))) h
        → Lies (IsPut put) with_waker (waker_home (sender_at xs) (receiver_next (receiver_at ys) op (saw op word))) k
        → IsTaken given taken → IsClaimed put xs woke
        → Tied keeps q (stepped op word ∷ []) (h ∷ k ∷ [])
        (view q Sender xs given woke ∷ view q Receiver (ys ++ (op, saw op word) ∷ []) taken put ∷ [])
    receiver_runs order found lies lies' same claimed =
        let after = sym (phase_from-snoc receiver_next untouched ys (op, saw op word)) in
        runs xs (ys ++ (op, saw op word) ∷ []) (receiver_reaches order found)
        (subst (λ at. Lies (IsGiven keeps q given) Message (message_home (sender_at xs) at) h) after lies)
        (subst (λ at. Lies (IsPut put) with_waker (waker_home (sender_at xs) at) k) after lies') same claimed

  -- a seat's end may perform the operation
  abbrev SenderAsks : Me (Slot T H K) (View T H K P) → Op → Type 0
  SenderAsks me op = SenderMay (sender_at me.0.log) op (message_in me.1) (waker_in me.1)

  abbrev ReceiverAsks : Me (Slot T H K) (View T H K P) → Op → Type 0
  ReceiverAsks me op = ReceiverMay (receiver_at me.0.log) op (message_in me.1) (waker_in me.1)

  module _ (me : Me (Slot T H K) (View T H K P)) (op : Op) where
    -- what `Allows` requires of a state that was found
    abbrev Leads : (ℕ → Me (Slot T H K) (View T H K P) → Type 0) → List ℕ → List (Home T H K) → List (View T H K P) → ℕ
        → Type 0
    Leads then ws hs vs id =
        (v : View T H K P) × (a : Act (Slot T H K)) × Valid hs me.1 a
        × Tied keeps q (set ws 0 (stepped op (get_or ws 0 0))) (homes_after hs me.1 a) (set vs id v)
        × then (get_or ws 0 0) (v, carried_after me.1 a)

    -- what the seat carries, with a message that keeps its promise about this value
    abbrev Has : Front → Option (Bool × Bool) → P → Type 0
    Has front owned about = SeatOf (keeps about) any front owned me.1 (message_in me.1) (waker_in me.1)

    sender_goes : {ws : List ℕ} {hs : List (Home T H K)} {vs : List (View T H K P)} {id : ℕ} → me.0.about ≡ q
        → SenderSeat keeps me → SenderAsks me op → Sits keeps q ws hs vs id Sender me.0.log me.0.passed me.0.handed
        → Leads (SenderStepped keeps me op) ws hs vs id
    sender_goes same seat asks (sender_sits {w = found} {h} {k} ys taken put order there there' one claimed) =
        let m : Held T = message_in me.1 in
        let w : Held (AnyWaker H K) = waker_in me.1 in
        let woke : Option (AnyWaker H K) = me.0.handed in
        let has = subst (Has waker_first (sender_owns (sender_at me.0.log))) same seat.has in
        let none = gave_no (sender_at me.0.log) asks has seat.passed in
        let offers = seat_fits {fits' = IsPut put} (λ x is. holds_put seat.handed claimed is)
        (seat_as {kept' = Offers keeps q m}
        (λ x is k. (k, subst (λ m. gave m away None ≡ Some x) (sym is) refl)) has) in
        let lies = lies_as {kept' = Offers keeps q m} (λ x k. let is = sym none ∙ k.1 in absurd (cc is)) there in
        elim (sender_acts {kept = Offers keeps q m} {fits = IsPut put} {word = found} asks offers
        (meet (between order) lies there')) [
          | has_acted {h'} {k'} {m'} {w'} act valid homes word lies lies' (finds row changes changes') has code ↦
              let found_so = finds row changes changes' in
              let x : Noted = (op, saw op found) in
              let after = phase_from-snoc sender_next fresh me.0.log x in
              let xs : List Noted = me.0.log ++ x ∷ [] in (
                view q Sender xs (gave m m' None) (took w w' woke),
                act,
                valid,
                subst (λ hs. Tied keeps q (stepped op found ∷ []) hs
                    (view q Sender xs (gave m m' None) (took w w' woke) ∷ view q Receiver ys taken put ∷ []))
                    (sym homes)
                    (sender_runs order found_so
                    (gave_what_lies keeps q (sender_next (sender_at me.0.log) op (saw op found)) (receiver_at ys) m
                    has lies) lies' (none_taken (gave m m' None) one none)
                    (claims_put changes' claimed (made_more me.0.log x) (λ x is. fits_so has is))),
                record {
                  about = sym same;
                  list = refl;
                  passed = λ i. gave m (sym (reads has).0 i) (sym none i);
                  handed = λ i. took w (sym (reads has).1 i) woke;
                  gets = λ k from to. gets_taken woke k from (sym (reads has).1 ∙ to);
                  stays = λ x is. let e = sym none ∙ is in absurd (cc e);
                  takes = tt;
                  seat = as_seat {owns = λ xs. sender_owns (sender_at xs)} {Passed = GivesOnce} {Handed = HoldsClaimed}
                      refl
                      (subst (λ p. SeatOf (keeps q) any waker_first (sender_owns p) (carried_after me.1 act) m' w')
                      (sym after) (seat_fits (λ x is. tt) (seat_as (λ x is k. k.0) has))) (gives_once m m')
                      (holds_claimed changes' seat.handed)
                      (ys, _, sender_reaches order found_so);
                  code = code;
                  finds = as_read (carried_after me.1 act)
                      (λ m w. Finds sender_moves (sender_at me.0.log) op found (message_in me.1) (waker_in me.1) m w)
                      (reads has) found_so;
                },
              )
        ]

    receiver_goes : {ws : List ℕ} {hs : List (Home T H K)} {vs : List (View T H K P)} {id : ℕ} → me.0.about ≡ q
        → ReceiverSeat keeps me → ReceiverAsks me op → Sits keeps q ws hs vs id Receiver me.0.log me.0.passed
        me.0.handed
        → Leads (ReceiverStepped keeps me op) ws hs vs id
    receiver_goes same seat asks (receiver_sits {w = found} {h} {k} xs given woke order there there' one claimed) =
        let m : Held T = message_in me.1 in
        let w : Held (AnyWaker H K) = waker_in me.1 in
        let put : Option (AnyWaker H K) = me.0.handed in
        let has = subst (Has message_first (receiver_owns (receiver_at me.0.log))) same seat.has in
        let holds = seat_fits {fits' = λ x. gave w away put ≡ Some x}
        (λ x is. subst (λ w. gave w away put ≡ Some x) (sym is) refl)
        (seat_as {kept' = IsGiven keeps q given} (λ x is k. (k, holds_given seat.passed one is)) has) in
        elim (receiver_acts {kept = IsGiven keeps q given} {fits = λ x. gave w away put ≡ Some x} {word = found} asks
        holds (meet (between order) there (rests_as (sender_at xs) (receiver_at me.0.log) w has there'))) [
          | has_acted {h'} {k'} {m'} {w'} act valid homes word lies lies' (finds row changes changes') has code ↦
              let found_so = finds row changes changes' in
              let taken : Option T = took m m' me.0.passed in
              let x : Noted = (op, saw op found) in
              let after = phase_from-snoc receiver_next untouched me.0.log x in
              let ys : List Noted = me.0.log ++ x ∷ [] in (
                view q Receiver ys taken (gave w w' put),
                act,
                valid,
                subst (λ hs. Tied keeps q (stepped op found ∷ []) hs
                    (view q Sender xs given woke ∷ view q Receiver ys taken (gave w w' put) ∷ []))
                    (sym homes)
                    (receiver_runs order found_so lies
                    (put_what_rests (sender_at xs) (receiver_next (receiver_at me.0.log) op (saw op found)) w w' put has
                    lies')
                    (takes_given changes one (λ x is. (seat_keeps has is).1))
                    (still_claimed changes' claimed
                    (none_made (sender_at xs) (receiver_at me.0.log) (sender_told order) (between order) row))),
                record {
                  about = sym same;
                  list = refl;
                  passed = λ i. took m (sym (reads has).0 i) me.0.passed;
                  handed = λ i. gave w (sym (reads has).1 i) put;
                  gets = λ k from to. gets_put w' put k from (fits_so has (sym (reads has).1 ∙ to));
                  stays = stays_taken changes seat.passed;
                  takes = takes_as_found (is_same_seen (saw op found) (Word MESSAGE)) changes
                      (finds_it_so (receiver_at me.0.log) op found row) seat.passed;
                  seat = as_seat {owns = λ ys. receiver_owns (receiver_at ys)} {Passed = HoldsTaken} {Handed = unsaid}
                      refl
                      (subst (λ at. SeatOf (keeps q) any message_first (receiver_owns at) (carried_after me.1 act) m'
                      w')
                      (sym after) (seat_fits (λ x is. tt) (seat_as (λ x is k. k.0) has)))
                      (holds_taken changes (keeps_its_slot (receiver_at me.0.log) row) seat.passed) tt
                      (xs, _, receiver_reaches order found_so);
                  code = code;
                  finds = as_read (carried_after me.1 act)
                      (λ m w. Finds receiver_moves (receiver_at me.0.log) op found (message_in me.1) (waker_in me.1) m
                      w) (reads has) found_so;
                },
              )
        ]

    pub sender_allowed : (slots id : ℕ) → SenderSeat keeps me → SenderAsks me op
        → Allows Holds slots id me 0 (stepped op) (SenderStepped keeps me op)
    sender_allowed slots id seat asks s tied _ at _ =
        let same = knows tied id at in
        sender_goes same seat asks
        (sits tied id (at ∙ (λ i. maybe.some (view (same i) (seat.role i) me.0.log me.0.passed me.0.handed))))

    pub receiver_allowed : (slots id : ℕ) → ReceiverSeat keeps me → ReceiverAsks me op
        → Allows Holds slots id me 0 (stepped op) (ReceiverStepped keeps me op)
    receiver_allowed slots id seat asks s tied _ at _ =
        let same = knows tied id at in
        receiver_goes same seat asks
        (sits tied id (at ∙ (λ i. maybe.some (view (same i) (seat.role i) me.0.log me.0.passed me.0.handed))))
