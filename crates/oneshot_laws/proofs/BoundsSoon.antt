-- After the sender's last operation each call of the receiver replies soon: the reader counts what it has left.
use Rattle.oneshot_laws.proofs.Names.{◌≡◌, ℕ, zero, suc, Bool, true, false, not, ◌&&◌, ◌||◌, List, [], ◌∷◌, map, Some, None, refl, ap, subst, if◌then◌else◌, End, Sender, Receiver, Classes, as_made}
use Rattle.oneshot_laws.proofs.Names.{Made, and_left, and_right, both, is_same_end, is_word, Mark, finishes, call_marks, until_reply, at_most, operates, is_senders_last, each_move, answers_soon}
use Rattle.oneshot_laws.proofs.Names.{is_soon_answered}
use Rattle.oneshot_laws.proofs.Budgets.{can, spend}
use Rattle.oneshot_laws.proofs.BoundsRuns.{pay, no_more}
use Rattle.oneshot_laws.proofs.Coding.{pairs, by_parts, flags, numbers_below}
use Rattle.oneshot_laws.proofs.PastLaws.{Law, Passes, Nameless, LawExplored, all_past, passed, holds_by}
use Rattle.oneshot_laws.proofs.PastViews.{PastView, past_of}
use Rattle.oneshot_laws.proofs.Product.{no_names}
use Rattle.oneshot_laws.proofs.ProductRuns.{EachRun}

-- whether the sender is done with the word, and what the receiver's call has left since
pub record Rest : Type 0 where
  pub over : Bool
  pub operations : ℕ
  pub moves : ℕ

abbrev whole : Bool → Rest
whole over = record { over = over; operations = 2; moves = 6 }

abbrev rest_spent : Rest → Made → Rest
rest_spent x e =
    until_reply e.reply
    (record { over = true; operations = spend x.operations (is_word e.step); moves = spend x.moves true })
    (whole true)

abbrev rest_at : End → Made → Rest → Rest
rest_at Sender e x = elim x.over [ true ↦ x | false ↦ whole (finishes e) ]
rest_at Receiver e x = elim x.over [ true ↦ rest_spent x e | false ↦ whole false ]

abbrev rest_then : Rest → PastView → Rest
rest_then x g = rest_at g.entry.side g.entry x

abbrev fits_at : End → Made → Rest → Bool
fits_at Sender e x = not (x.over && finishes e)
fits_at Receiver e x = not x.over || (can x.operations (is_word e.step) && can x.moves true)

-- at most
abbrev less : ℕ → ℕ → Bool
less zero k = true
less (suc n) zero = false
less (suc n) (suc k) = less n k

abbrev goes_on_soon : Rest → PastView → Bool
goes_on_soon x g = less x.operations 2 && less x.moves 6 && fits_at g.entry.side g.entry x

abbrev rest_law : Law Rest
rest_law =
    record {
      coding =
          by_parts (λ x. (x.over, (x.operations, x.moves)))
          (λ p. record { over = p.0; operations = p.1.0; moves = p.1.1 }) (λ x. refl)
          (pairs flags (pairs (numbers_below 3) (numbers_below 7)));
      passes = goes_on_soon;
      sees = rest_then;
      names = no_names;
      first = λ place. whole false;
    }

-- at most so many is also at most more
more : (test : Mark → Bool) (n k : ℕ) (ms : List Mark) → less n k ≡ true → at_most n test ms ≡ true
    → at_most k test ms ≡ true
more test n k [] l h = refl
more test zero zero (m ∷ ms) l h = h
more test zero (suc k) (m ∷ ms) l h =
    elim (test m) as (λ b. (not b && at_most zero test ms) ≡ true
    → (if b then at_most k test ms else at_most (suc k) test ms) ≡ true) [
      | true ↦ λ h. cc
      | false ↦ λ h. more test zero (suc k) ms refl h
    ] h
more test (suc n) (suc k) (m ∷ ms) l h =
    elim (test m) as (λ b. (if b then at_most n test ms else at_most (suc n) test ms) ≡ true
    → (if b then at_most k test ms else at_most (suc k) test ms) ≡ true) [
      | true ↦ λ h. more test n k ms l h
      | false ↦ λ h. more test (suc n) (suc k) ms l h
    ] h
more test (suc n) zero (m ∷ ms) l h = cc

-- once the sender is done
abbrev left : ℕ → ℕ → Rest
left n k = record { over = true; operations = n; moves = k }

abbrev Within : ℕ → ℕ → List Mark → Type 0
Within n k own = (at_most n operates own ≡ true) × (at_most k each_move own ≡ true)

abbrev Later : List Mark → Type 0
Later ms = (n k : ℕ) → Passes rest_law (left n k) (map past_of ms) → Within n k (call_marks Receiver ms)

one_move : (end : End) (m : Mark) (ms : List Mark) (n k : ℕ) → Later ms → fits_at end m.entry (left n k) ≡ true
    → Passes rest_law (rest_at end m.entry (left n k)) (map past_of ms)
    → Within n k (elim (is_same_end end Receiver) as (λ _. List Mark)
    [ true ↦ m ∷ until_reply m.entry.reply (call_marks Receiver ms) [] | false ↦ call_marks Receiver ms ])
one_move Sender m ms n k later h p = later n k p
one_move Receiver m ms n k later h p =
    let operation = and_left _ _ h in
    let move = and_right (can n (operates m)) _ h in
    elim m.entry.reply as (λ a. Passes rest_law
    (until_reply a (left (spend n (operates m)) (spend k true)) (whole true)) (map past_of ms)
    → Within n k (m ∷ until_reply a (call_marks Receiver ms) [])) [
      | None ↦ λ p.
          let it = later (spend n (operates m)) (spend k true) p in (
            pay operates n m (call_marks Receiver ms) operation it.0,
            pay each_move k m (call_marks Receiver ms) move
                it.1,
          )
      | Some r ↦ λ p. (
        pay operates n m [] operation (no_more (spend n (operates m)) operates),
        pay each_move k m [] move (no_more (spend k true) each_move),
      )
    ] p

own_marks : (ms : List Mark) → Later ms
own_marks [] n k p = (no_more n operates, no_more k each_move)
own_marks (m ∷ ms) n k p =
    one_move m.entry.side m ms n k (own_marks ms) (and_right (less n 2 && less k 6) _ p.0) p.1

rest_left : (end : End) (e : Made) (n k : ℕ) → (a : ℕ × ℕ) × (rest_at end e (left n k) ≡ left a.0 a.1)
rest_left Sender e n k = ((n, k), refl)
rest_left Receiver e n k =
    elim e.reply as (λ r. (a : ℕ × ℕ)
    × (until_reply r (left (spend n (is_word e.step)) (spend k true)) (whole true) ≡ left a.0 a.1)) [
      | None ↦ ((spend n (is_word e.step), spend k true), refl)
      | Some r ↦ ((2, 6), refl)
    ]

soon : (ms : List Mark) (n k : ℕ) → Passes rest_law (left n k) (map past_of ms) → answers_soon ms ≡ true
soon [] n k p = refl
soon (m ∷ ms) n k p =
    let limits = and_left _ _ p.0 in
    let own = own_marks (m ∷ ms) n k p in
    let next = rest_left m.entry.side m.entry n k in
    both _ _
    (both _ _
    (more operates n 2 (call_marks Receiver (m ∷ ms)) (and_left _ _ limits) own.0)
    (more each_move k 6 (call_marks Receiver (m ∷ ms)) (and_right (less n 2) _ limits) own.1))
    (soon ms next.0.0 next.0.1 (subst (λ x. Passes rest_law x (map past_of ms)) next.1 p.1))

-- the sender's last operation
last : (end : End) (e : Made) (x : Rest) (ms : List Mark) → (is_same_end end Sender && finishes e) ≡ true
    → fits_at end e x ≡ true → Passes rest_law (rest_at end e x) (map past_of ms) → answers_soon ms ≡ true
last Receiver e x ms l h p = cc
last Sender e x ms l h p =
    elim x.over as (λ o. not (o && finishes e) ≡ true → Passes rest_law
    (elim o as (λ _. Rest) [ true ↦ x | false ↦ whole (finishes e) ]) (map past_of ms) → answers_soon ms ≡ true) [
      | true ↦ λ h p. cc (l, h)
      | false ↦ λ h p. soon ms 2 6 (subst (λ o. Passes rest_law (whole o) (map past_of ms)) l p)
    ] h p

if_last : (now soon : Bool) → (now ≡ true → soon ≡ true) → (not now || soon) ≡ true
if_last true soon h = h refl
if_last false soon h = refl

soon_after_last : (ms : List Mark) (x : Rest) → Passes rest_law x (map past_of ms) → is_soon_answered ms ≡ true
soon_after_last [] x p = refl
soon_after_last (m ∷ ms) x p =
    both _ _
    (if_last (is_senders_last m) (answers_soon ms)
    (λ l. last m.entry.side m.entry x ms l (and_right (less x.operations 2 && less x.moves 6) _ p.0) p.1))
    (soon_after_last ms (rest_then x (past_of m)) p.1)

-- the law reads no name and no number
module _ (k : Classes) where
  rest_as : (end : End) (e : Made) (x : Rest) → rest_at end (as_made k e) x ≡ rest_at end e x
  rest_as Sender e x = refl
  rest_as Receiver e x = refl

  fits_as : (end : End) (e : Made) (x : Rest) → fits_at end (as_made k e) x ≡ fits_at end e x
  fits_as Sender e x = refl
  fits_as Receiver e x = refl

nameless : Nameless rest_law
nameless =
    record {
      none = refl;
      passes_same =
          λ k x g. ap (λ fits. less x.operations 2 && less x.moves 6 && fits) (fits_as k g.entry.side g.entry x);
      sees_same = λ k x g. rest_as k g.entry.side g.entry x;
    }

rest_explored : LawExplored rest_law
rest_explored = record { found = all_past rest_law; all = refl }

pub soon_answered : {T : Type 0} → EachRun T is_soon_answered
soon_answered =
    holds_by rest_law nameless (passed rest_law refl rest_explored) is_soon_answered
    (λ place ms. soon_after_last ms (whole false))
