-- Each call performs at most its bound of operations on the word: the reader counts what each end's call has left.
use Rattle.oneshot_laws.proofs.Names.{◌≡◌, ℕ, zero, suc, Bool, true, false, not, ◌&&◌, ◌||◌, List, [], ◌∷◌, map, Option, Some, None, refl, ◌∙◌, ap, if◌then◌else◌, End, Sender, Receiver, Call, Classes}
use Rattle.oneshot_laws.proofs.Names.{as_call, as_made, Made, and_left, and_right, both, is_same_end, is_same_flag, Mark, side, call_marks, until_reply, at_most, operates, bound_of, is_within}
use Rattle.oneshot_laws.proofs.Names.{is_bounded, are_calls_bounded}
use Rattle.oneshot_laws.proofs.PastLaws.{Passes, Nameless, of_call, LawExplored, all_past, passed, holds_by}
use Rattle.oneshot_laws.proofs.PastViews.{past_of}
use Rattle.oneshot_laws.proofs.ProductRuns.{EachRun}
use Rattle.oneshot_laws.proofs.Budgets.{Allowance, Resting, Unbounded, Counted, counted, begun, under_way, is_resting, can, spend, may_make, spent, left_then, Budget}
use Rattle.oneshot_laws.proofs.Budgets.{left_by, left_at, fits, budget_then}
use Rattle.oneshot_laws.proofs.Budgets.{at_rest, budget_law}

-- one more mark of a call
pub pay : (test : Mark → Bool) (n : ℕ) (m : Mark) (later : List Mark) → can n (test m) ≡ true
    → at_most (spend n (test m)) test later ≡ true → at_most n test (m ∷ later) ≡ true
pay test zero m later h k = both (not (test m)) _ h k
pay test (suc n) m later h k =
    elim (test m) as (λ b. at_most (if b then n else suc n) test later ≡ true
    → (if b then at_most n test later else at_most (suc n) test later) ≡ true) [
      | true ↦ λ k. k
      | false ↦ λ k. k
    ] k

-- what is left of a call covers the call's marks from here on
abbrev covers : Allowance → List Mark → Bool
covers (Counted n) own = at_most n operates own
covers _ own = true

abbrev stands : Allowance → List Mark → Bool
stands Resting [] = true
stands Resting (m ∷ later) = covers (begun m.call) (m ∷ later)
stands Unbounded own = true
stands (Counted n) own = at_most n operates own

pub no_more : (n : ℕ) (test : Mark → Bool) → at_most n test [] ≡ true
no_more n test = refl

covered : (left : Allowance) (m : Mark) (later : List Mark) → may_make left m.entry ≡ true
    → stands (until_reply m.entry.reply (spent left m.entry) Resting) later ≡ true
    → covers left (m ∷ until_reply m.entry.reply later []) ≡ true
covered Resting m later h k = refl
covered Unbounded m later h k = refl
covered (Counted n) m later h k =
    elim m.entry.reply as (λ a. stands (until_reply a (Counted (spend n (operates m))) Resting) later ≡ true → at_most n
    operates (m ∷ until_reply a later []) ≡ true) [
      | None ↦ λ k. pay operates n m later h k
      | Some r ↦ λ k. pay operates n m [] h (no_more (spend n (operates m)) operates)
    ] k

stood : (left : Allowance) (m : Mark) (later : List Mark) → covers (under_way m.call left) (m ∷ later) ≡ true
    → stands left (m ∷ later) ≡ true
stood Resting m later h = h
stood Unbounded m later h = refl
stood (Counted n) m later h = h

-- a mark of this end's call
here : (end : End) (m : Mark) (ms : List Mark) (x : Budget) → fits (left_by end x) m.begins m.call m.entry ≡ true
    → stands (left_by end (left_at end (left_then (left_by end x) m.call m.entry) x)) (call_marks end ms) ≡ true
    → covers (under_way m.call (left_by end x))
    (elim (is_same_end end end) as (λ _. List Mark)
    [ true ↦ m ∷ until_reply m.entry.reply (call_marks end ms) [] | false ↦ call_marks end ms ]) ≡ true
here Sender m ms x h k =
    covered (under_way m.call x.sender) m (call_marks Sender ms)
    (and_right (is_same_flag m.begins (is_resting x.sender)) _ h) k
here Receiver m ms x h k =
    covered (under_way m.call x.receiver) m (call_marks Receiver ms)
    (and_right (is_same_flag m.begins (is_resting x.receiver)) _ h) k

-- a mark of either end, for the call of this one
either : (mover end : End) (m : Mark) (ms : List Mark) (x : Budget)
    → fits (left_by mover x) m.begins m.call m.entry ≡ true
    → stands (left_by end (left_at mover (left_then (left_by mover x) m.call m.entry) x)) (call_marks end ms) ≡ true
    → stands (left_by end x) (elim (is_same_end mover end) as (λ _. List Mark)
    [ true ↦ m ∷ until_reply m.entry.reply (call_marks end ms) [] | false ↦ call_marks end ms ]) ≡ true
either Sender Sender m ms x h k =
    stood x.sender m (until_reply m.entry.reply (call_marks Sender ms) []) (here Sender m ms x h k)
either Sender Receiver m ms x h k = k
either Receiver Sender m ms x h k = k
either Receiver Receiver m ms x h k =
    stood x.receiver m (until_reply m.entry.reply (call_marks Receiver ms) []) (here Receiver m ms x h k)

nothing_left : (left : Allowance) → stands left [] ≡ true
nothing_left Resting = refl
nothing_left Unbounded = refl
nothing_left (Counted n) = refl

claims : (ms : List Mark) (x : Budget) (end : End) → Passes budget_law x (map past_of ms)
    → stands (left_by end x) (call_marks end ms) ≡ true
claims [] x Sender p = nothing_left x.sender
claims [] x Receiver p = nothing_left x.receiver
claims (m ∷ ms) x end p = either m.entry.side end m ms x p.0 (claims ms (budget_then x (past_of m)) end p.1)

-- the bound of the call that begins
within : (bound : Option ℕ) (own : List Mark) → covers (counted bound) own ≡ true → is_within bound own ≡ true
within None own h = refl
within (Some limit) own h = h

begins_at_rest : (begins : Bool) (call : Call) (left : Allowance) (own : List Mark)
    → is_same_flag begins (is_resting left) ≡ true → covers (under_way call left) own ≡ true
    → (not begins || is_within (bound_of call) own) ≡ true
begins_at_rest false call left own h k = refl
begins_at_rest true call Resting own h k = within (bound_of call) own k
begins_at_rest true call Unbounded own h k = cc
begins_at_rest true call (Counted n) own h k = cc

first_mark : (end : End) (m : Mark) (ms : List Mark) (x : Budget) → fits (left_by end x) m.begins m.call m.entry ≡ true
    → stands (left_by end (left_at end (left_then (left_by end x) m.call m.entry) x)) (call_marks end ms) ≡ true
    → (not m.begins || is_bounded (elim (is_same_end end end) as (λ _. List Mark)
    [ true ↦ m ∷ until_reply m.entry.reply (call_marks end ms) [] | false ↦ call_marks end ms ])) ≡ true
first_mark Sender m ms x h k =
    begins_at_rest m.begins m.call x.sender (m ∷ until_reply m.entry.reply (call_marks Sender ms) []) (and_left _ _ h)
    (here Sender m ms x h k)
first_mark Receiver m ms x h k =
    begins_at_rest m.begins m.call x.receiver (m ∷ until_reply m.entry.reply (call_marks Receiver ms) [])
    (and_left _ _ h) (here Receiver m ms x h k)

each : (ms : List Mark) (x : Budget) → Passes budget_law x (map past_of ms) → are_calls_bounded ms ≡ true
each [] x p = refl
each (m ∷ ms) x p =
    both _ _
    (first_mark (side m) m ms x p.0 (claims ms (budget_then x (past_of m)) (side m) p.1))
    (each ms (budget_then x (past_of m)) p.1)

-- the law reads no name and no number
module _ (k : Classes) where
  may_as : (left : Allowance) (e : Made) → may_make left (as_made k e) ≡ may_make left e
  may_as Resting e = refl
  may_as Unbounded e = refl
  may_as (Counted n) e = refl

  spent_as : (left : Allowance) (e : Made) → spent left (as_made k e) ≡ spent left e
  spent_as Resting e = refl
  spent_as Unbounded e = refl
  spent_as (Counted n) e = refl

  under_as : (call : Call) (left : Allowance) → under_way (as_call k call) left ≡ under_way call left
  under_as call Resting = of_call k begun (λ a b. refl) call
  under_as call Unbounded = refl
  under_as call (Counted n) = refl

  fits_as : (left : Allowance) (begins : Bool) (call : Call) (e : Made)
      → fits left begins (as_call k call) (as_made k e) ≡ fits left begins call e
  fits_as left begins call e =
      ap (λ l. is_same_flag begins (is_resting left) && may_make l (as_made k e)) (under_as call left)
      ∙ ap (λ b. is_same_flag begins (is_resting left) && b) (may_as (under_way call left) e)

  then_as : (left : Allowance) (call : Call) (e : Made)
      → left_then left (as_call k call) (as_made k e) ≡ left_then left call e
  then_as left call e =
      ap (λ l. until_reply e.reply (spent l (as_made k e)) Resting) (under_as call left)
      ∙ ap (λ l. until_reply e.reply l Resting) (spent_as (under_way call left) e)

nameless : Nameless budget_law
nameless =
    record {
      none = refl;
      passes_same = λ k n g. fits_as k (left_by g.entry.side n) g.begins g.call g.entry;
      sees_same = λ k n g. ap (λ left. left_at g.entry.side left n) (then_as k (left_by g.entry.side n) g.call g.entry);
    }

budget_explored : LawExplored budget_law
budget_explored = record { found = all_past budget_law; all = refl }

pub calls_bounded : {T : Type 0} → EachRun T are_calls_bounded
calls_bounded =
    holds_by budget_law nameless (passed budget_law refl budget_explored) are_calls_bounded
    (λ place ms. each ms at_rest)
