-- The operations on the word that each end's call has left, as a reader of the trace counts them.
use Rattle.oneshot_laws.proofs.Names.{◌≡◌, ℕ, zero, suc, Bool, true, false, not, ◌&&◌, Option, Some, None, refl, if◌then◌else◌, End, Sender, Receiver, Call, Made, bound_of, is_word, is_same_flag}
use Rattle.oneshot_laws.proofs.Names.{until_reply}
use Rattle.oneshot_laws.proofs.Coding.{Coding, pairs, by_parts, or_none, numbers_below}
use Rattle.oneshot_laws.proofs.PastLaws.{Law}
use Rattle.oneshot_laws.proofs.PastViews.{PastView}
use Rattle.oneshot_laws.proofs.Product.{no_names}

-- what an end's call has left: no call is under way, or it has no bound, or so many operations
pub data Allowance : Type 0 where
  Resting : Allowance
  Unbounded : Allowance
  Counted : ℕ → Allowance

-- what a call that begins has left, by its bound
abbrev pub counted : Option ℕ → Allowance
counted None = Unbounded
counted (Some limit) = Counted limit

abbrev pub begun : Call → Allowance
begun call = counted (bound_of call)

abbrev pub under_way : Call → Allowance → Allowance
under_way call Resting = begun call
under_way call left = left

abbrev pub is_resting : Allowance → Bool
is_resting Resting = true
is_resting _ = false

abbrev pub can : ℕ → Bool → Bool
can (suc n) b = true
can zero b = not b

abbrev pub spend : ℕ → Bool → ℕ
spend zero b = zero
spend (suc n) b = if b then n else suc n

abbrev pub may_make : Allowance → Made → Bool
may_make (Counted n) e = can n (is_word e.step)
may_make _ e = true

abbrev pub spent : Allowance → Made → Allowance
spent (Counted n) e = Counted (spend n (is_word e.step))
spent left e = left

abbrev pub left_then : Allowance → Call → Made → Allowance
left_then left call e = until_reply e.reply (spent (under_way call left) e) Resting

-- what both ends have left
pub record Budget : Type 0 where
  pub sender : Allowance
  pub receiver : Allowance

abbrev pub left_by : End → Budget → Allowance
left_by Sender x = x.sender
left_by Receiver x = x.receiver

abbrev pub left_at : End → Allowance → Budget → Budget
left_at Sender left x = record { sender = left; receiver = x.receiver }
left_at Receiver left x = record { sender = x.sender; receiver = left }

-- a call begins exactly when none is under way, and keeps to what it has left
abbrev pub fits : Allowance → Bool → Call → Made → Bool
fits left begins call e = is_same_flag begins (is_resting left) && may_make (under_way call left) e

abbrev goes_on_within : Budget → PastView → Bool
goes_on_within x g = fits (left_by g.entry.side x) g.begins g.call g.entry

abbrev pub budget_then : Budget → PastView → Budget
budget_then x g = left_at g.entry.side (left_then (left_by g.entry.side x) g.call g.entry) x

abbrev left_parts : Allowance → Option (Option ℕ)
left_parts Resting = None
left_parts Unbounded = Some None
left_parts (Counted n) = Some (Some n)

abbrev left_of : Option (Option ℕ) → Allowance
left_of None = Resting
left_of (Some None) = Unbounded
left_of (Some (Some n)) = Counted n

pub left_back : (left : Allowance) → left_of (left_parts left) ≡ left
left_back Resting = refl
left_back Unbounded = refl
left_back (Counted n) = refl

abbrev lefts : Coding Allowance
lefts = by_parts left_parts left_of left_back (or_none (or_none (numbers_below 5)))

abbrev pub at_rest : Budget
at_rest = record { sender = Resting; receiver = Resting }

abbrev pub budget_law : Law Budget
budget_law =
    record {
      coding =
          by_parts (λ x. (x.sender, x.receiver)) (λ p. record { sender = p.0; receiver = p.1 }) (λ x. refl)
          (pairs lefts lefts);
      passes = goes_on_within;
      sees = budget_then;
      names = no_names;
      first = λ place. at_rest;
    }
