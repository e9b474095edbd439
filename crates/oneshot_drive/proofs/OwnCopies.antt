-- Proves step by step that a poll writes no waker but its own copy.
use Rattle.oneshot_drive.proofs.Names.{◌≡◌, ℕ, List, [], ◌∷◌, ◌++◌, Option, Some, refl, sym, subst, WakeOwn, WriteWaker, Withdraw, Op, Event, Log, Grows, did, took, handed, copied, worded, and_then}
use Rattle.oneshot_drive.proofs.Names.{hand_after, WritesHand, WritesCopies, WroteCopies}
use Rattle.oneshot_drive.proofs.Stretches.{stays}

module _ {T W : Type 0} where
  pub wrote_none : {hand : Option W} (l : Log T W) → WroteCopies hand l l
  wrote_none l = record { steps = []; grows = stays l; own = tt }

  -- a step before the others
  wrote_on : {hand : Option W} {a b c : Log T W} (x : Event T W) → Grows a b (x ∷ []) → WritesHand x.step x.waker hand
      → WroteCopies (hand_after x.step x.waker hand) b c → WroteCopies hand a c
  wrote_on x s writes after =
      record { steps = x ∷ after.steps; grows = and_then (x ∷ []) after.steps s after.grows; own = (writes, after.own) }

  module _ {hand : Option W} {a b c : Log T W} where
    pub on_word : (op : Op) (n : ℕ) → Grows a b (worded op n ∷ []) → WroteCopies hand b c → WroteCopies hand a c
    on_word op n s after = wrote_on (worded op n) s tt after

    pub on_withdraw : (k : W) → Grows a b (handed Withdraw k ∷ []) → WroteCopies hand b c → WroteCopies hand a c
    on_withdraw k s after = wrote_on (handed Withdraw k) s tt after

    pub on_own : Grows a b (did WakeOwn ∷ []) → WroteCopies hand b c → WroteCopies hand a c
    on_own s after = wrote_on (did WakeOwn) s tt after

    -- a copy is in hand from then on
    pub on_copy : {copy : Option W} (k : W) → copy ≡ Some k → Grows a b (copied copy ∷ []) → WroteCopies (Some k) b c
        → WroteCopies hand a c
    on_copy {copy} k is s after = wrote_on (copied copy) s tt (subst (λ h. WroteCopies h b c) (sym is) after)

    pub on_refusal : {copy : Option W} → Grows a b (copied copy ∷ []) → WroteCopies copy b c → WroteCopies hand a c
    on_refusal {copy} s after = wrote_on (copied copy) s tt after

  -- and the step that writes a waker writes that copy
  pub on_write : {a b c : Log T W} (k : W) → Grows a b (handed WriteWaker k ∷ []) → WroteCopies (Some k) b c
      → WroteCopies (Some k) a c
  on_write k s after = wrote_on (handed WriteWaker k) s refl after

  -- a step after the others, which writes none
  own_then : (hand : Option W) (xs : List (Event T W)) (x : Event T W) → ((h : Option W) → WritesHand x.step x.waker h)
      → WritesCopies hand xs → WritesCopies hand (xs ++ x ∷ [])
  own_then hand [] x none own = (none _, tt)
  own_then hand (y ∷ xs) x none own = (own.0, own_then (hand_after y.step y.waker hand) xs x none own.1)

  wrote_then : {hand : Option W} {a b c : Log T W} (x : Event T W) → ((h : Option W) → WritesHand x.step x.waker h)
      → WroteCopies hand a b → Grows b c (x ∷ []) → WroteCopies hand a c
  wrote_then {hand} x none before s =
      record {
        steps = before.steps ++ x
            ∷ [];
        grows = and_then before.steps (x ∷ []) before.grows s;
        own = own_then hand before.steps x none before.own;
      }

  module _ {hand : Option W} {a b c : Log T W} where
    pub then_word : (op : Op) (n : ℕ) → WroteCopies hand a b → Grows b c (worded op n ∷ []) → WroteCopies hand a c
    then_word op n before s = wrote_then (worded op n) (λ h. tt) before s

    pub then_took : (m : T) → WroteCopies hand a b → Grows b c (took m ∷ []) → WroteCopies hand a c
    then_took m before s = wrote_then (took m) (λ h. tt) before s
