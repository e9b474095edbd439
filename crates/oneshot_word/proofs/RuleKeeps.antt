-- A message in the table keeps its channel's promise.
use Rattle.std.proofs.Common.{◌≡◌, ℕ, List, [], ◌∷◌, refl}
use Rattle.oneshot_word.proofs.Names.{subst, Add, nothing_made, sender_makes, has_row, Share, head, Message, View, RuleKeeps, Home, has_message, Lies, lies_out, lies_bare, lies_filled, took_none}
use Rattle.oneshot_word.proofs.Names.{claimed_none, Tied, opened, slot_taken, runs}

module _ {T H K : Type 0} where
  pub lies_so : {kept : T → Type 0} {share : Share} {h : Home T H K} {m : T}
      → Lies kept Message share h → h ≡ has_message m → kept m
  lies_so lies_out is = absurd (cc)
  lies_so lies_bare is = absurd (cc)
  lies_so {kept} (lies_filled x k) is = subst kept (cc is) k

  module _ {P : Type 0} {keeps : P → T → Type 0} {q : P} where
    homes_so : {words : List ℕ} {homes : List (Home T H K)} {k : Home T H K} {views : List (View T H K P)} {m : T}
        → Tied keeps q words homes views → homes ≡ has_message m ∷ k ∷ [] → keeps q m
    homes_so opened is = absurd (cc)
    homes_so slot_taken is = absurd (cc)
    homes_so (runs xs ys order lies lies' same claimed) is = (lies_so lies (cc is)).0

pub rule_keeps : {T P : Type 0} (H K : Type 0) (keeps : P → T → Type 0) → RuleKeeps H K keeps
rule_keeps H K keeps =
    record {
      kept = λ q words k views m tied. homes_so tied refl;
      sent = λ q m kept.
          runs _ _ (sender_makes Add nothing_made (has_row head)) (lies_filled m (kept, refl)) lies_bare took_none
          claimed_none;
    }
