-- An order and a walk of each end make a run of any model that can make each step of a walk: by induction.
use Rattle.oneshot_bridge.proofs.Names.{◌≡◌, ℕ, List, [], ◌∷◌, ◌++◌, refl, sym, subst, Op, Noted, saw, InOrder, none_made, by_sender, by_receiver, word_after, not_empty, same_start, same_last, Walk}
use Rattle.oneshot_bridge.proofs.Names.{begins, quietly, by_one}

-- A model that can make each step of a walk. These are the cases of a forward simulation, and `Ran` is its relation.
pub record CanStep {S R : Type 0} (SRests : S → S → Type 0) (SMakes : S → Noted → S → Type 0)
    (RRests : R → R → Type 0) (RMakes : R → Noted → R → Type 0) (s0 : S) (r0 : R)
    (Ran : List Noted → List Noted → ℕ → S → R → Type 0) : Type 0 where
  pub opens : Ran [] [] 3 s0 r0
  pub sender_rests : {xs ys : List Noted} {w : ℕ} {s next : S} {r : R}
      → Ran xs ys w s r → SRests s next → Ran xs ys w next r
  pub receiver_rests : {xs ys : List Noted} {w : ℕ} {s : S} {r next : R}
      → Ran xs ys w s r → RRests r next → Ran xs ys w s next
  pub sender_acts : {xs ys : List Noted} {w : ℕ} {s next : S} {r : R} (op : Op)
      → Ran xs ys w s r → SMakes s (op, saw op w) next → Ran (xs ++ (op, saw op w) ∷ []) ys (word_after op w) next r
  pub receiver_acts : {xs ys : List Noted} {w : ℕ} {s : S} {r next : R} (op : Op)
      → Ran xs ys w s r → RMakes r (op, saw op w) next → Ran xs (ys ++ (op, saw op w) ∷ []) (word_after op w) s next

module _ {S R : Type 0} {SRests : S → S → Type 0} {SMakes : S → Noted → S → Type 0} {RRests : R → R → Type 0}
    {RMakes : R → Noted → R → Type 0} {s0 : S} {r0 : R} {Ran : List Noted → List Noted → ℕ → S → R → Type 0}
    (can : CanStep SRests SMakes RRests RMakes s0 r0 Ran) where
  -- neither end has performed an operation
  both_rest : {xs ys : List Noted} {s : S} {r : R} → Walk SRests SMakes s0 xs s → xs ≡ []
      → Walk RRests RMakes r0 ys r → ys ≡ [] → Ran [] [] 3 s r
  both_rest begins e begins f = can.opens
  both_rest begins e (quietly b q) f = can.receiver_rests (both_rest begins e b f) q
  both_rest begins e (by_one {xs = ys} y b m) f = absurd (not_empty ys y f)
  both_rest (quietly a q) e b f = can.sender_rests (both_rest a e b f) q
  both_rest (by_one {xs} x a m) e b f = absurd (not_empty xs x e)

  -- one end performed the last operation, and then made only other steps
  module _ {xs ys : List Noted} {word : ℕ} (op : Op)
      (before : (s : S) (r : R) → Walk SRests SMakes s0 xs s → Walk RRests RMakes r0 ys r → Ran xs ys word s r) where
    sender_then : {zs : List Noted} {s : S} {r : R} → Walk SRests SMakes s0 zs s → zs ≡ xs ++ (op, saw op word) ∷ []
        → Walk RRests RMakes r0 ys r → Ran (xs ++ (op, saw op word) ∷ []) ys (word_after op word) s r
    sender_then begins e b = absurd (not_empty xs (op, saw op word) (sym e))
    sender_then (quietly a q) e b = can.sender_rests (sender_then a e b) q
    sender_then {s} (by_one {xs = zs} {s = s1} x a m) e b =
        can.sender_acts op
        (before s1 _ (subst (λ l. Walk SRests SMakes s0 l s1) (same_start zs xs x (op, saw op word) e) a) b)
        (subst (λ x. SMakes s1 x s) (same_last zs xs x (op, saw op word) e) m)

    receiver_then : {zs : List Noted} {s : S} {r : R} → Walk SRests SMakes s0 xs s → Walk RRests RMakes r0 zs r
        → zs ≡ ys ++ (op, saw op word) ∷ [] → Ran xs (ys ++ (op, saw op word) ∷ []) (word_after op word) s r
    receiver_then a begins e = absurd (not_empty ys (op, saw op word) (sym e))
    receiver_then a (quietly b q) e = can.receiver_rests (receiver_then a b e) q
    receiver_then {r} a (by_one {xs = zs} {s = r1} y b m) e =
        can.receiver_acts op
        (before _ r1 a (subst (λ l. Walk RRests RMakes r0 l r1) (same_start zs ys y (op, saw op word) e) b))
        (subst (λ y. RMakes r1 y r) (same_last zs ys y (op, saw op word) e) m)

  pub interleaves : {xs ys : List Noted} {word : ℕ} {s : S} {r : R} → InOrder xs ys word
      → Walk SRests SMakes s0 xs s → Walk RRests RMakes r0 ys r → Ran xs ys word s r
  interleaves none_made a b = both_rest a refl b refl
  interleaves (by_sender op order) a b = sender_then op (λ s r a b. interleaves order a b) a refl b
  interleaves (by_receiver op order) a b = receiver_then op (λ s r a b. interleaves order a b) a b refl
