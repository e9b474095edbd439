-- What a seat's view shows of the table: whose seat it is, and what the rule then states.
use Rattle.std.proofs.Common.{◌≡◌, ℕ, List, [], ◌∷◌, Option, None}
use mathlib.Core.Option as maybe
use Rattle.oneshot_word.proofs.Names.{zero, suc, sym, ap, subst, some-injective, some-ne-none, get_elem?, Noted, Reaches, sender_at, receiver_at, Role, Maker, MakerWithSlot}
use Rattle.oneshot_word.proofs.Names.{Message, View, Home, out, bare}
use Rattle.oneshot_word.proofs.Names.{message_home, waker_home, Lies, IsGiven, IsTaken, Tied, opened, slot_taken, runs, view, AnyWaker, IsPut, IsClaimed, with_waker, EMPTY}
use Rattle.oneshot_word.specs.declared.rule.Role.TheVariants.{Sender, Receiver}

module _ {T H K P : Type 0} (keeps : P → T → Type 0) where
  -- a seat of the table, with the role, the log, the passed message and the passed waker of its view
  pub data Sits (q : P) : List ℕ → List (Home T H K) → List (View T H K P) → ℕ → Role → List Noted → Option T
      → Option (AnyWaker H K) → Type 0 where
    maker_sits : Sits q (EMPTY ∷ []) (bare ∷ bare ∷ []) (view q Maker [] None None ∷ []) 0 Maker [] None None
    maker_with_slot_sits : Sits q (EMPTY ∷ []) (out ∷ bare ∷ []) (view q MakerWithSlot [] None None ∷ []) 0
        MakerWithSlot [] None None
    sender_sits : {w : ℕ} {h k : Home T H K} {xs : List Noted} {given : Option T} {woke : Option (AnyWaker H K)}
        (ys : List Noted) (taken : Option T) (put : Option (AnyWaker H K))
        → Reaches xs ys w
        → Lies (IsGiven keeps q given) Message (message_home (sender_at xs) (receiver_at ys)) h
        → Lies (IsPut put) with_waker (waker_home (sender_at xs) (receiver_at ys)) k → IsTaken given taken
        → IsClaimed put xs woke
        → Sits q (w ∷ []) (h ∷ k ∷ []) (view q Sender xs given woke ∷ view q Receiver ys taken put ∷ []) 0 Sender xs
        given woke
    receiver_sits : {w : ℕ} {h k : Home T H K} (xs : List Noted) (given : Option T)
        (woke : Option (AnyWaker H K)) {ys : List Noted} {taken : Option T} {put : Option (AnyWaker H K)} → Reaches xs
        ys w
        → Lies (IsGiven keeps q given) Message (message_home (sender_at xs) (receiver_at ys)) h
        → Lies (IsPut put) with_waker (waker_home (sender_at xs) (receiver_at ys)) k → IsTaken given taken
        → IsClaimed put xs woke
        → Sits q (w ∷ []) (h ∷ k ∷ []) (view q Sender xs given woke ∷ view q Receiver ys taken put ∷ []) 1 Receiver ys
        taken put

module _ {T H K P : Type 0} {keeps : P → T → Type 0} where
  pub sits : {q : P} {ws : List ℕ} {hs : List (Home T H K)} {vs : List (View T H K P)} {r : Role} {xs : List Noted}
      {passed : Option T} {handed : Option (AnyWaker H K)} → Tied keeps q ws hs vs → (id : ℕ)
      → get_elem? vs id ≡ maybe.some (view q r xs passed handed) → Sits keeps q ws hs vs id r xs passed handed
  sits {q} opened zero at =
      subst (λ (v : View T H K P). Sits {T = T} {H = H} {K = K} keeps q (EMPTY ∷ []) (bare ∷ bare ∷ [])
      (view q Maker [] None None ∷ []) 0 v.role v.log v.passed v.handed) (some-injective _ _ at) maker_sits
  sits {q} slot_taken zero at =
      subst (λ (v : View T H K P). Sits {T = T} {H = H} {K = K} keeps q (EMPTY ∷ []) (out ∷ bare ∷ [])
      (view q MakerWithSlot [] None None ∷ []) 0 v.role v.log v.passed v.handed) (some-injective _ _ at)
      maker_with_slot_sits
  sits {q} (runs {w} {h} {k} xs ys {given} {taken} {put} {woke} order lies lies' same claimed) zero at =
      subst (λ (v : View T H K P). Sits {T = T} {H = H} {K = K} keeps q (w ∷ []) (h ∷ k ∷ [])
      (view q Sender xs given woke ∷ view q Receiver ys taken put ∷ []) 0 v.role v.log v.passed v.handed)
      (some-injective _ _ at) (sender_sits ys taken put order lies lies' same claimed)
  sits {q} (runs {w} {h} {k} xs ys {given} {taken} {put} {woke} order lies lies' same claimed) (suc zero) at =
      subst (λ (v : View T H K P). Sits {T = T} {H = H} {K = K} keeps q (w ∷ []) (h ∷ k ∷ [])
      (view q Sender xs given woke ∷ view q Receiver ys taken put ∷ []) 1 v.role v.log v.passed v.handed)
      (some-injective _ _ at) (receiver_sits xs given woke order lies lies' same claimed)
  sits _ _ at = absurd (some-ne-none _ (sym at))

  -- each view has the value that the channel is about
  pub knows : {q : P} {ws : List ℕ} {hs : List (Home T H K)} {vs : List (View T H K P)} {v : View T H K P}
      → Tied keeps q ws hs vs → (id : ℕ) → get_elem? vs id ≡ maybe.some v → v.about ≡ q
  knows opened zero at = sym (ap (λ (v : View T H K P). v.about) (some-injective _ _ at))
  knows slot_taken zero at = sym (ap (λ (v : View T H K P). v.about) (some-injective _ _ at))
  knows (runs xs ys order lies lies' same claimed) zero at = sym
      (ap (λ (v : View T H K P). v.about) (some-injective _ _ at))
  knows (runs xs ys order lies lies' same claimed) (suc zero) at = sym
      (ap (λ (v : View T H K P). v.about) (some-injective _ _ at))
  knows _ _ at = absurd (some-ne-none _ (sym at))
