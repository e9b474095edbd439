-- What a receiver between two calls finds by its load, and the runs of `try_recv`.
use Rattle.oneshot_drive.proofs.Names.{◌≡◌, ℕ, true, false, [], ◌∷◌, refl, sym, ◌∙◌, subst, ◌==◌, eq-eqb, Try, Close, Take, TryRecv, Load, Store, Swap, Log, Grows, receiver_of, took, worded}
use Rattle.oneshot_drive.proofs.Names.{ReceiverAt, idle, after_load, after_timeout, full, at_once, Closing, found_closed, closed_itself, disconnected, resolved, receiver_moves}
use Rattle.oneshot_drive.proofs.Names.{empty, filled, last, more}
use Rattle.oneshot_drive.proofs.Names.{ReceiverRan, Held, ReceiverFinds, is_same_op, and_then, GroundState, StandsWith, Stands, receiver_slots, ReceiverAsks, ReceiverMakes, Rests, rests_new}
use Rattle.oneshot_drive.proofs.Names.{rests_open, rests_closed, AtRest, IsClosedAt, has_row_for, Each, landings, found_so, DISCONNECTED, EMPTY, MESSAGE}
use Rattle.oneshot_machine.specs.declared.machine.Reply.TheVariants as R
use Rattle.oneshot_drive.proofs.AfterOperations.{lone, Came, came, asks, lands}

-- it may load, and may be dropped
rests_load : {at : ReceiverAt} → Rests at → has_row_for Load (receiver_slots at) (receiver_moves at) ≡ true
rests_load (rests_open after_load) = refl
rests_load _ = refl

rests_swap : {at : ReceiverAt} → Rests at
    → has_row_for (Swap DISCONNECTED) (receiver_slots at) (receiver_moves at) ≡ true
rests_swap (rests_open after_load) = refl
rests_swap _ = refl

-- the word that its load finds, and where that leads
pub data LoadFinds : ℕ → ReceiverAt → Type 0 where
  load_finds_empty : LoadFinds EMPTY (idle after_load)
  load_finds_message : LoadFinds MESSAGE (full at_once)
  load_finds_closed : (c : Closing) → LoadFinds DISCONNECTED (disconnected c)

rests_find : {at : ReceiverAt} → Rests at
    → Each (λ n next after. LoadFinds n next × (after ≡ receiver_slots next)) (landings Load (receiver_moves at))
rests_find rests_new =
    ((load_finds_empty, refl), ((load_finds_message, refl), ((load_finds_closed found_closed, refl), tt)))
rests_find (rests_open after_load) =
    ((load_finds_empty, refl), ((load_finds_message, refl), ((load_finds_closed found_closed, refl), tt)))
rests_find (rests_open after_timeout) =
    ((load_finds_empty, refl), ((load_finds_message, refl), ((load_finds_closed found_closed, refl), tt)))
rests_find (rests_closed c) = ((load_finds_closed c, refl), tt)

at_message : {at : ReceiverAt} → LoadFinds MESSAGE at → at ≡ full at_once
at_message load_finds_message = refl

at_empty : {at : ReceiverAt} → LoadFinds EMPTY at → at ≡ idle after_load
at_empty load_finds_empty = refl

at_closed : {at : ReceiverAt} → LoadFinds DISCONNECTED at → (c : Closing) × (at ≡ disconnected c)
at_closed (load_finds_closed c) = (c, refl)

at_none : {X : Type 0} {n : ℕ} {at : ReceiverAt} → LoadFinds n at → ¬ (n ≡ MESSAGE) → ¬ (n ≡ EMPTY)
    → ¬ (n ≡ DISCONNECTED) → X
at_none load_finds_message a b c = absurd (a refl)
at_none load_finds_empty a b c = absurd (b refl)
at_none (load_finds_closed k) a b c = absurd (c refl)

-- a closed receiver finds DISCONNECTED, and no other word
closed_loads : (at : ReceiverAt) → IsClosedAt at
    → Each (λ n next after. n ≡ DISCONNECTED) (landings Load (receiver_moves at))
closed_loads (disconnected c) is = (refl, tt)
closed_loads (resolved c) is = (refl, tt)
closed_loads _ is = absurd (cc is)

module _ {T W : Type 0} where
  pub load_asks : {s : GroundState T W} → AtRest s → ReceiverAsks Load s
  load_asks rests = asks Load rests.stands (rests_load rests.is_one)

  pub swap_asks : {s : GroundState T W} → AtRest s → ReceiverAsks (Swap DISCONNECTED) s
  swap_asks rests = asks (Swap DISCONNECTED) rests.stands (rests_swap rests.is_one)

  pub loaded : {b a : GroundState T W} (n : ℕ) → AtRest b → ReceiverMakes Load n b a
      → Grows b.log a.log (worded Load n ∷ []) → Came LoadFinds n a
  loaded {b} n rests made grows =
      came LoadFinds (rests_find rests.is_one) (lands b Load n rests.stands.phase made grows)

  module _ {n : ℕ} {s : GroundState T W} (found : Came LoadFinds n s) where
    pub loaded_full : n ≡ MESSAGE → Stands (full at_once) s
    loaded_full e =
        subst (λ at. Stands at s) (at_message (subst (λ n. LoadFinds n found.at) e found.is_so)) found.stands

    pub loaded_open : n ≡ EMPTY → Stands (idle after_load) s
    loaded_open e = subst (λ at. Stands at s) (at_empty (subst (λ n. LoadFinds n found.at) e found.is_so)) found.stands

    pub loaded_closed : n ≡ DISCONNECTED → (c : Closing) × Stands (disconnected c) s
    loaded_closed e =
        let is = at_closed (subst (λ n. LoadFinds n found.at) e found.is_so) in
        (is.0, subst (λ at. Stands at s) is.1 found.stands)

    -- it found no other word
    pub loaded_none : {X : Type 0} → ¬ (n ≡ MESSAGE) → ¬ (n ≡ EMPTY) → ¬ (n ≡ DISCONNECTED) → X
    loaded_none a b c = at_none found.is_so a b c

  pub closed_finds : {n : ℕ} {at : ReceiverAt} {m m' : Held T} {w w' : Held W} → IsClosedAt at
      → ReceiverFinds at Load n m w m' w' → n ≡ DISCONNECTED
  closed_finds {at} is_closed made =
      (found_so (is_same_op Load) (λ n next after. n ≡ DISCONNECTED) refl (closed_loads at is_closed) made).is_so

  pub never : {X : Type 0} {n : ℕ} {at : ReceiverAt} {m m' : Held T} {w w' : Held W} (word : ℕ)
      → (word == DISCONNECTED) ≡ false
      → n ≡ word → IsClosedAt at → ReceiverFinds at Load n m w m' w' → X
  never word other e is_closed made =
      let closed : word ≡ DISCONNECTED = sym e ∙ closed_finds is_closed made in
      let same : (word == DISCONNECTED) ≡ true = eq-eqb word DISCONNECTED closed in
      absurd (cc)

  -- `try_recv`: it closes the channel, with the message in its slot
  pub closed : {b a : GroundState T W} (n : ℕ) → Stands (full at_once) b → ReceiverMakes (Store DISCONNECTED) n b a
      → Grows b.log a.log (worded (Store DISCONNECTED) n ∷ [])
      → StandsWith receiver_of (disconnected closed_itself) (filled, empty) a
  closed {b} n is made grows = (lone (lands b (Store DISCONNECTED) n is.phase made grows)).stands

  pub rests_over : {c : Closing} {s : GroundState T W} → Stands (disconnected c) s → AtRest s
  rests_over {c} stands = record { at = disconnected c; is_one = rests_closed c; stands = stands }

  -- or finds none
  pub rests_here : {s : GroundState T W} → Stands (idle after_load) s → AtRest s
  rests_here here_loaded = record { at = idle after_load; is_one = rests_open after_load; stands = here_loaded }

  -- its runs
  pub took_ran : {l k j z : Log T W} (n r : ℕ) (x : T) → n ≡ MESSAGE → Grows l k (worded Load n ∷ [])
      → Grows k j (worded (Store DISCONNECTED) r ∷ []) → Grows j z (took x ∷ [])
      → ReceiverRan TryRecv l z R.Message [] (x ∷ [])
  took_ran n r x e s t u =
      record {
        run = worded Load n ∷ worded (Store DISCONNECTED) r ∷ took x ∷ [];
        is_run = more (Try Close) _ _ refl (rw e) (more (Try Take) _ _ refl refl (last _ refl refl));
        grows = and_then (worded Load n ∷ []) _ s (and_then (worded (Store DISCONNECTED) r ∷ []) _ t u);
        gives = refl;
        gets = refl;
      }

  pub empty_ran : {l k : Log T W} (n : ℕ) → n ≡ EMPTY → Grows l k (worded Load n ∷ [])
      → ReceiverRan TryRecv l k R.Empty [] []
  empty_ran n e s =
      record { run = worded Load n ∷ []; is_run = last _ refl (rw e); grows = s; gives = refl; gets = refl }

  pub gone_ran : {l k : Log T W} (n : ℕ) → n ≡ DISCONNECTED → Grows l k (worded Load n ∷ [])
      → ReceiverRan TryRecv l k R.Disconnected [] []
  gone_ran n e s =
      record { run = worded Load n ∷ []; is_run = last _ refl (rw e); grows = s; gives = refl; gets = refl }
