-- What the rule implies for what passes: a message in the table, or one that was taken, is the one that was given,
-- and so it is with the waker.
use Rattle.std.proofs.Common.{◌≡◌, ℕ, List, [], ◌∷◌, Option, Some, refl}
use mathlib.Core.Option as maybe
use Rattle.oneshot_word.proofs.Names.{sym, ap, ◌∙◌, subst, Noted, has_made, View, both_views, ReceivedIsSent}
use Rattle.oneshot_word.proofs.Names.{Home, has_message, lies_out, lies_bare, lies_filled, IsTaken, took_none, took_it, Tied, opened, slot_taken, runs, view}
use Rattle.oneshot_word.proofs.Names.{Reaches, AnyWaker, Share, Held, away, held, waker_of, with_waker, bare, has_waker, Lies, IsPut, IsClaimed, claimed_none, claimed_it, WokenIsPut}
use Rattle.oneshot_word.specs.declared.any_waker.AnyWaker.TheVariants as R
use Rattle.oneshot_word.proofs.SlotReads.{reads_back}
use Rattle.oneshot_word.specs.declared.rule.Role.TheVariants.{Sender, Receiver}
use Rattle.oneshot_word.proofs.RuleKeeps.{lies_so}

-- if a message was taken, it was given
taken_so : {T : Type 0} {given taken : Option T} {m : T} → IsTaken given taken → taken ≡ Some m → given ≡ Some m
taken_so took_none is = absurd (cc)
taken_so (took_it x same) is = same ∙ is

-- if a waker was taken, it was given
claimed_so : {W : Type 0} {put woke : Option W} {xs : List Noted} {k : W} → IsClaimed put xs woke → woke ≡ Some k
    → put ≡ Some k
claimed_so claimed_none is = absurd (cc)
claimed_so (claimed_it x same made) is = same ∙ is

unmade : {W : Type 0} {put woke : Option W} {xs : List Noted} {k : W} → IsClaimed put xs woke → xs ≡ []
    → woke ≡ Some k → ⊥
unmade claimed_none new is = cc is
unmade (claimed_it x same made) new is = let e = sym (ap has_made new) ∙ made in cc e

-- the waker at home is the one that was given
bare_no : {T H K : Type 0} (k : AnyWaker H K) → ◌≡◌ {A = Home T H K} bare (has_waker k) → ⊥
bare_no (R.Thread half) e = cc e
bare_no (R.Task copy) e = cc e

waker_in_home : {T H K : Type 0} → Held (AnyWaker H K) → Home T H K → Held (AnyWaker H K)
waker_in_home otherwise maybe.none = otherwise
waker_in_home otherwise (maybe.some s) = waker_of s

same_waker : {T H K : Type 0} (j k : AnyWaker H K) → ◌≡◌ {A = Home T H K} (has_waker j) (has_waker k) → j ≡ k
unfolding waker_in_home
same_waker {T} j k e =
    let same : held j ≡ held k = sym (reads_back T j) ∙ ap (waker_in_home {T = T} away) e ∙ reads_back T k in cc same

rests_so : {T H K : Type 0} {put : Option (AnyWaker H K)} {share : Share} {h : Home T H K} (k : AnyWaker H K)
    → Lies (IsPut put) with_waker share h → h ≡ has_waker k → put ≡ Some k
rests_so k lies_out is = absurd (cc is)
rests_so k lies_bare is = absurd (bare_no k is)
rests_so k (lies_filled j same) is = same ∙ ap Some (same_waker j k is)

-- equal views have equal messages and wakers
record Alike {T H K : Type 0} (given given' taken taken' : Option T) (put put' woke woke' : Option (AnyWaker H K))
    : Type 0 where
  given_so : given ≡ given'
  taken_so : taken ≡ taken'
  woke_so : woke ≡ woke'
  put_so : put ≡ put'

pass_alike : {T H K P : Type 0} {q : P} {xs xs' ys ys' : List Noted} {given given' taken taken' : Option T}
    {put put' woke woke' : Option (AnyWaker H K)}
    → both_views q xs given woke ys taken put ≡ both_views q xs' given' woke' ys' taken' put'
    → Alike given given' taken taken' put put' woke woke'
pass_alike {T} {H} {K} {P} {q} {xs} {xs'} {ys} {ys'} {given} {given'} {taken} {taken'} {put} {put'} {woke} {woke'} are =
    let senders : ◌≡◌ {A = View T H K P} (view q Sender xs given woke) (view q Sender xs' given' woke') = cc are in
    let receivers : ◌≡◌ {A = View T H K P} (view q Receiver ys taken put) (view q Receiver ys' taken' put') = cc are in
    record {
      given_so = ap (λ (v : View T H K P). v.passed) senders;
      taken_so = ap (λ (v : View T H K P). v.passed) receivers;
      woke_so = ap (λ (v : View T H K P). v.handed) senders;
      put_so = ap (λ (v : View T H K P). v.handed) receivers;
    }

module _ {T H K P : Type 0} {keeps : P → T → Type 0} {q : P} where
  pub was_given : {words : List ℕ} {homes : List (Home T H K)} {views : List (View T H K P)} {xs ys : List Noted}
      {given taken : Option T} {put woke : Option (AnyWaker H K)} {m : T} → Tied keeps q words homes views
      → views ≡ both_views q xs given woke ys taken put → taken ≡ Some m → given ≡ Some m
  was_given opened are is = absurd (cc)
  was_given slot_taken are is = absurd (cc)
  was_given (runs _ _ order lies lies' same claimed) are is =
      let alike = pass_alike are in
      sym alike.given_so ∙ taken_so same (alike.taken_so ∙ is)

  pub lies_given : {words : List ℕ} {homes : List (Home T H K)} {k : Home T H K} {views : List (View T H K P)}
      {xs ys : List Noted} {given taken : Option T} {put woke : Option (AnyWaker H K)} {m : T}
      → Tied keeps q words homes views
      → views ≡ both_views q xs given woke ys taken put → homes ≡ has_message m ∷ k ∷ [] → given ≡ Some m
  lies_given opened are is = absurd (cc)
  lies_given slot_taken are is = absurd (cc)
  lies_given (runs _ _ order lies lies' same claimed) are is =
      sym (pass_alike are).given_so ∙ (lies_so lies (cc is)).1

  -- both logs have an order
  pub both_reach : {words : List ℕ} {homes : List (Home T H K)} {views : List (View T H K P)} {xs ys : List Noted}
      {given taken : Option T} {put woke : Option (AnyWaker H K)} → Tied keeps q words homes views
      → views ≡ both_views q xs given woke ys taken put → (w : ℕ) × Reaches xs ys w
  both_reach opened are = absurd (cc are)
  both_reach slot_taken are = absurd (cc are)
  both_reach {xs} {ys} {given} {taken} {put} {woke} (runs {w} xs' ys' {given = given'} {taken = taken'} {put = put'}
      {woke = woke'} order lies lies' same claimed) are =
      let senders : ◌≡◌ {A = View T H K P} (view q Sender xs' given' woke') (view q Sender xs given woke) = cc are in
      let receivers : ◌≡◌ {A = View T H K P} (view q Receiver ys' taken' put') (view q Receiver ys taken put) = cc
      are in (
        w,
        subst (λ xs. Reaches xs ys w) (ap (λ (v : View T H K P). v.log) senders)
            (subst (λ ys. Reaches xs' ys w) (ap (λ (v : View T H K P). v.log) receivers) order),
      )

  pub was_put : {words : List ℕ} {homes : List (Home T H K)} {views : List (View T H K P)} {xs ys : List Noted}
      {given taken : Option T} {put woke : Option (AnyWaker H K)} {k : AnyWaker H K} → Tied keeps q words homes views
      → views ≡ both_views q xs given woke ys taken put → woke ≡ Some k → put ≡ Some k
  was_put opened are is = absurd (cc are)
  was_put slot_taken are is = absurd (cc are)
  was_put (runs _ _ order lies lies' same claimed) are is =
      let alike = pass_alike are in
      sym alike.put_so ∙ claimed_so claimed (alike.woke_so ∙ is)

  -- a sender without an operation has taken none
  pub never_claimed : {words : List ℕ} {homes : List (Home T H K)} {views : List (View T H K P)} {ys : List Noted}
      {given taken : Option T} {put woke : Option (AnyWaker H K)} {k : AnyWaker H K} → Tied keeps q words homes views
      → views ≡ both_views q [] given woke ys taken put → woke ≡ Some k → ⊥
  never_claimed opened are is = absurd (cc are)
  never_claimed slot_taken are is = absurd (cc are)
  never_claimed {ys} {given} {taken} {put} {woke} (runs xs' ys' {given = given'} {put = put'} {woke = woke'} order
      lies lies' same claimed) are is =
      let senders : ◌≡◌ {A = View T H K P} (view q Sender xs' given' woke') (view q Sender [] given woke) = cc are in
      unmade claimed (ap (λ (v : View T H K P). v.log) senders) (ap (λ (v : View T H K P). v.handed) senders ∙ is)

  pub rests_put : {words : List ℕ} {homes : List (Home T H K)} {h : Home T H K} {views : List (View T H K P)}
      {xs ys : List Noted} {given taken : Option T} {put woke : Option (AnyWaker H K)} {k : AnyWaker H K}
      → Tied keeps q words homes views
      → views ≡ both_views q xs given woke ys taken put → homes ≡ h ∷ has_waker k ∷ [] → put ≡ Some k
  rests_put {k} opened are is = absurd (cc are)
  rests_put {k} slot_taken are is = absurd (cc are)
  rests_put {k} (runs _ _ order lies lies' same claimed) are is =
      sym (pass_alike are).put_so ∙ rests_so k lies' (cc is)

module _ {T P : Type 0} (H K : Type 0) (keeps : P → T → Type 0) where
  pub received_is_sent : ReceivedIsSent H K keeps
  received_is_sent =
      record {
        taken = λ q words homes xs ys given put woke m tied. was_given tied refl refl;
        lies = λ q words k xs ys given taken put woke m tied. lies_given tied refl refl;
      }

  pub woken_is_put : WokenIsPut H K keeps
  woken_is_put =
      record {
        woken = λ q words homes xs ys given taken put k tied. was_put tied refl refl;
        rests = λ q words h xs ys given taken put woke k tied. rests_put tied refl refl;
      }
