-- How stretches of a receive are joined to each other and to the steps that end it.
use Rattle.oneshot_drive.proofs.Names.{◌≡◌, ℕ, Bool, true, false, List, [], ◌∷◌, ◌++◌, Some, None, refl, sym, ap, ◌∙◌, append-nil, filter_map-append, Reply, ReceiverPos, Op, Event, Log, Grows, kept}
use Rattle.oneshot_drive.proofs.Names.{did, handed, parked, clocked, copied, worded, when_written, when_taken, messages_given, messages_got, receiver_step, receiver_row, Outcome, Goes, Answers, Run}
use Rattle.oneshot_drive.proofs.Names.{last, more, Ran, saw, and_then, Stretch, nothing, answers, onward, Path}
use Rattle.oneshot_machine.specs.declared.machine.Seen.TheVariants as S
use Rattle.oneshot_machine.specs.declared.machine.Step.TheVariants as Steps

module _ {T W : Type 0} where
  -- stretches, one after the other, and before a run
  joined : {p q : ReceiverPos} {o : Outcome ReceiverPos} {xs ys : List (Event T W)} → Stretch p xs (Goes q)
      → Stretch q ys o → Stretch p (xs ++ ys) o
  joined nothing t = t
  joined (onward next x xs is leads s) t = onward next x _ is leads (joined s t)

  runs : {p q : ReceiverPos} {r : Reply} {xs ys : List (Event T W)} → Stretch p xs (Goes q)
      → Run receiver_step receiver_row q ys r → Run receiver_step receiver_row p (xs ++ ys) r
  runs nothing t = t
  runs (onward next x xs is leads s) t = more next x _ is leads (runs s t)

  answered : {p : ReceiverPos} {r : Reply} {xs : List (Event T W)} → Stretch p xs (Answers r)
      → Run receiver_step receiver_row p xs r
  answered (answers r x is leads) = last x is leads
  answered (onward next x xs is leads s) = more next x xs is leads (answered s)

  one : {p : ReceiverPos} (o : Outcome ReceiverPos) (x : Event T W) → x.step ≡ receiver_step p
      → receiver_row p x.seen ≡ Some o → Stretch p (x ∷ []) o
  one (Goes next) x is leads = onward next x [] is leads nothing
  one (Answers r) x is leads = answers r x is leads

  -- the messages of two joined lists
  no_given : (xs ys : List (Event T W)) → messages_given xs ≡ [] → messages_given (xs ++ ys) ≡ messages_given ys
  no_given xs ys none =
      filter_map-append (λ x. when_written x.step x.message) xs ys ∙ ap (λ l. l ++ messages_given ys) none

  no_got : (xs ys : List (Event T W)) → messages_got xs ≡ [] → messages_got (xs ++ ys) ≡ messages_got ys
  no_got xs ys none = filter_map-append (λ x. when_taken x.step x.message) xs ys ∙ ap (λ l. l ++ messages_got ys) none

  pub on : {p q : ReceiverPos} {o : Outcome ReceiverPos} {a b c : Log T W} → Path p (Goes q) a b → Path q o b c
      → Path p o a c
  on s t =
      record {
        steps = s.steps ++ t.steps;
        grows = and_then s.steps t.steps s.grows t.grows;
        gives = no_given s.steps t.steps s.gives ∙ t.gives;
        gets = no_got s.steps t.steps s.gets ∙ t.gets;
        leads = joined s.leads t.leads;
      }

  kept_none : (whole : Bool) → kept {T = T} {W = W} whole [] ≡ []
  kept_none true = refl
  kept_none false = refl

  -- no step
  pub stays : (a : Log T W) → Grows a a []
  stays a =
      record {
        whole = refl;
        channel = refl;
        list = sym (append-nil a.list)
            ∙ ap (λ l. a.list ++ l) (sym (kept_none a.whole));
      }

  pub begun : (p : ReceiverPos) (a : Log T W) → Path p (Goes p) a a
  begun p a = record { steps = []; grows = stays a; gives = refl; gets = refl; leads = nothing }

  -- one step more: an operation, a waker, a park, a read of the clock
  module _ {p : ReceiverPos} (o : Outcome ReceiverPos) {a b : Log T W} where
    pub by_word : (op : Op) (n : ℕ) → Grows a b (worded op n ∷ []) → Steps.Word op ≡ receiver_step p
        → receiver_row p (saw op n) ≡ Some o → Path p o a b
    by_word op n grows at leads =
        record { steps = worded op n ∷ []; grows = grows; gives = refl; gets = refl; leads = one o _ at leads }

    pub by_write : (y : W) → Grows a b (handed Steps.WriteWaker y ∷ []) → Steps.WriteWaker ≡ receiver_step p
        → receiver_row p S.Done ≡ Some o → Path p o a b
    by_write y grows at leads =
        record {
          steps = handed Steps.WriteWaker y
              ∷ [];
          grows = grows;
          gives = refl;
          gets = refl;
          leads = one o _ at leads;
        }

    pub by_withdraw : (y : W) → Grows a b (handed Steps.Withdraw y ∷ []) → Steps.Withdraw ≡ receiver_step p
        → receiver_row p S.Done ≡ Some o → Path p o a b
    by_withdraw y grows at leads =
        record {
          steps = handed Steps.Withdraw y
              ∷ [];
          grows = grows;
          gives = refl;
          gets = refl;
          leads = one o _ at leads;
        }

    pub by_park : (woken : Bool) → Grows a b (parked woken ∷ []) → Steps.Park ≡ receiver_step p
        → receiver_row p (S.Token true) ≡ Some o → receiver_row p (S.Token false) ≡ Some o → Path p o a b
    by_park true grows at by_token otherwise =
        record { steps = parked true ∷ []; grows = grows; gives = refl; gets = refl; leads = one o _ at by_token }
    by_park false grows at by_token otherwise =
        record { steps = parked false ∷ []; grows = grows; gives = refl; gets = refl; leads = one o _ at otherwise }

    pub by_clock : (past : Bool) → Grows a b (clocked past ∷ []) → Steps.Clock ≡ receiver_step p
        → receiver_row p (S.Over past) ≡ Some o → Path p o a b
    by_clock past grows at leads =
        record { steps = clocked past ∷ []; grows = grows; gives = refl; gets = refl; leads = one o _ at leads }

    pub by_copy : (k : W) → Grows a b (copied (Some k) ∷ []) → Steps.Copy ≡ receiver_step p
        → receiver_row p (S.Refused false) ≡ Some o → Path p o a b
    by_copy k grows at leads =
        record { steps = copied (Some k) ∷ []; grows = grows; gives = refl; gets = refl; leads = one o _ at leads }

    pub by_refusal : Grows a b (copied None ∷ []) → Steps.Copy ≡ receiver_step p
        → receiver_row p (S.Refused true) ≡ Some o → Path p o a b
    by_refusal grows at leads =
        record { steps = copied None ∷ []; grows = grows; gives = refl; gets = refl; leads = one o _ at leads }

    pub by_own : Grows a b (did Steps.WakeOwn ∷ []) → Steps.WakeOwn ≡ receiver_step p → receiver_row p S.Done ≡ Some o
        → Path p o a b
    by_own grows at leads =
        record { steps = did Steps.WakeOwn ∷ []; grows = grows; gives = refl; gets = refl; leads = one o _ at leads }

  -- a stretch and the steps that end the call
  pub ran : {p q : ReceiverPos} {reply : Reply} {got : List T} {a b c : Log T W} → Path p (Goes q) a b
      → (ys : List (Event T W)) → Run receiver_step receiver_row q ys reply → Grows b c ys → messages_given ys ≡ []
      → messages_got ys ≡ got → Ran receiver_step receiver_row p a c reply [] got
  ran s ys run grows gives gets =
      record {
        run = s.steps ++ ys;
        is_run = runs s.leads run;
        grows = and_then s.steps ys s.grows grows;
        gives = no_given s.steps ys s.gives ∙ gives;
        gets = no_got s.steps ys s.gets ∙ gets;
      }

  -- a stretch that is the whole call
  pub whole : {p : ReceiverPos} {reply : Reply} {a b : Log T W} → Path p (Answers reply) a b
      → Ran receiver_step receiver_row p a b reply [] []
  whole s = record { run = s.steps; is_run = answered s.leads; grows = s.grows; gives = s.gives; gets = s.gets }

  -- a stretch before a run
  pub before : {p q : ReceiverPos} {reply : Reply} {got : List T} {a b c : Log T W} → Path p (Goes q) a b
      → Ran receiver_step receiver_row q b c reply [] got → Ran receiver_step receiver_row p a c reply [] got
  before s r = ran s r.run r.is_run r.grows r.gives r.gets
