-- The examples of senders that woke, of a receiver's own wakers and of what its ground keeps, computed.
use Rattle.std.proofs.Common.{◌≡◌, ℕ, Bool, true, false, List, [], ◌∷◌, Option, Some, None, inl, inr, refl, sym, ap, ◌∙◌, subst, arith}
use mathlib.Core.Option.{some}
use lib.ListN.{get_elem?}
use Rattle.atomic_table.specs.Seated.{TableId}
use Rattle.futures.specs.declared.task.waker.Waker.{Waker}
use Rattle.std.specs.Prelude.{⊤, IsSomeAnd}
use Rattle.crossbeam_utils.specs.Token.{IsSamePass}
use Rattle.futures.specs.Task.{Wakes as CopyWakes}
use Rattle.oneshot_machine.specs.declared.states.TheConstants.{UNPARKING, MESSAGE}
use Rattle.oneshot_machine.specs.Noted.{Noted}
use Rattle.oneshot_machine.specs.Slots.{away}
use Rattle.oneshot_machine.specs.Phases.{sending, blocked, sender_at, receiver_at}
use Rattle.oneshot_machine.specs.Over.{SenderIsOver, over_finished}
use Rattle.oneshot_drive.specs.Blocking.{Parks, parks_waiting}
use Rattle.oneshot_drive.specs.Polls.{is_registered}
use Rattle.oneshot_drive.specs.Wakes.{found_receiver_waiting}
use Rattle.oneshot_contract_examples.proofs.ReceivedExamples.{wakers_that_pass, wakers_that_do_not}
use Rattle.oneshot_word.specs.declared.any_waker.AnyWaker.{AnyWaker}
use Rattle.oneshot_word.specs.declared.any_waker.AnyWaker.TheVariants.{Thread, Task}
use Rattle.oneshot_word.specs.Rule.{out, bare, has_message}
use Rattle.oneshot_word.specs.Side.{Side}
use Rattle.oneshot_ends.specs.declared.token.Given.{Given}
use Rattle.oneshot_ends.specs.declared.token.Half.TheVariants.{Parking, Waking}
use Rattle.oneshot_ends.specs.declared.token.WakingHalf.{WakingHalf}
use Rattle.oneshot_ends.specs.Ends.{registered_if}
use Rattle.oneshot_ends.specs.Stays.{own_stays, polled_stays, taken_stays}
use Rattle.oneshot_ends.specs.NoLostWakeup.{SleepsOn, ParkerAt, HasGivenTokenOf, HasUsed}
use Rattle.oneshot_contract_examples.specs.ExampleLogs.{waits as blocks}
use Rattle.oneshot_contract_examples.specs.OwnExamples.{side_by, sender_of_it, sender_of_task, parks_beside, UsesThatAre, UsesThatAreNot}
use Rattle.oneshot_ends.specs.OwnWakers.{RealWaker, IsCopyFor, IsTaskOf, IsHalfOf, IsNoThread, is_waiting, WaitsByHalvesOf}
use Rattle.oneshot_ends.specs.Woken.{Sending, IsWoken, WokeBy, phase, found_waiting as shown_waiting, HasEnded}
use Rattle.oneshot_ends.proofs.GrewByRuns.{words_of}
use Rattle.oneshot_ends.proofs.OwnWakers.{same_put}
use Rattle.oneshot_ends.specs.Tokens.{TokenIs}
use Rattle.oneshot_ends.specs.Tokens as states
use Rattle.oneshot_ends.proofs.NoLostWakeup.{stays_there, own_given, token_there, sleeper_waits}

unused : {K : Type 0} {k : AnyWaker WakingHalf K} {half : WakingHalf} {given : Option Given} → IsWoken k given
    → Some k ≡ Some (Thread half) → given ≡ None → ⊥
unused {K} {k} {half} {given} woken is none =
    let same : k ≡ Thread half = cc is in
    subst (λ (given : Option Given). IsWoken {K = K} (Thread half) given) none
    (subst (λ k. IsWoken {K = K} k given) same woken)

-- what the ground of a sender with this log shows
module _ {K : Type 0} (s : Sending ⊤ (AnyWaker WakingHalf K) ⊤) {log : List Noted} (logs : s.side.log ≡ log) where
  shows_waiting : shown_waiting s ≡ found_receiver_waiting log
  shows_waiting = ap found_receiver_waiting (words_of ⊤ (AnyWaker WakingHalf K) s.side.log ∙ logs)

  shows_phase : phase s ≡ sender_at log
  shows_phase = ap sender_at (words_of ⊤ (AnyWaker WakingHalf K) s.side.log ∙ logs)

used_half : {K : Type 0} (s : Sending ⊤ (AnyWaker WakingHalf K) ⊤) (half : WakingHalf) (given : Given)
    → s.side.handed ≡ Some (Thread half) → s.used ≡ Some (Thread half) → s.given ≡ Some given
    → IsSamePass half.pass given.pass → (k : AnyWaker WakingHalf K) × WokeBy k s
used_half {K} s half given took used is same = (
  Thread half,
  record {
    took = took;
    used = used;
    woken = subst (λ (g : Option Given). IsWoken {K = K} (Thread half) g) (sym is) same;
  },
)

-- the sender of the examples took the waker of a task, and used it
used_it : (waker : Waker) → HasUsed waker (sender_of_task waker)
used_it waker = record { found = refl; woke = record { took = refl; used = refl; woken = tt } }

gives_its_own : {K : Type 0} (s : Side ⊤ (AnyWaker WakingHalf K) ⊤) (half : WakingHalf) → s.log ≡ blocks
    → s.waker ≡ away → s.handed ≡ Some (Thread half) → WaitsByHalvesOf half.pass.table_id s
gives_its_own s half logs slot gave =
    record { slot = λ k e. absurd (let no = sym slot ∙ e in cc no); gave = λ _. (Thread half, gave, refl) }

sleeps_on : (s : Side ⊤ RealWaker ⊤) (half : WakingHalf) → s.log ≡ blocks → s.waker ≡ away
    → s.handed ≡ Some (Thread half) → SleepsOn (parks_beside half false) s
sleeps_on s half logs slot gave =
    record {
      timed = false;
      parks = subst (λ xs. Parks false (receiver_at xs)) (sym (words_of ⊤ RealWaker s.log ∙ logs))
          (parks_waiting false blocked);
      own = gives_its_own s half logs slot gave;
      untaken = refl;
    }

-- a parker's state after the token was given, by its waking half's number
parker_at : {taken is_there : Bool} (given : Given) → given.pass.id ≡ 1
    → TokenIs is_there (Parking taken ∷ Waking true ∷ []) → ParkerAt given taken is_there
parker_at {taken} given number allowed =
    record {
      halves = Parking taken ∷ Waking true ∷ [];
      own = 0;
      allowed = allowed;
      gave = ap (get_elem? (Parking taken ∷ Waking true ∷ [])) number ∙ sym (ap (λ half. some half) given.given);
      parks = refl;
    }

gives_token : (half : WakingHalf) (given : Given) → IsSamePass half.pass given.pass
    → HasGivenTokenOf half.pass.table_id (sender_of_it half given)
gives_token half given = own_given half.pass.table_id (Thread half) (sender_of_it half given) (Some given) refl refl

not_anothers : (s : Sending ⊤ RealWaker ⊤) (parker : TableId) (given : Given) → s.given ≡ Some given
    → (given.pass.table_id ≡ parker → ⊥) → HasGivenTokenOf parker s → ⊥
not_anothers s parker given is other gave =
    let same : gave.evidence ≡ given = cc (sym gave.is_it ∙ is) in
    other (sym (ap (λ (g : Given). g.pass.table_id) same) ∙ gave.of_parker)

never_over : (s : Sending ⊤ (AnyWaker WakingHalf ℕ) ⊤) {log : List Noted} → s.side.log ≡ log
    → (SenderIsOver sending (sender_at log) → ⊥) → HasEnded sending s → ⊥
never_over s logs never ended = never (subst (SenderIsOver sending) (shows_phase s logs) ended.over)

pub uses_that_are : UsesThatAre
uses_that_are =
    record {
      woke_it = λ s half given took used is same found. used_half s half given took used is same;
      nobody_waits = λ s logs found. let e : false ≡ true = sym (shows_waiting s logs) ∙ found in absurd (cc e);
      of_its_parker = λ p half same. same;
      of_a_task = λ waker. tt;
      for_its_task = λ cx waker wakes. inr wakes;
      gives_its_tasks = λ cx s waker logs slot gave wakes.
          record { slot = λ k e. absurd (let no = sym slot ∙ e in cc no); gave = λ _. (Task waker, gave, inr wakes) };
      will_be_woken = λ cx future waker gave wakes.
          inr (subst (λ waker. IsSomeAnd waker (IsCopyFor cx)) (sym gave) (inr wakes));
      woke_itself = λ cx future woken. inl woken;
      is_registered_by = λ s waker logs gave.
          ap (λ xs. registered_if (is_registered (receiver_at xs)) s.handed) logs ∙ ap (registered_if true) gave;
      used_its_waker = used_it;
      has_used_none = λ s. refl;
      has_used_it = λ s used. refl;
      woke_its_task = λ cx waker wakes. (waker, used_it waker, inr wakes);
      its_own = λ half. refl;
      waits = refl;
      is_overdue = refl;
      found_the_sender = refl;
      stopped_in_time = refl;
      is_new = refl;
      gives_its_own = gives_its_own;
      has_given_its_own = λ s half logs slot gave. (gives_its_own s half logs slot gave, tt);
      ended = λ s half given logs took used is same.
          record {
            over = subst (SenderIsOver sending) (sym (shows_phase s logs)) over_finished;
            woken = λ found. used_half s half given took used is same;
          };
      at_one_moment = λ k.
          record {
            about = tt;
            words = UNPARKING ∷ [];
            homes = out ∷ out ∷ [];
            allowed = (wakers_that_pass WakingHalf Waker (λ about message. ⊤)).was_taken tt k;
          };
      sleeps = sleeps_on;
      gave_its_token = gives_token;
      has_its_token = λ half given same. token_there (gives_token half given same) refl;
      token_was_taken = λ given number. parker_at given number states.taken;
      ended_beside_a_sleeper = λ half given same number. (
        record {
          about = tt;
          words = MESSAGE ∷ [];
          homes = has_message tt ∷ bare ∷ [];
          allowed = (wakers_that_pass WakingHalf Waker (λ about message. ⊤)).was_used tt tt (Thread half) tt;
        },
        record {
          over = over_finished;
          woken = λ found. (Thread half, record { took = refl; used = refl; woken = same });
        },
        sleeps_on (side_by blocks (Thread half)) half refl refl refl,
        parker_at given number states.there,
      );
      keeps_all = λ s. own_stays;
      ended_beside_a_future = λ cx waker wakes. (
        record {
          about = tt;
          words = MESSAGE ∷ [];
          homes = has_message tt ∷ bare ∷ [];
          allowed =
              (wakers_that_pass WakingHalf Waker (λ about message. ⊤)).was_used_of_a_future tt tt (Task waker) tt;
        },
        record { over = over_finished; woken = λ found. (Task waker, (used_it waker).woke) },
        record { slot = λ k e. absurd (cc e); gave = λ _. (Task waker, refl, tt) },
        record { slot = λ k e. absurd (cc e); gave = λ _. (Task waker, refl, inr wakes) },
        refl,
        refl,
      );
      spun_and_took = λ s deadline parker.
          record {
            about = refl;
            deadline = refl;
            spins = omega arith;
            token = λ took. refl;
            parker = refl;
            halves = λ own. own;
            taken = taken_stays;
          };
      keeps_its_task = λ s cx source. polled_stays;
    }

pub uses_that_are_not : UsesThatAreNot
uses_that_are_not =
    record {
      gave_none = λ s half logs took none used.
          let woken = used (shows_waiting s logs) in unused woken.1.woken (sym woken.1.took ∙ took) none;
      took_none = λ s logs none used.
          let woken = used (shows_waiting s logs) in let e = sym none ∙ woken.1.took in absurd (cc e);
      a_task = λ parker own. own;
      of_another = λ parker half other own. other own;
      has_a_task = λ s parker has. has.1;
      left_a_task = λ s parker logs gave owned.
          same_put (IsHalfOf parker) (owned.gave (ap (λ xs. is_waiting (receiver_at xs)) logs)) gave;
      a_thread_is_no_task = λ cx half its. its;
      for_another_task = λ cx waker has other its.
          elim its [
            | inl lacks ↦ absurd (let e : false ≡ true = sym has ∙ lacks in cc e)
            | inr wakes ↦ other wakes.0
          ];
      left_anothers_copy = λ cx s waker logs gave has other owned.
          elim (same_put (IsTaskOf cx) (owned.gave (ap (λ xs. is_waiting (receiver_at xs)) logs)) gave) [
            | inl lacks ↦ absurd (let e : false ≡ true = sym has ∙ lacks in cc e)
            | inr wakes ↦ other wakes.0
          ];
      pends_unregistered = λ cx future asleep none will.
          elim will [
            | inl woken ↦ absurd (let e : false ≡ true = sym asleep ∙ woken in cc e)
            | inr its ↦ subst (λ waker. IsSomeAnd waker (IsCopyFor cx)) none its
          ];
      woke_another = λ cx waker has other used.
          let same : used.0 ≡ waker = cc (sym used.1.woke.took) in
          elim used.2 [
            | inl lacks ↦ absurd (let e : false ≡ true = sym has ∙ lacks in cc e)
            | inr wakes ↦ other (subst (λ w. CopyWakes w cx) same wakes)
          ];
      took_no_task = λ waker s none used. let e = sym none ∙ used.woke.took in absurd (cc e);
      used_none = λ waker s none used. let e = sym none ∙ used.woke.used in absurd (cc e);
      used_another = λ waker other s is apart used. apart (cc (sym is ∙ used.woke.used));
      left_its_task = λ waker s logs took none ended.
          let woken = ended.woken (shows_waiting s logs) in let e = sym none ∙ woken.1.used in absurd (cc e);
      has_anothers = λ s parker half slot other owned. other (owned.slot (Thread half) slot);
      left_a_thread = λ s half logs gave free.
          same_put IsNoThread (free.gave (ap (λ xs. is_waiting (receiver_at xs)) logs)) gave;
      is_fresh = λ s logs ended. never_over s logs (λ over. elim over [ ]) ended;
      ended_unwoken = λ s half logs took none ended.
          let woken = ended.woken (shows_waiting s logs) in unused woken.1.woken (sym woken.1.took ∙ took) none;
      dropped_instead = λ s logs ended. never_over s logs (λ over. elim over [ ]) ended;
      took_another = λ k other apart moment.
          (wakers_that_do_not WakingHalf Waker (λ about message. ⊤)).took_another k other apart moment.allowed;
      sleeps_unasked = λ s half logs sleeps.
          let e : false ≡ true = sym (ap (λ xs. is_waiting (receiver_at xs)) logs) ∙ sleeper_waits s sleeps in
          absurd (cc e);
      sleeps_by_a_task = λ s half logs gave sleeps.
          same_put (IsHalfOf half.parker) (sleeps.own.gave (sleeper_waits s sleeps)) gave;
      sleeps_again = λ s half took sleeps. let e : false ≡ true = sym sleeps.untaken ∙ took in absurd (cc e);
      gave_anothers_token = not_anothers;
      token_is_lost = λ given at. let e : false ≡ true = stays_there given false false at in absurd (cc e);
      token_is_there_again = λ given at. let e : true ≡ false = stays_there given true true at in absurd (cc e);
      has_anothers_token = λ s half given is other has. not_anothers s half.parker given is other has.gave;
      took_it_before = λ half given number has.
          let same : has.gave.evidence ≡ given = cc (sym has.gave.is_it) in
          let at = subst (λ (g : Given). ParkerAt g true false) (sym same) (parker_at given number states.taken) in
          let e : false ≡ true = has.there false at in absurd (cc e);
      gave_no_token = λ s parker none gave. let e = sym none ∙ gave.is_it in absurd (cc e);
      forgets_its_message = λ s next took none keeps. let e = sym none ∙ keeps.taken.stays tt took in absurd (cc e);
      gives_its_token_back = λ s patience parker keeps. let e : false ≡ true = keeps.token refl in absurd (cc e);
      parks_by_another = λ s patience parker other apart keeps. apart (sym keeps.parker);
      sets_its_spins_back = λ s deadline half keeps. let few = keeps.spins in omega arith;
      moves_its_deadline = λ s deadline other half moved keeps. moved keeps.deadline;
      polls_by_another = λ s cx keeps. let e : 1 ≡ 2 = keeps.source in cc e;
    }
