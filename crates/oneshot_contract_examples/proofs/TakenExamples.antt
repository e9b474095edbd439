-- The examples of the message that a receiver took are so.
use Rattle.std.proofs.Common.{◌≡◌, ℕ, true, false, [], ◌∷◌, Option, Some, None, refl, sym, ap}
use Rattle.futures.specs.declared.task.waker.Waker.{Waker}
use Rattle.std.specs.Prelude.{⊤}
use Rattle.oneshot_machine.specs.declared.states.TheConstants.{MESSAGE}
use Rattle.oneshot_word.specs.Rule.{out}
use Rattle.oneshot_contract_examples.proofs.ReceivedExamples.{messages_that_pass, messages_that_do_not}
use Rattle.oneshot_ends.specs.declared.token.WakingHalf.{WakingHalf}
use Rattle.oneshot_ends.specs.Taken.{has_found}
use Rattle.oneshot_contract_examples.specs.TakenExamples.{TakesThatAre, TakesThatAreNot}

pub takes_that_are : TakesThatAre
takes_that_are =
    record {
      found_it = refl;
      found_none = refl;
      takes_it = record { stays = λ x is. absurd (cc is); found = λ so. refl };
      returned_it = (refl, refl);
      returned_none = refl;
      is_ready = (refl, refl);
      is_pending = refl;
      sends = λ sender new. sym (ap has_found new);
      took_what_was_given = λ m.
          record {
            about = tt;
            words = MESSAGE ∷ [];
            homes = out ∷ out ∷ [];
            allowed = (messages_that_pass WakingHalf Waker (λ about message. ⊤)).was_taken tt m;
          };
    }

pub takes_that_are_not : TakesThatAreNot
takes_that_are_not =
    record {
      took_unfound = λ so. let e : true ≡ false = so in cc e;
      found_untaken = λ so. let e : false ≡ true = so in cc e;
      took_another = λ stays. let e : ◌≡◌ {A = Option ℕ} (Some 8) (Some 7) = stays 7 refl in cc e;
      lost_it = λ kept. let e : ◌≡◌ {A = Option ℕ} None (Some 7) = kept.stays 7 refl in cc e;
      finds_untaken = λ kept. let e : false ≡ true = kept.found refl in cc e;
      returned_another = λ took. let e : ◌≡◌ {A = Option ℕ} (Some 8) (Some 7) = took.1 in cc e;
      returned_untaken = λ took. let e : ◌≡◌ {A = Option ℕ} None (Some 7) = took.1 in cc e;
      returned_again = λ took. let e : ◌≡◌ {A = Option ℕ} (Some 7) None = took.0 in cc e;
      took_in_an_error = λ took. let e : ◌≡◌ {A = Option ℕ} (Some 7) None = took in cc e;
      ready_untaken = λ took. let e : ◌≡◌ {A = Option ℕ} None (Some 7) = took.1 in cc e;
      ready_again = λ took. let e : ◌≡◌ {A = Option ℕ} (Some 7) None = took.0 in cc e;
      ready_in_an_error = λ took. let e : ◌≡◌ {A = Option ℕ} (Some 7) None = took in cc e;
      took_while_pending = λ took. let e : ◌≡◌ {A = Option ℕ} (Some 7) None = took in cc e;
      took_anothers = λ xs ys m other apart moment.
          (messages_that_do_not WakingHalf Waker (λ about message. ⊤)).took_another m other apart moment.allowed;
      took_what_none_gave = λ xs ys m moment.
          (messages_that_do_not WakingHalf Waker (λ about message. ⊤)).took_what_none_gave m moment.allowed;
    }
