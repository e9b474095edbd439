-- The examples of tokens, computed.
use Rattle.std.proofs.Common.{◌≡◌, ℕ, Bool, List, [], ◌∷◌, Option, refl, sym, subst, arith}
use Rattle.oneshot_word.specs.declared.any_waker.AnyWaker.TheVariants.{Thread}
use Rattle.oneshot_ends.specs.declared.token.Given.{Given}
use Rattle.oneshot_ends.specs.declared.token.Half.{Half}
use Rattle.oneshot_ends.specs.declared.token.Half.TheVariants.{Both}
use Rattle.oneshot_ends.specs.Tokens.{undivided, divides, gives, takes, Life, and_then, made, was_divided, was_given}
use Rattle.oneshot_ends.specs.Woken.{IsWoken}
use Rattle.oneshot_contract_examples.specs.TokenExamples.{TokensThatAreNot, LivesThatAre, LivesThatAreNot}
use Rattle.oneshot_contract_examples.specs.TokenExamples.{WakersThatWoke, WakersThatDidNot}
use Rattle.oneshot_ends.proofs.TokenLives.{halves_gave, halves_took}
use Rattle.oneshot_ends.proofs.Tokens.{Has, has, undivided_has}

pub tokens_that_are_not : TokensThatAreNot
tokens_that_are_not =
    record { taken_not_given = λ is. elim is [ ]; lost = λ is. elim is [ ]; there_again = λ is. elim is [ ] }

pub lives_that_are : LivesThatAre
lives_that_are =
    record {
      given_and_taken = record { given = omega arith; taken = refl };
      there = record { given = omega arith; taken = refl };
      leads_there = halves_gave;
      leads_on = halves_took;
      took_it = refl;
      took_none = refl;
    }

-- an undivided parker has one half, which is `Both`
is_both : {is_there : Bool} {halves : List Half} {id : ℕ} {half : Half} → Has is_there halves id half
    → halves ≡ Both ∷ [] → half ≡ Both
is_both undivided_has e = refl
is_both _ e = absurd (cc e)

gives_undivided : {is_there : Bool} {halves : List Half} → Life (gives ∷ []) is_there halves → ⊥
gives_undivided (and_then made (was_given id at)) = let e = is_both (has undivided id at) refl in cc

takes_first : {is_there : Bool} {halves : List Half} → Life (takes ∷ divides ∷ []) is_there halves → ⊥
takes_first (and_then (and_then made (was_divided _ _)) step) = elim step [ ]

pub lives_that_are_not : LivesThatAreNot
lives_that_are_not =
    record {
      given_twice = λ is. let few = is.given in omega arith;
      taken_twice = λ is. let e = is.taken in absurd (cc);
      taken_first = λ is. let e = is.taken in absurd (cc);
      lost = λ is. let e = is.taken in absurd (cc);
      gives_undivided = gives_undivided;
      takes_first = takes_first;
      gave_and_took = λ e. cc;
    }

pub wakers_that_woke : WakersThatWoke
wakers_that_woke =
    record {
      thread = λ s half given is same. subst (λ (g : Option Given). IsWoken {K = ℕ} (Thread half) g) (sym is) same;
      task = tt;
    }

pub wakers_that_did_not : WakersThatDidNot
wakers_that_did_not =
    record { unwoken = λ half woken. woken; by_another = λ half given other woken. other woken }
