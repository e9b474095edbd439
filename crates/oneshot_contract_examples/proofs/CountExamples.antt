-- Proofs of the examples of counts, computed.
use Rattle.std.proofs.Common.{ℕ, ◌≤◌, List, [], ◌∷◌, length, refl, sym, arith, subst}
use Rattle.oneshot_machine.specs.Noted.{Noted}
use Rattle.oneshot_machine.specs.Counts.{GrewAtMost}
use Rattle.oneshot_contract_examples.specs.CountExamples.{CountsThatAre, CountsThatAreNot}

pub counts_that_are : CountsThatAre
counts_that_are =
    record {
      sends_by_two = record { added = _; list = refl; few = omega arith };
      had_made_others = record { added = _ ∷ _ ∷ []; list = refl; few = omega arith };
      makes_none = record { added = []; list = refl; few = omega arith };
      polls_too_late = record { added = _; list = refl; few = omega arith };
    }

-- all of a log that was empty was added
pub all_added : {limit : ℕ} {xs : List Noted} → GrewAtMost limit [] xs → length xs ≤ limit
all_added {limit} grew = subst (λ xs. length xs ≤ limit) (sym grew.list) grew.few

pub counts_that_are_not : CountsThatAreNot
counts_that_are_not =
    record {
      sends_by_one = λ grew. let few = all_added grew in omega arith;
      forgets_a_load = λ grew. let few = all_added grew in omega arith;
      forgets_what_found_1 = λ grew. let few = all_added grew in omega arith;
      forgets_what_it_made = λ grew. let list = grew.list in cc;
    }
