-- Laws that every mark passes one test after each mark that passed another: the reader keeps one flag.
use Rattle.oneshot_laws.proofs.Names.{◌≡◌, Bool, true, false, ◌&&◌, ◌||◌, List, [], ◌∷◌, map, refl, list_all, both, only_if, Mark, after_each}
use Rattle.oneshot_laws.proofs.Coding.{flags}
use Rattle.oneshot_laws.proofs.PastLaws.{Law, Passes, Nameless, Passed, holds_by}
use Rattle.oneshot_laws.proofs.PastViews.{PastView, past_of}
use Rattle.oneshot_laws.proofs.Product.{no_names}
use Rattle.oneshot_laws.proofs.ProductRuns.{EachRun}

-- what holds of this mark and of all that follow
ever : (after test good later : Bool) → only_if after good ≡ true → only_if (after || test) later ≡ true
    → only_if after (good && later) ≡ true
ever false test good later h k = refl
ever true test good later h k = both good later h k

from_here : (after test later : Bool) → only_if (after || test) later ≡ true → only_if test later ≡ true
from_here after false later h = refl
from_here true true later h = h
from_here false true later h = h

always : (after : Bool) → only_if after true ≡ true
always true = refl
always false = refl

-- the flag is whether a mark has passed `test`, after which all must be good
module _ (test good : PastView → Bool) where
  abbrev pub ever_law : Law Bool
  ever_law =
      record {
        coding = flags;
        passes = λ after g. only_if after (good g);
        sees = λ after g. after || test g;
        names = no_names;
        first = λ place. false;
      }

  all_good : (ms : List Mark) (after : Bool) → Passes ever_law after (map past_of ms)
      → only_if after (list_all (λ m. good (past_of m)) ms) ≡ true
  all_good [] after p = always after
  all_good (m ∷ ms) after p = ever after (test (past_of m)) (good (past_of m)) _ p.0 (all_good ms _ p.1)

  good_after : (ms : List Mark) (after : Bool) → Passes ever_law after (map past_of ms)
      → after_each (λ m. test (past_of m)) (list_all (λ m. good (past_of m))) ms ≡ true
  good_after [] after p = refl
  good_after (m ∷ ms) after p =
      both _ _ (from_here after (test (past_of m)) _ (all_good ms _ p.1)) (good_after ms _ p.1)

  pub ever_after : {T : Type 0} → Nameless ever_law → Passed ever_law T
      → EachRun T (after_each (λ m. test (past_of m)) (list_all (λ m. good (past_of m))))
  ever_after nameless each = holds_by ever_law nameless each _ (λ place ms. good_after ms false)
