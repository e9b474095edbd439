-- Examples that the definitions accept or refuse: states and lives of a token, and wakers that were used or not.
use Rattle.std.specs.Prelude.{◌≡◌, ℕ, ⊤, Bool, true, false, List, [], ◌∷◌, Some, None}
use Rattle.crossbeam_utils.specs.Token.{IsSamePass}
use Rattle.oneshot_word.specs.declared.any_waker.AnyWaker.TheVariants.{Thread, Task}
use Rattle.oneshot_ends.specs.declared.token.Given.{Given}
use Rattle.oneshot_ends.specs.declared.token.Half.{Half}
use Rattle.oneshot_ends.specs.declared.token.Half.TheVariants.{Parking, Waking}
use Rattle.oneshot_ends.specs.declared.token.WakingHalf.{WakingHalf}
use Rattle.oneshot_ends.specs.Tokens.{TokenIs, divides, gives, takes, Life, IsGivenOnce, took}
use Rattle.oneshot_ends.specs.Woken.{IsWoken, Sending}

pub record TokensThatAreNot : Type 0 where
  pub taken_not_given : TokenIs false (Parking true ∷ Waking false ∷ []) → ⊥
  pub lost : TokenIs false (Parking false ∷ Waking true ∷ []) → ⊥
  pub there_again : TokenIs true (Parking true ∷ Waking true ∷ []) → ⊥

-- the latest act of a life comes first
pub record LivesThatAre : Type 0 where
  pub given_and_taken : IsGivenOnce (takes ∷ gives ∷ divides ∷ []) false
  pub there : IsGivenOnce (gives ∷ divides ∷ []) true
  pub leads_there : Life (gives ∷ divides ∷ []) true (Parking false ∷ Waking true ∷ [])
  pub leads_on : Life (takes ∷ gives ∷ divides ∷ []) false (Parking true ∷ Waking true ∷ [])
  pub took_it : took (Parking true) ≡ true
  pub took_none : took (Parking false) ≡ false

pub record LivesThatAreNot : Type 0 where
  pub given_twice : IsGivenOnce (gives ∷ takes ∷ gives ∷ divides ∷ []) true → ⊥
  pub taken_twice : IsGivenOnce (takes ∷ takes ∷ gives ∷ divides ∷ []) false → ⊥
  pub taken_first : IsGivenOnce (takes ∷ divides ∷ []) false → ⊥
  pub lost : IsGivenOnce (gives ∷ divides ∷ []) false → ⊥
  pub gives_undivided : {is_there : Bool} {halves : List Half} → Life (gives ∷ []) is_there halves → ⊥
  pub takes_first : {is_there : Bool} {halves : List Half} → Life (takes ∷ divides ∷ []) is_there halves → ⊥
  pub gave_and_took : took (Waking true) ≡ true → ⊥

-- A WAKER THAT WAS USED: for a thread, with the evidence of its own half
pub record WakersThatWoke : Type 0 where
  pub thread : (s : Sending ⊤ ⊤ ⊤) (half : WakingHalf) (given : Given) → s.given ≡ Some given
      → IsSamePass half.pass given.pass → IsWoken {K = ℕ} (Thread half) s.given
  pub task : IsWoken {K = ℕ} (Task 5) None

pub record WakersThatDidNot : Type 0 where
  pub unwoken : (half : WakingHalf) → IsWoken {K = ℕ} (Thread half) None → ⊥
  pub by_another : (half : WakingHalf) (given : Given) → (IsSamePass half.pass given.pass → ⊥)
      → IsWoken {K = ℕ} (Thread half) (Some given) → ⊥
