-- Each life of a token leads to one of its four states, and gives it at most once.
use Rattle.std.proofs.Common.{◌≡◌, ℕ, suc, ◌+◌, Bool, true, false, List, [], ◌∷◌, ◌++◌, set, refl, arith}
use Rattle.std.specs.Prelude.{if◌then◌else◌, ◌≤◌}
use Rattle.oneshot_ends.specs.declared.token.Half.{Half}
use Rattle.oneshot_ends.specs.declared.token.Half.TheVariants.{Both, Parking, Waking}
use Rattle.oneshot_ends.specs.Tokens.{TokenIs, undivided, to_come, there, taken, Act, divides, gives, takes, TokenStep, was_divided, was_given, was_taken, was_missed, Life, made, and_then, given_by}
use Rattle.oneshot_ends.specs.Tokens.{taken_by, times_given, times_taken, LivesLeadToStates, TokensAreGivenOnce}
use Rattle.oneshot_ends.proofs.Tokens.{Has, has, undivided_has, to_come_waking, there_parking}

-- how often the token was given and taken, in each state
data Stands : ℕ → ℕ → Bool → List Half → Type 0 where
  stands_undivided : Stands 0 0 false (Both ∷ [])
  stands_to_come : Stands 0 0 false (Parking false ∷ Waking false ∷ [])
  stands_there : Stands 1 0 true (Parking false ∷ Waking true ∷ [])
  stands_taken : Stands 1 1 false (Parking true ∷ Waking true ∷ [])

token_state : {g t : ℕ} {x : Bool} {vs : List Half} → Stands g t x vs → TokenIs x vs
token_state stands_undivided = undivided
token_state stands_to_come = to_come
token_state stands_there = there
token_state stands_taken = taken

on_divided : {g t : ℕ} {x : Bool} {vs : List Half} {id : ℕ} → Stands g t x vs → Has x vs id Both
    → Stands g t x (set vs id (Parking false) ++ Waking false ∷ [])
on_divided stands_undivided undivided_has = stands_to_come
on_divided stands_to_come has_both = elim has_both [ ]
on_divided stands_there has_both = elim has_both [ ]
on_divided stands_taken has_both = elim has_both [ ]

on_given : {g t : ℕ} {x : Bool} {vs : List Half} {id : ℕ} → Stands g t x vs → Has x vs id (Waking false)
    → Stands (suc g) t true (set vs id (Waking true))
on_given stands_to_come to_come_waking = stands_there
on_given stands_undivided has_waking = elim has_waking [ ]
on_given stands_there has_waking = elim has_waking [ ]
on_given stands_taken has_waking = elim has_waking [ ]

on_taken : {g t : ℕ} {vs : List Half} {id : ℕ} {before : Bool} → Stands g t true vs → Has true vs id (Parking before)
    → Stands g (suc t) false (set vs id (Parking true))
on_taken stands_there there_parking = stands_taken

-- one more act
after : {act : Act} {g t : ℕ} {x y : Bool} {vs ws : List Half} → Stands g t x vs → TokenStep act x vs y ws
    → Stands (given_by act g) (taken_by act t) y ws
after s (was_divided id at) = on_divided s (has (token_state s) id at)
after s (was_given id at) = on_given s (has (token_state s) id at)
after s (was_taken id at) = on_taken s (has (token_state s) id at)
after s (was_missed id at) = s

stands : {acts : List Act} {x : Bool} {vs : List Half} → Life acts x vs
    → Stands (times_given acts) (times_taken acts) x vs
stands made = stands_undivided
stands (and_then life step) = after (stands life) step

once : {g t : ℕ} {x : Bool} {vs : List Half} → Stands g t x vs → (g ≤ 1) × (g ≡ t + (if x then 1 else 0))
once stands_undivided = (omega arith, refl)
once stands_to_come = (omega arith, refl)
once stands_there = (omega arith, refl)
once stands_taken = (omega arith, refl)

-- a life that leads to each state
halves_made : Life (divides ∷ []) false (Parking false ∷ Waking false ∷ [])
halves_made = and_then made (was_divided 0 refl)

pub halves_gave : Life (gives ∷ divides ∷ []) true (Parking false ∷ Waking true ∷ [])
halves_gave = and_then halves_made (was_given 1 refl)

pub halves_took : Life (takes ∷ gives ∷ divides ∷ []) false (Parking true ∷ Waking true ∷ [])
halves_took = and_then halves_gave (was_taken 0 refl)

life_to : {x : Bool} {vs : List Half} → TokenIs x vs → (acts : List Act) × Life acts x vs
life_to undivided = (_, made)
life_to to_come = (_, halves_made)
life_to there = (_, halves_gave)
life_to taken = (_, halves_took)

pub lives_lead_to_states : LivesLeadToStates
lives_lead_to_states = (λ acts x vs life. token_state (stands life), λ x vs is. life_to is)

pub tokens_are_given_once : TokensAreGivenOnce
tokens_are_given_once acts x vs life =
    let is = once (stands life) in record { given = is.0; taken = is.1 }
