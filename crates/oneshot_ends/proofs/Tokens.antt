-- What one half knows of the token's state, and that each act of a half keeps the rule.
use Rattle.std.proofs.Common.{◌≡◌, ℕ, zero, suc, Bool, true, false, List, [], ◌∷◌, ◌++◌, ◌||◌, set, refl, sym, subst, ◌∙◌}
use mathlib.Core.Option as maybe
use mathlib.Core.Option.{some-injective, some-ne-none}
use lib.ListN.{get_elem?}
use Rattle.crossbeam_utils.specs.Register.{Turns, Forks}
use Rattle.oneshot_ends.specs.declared.token.Half.{Half}
use Rattle.oneshot_ends.specs.declared.token.Half.TheVariants.{Both, Parking, Waking}
use Rattle.oneshot_ends.specs.Tokens.{TokenIs, undivided, to_come, there, taken, took, HasOneWakingHalf}

-- whether the token is there, all halves, and one of them by its number
pub data Has : Bool → List Half → ℕ → Half → Type 0 where
  undivided_has : Has false (Both ∷ []) 0 Both
  to_come_parking : Has false (Parking false ∷ Waking false ∷ []) 0 (Parking false)
  to_come_waking : Has false (Parking false ∷ Waking false ∷ []) 1 (Waking false)
  there_parking : Has true (Parking false ∷ Waking true ∷ []) 0 (Parking false)
  there_waking : Has true (Parking false ∷ Waking true ∷ []) 1 (Waking true)
  taken_parking : Has false (Parking true ∷ Waking true ∷ []) 0 (Parking true)
  taken_waking : Has false (Parking true ∷ Waking true ∷ []) 1 (Waking true)

pub has : {x : Bool} {vs : List Half} {v : Half} → TokenIs x vs → (id : ℕ) → get_elem? vs id ≡ maybe.some v
    → Has x vs id v
has undivided zero at = subst (Has false _ 0) (some-injective _ _ at) undivided_has
has to_come zero at = subst (Has false _ 0) (some-injective _ _ at) to_come_parking
has to_come (suc zero) at = subst (Has false _ 1) (some-injective _ _ at) to_come_waking
has there zero at = subst (Has true _ 0) (some-injective _ _ at) there_parking
has there (suc zero) at = subst (Has true _ 1) (some-injective _ _ at) there_waking
has taken zero at = subst (Has false _ 0) (some-injective _ _ at) taken_parking
has taken (suc zero) at = subst (Has false _ 1) (some-injective _ _ at) taken_waking
has _ _ at = absurd (some-ne-none _ (sym at))

-- the split
divide_case : {x : Bool} {vs : List Half} {id : ℕ} → Has x vs id Both
    → TokenIs x (set vs id (Parking false) ++ Waking false ∷ [])
divide_case undivided_has = to_come

pub halved : (id : ℕ) (v : Half) → v ≡ Both → Forks TokenIs id v (Parking false) (Waking false)
halved id v is x views kept at = divide_case (subst (Has x views id) is (has kept id at))

-- a park that finds the token, or none
abbrev pub MayTake : Half → Bool → Bool → Half → Type 0
MayTake before was now after = (was ≡ true → took before ≡ false) × (after ≡ Parking (was || took before))

take_case : {x : Bool} {vs : List Half} {id : ℕ} {t : Bool} → Has x vs id (Parking t)
    → (w : Half) × TokenIs false (set vs id w) × ((x ≡ true → t ≡ false) × (w ≡ Parking (x || t)))
take_case to_come_parking = (Parking false, to_come, (λ _. refl, refl))
take_case there_parking = (Parking true, taken, (λ _. refl, refl))
take_case taken_parking = (Parking true, taken, (λ e. absurd (cc), refl))

pub can_take : (id : ℕ) (v : Half) → v ≡ Parking (took v) → Turns TokenIs id v (λ _. false) MayTake
can_take id v is x views kept at = take_case (subst (Has x views id) is (has kept id at))

-- the wake
abbrev pub Gives : Half → Bool → Bool → Half → Type 0
Gives before was now after = after ≡ Waking true

give_case : {x : Bool} {vs : List Half} {id : ℕ} → Has x vs id (Waking false)
    → (w : Half) × TokenIs true (set vs id w) × (w ≡ Waking true)
give_case to_come_waking = (Waking true, there, refl)

pub can_give : (id : ℕ) (v : Half) → v ≡ Waking false → Turns TokenIs id v (λ _. true) Gives
can_give id v is x views kept at = give_case (subst (Has x views id) is (has kept id at))

-- the waking half's number
waking_number : {x : Bool} {vs : List Half} {id : ℕ} {gave : Bool} → Has x vs id (Waking gave) → id ≡ 1
waking_number to_come_waking = refl
waking_number there_waking = refl
waking_number taken_waking = refl

pub has_one_waking_half : HasOneWakingHalf
has_one_waking_half is_there halves kept one other gave given at at' =
    waking_number (has kept one at) ∙ sym (waking_number (has kept other at'))
