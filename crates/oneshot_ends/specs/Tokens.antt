-- The rule of a token: the waking half of a parker gives it once, and then the parking half takes it once.
use Rattle.std.specs.Prelude.{◌≡◌, ℕ, suc, ◌+◌, ◌≤◌, Bool, true, false, List, [], ◌∷◌, ◌++◌, if◌then◌else◌, slice_set}
use mathlib.Core.Option.{some}
use lib.ListN.{get_elem?}
use Rattle.atomic_table.specs.Seated.{TableId}
use Rattle.oneshot_ends.specs.declared.token.Half.{Half}
use Rattle.oneshot_ends.specs.declared.token.Half.TheVariants.{Both, Parking, Waking}

-- whether this half took the token
abbrev pub took : Half → Bool
took (Parking taken) = taken
took _ = false

-- what a contract sees of a parking half: whether it took the token, and its parker
pub record ParkingView : Type 0 where
  pub taken : Bool
  pub parker : TableId

-- The four states: whether the token is there, and what each half knows.
pub data TokenIs : Bool → List Half → Type 0 where
  undivided : TokenIs false (Both ∷ [])
  to_come : TokenIs false (Parking false ∷ Waking false ∷ [])
  there : TokenIs true (Parking false ∷ Waking true ∷ [])
  taken : TokenIs false (Parking true ∷ Waking true ∷ [])

-- What may happen to a token: its parker is divided into the halves, the waking half gives the token, the parking
-- half takes it, or finds none.
pub data Act : Type 0 where
  divides : Act
  gives : Act
  takes : Act
  finds_none : Act

-- A step from one state to the next, for any list of halves. `id` is the number of the half that acts.
pub data TokenStep : Act → Bool → List Half → Bool → List Half → Type 0 where
  was_divided : {is_there : Bool} {halves : List Half} (id : ℕ) → get_elem? halves id ≡ some Both
      → TokenStep divides is_there halves is_there (slice_set halves id (Parking false) ++ Waking false ∷ [])
  was_given : {is_there : Bool} {halves : List Half} (id : ℕ) → get_elem? halves id ≡ some (Waking false)
      → TokenStep gives is_there halves true (slice_set halves id (Waking true))
  was_taken : {halves : List Half} {before : Bool} (id : ℕ) → get_elem? halves id ≡ some (Parking before)
      → TokenStep takes true halves false (slice_set halves id (Parking true))
  was_missed : {halves : List Half} {before : Bool} (id : ℕ) → get_elem? halves id ≡ some (Parking before)
      → TokenStep finds_none false halves false halves

-- The life of a token up to a state: its acts, the latest first.
pub data Life : List Act → Bool → List Half → Type 0 where
  made : Life [] false (Both ∷ [])
  and_then : {act : Act} {acts : List Act} {is_there now_there : Bool} {halves now : List Half}
      → Life acts is_there halves → TokenStep act is_there halves now_there now → Life (act ∷ acts) now_there now

-- one more if this act gives, or takes
abbrev pub given_by : Act → ℕ → ℕ
given_by gives n = suc n
given_by _ n = n

abbrev pub taken_by : Act → ℕ → ℕ
taken_by takes n = suc n
taken_by _ n = n

abbrev pub times_given : List Act → ℕ
times_given [] = 0
times_given (act ∷ acts) = given_by act (times_given acts)

abbrev pub times_taken : List Act → ℕ
times_taken [] = 0
times_taken (act ∷ acts) = taken_by act (times_taken acts)

-- The token is given at most once, and is there or was taken as often as it was given. So it is taken at most
-- once, only after it was given, and it is not lost.
pub record IsGivenOnce (acts : List Act) (is_there : Bool) : Type 0 where
  pub given : times_given acts ≤ 1
  pub taken : times_given acts ≡ times_taken acts + (if is_there then 1 else 0)

-- Each life leads to one of the four states, and some life leads to each state.
abbrev pub LivesLeadToStates : Type 0
LivesLeadToStates =
    ((acts : List Act) (is_there : Bool) (halves : List Half) → Life acts is_there halves → TokenIs is_there halves)
    × ((is_there : Bool) (halves : List Half) → TokenIs is_there halves
    → (acts : List Act) × Life acts is_there halves)

-- This holds of each life, and so of each earlier part of it.
abbrev pub TokensAreGivenOnce : Type 0
TokensAreGivenOnce =
    (acts : List Act) (is_there : Bool) (halves : List Half) → Life acts is_there halves → IsGivenOnce acts is_there

-- A parker has one waking half: in each of its states, those that know what a waking half knows have one number.
abbrev pub HasOneWakingHalf : Type 0
HasOneWakingHalf =
    (is_there : Bool) (halves : List Half) → TokenIs is_there halves → (one other : ℕ) (gave given : Bool)
    → get_elem? halves one ≡ some (Waking gave) → get_elem? halves other ≡ some (Waking given) → one ≡ other
