-- States that rounds, one after another, lead from a state to another.
use Rattle.std.specs.Prelude.{◌≡◌, ℕ, zero, suc}

-- `count` steps lead from the first state to the last
abbrev pub Leads : {State : Type 0} → (State → State → Type 0) → ℕ → State → State → Type 0
Leads step zero first last = first ≡ last
Leads {State} step (suc count) first last = (before : State) × Leads step count first before × step before last
