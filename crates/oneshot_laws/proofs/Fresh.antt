-- A copy that an entry does not make is not named by that entry.
use Rattle.oneshot_laws.proofs.Names.{◌≡◌, ℕ, ◌==◌, if◌then◌else◌, Bool, true, false, Option, Some, None, refl, eq-eqb, option_map, Step, WakerMove, waker_move, back_to, input_of, WakerName, Parker}
use Rattle.oneshot_laws.proofs.Names.{Copy, Wakers}
use Rattle.oneshot_machine.specs.declared.machine.Step.TheVariants as T
use Rattle.oneshot_machine.specs.declared.states.Op.TheVariants as O
use Rattle.oneshot_world.specs.declared.trace.WakerPlace.TheVariants as W

-- a copy that an entry makes is named by that entry
abbrev pub is_named_by : ℕ → WakerName → Bool
is_named_by e Parker = true
is_named_by e (Copy number entry) = entry == e

abbrev pub is_fresh : ℕ → Option WakerMove → Bool
is_fresh e None = true
is_fresh e (Some (name, W.New, to)) = is_named_by e name
is_fresh e (Some (name, _, to)) = true

old_move : (e : ℕ) (f : WakerName → WakerMove) → ((name : WakerName) → is_fresh e (Some (f name)) ≡ true)
    → (x : Option WakerName) → is_fresh e (option_map f x) ≡ true
old_move e f h None = refl
old_move e f h (Some name) = h name

told_fresh : (e : ℕ) (answer : Bool) (number : Option ℕ)
    → is_fresh e (if answer then None else option_map (λ name. (name, W.New, W.Hand)) (input_of answer e number).copy)
    ≡ true
told_fresh e true number = refl
told_fresh e false None = refl
told_fresh e false (Some number) = eq-eqb e e refl

exchange_fresh : (e : ℕ) (b : Bool) (x : Option WakerName)
    → is_fresh e (if b then None else option_map (λ name. (name, W.Hand, W.Dropped)) x) ≡ true
exchange_fresh e true x = refl
exchange_fresh e false x = old_move e (λ name. (name, W.Hand, W.Dropped)) (λ name. refl) x

pub move_fresh : (e : ℕ) (answer : Bool) (number : Option ℕ) (word : ℕ) (w : Wakers) (step : Step)
    → is_fresh e (waker_move (input_of answer e number) word w step) ≡ true
move_fresh e answer number word w T.WriteWaker = old_move e (λ name. (name, W.Hand, W.Cell)) (λ name. refl) w.hand
move_fresh e answer number word w T.TakeWaker = old_move e (λ name. (name, W.Cell, W.SenderHand)) (λ name. refl) w.cell
move_fresh e answer number word w T.Withdraw = old_move e (λ name. (name, W.Cell, back_to name)) (λ name. refl) w.cell
move_fresh e answer number word w T.Wake = old_move e (λ name. (name, W.SenderHand, W.Used)) (λ name. refl) w.taken
move_fresh e answer number word w T.Copy = told_fresh e answer number
move_fresh e answer number word w (T.Word (O.Exchange expected new)) = exchange_fresh e (word == expected) w.hand
move_fresh e answer number word w (T.Word _) = refl
move_fresh e answer number word w _ = refl
