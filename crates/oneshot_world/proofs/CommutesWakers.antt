-- A step does the same with the wakers by classes.
use Rattle.oneshot_world.proofs.Names.{◌≡◌, ℕ, Bool, true, false, Option, Some, None, refl, ◌∙◌, ap, ◌==◌, is_some, is_none, if◌then◌else◌, option_map, Step, Classes, as_name, as_wakers, as_input}
use Rattle.oneshot_world.proofs.Names.{as_move, is_parker, is_copy, withdrawn, back_to, wakers_left, waker_move, WakerName, Parker, Copy, WakerPlace, Input, Wakers}
use Rattle.oneshot_machine.specs.declared.machine.Step.TheVariants as T
use Rattle.oneshot_machine.specs.declared.states.Op.TheVariants as O
use Rattle.oneshot_world.specs.declared.trace.WakerPlace.TheVariants as WakerPlaces

-- what a step reads of a waker's place
pub some_as : {X Y : Type 0} (f : X → Y) (x : Option X) → is_some (option_map f x) ≡ is_some x
some_as f None = refl
some_as f (Some x) = refl

pub none_as : {X Y : Type 0} (f : X → Y) (x : Option X) → is_none (option_map f x) ≡ is_none x
none_as f None = refl
none_as f (Some x) = refl

pub copy_as : (k : Classes) (x : Option WakerName) → is_copy (option_map (as_name k) x) ≡ is_copy x
copy_as k None = refl
copy_as k (Some Parker) = refl
copy_as k (Some (Copy number entry)) = refl

pub parker_as : (k : Classes) (x : Option WakerName) → is_parker (option_map (as_name k) x) ≡ is_parker x
parker_as k None = refl
parker_as k (Some Parker) = refl
parker_as k (Some (Copy number entry)) = refl

withdrawn_as : (k : Classes) (cell hand : Option WakerName)
    → withdrawn (option_map (as_name k) cell) (option_map (as_name k) hand)
    ≡ option_map (as_name k) (withdrawn cell hand)
withdrawn_as k None hand = refl
withdrawn_as k (Some Parker) hand = refl
withdrawn_as k (Some (Copy number entry)) hand = refl

if_as : {X Y : Type 0} (f : X → Y) (b : Bool) (x y : X) → (if b then f x else f y) ≡ f (if b then x else y)
if_as f true x y = refl
if_as f false x y = refl

moves_as : (k : Classes) (from to : WakerPlace) (x : Option WakerName)
    → option_map (λ name. (name, from, to)) (option_map (as_name k) x)
    ≡ option_map (as_move k) (option_map (λ name. (name, from, to)) x)
moves_as k from to None = refl
moves_as k from to (Some x) = refl

back_as : (k : Classes) (x : Option WakerName)
    → option_map (λ name. (name, WakerPlaces.Cell, back_to name)) (option_map (as_name k) x)
    ≡ option_map (as_move k) (option_map (λ name. (name, WakerPlaces.Cell, back_to name)) x)
back_as k None = refl
back_as k (Some Parker) = refl
back_as k (Some (Copy number entry)) = refl

-- the wakers after a step, and the one that it moves
pub wakers_as : (k : Classes) (t : Input) (word : ℕ) (w : Wakers) (step : Step)
    → wakers_left (as_input k t) word (as_wakers k w) step ≡ as_wakers k (wakers_left t word w step)
wakers_as k t word w T.Withdraw = rw (withdrawn_as k w.cell w.hand) refl
wakers_as k t word w T.Wake = rw (parker_as k w.taken) refl
wakers_as k t word w T.Copy = rw (if_as (option_map (as_name k)) t.answer w.hand t.copy) refl
wakers_as k t word w (T.Word (O.Exchange expected new)) =
    rw (if_as (option_map (as_name k)) (word == expected) w.hand None) refl
wakers_as k t word w (T.Word _) = refl
wakers_as k t word w _ = refl

pub waker_moved_as : (k : Classes) (t : Input) (word : ℕ) (w : Wakers) (step : Step)
    → waker_move (as_input k t) word (as_wakers k w) step ≡ option_map (as_move k) (waker_move t word w step)
waker_moved_as k t word w T.WriteWaker = moves_as k WakerPlaces.Hand WakerPlaces.Cell w.hand
waker_moved_as k t word w T.TakeWaker = moves_as k WakerPlaces.Cell WakerPlaces.SenderHand w.cell
waker_moved_as k t word w T.Withdraw = back_as k w.cell
waker_moved_as k t word w T.Wake = moves_as k WakerPlaces.SenderHand WakerPlaces.Used w.taken
waker_moved_as k t word w T.Copy =
    ap (λ x. if t.answer then None else x) (moves_as k WakerPlaces.New WakerPlaces.Hand t.copy)
    ∙ if_as (option_map (as_move k)) t.answer None _
waker_moved_as k t word w (T.Word (O.Exchange expected new)) =
    ap (λ x. if word == expected then None else x) (moves_as k WakerPlaces.Hand WakerPlaces.Dropped w.hand)
    ∙ if_as (option_map (as_move k)) (word == expected) None _
waker_moved_as k t word w (T.Word _) = refl
waker_moved_as k t word w _ = refl
