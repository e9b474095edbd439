-- What the rule implies for both logs: an order of their operations in which each finds what the one before it left.
use Rattle.std.specs.Prelude.{ℕ, List, [], ◌∷◌, Option, None}
use Rattle.oneshot_machine.specs.Noted.{Noted}
use Rattle.oneshot_machine.specs.Orders.{Reaches}
use Rattle.oneshot_word.specs.declared.any_waker.AnyWaker.{AnyWaker}
use Rattle.oneshot_word.specs.declared.rule.Role.TheVariants.{Maker, MakerWithSlot, Sender, Receiver}
use Rattle.oneshot_word.specs.declared.rule.View.{View}
use Rattle.oneshot_word.specs.Rule.{Home, Tied}
use Rattle.oneshot_word.specs.Seats.{view}
use Rattle.oneshot_machine.specs.declared.states.TheConstants.{EMPTY}

-- the words and the views of all seats
pub data Ordered {T H K P : Type 0} (q : P) : List ℕ → List (View T H K P) → Type 0 where
  -- before there are ends
  maker_before : Ordered q (EMPTY ∷ []) (view q Maker [] None None ∷ [])
  maker_with_slot_before : Ordered q (EMPTY ∷ []) (view q MakerWithSlot [] None None ∷ [])
  -- from then on
  in_order : {word : ℕ} (xs ys : List Noted) {given taken : Option T} {put woke : Option (AnyWaker H K)}
      → Reaches xs ys word
      → Ordered q (word ∷ []) (view q Sender xs given woke ∷ view q Receiver ys taken put ∷ [])

-- In every state that the rule allows, the operations of both ends have an order.
abbrev pub RuleOrders : {T P : Type 0} (H K : Type 0) → (P → T → Type 0) → Type 0
RuleOrders {T} {P} H K keeps =
    (q : P) (words : List ℕ) (homes : List (Home T H K)) (views : List (View T H K P))
    → Tied keeps q words homes views → Ordered q words views
