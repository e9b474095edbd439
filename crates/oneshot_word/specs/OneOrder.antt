-- The order of both ends' operations is unique: two orders of the same logs are the same.
use Rattle.std.specs.Prelude.{◌≡◌, ℕ, List, [], ◌∷◌, ◌++◌}
use Rattle.oneshot_machine.specs.declared.machine.End.{End}
use Rattle.oneshot_machine.specs.declared.machine.End.TheVariants.{Sender, Receiver}
use Rattle.oneshot_machine.specs.Noted.{Noted}
use Rattle.oneshot_machine.specs.Orders.{InOrder, none_made, by_sender, by_receiver, Reaches}

-- which end performs each operation of an order, from the first on
abbrev pub ends_of : {xs ys : List Noted} {word : ℕ} → InOrder xs ys word → List End
ends_of none_made = []
ends_of (by_sender op order) = ends_of order ++ Sender ∷ []
ends_of (by_receiver op order) = ends_of order ++ Receiver ∷ []

-- Two orders of the same logs are the same if the ends operate in the same sequence and leave the same word.
-- The operations themselves are in the logs.
pub record IsSameOrder {xs ys : List Noted} {v w : ℕ} (one : InOrder xs ys v) (other : InOrder xs ys w)
    : Type 0 where
  pub word : v ≡ w
  pub ends : ends_of one ≡ ends_of other

-- Logs that the rule of the word allows have no second order, not even one that breaks the rule: an order
-- requires only that each operation finds the word that the one before it left.
abbrev pub OrderIsOne : Type 0
OrderIsOne =
    (xs ys : List Noted) (word v w : ℕ) → Reaches xs ys word → (one : InOrder xs ys v) (other : InOrder xs ys w)
    → IsSameOrder one other
