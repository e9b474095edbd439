-- Orders of two logs: which end performs each operation, and two orders that differ in this alone.
use Rattle.std.specs.Prelude.{◌≡◌, [], ◌∷◌}
use Rattle.oneshot_machine.specs.declared.machine.End.TheVariants.{Sender, Receiver}
use Rattle.oneshot_machine.specs.declared.machine.Seen.TheVariants.{Word}
use Rattle.oneshot_machine.specs.declared.states.Op.TheVariants.{Load, Swap, Add}
use Rattle.oneshot_machine.specs.declared.states.TheConstants.{RECEIVING, UNPARKING, EMPTY}
use Rattle.oneshot_machine.specs.Orders.{InOrder, none_made, by_sender, by_receiver}
use Rattle.oneshot_word.specs.OneOrder.{ends_of, IsSameOrder}

-- A receiver that waits and finds that the sender is about to finish, operation by operation.
abbrev pub waits_and_loads :
    InOrder ((Add, Word RECEIVING) ∷ [])
    ((Load, Word EMPTY) ∷ (Swap RECEIVING, Word EMPTY) ∷ (Load, Word UNPARKING) ∷ []) UNPARKING
waits_and_loads = by_receiver Load (by_sender Add (by_receiver (Swap RECEIVING) (by_receiver Load none_made)))

-- Two orders of the same logs: both loads find the same word, whichever end loads first. No sender has such a
-- log, since a sender's log has no load.
abbrev pub sender_loads_first : InOrder ((Load, Word EMPTY) ∷ []) ((Load, Word EMPTY) ∷ []) EMPTY
sender_loads_first = by_receiver Load (by_sender Load none_made)

abbrev pub receiver_loads_first : InOrder ((Load, Word EMPTY) ∷ []) ((Load, Word EMPTY) ∷ []) EMPTY
receiver_loads_first = by_sender Load (by_receiver Load none_made)

pub record WorkedOrders : Type 0 where
  pub ends : ends_of waits_and_loads ≡ Receiver ∷ Receiver ∷ Sender ∷ Receiver ∷ []
  pub same : IsSameOrder waits_and_loads waits_and_loads

pub record WrongOrders : Type 0 where
  -- not all of the receiver's operations come before the sender's
  pub not_apart : ends_of waits_and_loads ≡ Receiver ∷ Receiver ∷ Receiver ∷ Sender ∷ [] → ⊥
  -- logs of no real ends may have two orders, which the definition distinguishes
  pub not_the_same : IsSameOrder sender_loads_first receiver_loads_first → ⊥
