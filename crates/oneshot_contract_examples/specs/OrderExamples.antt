-- Logs of both ends whose operations have an order, and logs whose operations have none.
use Rattle.std.specs.Prelude.{ℕ, [], ◌∷◌, ◌++◌}
use Rattle.oneshot_machine.specs.declared.machine.Seen.TheVariants.{Done, Word}
use Rattle.oneshot_machine.specs.declared.states.Op.TheVariants.{Load, Store, Swap, Exchange, Add, Xor}
use Rattle.oneshot_machine.specs.declared.states.TheConstants.{RECEIVING, UNPARKING, DISCONNECTED, EMPTY, MESSAGE}
use Rattle.oneshot_machine.specs.Orders.{InOrder, Reaches}
use Rattle.oneshot_contract_examples.specs.ExampleLogs.{sent_over, waits}

-- a receiver that waits in a call that blocks
-- a sender that found it waiting, and whose final swap found this word
-- the sender's log, the receiver's, and the word, in an order by both phases' tables
pub record OrdersThatAre : Type 0 where
  pub new : Reaches [] [] EMPTY
  pub received : Reaches ((Add, Word EMPTY) ∷ []) ((Load, Word MESSAGE) ∷ (Store DISCONNECTED, Done) ∷ []) DISCONNECTED
  pub waited_for_it :
      Reaches (sent_over UNPARKING) (waits ++ (Load, Word UNPARKING) ∷ (Load, Word MESSAGE) ∷ []) MESSAGE
  pub stopped_too_late :
      Reaches (sent_over EMPTY) (waits ++ (Swap EMPTY, Word UNPARKING) ∷ (Load, Word EMPTY) ∷ []) MESSAGE
  pub polled :
      Reaches ((Xor, Word EMPTY) ∷ [])
      ((Load, Word EMPTY) ∷ (Exchange EMPTY RECEIVING, Word DISCONNECTED) ∷ []) DISCONNECTED
  pub sent_too_late : Reaches ((Add, Word DISCONNECTED) ∷ []) ((Swap DISCONNECTED, Word EMPTY) ∷ []) EMPTY

-- logs that have no order, whatever the phases are
pub record OrdersThatAreNot : Type 0 where
  -- a new channel has the word EMPTY
  pub begins_at_another_word : InOrder [] [] RECEIVING → ⊥
  -- an operation finds a word that nobody left
  pub finds_what_nobody_left : {word : ℕ} → InOrder [] ((Load, Word MESSAGE) ∷ []) word → ⊥
  pub finds_no_waker : {word : ℕ} → InOrder ((Add, Word RECEIVING) ∷ []) ((Load, Word EMPTY) ∷ []) word → ⊥
  -- the last operation is skipped
  pub skips_the_last : InOrder ((Add, Word EMPTY) ∷ []) ((Load, Word EMPTY) ∷ []) EMPTY → ⊥
  -- Each log is possible for its end, and so are both phases together. But whichever of the add and the swap
  -- comes last skips the other.
  pub skips_a_swap : {word : ℕ} → InOrder ((Add, Word EMPTY) ∷ []) waits word → ⊥
  -- the final swap finds a receiver that stopped, and this receiver never did
  pub skips_a_stop : {word : ℕ} → InOrder (sent_over EMPTY) (waits ++ (Load, Word MESSAGE) ∷ []) word → ⊥
