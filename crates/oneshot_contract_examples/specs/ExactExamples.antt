-- Examples and counterexamples of the logs, operations and rows by which the law `tables_are_exact` is stated.
use Rattle.std.specs.Prelude.{ℕ, [], ◌∷◌}
use Rattle.oneshot_machine.specs.declared.machine.Seen.TheVariants.{Word}
use Rattle.oneshot_machine.specs.declared.machine.sender.SenderPos.TheVariants.{SendAdd, SendFinal}
use Rattle.oneshot_machine.specs.declared.states.Op.TheVariants.{Load, Swap, Add}
use Rattle.oneshot_machine.specs.declared.states.TheConstants.{RECEIVING, UNPARKING, EMPTY, MESSAGE}
use Rattle.oneshot_machine.specs.Exact.{IsFound, IsAllowed, Accepts, IsExact}
use Rattle.oneshot_machine.specs.Phases.{sending, fresh, owes, untouched, idle, after_load, sender_at, receiver_at}
use Rattle.oneshot_machine.specs.Slots.{SenderMay, SenderFinds, ReceiverMay, ReceiverFinds}
use Rattle.oneshot_machine.specs.Standing.{sender_table}

pub record TablesAllow : Type 0 where
  pub new_log : IsFound sender_at (SenderFinds {T = ℕ} {W = ℕ}) []
  pub adds : IsFound sender_at (SenderFinds {T = ℕ} {W = ℕ}) ((Add, Word EMPTY) ∷ [])
  pub sends_at_last :
      IsFound sender_at (SenderFinds {T = ℕ} {W = ℕ}) ((Add, Word RECEIVING) ∷ (Swap MESSAGE, Word UNPARKING) ∷ [])
  pub loads : IsFound receiver_at (ReceiverFinds {T = ℕ} {W = ℕ}) ((Load, Word EMPTY) ∷ [])
  pub may_add : IsAllowed (SenderMay {T = ℕ} {W = ℕ}) fresh Add
  pub may_store : IsAllowed (ReceiverMay {T = ℕ} {W = ℕ}) (idle after_load) (Swap RECEIVING)
  pub adds_over_0 : Accepts sender_table Add RECEIVING SendAdd
  -- a position at which the end performs another operation
  pub adds_elsewhere : Accepts sender_table Add MESSAGE SendFinal

pub record TablesRefuse : Type 0 where
  pub adds_over_4 : IsFound sender_at (SenderFinds {T = ℕ} {W = ℕ}) ((Add, Word MESSAGE) ∷ []) → ⊥
  pub swaps_first : IsFound sender_at (SenderFinds {T = ℕ} {W = ℕ}) ((Swap MESSAGE, Word UNPARKING) ∷ []) → ⊥
  pub finds_1_first : IsFound receiver_at (ReceiverFinds {T = ℕ} {W = ℕ}) ((Load, Word UNPARKING) ∷ []) → ⊥
  pub may_swap_first : IsAllowed (SenderMay {T = ℕ} {W = ℕ}) fresh (Swap MESSAGE) → ⊥
  pub may_add_again : IsAllowed (SenderMay {T = ℕ} {W = ℕ}) (owes sending) Add → ⊥
  pub may_store_first : IsAllowed (ReceiverMay {T = ℕ} {W = ℕ}) untouched (Swap RECEIVING) → ⊥
  pub accepts_1 : Accepts sender_table Add UNPARKING SendAdd → ⊥
  -- a table whose sender begins no call
  pub begins_nothing : IsExact (record sender_table { opens = [] }) sender_at (SenderMay {T = ℕ} {W = ℕ}) SenderFinds
      → ⊥
