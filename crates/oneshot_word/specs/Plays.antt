-- What each operation on the word notes in its seat: itself, with the word that it found.
-- The table passes to a note the number that the word really held. Only these notes guarantee that a log has
-- the words that were found, since the rule reads logs alone. So review each of them.
use Rattle.std.specs.Prelude.{ℕ}
use Rattle.atomic_table.specs.Table.{Me, Step}
use Rattle.oneshot_machine.specs.declared.states.Op.TheVariants.{Load, Store, Swap, Exchange, Add, Xor}
use Rattle.oneshot_word.specs.declared.rule.Slot.{Slot}
use Rattle.oneshot_word.specs.declared.rule.View.{View}
use Rattle.oneshot_word.specs.Seats.{SenderStepped, ReceiverStepped}

-- a note: the step, the seat before it, the word that it found, and the seat after
abbrev pub Note : Type 0 → Type 0 → Type 0 → Type 0 → Type 1
Note T H K P = Step (Slot T H K) → Me (Slot T H K) (View T H K P) → ℕ → Me (Slot T H K) (View T H K P) → Type 0

module _ {T H K P : Type 0} (keeps : P → T → Type 0) where
  abbrev pub AddFound : Note T H K P
  AddFound step before word after = SenderStepped keeps before Add word after

  abbrev pub XorFound : Note T H K P
  XorFound step before word after = SenderStepped keeps before Xor word after

  -- `first` is the number that the step puts in
  abbrev pub FinalSwapFound : Note T H K P
  FinalSwapFound step before word after = SenderStepped keeps before (Swap step.first) word after

  abbrev pub LoadFound : Note T H K P
  LoadFound step before word after = ReceiverStepped keeps before Load word after

  abbrev pub StoreFound : Note T H K P
  StoreFound step before word after = ReceiverStepped keeps before (Store step.first) word after

  abbrev pub SwapFound : Note T H K P
  SwapFound step before word after = ReceiverStepped keeps before (Swap step.first) word after

  -- an exchange puts in `second` if it finds `first`
  abbrev pub ExchangeFound : Note T H K P
  ExchangeFound step before word after = ReceiverStepped keeps before (Exchange step.first step.second) word after
