-- The law that after each log the definitions allow exactly the operations of the table, each of which finds only words
-- for which the table has a row.
use Rattle.std.specs.Prelude.{◌≡◌, ℕ, List, [], ◌∷◌, ◌++◌, All, Contains, IsSome}
use Rattle.oneshot_machine.specs.declared.machine.Step.TheVariants.{Word}
use Rattle.oneshot_machine.specs.declared.states.Op.{Op}
use Rattle.oneshot_machine.specs.Noted.{Noted, saw}
use Rattle.oneshot_machine.specs.Phases.{sender_at, receiver_at}
use Rattle.oneshot_machine.specs.Slots.{Held, SenderMay, SenderFinds, ReceiverMay, ReceiverFinds}
use Rattle.oneshot_machine.specs.Standing.{Table, standing, operations, sender_table, receiver_table}

module _ {At T W : Type 0} (at : List Noted → At)
    (Finds : At → Op → ℕ → Held T → Held W → Held T → Held W → Type 0) where
  -- a log of operations, each with a word that it may find
  pub data IsFound : List Noted → Type 0 where
    none_yet : IsFound []
    one_more : {xs : List Noted} {op : Op} {m m' : Held T} {w w' : Held W} (word : ℕ)
        → IsFound xs → Finds (at xs) op word m w m' w' → IsFound (xs ++ (op, saw op word) ∷ [])

-- the operation is allowed with some slots
abbrev pub IsAllowed : {At T W : Type 0} → (At → Op → Held T → Held W → Type 0) → At → Op → Type 0
IsAllowed {At} {T} {W} May at op = (m : Held T) × (w : Held W) × May at op m w

-- a position that performs the operation has a row for this word
abbrev pub Accepts : {P : Type 0} → Table P → Op → ℕ → P → Type 0
Accepts t op word p = t.step p ≡ Word op → IsSome (t.row p (saw op word))

-- The definitions allow an end exactly the operations of its table. Each finds only words for which there is a row.
pub record IsExact {P At T W : Type 0} (t : Table P) (at : List Noted → At)
    (May : At → Op → Held T → Held W → Type 0)
    (Finds : At → Op → ℕ → Held T → Held W → Held T → Held W → Type 0) : Type 0 where
  -- after such a log each operation of the table is allowed, given some message
  -- and some waker
  pub no_less : T → W → {xs : List Noted} → IsFound at Finds xs
      → All (IsAllowed May (at xs)) (operations t xs)
  -- each operation that is allowed is one of the table
  pub no_more : {xs : List Noted} {op : Op} {m : Held T} {w : Held W}
      → IsFound at Finds xs → May (at xs) op m w → Contains (operations t xs) op
  -- an operation that is allowed may find some word
  pub finds : {xs : List Noted} {op : Op} {m : Held T} {w : Held W}
      → May (at xs) op m w → (word : ℕ) × (m' : Held T) × (w' : Held W) × Finds (at xs) op word m w m' w'
  -- and finds only words for which each position that performs it has a row
  pub accepted : {xs : List Noted} {op : Op} {m m' : Held T} {w w' : Held W} (word : ℕ)
      → IsFound at Finds xs → Finds (at xs) op word m w m' w' → All (Accepts t op word) (standing t xs)

abbrev pub SenderIsExact : (T W : Type 0) → Type 0
SenderIsExact T W = IsExact sender_table sender_at (SenderMay {T = T} {W = W}) SenderFinds

abbrev pub ReceiverIsExact : (T W : Type 0) → Type 0
ReceiverIsExact T W = IsExact receiver_table receiver_at (ReceiverMay {T = T} {W = W}) ReceiverFinds
