-- An operation on the word, with what it found.
use Rattle.std.specs.Prelude.{ℕ, Bool, true, false, ◌&&◌, ◌==◌, Option, Some, None}
use Rattle.oneshot_machine.specs.declared.machine.Seen.{Seen}
use Rattle.oneshot_machine.specs.declared.machine.Seen.TheVariants as S
use Rattle.oneshot_machine.specs.declared.machine.Step.{Step}
use Rattle.oneshot_machine.specs.declared.machine.Step.TheVariants.{Word}
use Rattle.oneshot_machine.specs.declared.states.Op.{Op}
use Rattle.oneshot_machine.specs.declared.states.Op.TheVariants.{Load, Store, Swap, Exchange, Add, Xor}

-- an operation and what it saw
abbrev pub Noted : Type 0
Noted = Op × Seen

-- what an operation sees: a store nothing, any other the word that it finds
abbrev pub saw : Op → ℕ → Seen
saw (Store new) word = S.Done
saw _ word = S.Word word

-- the operation of a step on the word
abbrev pub op_of : Step → Option Op
op_of (Word op) = Some op
op_of _ = None

abbrev pub is_same_op : Op → Op → Bool
is_same_op Load Load = true
is_same_op (Store a) (Store b) = a == b
is_same_op (Swap a) (Swap b) = a == b
is_same_op (Exchange a b) (Exchange c d) = a == c && b == d
is_same_op Add Add = true
is_same_op Xor Xor = true
is_same_op _ _ = false
