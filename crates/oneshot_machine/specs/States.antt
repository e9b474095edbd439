-- The six operations on the shared word, as functions on numbers.
use Rattle.std.specs.Prelude.{ℕ, ◌+◌, ◌==◌, if◌then◌else◌, bit_xor}
use Rattle.oneshot_machine.specs.declared.states.Op.{Op}
use Rattle.oneshot_machine.specs.declared.states.Op.TheVariants.{Load, Store, Swap, Exchange, Add, Xor}

-- the word after an operation
abbrev pub word_after : Op → ℕ → ℕ
word_after Load word = word
word_after (Store new) word = new
word_after (Swap new) word = new
word_after (Exchange expected new) word = if word == expected then new else word
word_after Add word = word + 1
word_after Xor word = bit_xor word 1
