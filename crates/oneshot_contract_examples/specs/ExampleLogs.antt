-- Logs that several examples are about.
use Rattle.std.specs.Prelude.{ℕ, List, [], ◌∷◌, ◌++◌}
use Rattle.oneshot_machine.specs.declared.machine.Seen.TheVariants.{Word}
use Rattle.oneshot_machine.specs.declared.states.Op.TheVariants.{Load, Swap, Exchange, Add}
use Rattle.oneshot_machine.specs.declared.states.TheConstants.{RECEIVING, EMPTY, MESSAGE}
use Rattle.oneshot_machine.specs.Noted.{Noted}

-- a receive loaded the word, and nothing was there
abbrev pub loaded : List Noted
loaded = (Load, Word EMPTY) ∷ []

-- a call that blocks stored its waker
abbrev pub waits : List Noted
waits = loaded ++ (Swap RECEIVING, Word EMPTY) ∷ []

-- a poll stored its waker
abbrev pub polled : List Noted
polled = loaded ++ (Exchange EMPTY RECEIVING, Word EMPTY) ∷ []

-- a `send` found that the receiver waits
abbrev pub claims : List Noted
claims = (Add, Word RECEIVING) ∷ []

-- and its final swap found this word
abbrev pub sent_over : ℕ → List Noted
sent_over word = claims ++ (Swap MESSAGE, Word word) ∷ []
