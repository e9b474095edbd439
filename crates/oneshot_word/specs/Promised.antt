-- What the rule implies for a message in the table: it keeps its channel's promise.
use Rattle.std.specs.Prelude.{ℕ, List, [], ◌∷◌, Some, None}
use Rattle.oneshot_machine.specs.declared.machine.Seen.TheVariants.{Word}
use Rattle.oneshot_machine.specs.declared.states.Op.TheVariants.{Add}
use Rattle.oneshot_machine.specs.declared.states.TheConstants.{EMPTY, MESSAGE}
use Rattle.oneshot_word.specs.declared.rule.Role.TheVariants.{Sender, Receiver}
use Rattle.oneshot_word.specs.declared.rule.View.{View}
use Rattle.oneshot_word.specs.Rule.{Home, bare, has_message, Tied}
use Rattle.oneshot_word.specs.Seats.{view}

pub record RuleKeeps {T P : Type 0} (H K : Type 0) (keeps : P → T → Type 0) : Type 0 where
  -- in every state that the rule allows
  pub kept : (q : P) (words : List ℕ) (k : Home T H K) (views : List (View T H K P)) (m : T)
      → Tied keeps q words (has_message m ∷ k ∷ []) views → keeps q m
  -- after a `send` to a receiver that is here and has performed no operation
  pub sent : (q : P) (m : T) → keeps q m
      → Tied {H = H} {K = K} keeps q (MESSAGE ∷ []) (has_message m ∷ bare ∷ [])
      (view q Sender ((Add, Word EMPTY) ∷ []) (Some m) None ∷ view q Receiver [] None None ∷ [])
