-- The form of a table: each position has a list of rows, each with what is seen and where that leads.
use Rattle.std.specs.Prelude.{Bool, true, false, Option, Some, None, List, [], ◌∷◌, ◌==◌, if◌then◌else◌}
use Rattle.oneshot_machine.specs.declared.machine.Reply.{Reply}
use Rattle.oneshot_machine.specs.declared.machine.RowEnd.{RowEnd}
use Rattle.oneshot_machine.specs.declared.machine.RowEnd.TheVariants as Code
use Rattle.oneshot_machine.specs.declared.machine.Seen.{Seen}
use Rattle.oneshot_machine.specs.declared.machine.Seen.TheVariants.{Done, Word, Over, Refused, Token}

-- where a row leads: to another position of the call, or to the reply that ends it
pub data Outcome (Position : Type 0) : Type 0 where
  Goes : (next : Position) → Outcome Position
  Answers : (reply : Reply) → Outcome Position

-- a position's rows, in the order in which they are written
abbrev pub Rows : Type 0 → Type 0
Rows Position = List (Seen × Outcome Position)

abbrev pub is_same_seen : Seen → Seen → Bool
is_same_seen Done Done = true
is_same_seen (Word a) (Word b) = a == b
is_same_seen (Over true) (Over true) = true
is_same_seen (Over false) (Over false) = true
is_same_seen (Refused true) (Refused true) = true
is_same_seen (Refused false) (Refused false) = true
is_same_seen (Token true) (Token true) = true
is_same_seen (Token false) (Token false) = true
is_same_seen _ _ = false

-- the row for what was seen
abbrev pub row_for : {P : Type 0} → Seen → Rows P → Option (Outcome P)
row_for seen [] = None
row_for seen (row ∷ rows) = if is_same_seen row.0 seen then Some row.1 else row_for seen rows

-- where a row leads, by a position and perhaps a reply
abbrev pub outcome : {P : Type 0} → P × Option Reply → Outcome P
outcome (position, None) = Goes position
outcome (position, Some reply) = Answers reply

-- the same, from the code's `RowEnd`
abbrev pub leads : {P : Type 0} → RowEnd P → Outcome P
leads (Code.Goes position) = Goes position
leads (Code.Answers reply) = Answers reply
