-- The words of the two lines after the entries: where the message is left, and whether the block is freed.
use Rattle.std.specs.Prelude.{ℕ, Bool, true, false, List, ◌++◌, codes, decimal, Option, Some, None}
use Rattle.oneshot_replay.specs.declared.rest.Rest.{Rest}
use Rattle.oneshot_replay.specs.declared.rest.Rest.TheVariants.{NotSent, InCell, InError, Delivered, FromError, Dropped}

abbrev pub at_place : List ℕ → ℕ → List ℕ
at_place place message = place ++ codes "(" ++ decimal message ++ codes ")"

abbrev pub rest_text : Option (Rest ℕ) → List ℕ
rest_text None = codes "none"
rest_text (Some (NotSent message)) = at_place (codes "NotSent") message
rest_text (Some (InCell message)) = at_place (codes "InCell") message
rest_text (Some (InError message)) = at_place (codes "InError") message
rest_text (Some (Delivered message)) = at_place (codes "Delivered") message
rest_text (Some (FromError message)) = at_place (codes "FromError") message
rest_text (Some (Dropped message)) = at_place (codes "Dropped") message

abbrev pub block_text : Bool → List ℕ
block_text true = codes "freed"
block_text false = codes "here"
