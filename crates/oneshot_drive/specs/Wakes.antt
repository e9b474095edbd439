-- Whether a sender found its receiver waiting.
use Rattle.std.specs.Prelude.{Bool, false, ◌||◌, List, [], ◌∷◌}
use Rattle.oneshot_machine.specs.declared.machine.Seen.TheVariants.{Word}
use Rattle.oneshot_machine.specs.Noted.{Noted}
use Rattle.oneshot_machine.specs.TableRows.{is_same_seen}
use Rattle.oneshot_machine.specs.declared.states.TheConstants.{RECEIVING}

-- whether one of these operations found the receiver waiting
abbrev pub found_receiver_waiting : List Noted → Bool
found_receiver_waiting [] = false
found_receiver_waiting (x ∷ xs) = is_same_seen x.1 (Word RECEIVING) || found_receiver_waiting xs
