-- Each row of an end's phase needs a slot, which the end no longer has once it freed the block.
use Rattle.std.proofs.Common.{◌≡◌, Bool, true, false, List, Option, Some, refl, subst}
use Rattle.oneshot_machine.specs.Phases.{SenderAt, sender_moves, ReceiverAt, receiver_moves, receiver_owns, Share, none, empty, filled, Row}
use Rattle.oneshot_machine.specs.Slots.{In}
use Rattle.oneshot_machine.proofs.EachPhase.{in_each_sender_row, in_each_receiver_row}
use Rattle.oneshot_ends.specs.Grounds.{MayBeFreed}

-- whether a slot with this share is the end's
abbrev pub is_own : Share → Bool
is_own none = false
is_own empty = true
is_own filled = true

-- Each row of the sender needs the message's slot.
abbrev is_senders_row : Row SenderAt → Bool
is_senders_row row = is_own row.1.0

-- So does each row of the receiver, if both slots are its own.
abbrev where_both : Option (Bool × Bool) → Bool → Bool
where_both (Some (true, true)) needs = needs
where_both _ needs = true

abbrev is_receivers_row : ReceiverAt → Row ReceiverAt → Bool
is_receivers_row at row = where_both (receiver_owns at) (is_own row.1.0)

-- every row of the list needs the message's slot
abbrev pub Need : {At : Type 0} → List (Row At) → Type 0
Need {At} rows = (row : Row At) → In row rows → is_own row.1.0 ≡ true

pub sender_needs : (at : SenderAt) → Need (sender_moves at)
sender_needs at row there = in_each_sender_row (λ at. is_senders_row) refl at there

pub receiver_needs : (at : ReceiverAt) → MayBeFreed true at → Need (receiver_moves at)
receiver_needs at both row there =
    subst (λ own. where_both own (is_own row.1.0) ≡ true) both
    (in_each_receiver_row is_receivers_row refl at there)
