-- A sender keeps the waker that it took until its last operation.
use Rattle.std.proofs.Common.{◌≡◌, ℕ, Bool, true, false, Option, refl, not}
use Rattle.std.specs.Prelude.{if◌then◌else◌}
use Rattle.oneshot_machine.proofs.EachPhase.{in_each_sender_row}
use Rattle.oneshot_machine.specs.declared.states.Op.{Op}
use Rattle.oneshot_machine.specs.declared.states.Op.TheVariants.{Swap}
use Rattle.oneshot_machine.specs.Phases.{SenderAt, sender_moves, Share, Row}
use Rattle.oneshot_machine.specs.Slots.{Held, Finds, finds, SlotChange, gets_thing}
use Rattle.oneshot_word.proofs.WakerPasses.{is_got}
use Rattle.oneshot_word.specs.Seats.{took}

abbrev is_swap : Op → Bool
is_swap (Swap new) = true
is_swap _ = false

abbrev keeps_waker : Row SenderAt → Bool
keeps_waker row = if is_swap row.0 then not (is_got row.1.1 row.4.1) else true

takes_none : {W : Type 0} {s s' : Share} {w w' : Held W} (woke : Option W) → not (is_got s s') ≡ true
    → SlotChange s s' w w' → took w w' woke ≡ woke
takes_none woke e (gets_thing x) = absurd (cc e)
takes_none woke e _ = refl

-- its last swap takes no waker
pub swap_keeps : {T W : Type 0} (p : SenderAt) (last : ℕ) {word : ℕ} {m m' : Held T} {w w' : Held W} (woke : Option W)
    → Finds sender_moves p (Swap last) word m w m' w' → took w w' woke ≡ woke
swap_keeps p last woke (finds row changes changes') =
    takes_none woke (in_each_sender_row (λ p. keeps_waker) refl p row) changes'
