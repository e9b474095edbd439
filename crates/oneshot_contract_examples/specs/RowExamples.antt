-- Examples of what the rows of the phases' table state of an end's slots, and do not.
use Rattle.std.specs.Prelude.{ℕ}
use Rattle.oneshot_machine.specs.declared.states.Op.TheVariants.{Load, Store, Swap, Exchange, Add, Xor}
use Rattle.oneshot_machine.specs.declared.states.TheConstants.{RECEIVING, DISCONNECTED, EMPTY, MESSAGE}
use Rattle.oneshot_machine.specs.Phases.{sending, dropping, fresh, owes, finished, found_gone, no_sender, untouched, idle, after_load, waits, blocked, again, claimed, full, at_once}
use Rattle.oneshot_machine.specs.Phases.{disconnected, found_closed}
use Rattle.oneshot_machine.specs.Phases.{gone, no_receiver}
use Rattle.oneshot_machine.specs.Slots.{Held, away, vacant, held, SenderMay, SenderFinds, SenderOwns, ReceiverMay, ReceiverFinds, ReceiverOwns}

-- a slot that is not the end's, and an empty one that is
abbrev pub no_slot : Held ℕ
no_slot = away

abbrev pub no_content : Held ℕ
no_content = vacant

-- a slot with this content
abbrev pub has : ℕ → Held ℕ
has x = held x

-- The message 7 and the waker 1. The message's slot comes first.
pub record SlotsThatAre : Type 0 where
  -- the slots that an operation needs
  pub sends : SenderMay fresh Add (has 7) no_slot
  pub drops : SenderMay fresh Xor no_content no_slot
  pub sends_at_last : SenderMay (owes sending) (Swap MESSAGE) (has 7) no_content
  pub loads : ReceiverMay untouched Load no_slot no_slot
  pub stores : ReceiverMay (idle after_load) (Swap RECEIVING) no_slot (has 1)
  pub leaves : ReceiverMay claimed (Swap DISCONNECTED) no_slot no_slot
  -- and the slots before and after it
  pub gives_its_message : SenderFinds fresh Add EMPTY (has 7) no_slot away away
  pub gets_a_waker : SenderFinds fresh Add RECEIVING (has 7) away (has 7) (has 1)
  pub keeps_its_message : SenderFinds fresh Add DISCONNECTED (has 7) no_slot (has 7) vacant
  pub gives_its_room : SenderFinds fresh Xor EMPTY no_content no_slot away away
  pub keeps_its_room : SenderFinds (owes dropping) (Swap DISCONNECTED) DISCONNECTED no_content no_content vacant vacant
  pub gets_a_message : ReceiverFinds untouched Load MESSAGE away no_slot (has 7) vacant
  pub gets_its_room : ReceiverFinds untouched Load DISCONNECTED no_slot no_slot vacant vacant
  pub stores_its_waker : ReceiverFinds (idle after_load) (Swap RECEIVING) EMPTY no_slot (has 1) away away
  pub takes_it_back : ReceiverFinds (waits blocked) (Swap EMPTY) RECEIVING no_slot away away (has 1)
  -- and the slots that are the end's at a phase, empty or filled
  pub has_a_message : SenderOwns fresh (has 7) no_slot
  pub has_room : SenderOwns fresh no_content no_slot
  pub has_both : SenderOwns (found_gone sending) (has 7) (has 1)
  pub has_none : SenderOwns (finished sending) no_slot no_slot
  pub has_a_waker : ReceiverOwns (idle after_load) no_slot (has 1)
  pub has_received : ReceiverOwns (full at_once) (has 7) no_content

pub record SlotsThatAreNot : Type 0 where
  -- an operation that needs other slots, or is not in the phase
  pub sends_nothing : SenderMay fresh Add no_content no_slot → ⊥
  pub sends_from_elsewhere : SenderMay fresh Add no_slot no_slot → ⊥
  pub sends_with_a_waker : SenderMay fresh Add (has 7) (has 1) → ⊥
  pub drops_a_message : SenderMay fresh Xor (has 7) no_slot → ⊥
  pub swaps_at_once : SenderMay fresh (Swap MESSAGE) (has 7) no_slot → ⊥
  pub sends_twice : SenderMay (finished sending) Add (has 7) no_slot → ⊥
  pub waits_without_a_waker : ReceiverMay (idle after_load) (Swap RECEIVING) no_slot no_content → ⊥
  pub polls_as_it_blocks : ReceiverMay (waits blocked) (Exchange RECEIVING EMPTY) no_slot no_slot → ⊥
  pub goes_on_when_gone : ReceiverMay gone Load no_slot no_slot → ⊥
  -- a word that it does not find there
  pub finds_a_message : SenderFinds fresh Add MESSAGE (has 7) no_slot away away → ⊥
  pub finds_3_as_it_waits : ReceiverFinds (waits again) Load EMPTY no_slot no_slot away away → ⊥
  -- other slots before or after
  pub sends_and_keeps : SenderFinds fresh Add EMPTY (has 7) no_slot (has 7) away → ⊥
  pub gets_another_back : SenderFinds fresh Add DISCONNECTED (has 7) no_slot (has 8) vacant → ⊥
  pub loses_it : SenderFinds fresh Add DISCONNECTED (has 7) no_slot away vacant → ⊥
  pub gets_no_waker : SenderFinds fresh Add RECEIVING (has 7) no_slot (has 7) vacant → ⊥
  pub sent_nothing : SenderFinds fresh Add EMPTY no_content no_slot away away → ⊥
  pub gets_no_message : ReceiverFinds untouched Load MESSAGE no_slot no_slot vacant vacant → ⊥
  pub gets_one_from_nobody : ReceiverFinds untouched Load DISCONNECTED away no_slot (has 7) vacant → ⊥
  pub stores_and_keeps : ReceiverFinds (idle after_load) (Swap RECEIVING) EMPTY no_slot (has 1) away (has 1) → ⊥
  pub closes_and_loses : ReceiverFinds (full at_once) (Store DISCONNECTED) MESSAGE (has 7) no_content vacant vacant → ⊥
  pub finds_room_filled : ReceiverFinds (disconnected found_closed) Load DISCONNECTED no_content no_content (has 7)
      vacant → ⊥
  -- the end's slot, away; another's, here; and a log of no end
  pub lost_its_slot : SenderOwns fresh no_slot no_slot → ⊥
  pub lost_its_waker : SenderOwns (owes sending) (has 7) no_slot → ⊥
  pub kept_its_message : SenderOwns (finished sending) (has 7) no_slot → ⊥
  pub kept_its_room : ReceiverOwns untouched no_content no_slot → ⊥
  pub kept_its_waker : ReceiverOwns (waits blocked) no_slot (has 1) → ⊥
  pub of_no_sender : SenderOwns no_sender no_slot no_slot → ⊥
  pub of_no_receiver : ReceiverOwns no_receiver no_slot no_slot → ⊥
