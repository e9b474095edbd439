-- When an end is over, and may be let go: by its phase.
use Rattle.std.specs.Prelude.{◌⊎◌}
use Rattle.oneshot_machine.specs.Phases.{By, SenderAt, finished, found_gone, overtaken, Closing, Swapping, Got, ReceiverAt, full, overwritten, disconnected, gone, ended}

-- a sender whose last operation found the receiver gone
pub data IsLate : SenderAt → Type 0 where
  is_late : (by : By) → IsLate (found_gone by)
  is_overtaken : (by : By) → IsLate (overtaken by)

-- a sender that has performed its last operation, in its `send` or in its drop
pub data SenderIsOver (by : By) : SenderAt → Type 0 where
  over_finished : SenderIsOver by (finished by)
  over_late : SenderIsOver by (found_gone by)
  over_overtaken : SenderIsOver by (overtaken by)

-- a receiver that found the message, or that none will come
pub data FoundTheEnd : ReceiverAt → Type 0 where
  found_message : (got : Got) → FoundTheEnd (full got)
  found_overwritten : (by : Swapping) → FoundTheEnd (overwritten by)
  found_no_sender : (closing : Closing) → FoundTheEnd (disconnected closing)

-- a receiver that was dropped
pub data HasLeft : ReceiverAt → Type 0 where
  left_first : HasLeft gone
  left_last : HasLeft ended

-- a receiver that has found the message, has found that none will come, or has left
abbrev pub ReceiverIsOver : ReceiverAt → Type 0
ReceiverIsOver at = FoundTheEnd at ⊎ HasLeft at
