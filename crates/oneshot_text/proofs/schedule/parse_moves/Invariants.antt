-- The moves so far are those of the letters so far.
use Rattle.std.proofs.Common.{◌≡◌, Some, map, take}
use Rattle.oneshot_text.specs.Schedule.{letter_of}
use Rattle.oneshot_text.proofs.schedule.parse_moves.Given as goal

abbrev pub invariant-loop-letter : goal.invariant-loop-letter
invariant-loop-letter l = map letter_of l.moves.items ≡ map Some (take l.letter-index l.letters.text.now)
