-- The invariant of the loop in `stepped`.
use Rattle.std.proofs.Common.{take}
use Rattle.oneshot_replay.specs.Run.{HasRun}
use Rattle.oneshot_program_tests.proofs.callers.stepped.stepped.Given as goal

-- the moves so far made the run that the entries record
abbrev pub invariant-loop-m : goal.invariant-loop-m
invariant-loop-m l = HasRun l.fn.s l.fn.r (take l.m-index l.moves) l.entries.items l.replayer
