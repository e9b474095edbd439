-- The invariant of the loop in `replay`.
use Rattle.std.proofs.Common.{◌+◌, ◌-◌, ◌≤◌, length, take, vec_len, vec_capacity}
use Rattle.oneshot_replay.specs.Run.{HasRun}
use Rattle.oneshot_replay.proofs.run.replay.Given as goal

-- the moves so far made the run that the entries report, and there is room for the other entries
abbrev pub invariant-loop-m : goal.invariant-loop-m
invariant-loop-m g l = record {
  run : HasRun l.fn.s l.fn.r (take l.m-index l.moves) l.entries.items l.end;
  room : vec_len l.entries + (length l.moves - l.m-index) ≤ vec_capacity l.entries;
}
