-- The invariant of the loop in `write_run`.
use Rattle.std.proofs.Common.{◌≡◌, ◌+◌, take}
use Rattle.oneshot_text.specs.Page.{held}
use Rattle.oneshot_text.proofs.TextGrows.{HasWritten}
use Rattle.oneshot_text.proofs.show.write_run.Given as goal

-- the moves so far made the run whose text is written, except the lines that wait
abbrev pub invariant-loop-m : goal.invariant-loop-m
invariant-loop-m g l = record {
  count : l.run.count ≡ l.initial.run.count + l.m-index;
  message : l.run.message ≡ l.initial.run.message;
  written : HasWritten l.message (l.initial.run.count + 1) l.initial.run.world (take l.m-index l.moves)
      (g.W.Write.contents l.initial.output) (held (g.W.Write.contents l.output) l.page) l.run.world;
}
