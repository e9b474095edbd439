-- Proofs of the goals that `replay` leaves: one more move, and the end of the run.
use Rattle.std.proofs.Common.{rules, ◌≡◌, take}
use Rattle.std.proofs.lemmas.List.{take_more, take_all}
use Rattle.oneshot_world.specs.declared.script.Move.TheVariants.{Sender}
use Rattle.oneshot_replay.proofs.RunLaws.{is_right}
use Rattle.oneshot_replay.proofs.run.replay.Goals as goal

pub loop-m-preserved : goal.loop-m-preserved
loop-m-preserved g c = record {
  run =
      rw (take_more c.args.moves.now c.loop-m.m-index Sender c.loop-m-test.true, c.in-Ok-push.ensures.items)
      (c.step.ensures.goes_on c.args.s c.args.r _ _ c.loop-m.invariant.run);
  room = search rules;
}

pub returns-clause-right : goal.returns-clause-right
returns-clause-right g c =
    let all : take c.loop-m.m-index c.args.moves.now ≡ c.args.moves.now = take_all _ _ c.loop-m-test.false in
    rw all at (is_right _ _ _ _ _ c.loop-m.invariant.run)
