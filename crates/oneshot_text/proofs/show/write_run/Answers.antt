-- The text grows by a line for each move, and ends with two more.
use Rattle.std.proofs.Common.{arith, ◌≡◌, ◌+◌, length, take, refl, ◌∙◌}
use Rattle.std.specs.Prelude.{unwrap_or}
use Rattle.std.proofs.lemmas.List.{take_more, take_all, length-take-le}
use Rattle.std.proofs.lemmas.Result.{on_ok_weaker}
use Rattle.oneshot_world.specs.declared.script.Move.TheVariants.{Sender}
use Rattle.oneshot_text.specs.Page.{held}
use Rattle.oneshot_text.proofs.Pages.{page_begins}
use Rattle.oneshot_text.proofs.TextGrows.{HasWritten, written_first, written_line, written_whole}
use Rattle.oneshot_text.proofs.show.write_run.Given as given
use Rattle.oneshot_text.proofs.show.write_run.Goals as goal

pub of_step-requires : goal.of_step-requires
of_step-requires g c = record { room = omega (arith, c.requires.room, c.loop-m.invariant.count, c.loop-m-test.true) }

pub loop-m-init : goal.loop-m-init
loop-m-init g c = record {
  count = omega arith;
  message = refl;
  written =
      written_first _ _ _ _ _ (page_begins (g.W.Write.contents c.args.output.now) c.new-page.result.lines.bytes
      c.new-page.ensures);
}

-- the number of the entry that a round makes
number_is : (g : given.Over) (c : goal.In_ok-add g)
    → c.loop-m.run.count + 1 ≡ (c.args.run.count + 1) + length (take c.loop-m.m-index c.args.moves.now)
number_is g c =
    let so_far : length (take c.loop-m.m-index c.args.moves.now) ≡ c.loop-m.m-index =
    length-take-le _ _ c.loop-m.auto.m-index-end in
    omega (arith, so_far, c.loop-m.invariant.count)

pub loop-m-preserved : goal.loop-m-preserved
loop-m-preserved g c =
    let e = c.of_step.ensures in
    record {
      count = omega (arith, e.count, c.loop-m.invariant.count);
      message = e.same_message ∙ c.loop-m.invariant.message;
      written =
          rw (take_more c.args.moves.now c.loop-m.m-index Sender c.loop-m-test.true)
          (written_line _ _ _ _ _ _ _ _ _ c.of_step.result _ _ c.loop-m.invariant.written e.turn e.number e.call
          e.message (number_is g c) c.in_ok-add.ensures);
    }

pub returns : goal.returns
returns g c =
    let all : take c.loop-m.m-index c.args.moves.now ≡ c.args.moves.now = take_all _ _ c.loop-m-test.false in
    let so_far : HasWritten (unwrap_or c.args.run.message 0) (c.args.run.count + 1) c.args.run.world c.args.moves.now
    (g.W.Write.contents c.args.output.now) (held (g.W.Write.contents c.loop-m.output) c.loop-m.page)
    c.loop-m.run.world =
    rw (← c.requires.message, ← all) c.loop-m.invariant.written in
    record {
      written =
          on_ok_weaker _ (written_whole c.args.run.message _ _ _ _ _ _ _ _ c.loop-m.invariant.message so_far)
          c.write_end.ensures;
    }
