-- One more move extends the run, and the law of the run gives the clauses.
use Rattle.std.proofs.Common.{◌≡◌, take}
use Rattle.std.proofs.lemmas.List.{take_more, take_all}
use Rattle.oneshot_world.specs.declared.script.Move.TheVariants.{Sender}
use Rattle.oneshot_program_tests.proofs.callers.stepped.stepped.Goals as goal

pub loop-m-preserved : goal.loop-m-preserved
loop-m-preserved c =
    rw (take_more c.args.moves.now c.loop-m.m-index Sender c.loop-m-test.true, c.in_ok-push.ensures.items)
    (c.step.ensures.goes_on c.args.s c.args.r _ _ c.loop-m.invariant)

pub returns-clause-message_followed : goal.returns-clause-message_followed
returns-clause-message_followed c = (c.a_run_is_right.ensures _ _ _ _ _ c.loop-m.invariant).message_followed

pub returns-clause-never_unwoken : goal.returns-clause-never_unwoken
returns-clause-never_unwoken c =
    let all : take c.loop-m.m-index c.args.moves.now ≡ c.args.moves.now = take_all _ _ c.loop-m-test.false in
    rw all at (c.a_run_is_right.ensures _ _ _ _ _ c.loop-m.invariant).never_unwoken
