-- The step is that of the row that `next` returns.
use Rattle.oneshot_world.proofs.Names.{◌≡◌, Some, outcome, sender_step, sender_row, seen_by}
use Rattle.oneshot_world.proofs.StateSteps.{sender_made_of}
use Rattle.oneshot_world.proofs.state.State.step_sender.Goals as goal

pub returns : goal.returns
returns c =
    let row : sender_row c.args.position (seen_by c.args.input.answer c.args.self.now (sender_step c.args.position))
    ≡ Some (outcome c.next-next.result) = cc in
    rw (
      c.make-made.ensures.made,
      c.make-made.ensures.moves,
      c.sender_goes-self.ensures,
      c.sender_puts-puts.ensures,
      c.seen_by-seen.ensures,
      c.step-step.ensures,
    )
    (sender_made_of c.args.input c.args.self.now c.args.position c.next-next.result c.requires.row row)
