-- The step is that of the row that `next` returns.
use Rattle.oneshot_world.proofs.Names.{◌≡◌, Some, receiver_step, receiver_row, outcome, seen_by}
use Rattle.oneshot_world.proofs.StateSteps.{receiver_made_of}
use Rattle.oneshot_world.proofs.state.State.step_receiver.Goals as goal

pub returns : goal.returns
returns c =
    let row : receiver_row c.args.position (seen_by c.args.input.answer c.args.self.now (receiver_step c.args.position))
    ≡ Some (outcome c.next-next.result) = cc in
    rw (
      c.keep_hand.ensures,
      c.is_future.ensures,
      c.future_left-self.ensures,
      c.receiver_goes-self.ensures,
      c.make-made.ensures.made,
      c.make-made.ensures.moves,
      c.receiver_puts-puts.ensures,
      c.seen_by-seen.ensures,
      c.step-step.ensures,
    )
    (receiver_made_of c.args.input c.args.self.now c.args.position c.next-next.result c.requires.row row)
