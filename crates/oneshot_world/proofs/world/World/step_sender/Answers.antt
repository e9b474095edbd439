-- The position has its step, and the world after it is reached.
use Rattle.oneshot_world.proofs.Names.{◌≡◌, Some, ◌∙◌, ap, sym, World}
use Rattle.oneshot_world.proofs.ReachedLeads.{word_is_code, sender_at}
use Rattle.oneshot_world.proofs.ReachedMoves.{sender_makes, sender_reaches}
use Rattle.oneshot_world.proofs.world.World.step_sender.Goals as goal

pub step_sender-made-requires-clause-row : goal.step_sender-made-requires-clause-row
step_sender-made-requires-clause-row c =
    let w : World =
    record { state = c.self.inside.state; sender = c.self.inside.sender; receiver = c.self.inside.receiver } in
    let at : sender_at w ≡ Some c.in-Some.position =
    ap sender_at c.self.view_is ∙ sym c.sender_position.ensures ∙ c.in-Some.is in
    sender_makes w c.in-Some.position c.self.invariant at

pub step_sender-made-requires-clause-code : goal.step_sender-made-requires-clause-code
step_sender-made-requires-clause-code c = word_is_code _ c.self.invariant

pub invariant_of-self : goal.invariant_of-self
invariant_of-self c =
    let w : World =
    record { state = c.self.inside.state; sender = c.self.inside.sender; receiver = c.self.inside.receiver } in
    let at : sender_at w ≡ Some c.in-Some.position =
    ap sender_at c.self.view_is ∙ sym c.sender_position.ensures ∙ c.in-Some.is in
    rw c.advance.ensures (sender_reaches w c.in-Some.position c.step_sender-made.result c.step_sender-made.new.self
    c.self.invariant at c.step_sender-made.ensures)
