-- The position has its step, and the world after it is reached.
use Rattle.oneshot_world.proofs.Names.{◌≡◌, Some, ◌∙◌, ap, sym, World, receiver_answer, receiver_input}
use Rattle.oneshot_world.proofs.ReachedLeads.{word_is_code, receiver_at}
use Rattle.oneshot_world.proofs.ReachedMoves.{receiver_makes, receiver_reaches}
use Rattle.oneshot_world.proofs.WorldTurns.{receiver_turn_made}
use Rattle.oneshot_world.proofs.world.World.step_receiver.Goals as goal

pub step_receiver-made-requires-clause-row : goal.step_receiver-made-requires-clause-row
step_receiver-made-requires-clause-row c =
    let w : World =
    record { state = c.self.inside.state; sender = c.self.inside.sender; receiver = c.self.inside.receiver } in
    let at : receiver_at w ≡ Some c.in-Some.position =
    ap receiver_at c.self.view_is ∙ sym c.receiver_position.ensures ∙ c.in-Some.is in
    let given : c.input_of-input.result ≡ receiver_input c.answer_at-answer.result c.args.entry w = cc in
    rw given (receiver_makes c.answer_at-answer.result c.args.entry w c.in-Some.position c.self.invariant at)

pub step_receiver-made-requires-clause-code : goal.step_receiver-made-requires-clause-code
step_receiver-made-requires-clause-code c = word_is_code _ c.self.invariant

pub invariant_of-self : goal.invariant_of-self
invariant_of-self c =
    let w : World =
    record { state = c.self.inside.state; sender = c.self.inside.sender; receiver = c.self.inside.receiver } in
    let at : receiver_at w ≡ Some c.in-Some.position =
    ap receiver_at c.self.view_is ∙ sym c.receiver_position.ensures ∙ c.in-Some.is in
    let given : c.input_of-input.result ≡ receiver_input c.answer_at-answer.result c.args.entry w = cc in
    rw c.advance.ensures (receiver_reaches c.answer_at-answer.result c.args.entry w c.in-Some.position
    c.step_receiver-made.result c.step_receiver-made.new.self
    c.self.invariant at (rw given at c.step_receiver-made.ensures))

pub returns : goal.returns
returns c =
    let w : World =
    record { state = c.self.inside.state; sender = c.self.inside.sender; receiver = c.self.inside.receiver } in
    let at : receiver_at w ≡ Some c.in-Some.position =
    ap receiver_at c.self.view_is ∙ sym c.receiver_position.ensures ∙ c.in-Some.is in
    let answer : c.answer_at-answer.result ≡ receiver_answer (receiver_at w) c.args.over c.args.refuse =
    c.answer_at-answer.ensures ∙ ap (λ p. receiver_answer p c.args.over c.args.refuse) (sym at) in
    let given : c.input_of-input.result
    ≡ receiver_input (receiver_answer (receiver_at w) c.args.over c.args.refuse) c.args.entry w = cc in
    rw (← c.self.view_is, c.advance.ensures)
    (receiver_turn_made (receiver_answer (receiver_at w) c.args.over c.args.refuse) c.args.entry w c.in-Some.position
    c.input_of-input.result c.step_receiver-made.result c.step_receiver-made.new.self at given
    c.step_receiver-made.ensures)
