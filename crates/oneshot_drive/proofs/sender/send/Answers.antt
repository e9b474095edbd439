-- Proofs of the goals that `send` leaves.
use Rattle.oneshot_drive.proofs.Names.{[], ◌∷◌, rules, refl, Send, Add, sender_of, sending, fresh, none, filled, Reply, StandsWith, message_kept, send_few}
use Rattle.oneshot_machine.specs.Over.{SenderIsOver, over_finished}
use Rattle.oneshot_drive.proofs.AfterOperations.{sender_asks}
use Rattle.oneshot_drive.proofs.SenderCalls.{slot_left, written, send_owes, added_here, added_waiting, added, added_none, refused_error, overtaken_error, is_too_late}
use Rattle.oneshot_drive.proofs.SenderRuns.{SenderWoke, send_ran, send_refused, send_woke}
use Rattle.oneshot_drive.proofs.EndsOver.{over_at, last_is_over, last_found, last_late, late_over, woken_by}
use Rattle.oneshot_drive.proofs.sender.send.Given as given
use Rattle.oneshot_drive.proofs.sender.send.Goals as goal
use Rattle.oneshot_drive.proofs.sender.send.Goals.{After-write_message, After-add}

-- the message is in its slot before the addition
written_first : (g : given.Over) (c : After-write_message g)
    → StandsWith sender_of fresh (filled, none) (g.G.SenderGround.state c.write_message.new.self)
written_first g c =
    written c.args.message c.requires.fresh c.write_message.ensures.log c.write_message.ensures.message
    c.write_message.ensures.waker

-- the write and the addition keep what the ground has beside the channel
keeps_both : (g : given.Over) (c : After-add g) → g.G.SenderGround.keeps c.args.g.now c.add.new.self
keeps_both g c = g.G.SenderGround.keeps_on _ _ _ c.write_message.ensures.keeps c.add.ensures.keeps

-- a call that is over, and has woken the receiver that it found waiting, may let its end go
let_go : (g : given.Over) (c : After-add g) {a : g.row.G.Denot} {reply : Reply}
    → SenderIsOver sending (sender_of (g.G.SenderGround.state a).log)
    → SenderWoke (g.G.SenderGround.woken a) Send (g.G.SenderGround.state c.args.g.now).log
    (g.G.SenderGround.state a).log reply (c.args.message ∷ []) [] → g.G.SenderGround.ended sending a
let_go g c over did = g.G.SenderGround.ended_by sending _ over (woken_by c.requires.fresh.phase did)

pub add-requires : goal.add-requires
add-requires g c = sender_asks Add (written_first g (goal.at.add-requires g c).After-write_message) refl

pub finish-requires : goal.finish-requires
finish-requires g c =
    send_owes c.add.result (written_first g (goal.at.finish-requires g c).After-write_message) c.in-0.is
    c.add.ensures.finds c.add.ensures.log

pub returns-in-3 : goal.returns-in-3
returns-in-3 g c =
    let c' = goal.at.returns-in-3 g c in
    let fresh = written_first g c'.After-write_message in
    let here = added_here c.add.result fresh c.in-3.is c.add.ensures.finds c.add.ensures.log in
    let over = over_at here.stands.phase over_finished in
    let did = send_ran (g.G.SenderGround.woken c.add.new.self) c.add.result c.in-3.is c.write_message.ensures.log
    c.add.ensures.log in
    record {
      run = did.ran;
      refused = search rules;
      late = search rules;
      sent = λ _. here.stands.phase;
      ended = let_go g c'.After-add over did;
      bounded = send_few did.ran;
      gave = λ sent. c.add.ensures.gave c.args.message c.write_message.ensures.message (slot_left here.stands.message);
      keeps = keeps_both g c'.After-add;
    }

pub returns-in-0 : goal.returns-in-0
returns-in-0 g c =
    let c' = goal.at.returns-in-0 g c in
    let fresh = written_first g c'.After-write_message in
    let waits = added_waiting c.add.result fresh c.in-0.is c.add.ensures.finds c.add.ensures.log in
    let kept = message_kept c.add.ensures.finds c.write_message.ensures.message waits.stands.message in
    let last = c.finish.ensures.over sending waits.stands.phase in
    let did = send_woke _ c.add.result c.finish.result c.in-0.is c.write_message.ensures.log c.add.ensures.log
    c.finish.ensures.finishes in
    record {
      run = did.ran;
      refused = λ gone. overtaken_error (c.finish.ensures.gone gone) kept;
      late = last_late last;
      sent = last_found last;
      ended = let_go g c'.After-add (last_is_over last) did;
      bounded = send_few did.ran;
      gave = λ sent. c.finish.ensures.gave sent c.args.message kept;
      keeps = g.G.SenderGround.keeps_on _ _ _ (keeps_both g c'.After-add) c.finish.ensures.keeps;
    }

pub returns-in-2 : goal.returns-in-2
returns-in-2 g c =
    let c' = goal.at.returns-in-2 g c in
    let fresh = written_first g c'.After-write_message in
    let gone = added c.add.result fresh c.in-2.is c.add.ensures.finds c.add.ensures.log in
    let did = send_refused (g.G.SenderGround.woken c.add.new.self) c.add.result gone.word c.write_message.ensures.log
    c.add.ensures.log in
    record {
      run = did.ran;
      refused = λ _. refused_error c.args.message gone.stands
          (message_kept c.add.ensures.finds c.write_message.ensures.message gone.stands.message);
      late = λ _. is_too_late gone.stands;
      sent = search rules;
      ended = let_go g c'.After-add (late_over gone.stands) did;
      bounded = send_few did.ran;
      gave = search rules;
      keeps = keeps_both g c'.After-add;
    }

pub unreachable-requires : goal.unreachable-requires
unreachable-requires g c =
    let fresh = written c.args.message c.requires.fresh c.write_message.ensures.log c.write_message.ensures.message
    c.write_message.ensures.waker in
    added_none c.add.result fresh (search rules) (search rules) (search rules) c.add.ensures.finds c.add.ensures.log
