-- Proofs of the goals that `leave` leaves.
use Rattle.oneshot_drive.proofs.Names.{inl, is_in}
use Rattle.oneshot_drive.proofs.LeftCopies.{leave_asks, copy_left, left_waits, left_phase, left_there, none_left, withdrew_full, withdrew_over, leave_waits, leave_full, leave_over}
use Rattle.oneshot_drive.proofs.OwnCopies.{wrote_none, on_word, on_withdraw, on_write}
use Rattle.oneshot_drive.proofs.polling.leave.Goals as goal

pub exchange-word-requires : goal.exchange-word-requires
exchange-word-requires g c =
    leave_asks c.args.copy c.requires.open c.write_waker.ensures.log c.write_waker.ensures.message
    c.write_waker.ensures.waker

pub returns-then-word-eq-EMPTY-clause-path : goal.returns-then-word-eq-EMPTY-clause-path
returns-then-word-eq-EMPTY-clause-path g c =
    leave_waits c.args.copy c.exchange-word.result c.if-word-eq-EMPTY.true c.write_waker.ensures.log
    c.exchange-word.ensures.log

pub returns-then-word-eq-EMPTY-clause-ends : goal.returns-then-word-eq-EMPTY-clause-ends
returns-then-word-eq-EMPTY-clause-ends g c =
    left_waits (copy_left c.exchange-word.result c.exchange-word.ensures.finds c.exchange-word.ensures.log)
    c.if-word-eq-EMPTY.true

pub returns-then-word-eq-EMPTY-clause-task : goal.returns-then-word-eq-EMPTY-clause-task
returns-then-word-eq-EMPTY-clause-task g c = λ nothing.
    inl (
      left_phase (copy_left c.exchange-word.result c.exchange-word.ensures.finds c.exchange-word.ensures.log)
          c.if-word-eq-EMPTY.true,
      c.exchange-word.ensures.has _ c.write_waker.ensures.has,
    )

pub returns-then-word-eq-EMPTY-clause-own : goal.returns-then-word-eq-EMPTY-clause-own
returns-then-word-eq-EMPTY-clause-own g c =
    on_write c.args.copy c.write_waker.ensures.log
    (on_word _ c.exchange-word.result c.exchange-word.ensures.log (wrote_none _))

pub withdraw-requires : goal.withdraw-requires
withdraw-requires g c =
    is_in (left_there (copy_left c.exchange-word.result c.exchange-word.ensures.finds c.exchange-word.ensures.log)
    c.if-word-eq-EMPTY.false)

pub returns-then-word-eq-MESSAGE : goal.returns-then-word-eq-MESSAGE
returns-then-word-eq-MESSAGE g c =
    let on = g.G.ReceiverGround.keeps_on in
    let found = copy_left c.exchange-word.result c.exchange-word.ensures.finds c.exchange-word.ensures.log in
    record {
      path = leave_full c.args.copy c.withdraw.result c.exchange-word.result c.if-word-eq-MESSAGE.true
          c.write_waker.ensures.log c.exchange-word.ensures.log c.withdraw.ensures.log;
      ends = withdrew_full found c.withdraw.ensures.log c.withdraw.ensures.message c.withdraw.ensures.waker
          c.if-word-eq-MESSAGE.true;
      heard = λ nothing. absurd (cc);
      task = λ nothing. absurd (cc);
      own = on_write c.args.copy c.write_waker.ensures.log (on_word _ c.exchange-word.result c.exchange-word.ensures.log
          (on_withdraw c.withdraw.result c.withdraw.ensures.log (wrote_none _)));
      keeps = on _ _ _ c.write_waker.ensures.keeps (on _ _ _ c.exchange-word.ensures.keeps c.withdraw.ensures.keeps);
    }

pub returns-else-word-eq-MESSAGE : goal.returns-else-word-eq-MESSAGE
returns-else-word-eq-MESSAGE g c =
    let on = g.G.ReceiverGround.keeps_on in
    let found = copy_left c.exchange-word.result c.exchange-word.ensures.finds c.exchange-word.ensures.log in
    record {
      path = leave_over c.args.copy c.withdraw.result c.exchange-word.result
          (none_left found c.if-word-eq-EMPTY.false c.if-word-eq-MESSAGE.false)
          c.write_waker.ensures.log c.exchange-word.ensures.log c.withdraw.ensures.log;
      ends = withdrew_over found c.withdraw.ensures.log c.withdraw.ensures.message c.withdraw.ensures.waker
          c.if-word-eq-EMPTY.false c.if-word-eq-MESSAGE.false;
      heard = λ nothing. absurd (cc);
      task = λ nothing. absurd (cc);
      own = on_write c.args.copy c.write_waker.ensures.log (on_word _ c.exchange-word.result c.exchange-word.ensures.log
          (on_withdraw c.withdraw.result c.withdraw.ensures.log (wrote_none _)));
      keeps = on _ _ _ c.write_waker.ensures.keeps (on _ _ _ c.exchange-word.ensures.keeps c.withdraw.ensures.keeps);
    }

pub returns-then-word-eq-EMPTY-clause-keeps : goal.returns-then-word-eq-EMPTY-clause-keeps
returns-then-word-eq-EMPTY-clause-keeps g c =
    g.G.ReceiverGround.keeps_on _ _ _ c.write_waker.ensures.keeps c.exchange-word.ensures.keeps
