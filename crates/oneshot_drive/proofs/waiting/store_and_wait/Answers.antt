-- Proofs of the goals that `store_and_wait` leaves.
use Rattle.oneshot_drive.proofs.Names.{◌≡◌, Some, rules, subst, is_room, waker_kept}
use Rattle.oneshot_drive.proofs.StoredWaker.{over_message, over_end, stored_asks, stored, stored_waits, stored_there, over_word, stored_path, back_path, withdrew_full, withdrew_over}
use Rattle.oneshot_drive.proofs.waiting.store_and_wait.Goals as goal

pub write_waker-requires-clause-slot : goal.write_waker-requires-clause-slot
write_waker-requires-clause-slot g c = is_room c.requires.open.waker

pub write_waker-requires-clause-has : goal.write_waker-requires-clause-has
write_waker-requires-clause-has g c =
    let is : c.args.hand.now ≡ Some c.in-Some.waker = search rules in
    subst (λ hand. g.G.ReceiverGround.has c.args.g.now hand) is c.requires.has

pub swap-word-requires : goal.swap-word-requires
swap-word-requires g c =
    stored_asks c.requires.open c.write_waker.ensures.log c.write_waker.ensures.message c.write_waker.ensures.waker

pub wait-requires-clause-waits : goal.wait-requires-clause-waits
wait-requires-clause-waits g c =
    stored_waits (stored c.requires.open c.write_waker.ensures.log c.write_waker.ensures.message
    c.write_waker.ensures.waker c.swap-word.result c.swap-word.ensures.finds c.swap-word.ensures.log)
    c.if-word-eq-EMPTY.true

pub returns-then-word-eq-EMPTY-clause-path : goal.returns-then-word-eq-EMPTY-clause-path
returns-then-word-eq-EMPTY-clause-path g c way =
    stored_path way c.in-Some.waker c.swap-word.result c.if-word-eq-EMPTY.true c.write_waker.ensures.log
    c.swap-word.ensures.log (c.wait.ensures.path way)

pub returns-then-word-eq-EMPTY-clause-keeps : goal.returns-then-word-eq-EMPTY-clause-keeps
returns-then-word-eq-EMPTY-clause-keeps g c =
    let on = g.G.ReceiverGround.keeps_on in
    on _ _ _ c.write_waker.ensures.keeps (on _ _ _ c.swap-word.ensures.keeps c.wait.ensures.keeps)

pub withdraw-requires : goal.withdraw-requires
withdraw-requires g c = (
  c.in-Some.waker,
  waker_kept c.swap-word.ensures.finds c.write_waker.ensures.waker
      (stored_there (stored c.requires.open c.write_waker.ensures.log c.write_waker.ensures.message
      c.write_waker.ensures.waker c.swap-word.result c.swap-word.ensures.finds c.swap-word.ensures.log)
      c.if-word-eq-EMPTY.false),
)

pub returns-then-word-eq-MESSAGE : goal.returns-then-word-eq-MESSAGE
returns-then-word-eq-MESSAGE g c =
    let on = g.G.ReceiverGround.keeps_on in
    let found =
    stored c.requires.open c.write_waker.ensures.log c.write_waker.ensures.message c.write_waker.ensures.waker
    c.swap-word.result c.swap-word.ensures.finds c.swap-word.ensures.log in
    record {
      path = λ way. back_path way over_message c.in-Some.waker c.withdraw.result c.swap-word.result
          c.if-word-eq-MESSAGE.true c.write_waker.ensures.log c.swap-word.ensures.log c.withdraw.ensures.log;
      ends = withdrew_full found c.withdraw.ensures.log c.withdraw.ensures.message
          c.withdraw.ensures.waker c.args.timed c.if-word-eq-MESSAGE.true;
      hand = search rules;
      has = g.met.G.BlockGround.has_back _ _ _ c.withdraw.ensures.was c.withdraw.ensures.keeps
          (g.met.G.BlockGround.has_on _ _ _ c.swap-word.ensures.keeps c.write_waker.ensures.has);
      keeps = on _ _ _ c.write_waker.ensures.keeps (on _ _ _ c.swap-word.ensures.keeps c.withdraw.ensures.keeps);
    }

pub returns-else-word-eq-MESSAGE : goal.returns-else-word-eq-MESSAGE
returns-else-word-eq-MESSAGE g c =
    let on = g.G.ReceiverGround.keeps_on in
    let found =
    stored c.requires.open c.write_waker.ensures.log c.write_waker.ensures.message c.write_waker.ensures.waker
    c.swap-word.result c.swap-word.ensures.finds c.swap-word.ensures.log in
    record {
      path = λ way. back_path way over_end c.in-Some.waker c.withdraw.result c.swap-word.result
          (over_word found c.if-word-eq-EMPTY.false c.if-word-eq-MESSAGE.false)
          c.write_waker.ensures.log c.swap-word.ensures.log c.withdraw.ensures.log;
      ends = withdrew_over found c.withdraw.ensures.log c.withdraw.ensures.message
          c.withdraw.ensures.waker c.args.timed c.if-word-eq-EMPTY.false c.if-word-eq-MESSAGE.false;
      hand = search rules;
      has = g.met.G.BlockGround.has_back _ _ _ c.withdraw.ensures.was c.withdraw.ensures.keeps
          (g.met.G.BlockGround.has_on _ _ _ c.swap-word.ensures.keeps c.write_waker.ensures.has);
      keeps = on _ _ _ c.write_waker.ensures.keeps (on _ _ _ c.swap-word.ensures.keeps c.withdraw.ensures.keeps);
    }

pub wait-requires-clause-has : goal.wait-requires-clause-has
wait-requires-clause-has g c =
    g.met.G.BlockGround.has_on _ _ _ c.swap-word.ensures.keeps c.write_waker.ensures.has
