-- Proofs of the goals that `write_waker` of `Polling` as a `WaitGround` leaves.
use Rattle.std.proofs.Common.{◌≡◌, refl, [], ◌∷◌, sym, ap, ◌∙◌, subst}
use Rattle.oneshot_machine.specs.Slots.{held}
use Rattle.oneshot_ends.specs.OwnWakers.{IsNoThread}
use Rattle.oneshot_ends.proofs.OwnWakers.{with_slot}
use Rattle.oneshot_ends.proofs.PollingTokens.{told}
use Rattle.oneshot_ends.proofs.Taken.{side_keeps}
use Rattle.oneshot_ends.proofs.TaskWakers.{is_in_hand, given_task, given_no_thread, put_for}
use Rattle.oneshot_ends.proofs.ground.task.PollingChannelReceiverWaitGroundCopied.write_waker.Goals as goal

pub returns-clause-log : goal.returns-clause-log
returns-clause-log g c =
    told (_ ∷ _ ∷ _ ∷ []) c.args.self.now.ground.now c.give.new.self _ _ refl c.give.ensures.log

pub given-copy-requires : goal.given-copy-requires
given-copy-requires g c = is_in_hand c.args.self.now.cx.now c.args.self.now.copies.now.hand c.requires.has

pub returns-clause-has : goal.returns-clause-has
returns-clause-has g c =
    put_for c.args.self.now.cx.now c.args.self.now.ground.now c.give.new.self c.given-copy.result c.give.ensures.idle
    c.give.ensures.rest
    (given_task c.args.self.now.cx.now c.args.self.now.copies.now.hand c.given-copy.result c.given-copy.ensures
    c.requires.has)

pub returns-clause-keeps : goal.returns-clause-keeps
returns-clause-keeps g c =
    record {
      task = λ fact h. h;
      source = refl;
      about = ap (λ s. s.about) c.give.ensures.rest;
      no_thread = λ free. with_slot IsNoThread c.args.self.now.ground.now c.give.new.self
          (ap (λ s. s.log) c.give.ensures.rest) (ap (λ s. s.handed) c.give.ensures.rest)
          (λ k e. let same : held c.given-copy.result ≡ held k = sym (ap (λ s. s.waker) c.give.ensures.rest) ∙ e in
          subst IsNoThread (cc same)
          (given_no_thread c.args.self.now.copies.now.hand c.given-copy.result c.given-copy.ensures)) free;
      taken = side_keeps c.args.self.now.ground.now c.give.new.self (ap (λ s. s.passed) c.give.ensures.rest)
          (ap (λ s. s.log) c.give.ensures.rest);
    }
