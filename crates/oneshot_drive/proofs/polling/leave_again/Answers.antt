-- Proofs of the goals that `leave_again` leaves.
use Rattle.std.specs.Prelude.{IfSome}
use Rattle.oneshot_drive.proofs.Names.{◌≡◌, ℕ, Some, None, rules, refl, subst, inr, Exchange, Future, AgainCopy, AgainExchange, Path}
use Rattle.oneshot_drive.proofs.Names.{Found, poll_end, EndsPoll, receiver_of, receiver_row, receiver_moves, waits}
use Rattle.oneshot_drive.proofs.Names.{again, landings, leaves_its_copy, leaves_claimed, is_in, RECEIVING, DISCONNECTED, EMPTY, MESSAGE}
use Rattle.oneshot_machine.specs.declared.machine.Seen.TheVariants.{Word}
use Rattle.oneshot_drive.specs.declared.found.Found.TheVariants as F
use Rattle.oneshot_drive.specs.Polls.{WritesItsCopy, LeavesTask}
use Rattle.oneshot_drive.proofs.AfterOperations.{Lands, asks, withdrew_waker}
use Rattle.oneshot_drive.proofs.LeftCopies.{copy_refused, copied_on, owned_ends, may_leave, again_backed, backed_copy, backed_full, backed_none, backed_sender, backed_other, again_to, again_left}
use Rattle.oneshot_drive.proofs.LeftCopies.{again_late}
use Rattle.oneshot_drive.proofs.OwnCopies.{wrote_none, on_word, on_withdraw, on_own, on_copy, on_refusal}
use Rattle.oneshot_drive.proofs.polling.leave_again.Given as given
use Rattle.oneshot_drive.proofs.polling.leave_again.Goals as goal
use Rattle.oneshot_drive.proofs.polling.leave_again.Goals.{After-exchange}

pub returns-in_default : goal.returns-in_default
returns-in_default g c =
    record {
      path = copy_refused c.copy.result (search rules) refl refl c.copy.ensures.log c.wake_own.ensures.log;
      ends = owned_ends leaves_its_copy (copied_on c.copy.result c.requires c.copy.ensures.log
          c.copy.ensures.message
          c.copy.ensures.waker) c.wake_own.ensures.log c.wake_own.ensures.message c.wake_own.ensures.waker;
      heard = λ nothing. c.wake_own.ensures.heard;
      task = λ nothing. inr c.wake_own.ensures.woken;
      own = on_refusal c.copy.ensures.log (on_own c.wake_own.ensures.log (wrote_none _));
      keeps = g.G.ReceiverGround.keeps_on _ _ _ c.copy.ensures.keeps c.wake_own.ensures.keeps;
    }

pub exchange-requires : goal.exchange-requires
exchange-requires g c =
    asks (Exchange RECEIVING EMPTY) (copied_on c.copy.result c.requires c.copy.ensures.log c.copy.ensures.message
    c.copy.ensures.waker) refl

-- where the exchange leads
backed : (g : given.Over) (c : After-exchange g)
    → Lands receiver_of c.exchange.result (g.G.ReceiverGround.state c.exchange.new.self)
    (landings (Exchange RECEIVING EMPTY) (receiver_moves (waits again)))
backed g c =
    again_backed c.copy.result c.exchange.result c.requires c.copy.ensures.log c.copy.ensures.message
    c.copy.ensures.waker c.exchange.ensures.finds c.exchange.ensures.log

-- an exchange that found the sender's last word
ended : (g : given.Over) (c : After-exchange g) (word : ℕ) (f : Found)
    → receiver_row (Future AgainExchange) (Word word) ≡ Some (poll_end f) → c.exchange.result ≡ word
    → (f ≡ F.Nothing → ⊥) → EndsPoll f (g.G.ReceiverGround.state c.exchange.new.self)
    → record {
      path : Path (Future AgainCopy) (poll_end f) (g.G.ReceiverGround.state c.args.g.now).log
          (g.G.ReceiverGround.state c.exchange.new.self).log;
      ends : EndsPoll f (g.G.ReceiverGround.state c.exchange.new.self);
      heard : f ≡ F.Nothing → g.G.TaskGround.heard c.exchange.new.self;
      task : f ≡ F.Nothing → LeavesTask (receiver_of (g.G.ReceiverGround.state c.exchange.new.self).log)
          (g.G.ReceiverGround.has c.exchange.new.self None) (g.G.TaskGround.woke_own c.exchange.new.self);
      own : WritesItsCopy (g.G.ReceiverGround.state c.args.g.now).log
          (g.G.ReceiverGround.state c.exchange.new.self).log;
      keeps : g.G.ReceiverGround.keeps c.args.g.now c.exchange.new.self;
    }
ended g c word f leads e some ends =
    record {
      path = again_to c.copy.result c.in-Some.copy c.in-Some.is c.copy.ensures.log _ c.exchange.result word leads e
          c.exchange.ensures.log;
      ends = ends;
      heard = λ nothing. absurd (some nothing);
      task = λ nothing. absurd (some nothing);
      own = on_copy c.in-Some.copy c.in-Some.is c.copy.ensures.log
          (on_word _ c.exchange.result c.exchange.ensures.log (wrote_none _));
      keeps = g.G.ReceiverGround.keeps_on _ _ _ c.copy.ensures.keeps c.exchange.ensures.keeps;
    }

pub withdraw-stored-requires : goal.withdraw-stored-requires
withdraw-stored-requires g c =
    is_in (backed_copy (backed g (goal.at.withdraw-stored-requires g c).After-exchange) c.in-0.is).waker

pub leave-requires-clause-open : goal.leave-requires-clause-open
leave-requires-clause-open g c =
    may_leave (withdrew_waker
    (backed_copy (backed g (goal.at.leave-requires-clause-open g c).After-exchange) c.in-0.is)
    c.withdraw-stored.ensures.log c.withdraw-stored.ensures.message c.withdraw-stored.ensures.waker) refl

pub returns-in-0 : goal.returns-in-0
returns-in-0 g c =
    let on = g.G.ReceiverGround.keeps_on in
    record {
      path = again_left c.copy.result c.in-Some.copy c.in-Some.is c.copy.ensures.log c.leave.result c.exchange.result
          c.withdraw-stored.result c.in-0.is c.exchange.ensures.log c.withdraw-stored.ensures.log c.leave.ensures.path;
      ends = c.leave.ensures.ends;
      heard = c.leave.ensures.heard;
      task = c.leave.ensures.task;
      own = on_copy c.in-Some.copy c.in-Some.is c.copy.ensures.log
          (on_word _ c.exchange.result c.exchange.ensures.log
          (on_withdraw c.withdraw-stored.result c.withdraw-stored.ensures.log c.leave.ensures.own));
      keeps = on _ _ _ c.copy.ensures.keeps (on _ _ _ c.exchange.ensures.keeps
          (on _ _ _ c.withdraw-stored.ensures.keeps c.leave.ensures.keeps));
    }

pub returns-in-4 : goal.returns-in-4
returns-in-4 g c =
    let c' = (goal.at.returns-in-4 g c).After-exchange in
    ended g c' MESSAGE F.Message refl c.in-4.is (λ e. cc) (backed_full (backed g c') c.in-4.is)

pub returns-in-2 : goal.returns-in-2
returns-in-2 g c =
    let c' = (goal.at.returns-in-2 g c).After-exchange in
    ended g c' DISCONNECTED F.Closed refl c.in-2.is (λ e. cc) (backed_none (backed g c') c.in-2.is)

pub returns-in-1 : goal.returns-in-1
returns-in-1 g c =
    let on = g.G.ReceiverGround.keeps_on in
    let late = backed_sender (backed g (goal.at.returns-in-1 g c).After-exchange) c.in-1.is in
    record {
      path = again_late c.copy.result c.in-Some.copy c.in-Some.is c.copy.ensures.log c.exchange.result c.in-1.is
          c.exchange.ensures.log c.wake_own-in-1.ensures.log;
      ends = owned_ends leaves_claimed late c.wake_own-in-1.ensures.log
          c.wake_own-in-1.ensures.message c.wake_own-in-1.ensures.waker;
      heard = λ nothing. c.wake_own-in-1.ensures.heard;
      task = λ nothing. inr c.wake_own-in-1.ensures.woken;
      own = on_copy c.in-Some.copy c.in-Some.is c.copy.ensures.log (on_word _ c.exchange.result c.exchange.ensures.log
          (on_own c.wake_own-in-1.ensures.log (wrote_none _)));
      keeps = on _ _ _ c.copy.ensures.keeps
          (on _ _ _ c.exchange.ensures.keeps c.wake_own-in-1.ensures.keeps);
    }

pub leave-requires-clause-has : goal.leave-requires-clause-has
leave-requires-clause-has g c =
    c.withdraw-stored.ensures.has _
    (c.exchange.ensures.has _
    (subst (λ hand. IfSome hand (λ copy. g.G.ReceiverGround.has c.copy.new.self (Some copy))) c.in-Some.is
    c.copy.ensures.has))

pub unreachable-requires : goal.unreachable-requires
unreachable-requires g c =
    backed_other (again_backed c.copy.result c.exchange.result c.requires c.copy.ensures.log c.copy.ensures.message
    c.copy.ensures.waker c.exchange.ensures.finds c.exchange.ensures.log) (search rules) (search rules) (search rules)
    (search rules)
