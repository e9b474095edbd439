-- Proofs of the goals that `take_back` leaves.
use Rattle.oneshot_drive.proofs.Names.{◌≡◌, rules, refl, AsyncDrop, AsyncExchange, AsyncSwap, Swap, Exchange, Goes, ReceiverAsks, Path, is_in, RECEIVING, DISCONNECTED, EMPTY}
use Rattle.oneshot_drive.proofs.AfterOperations.{asks}
use Rattle.oneshot_drive.proofs.LeftCopies.{backed, backed_copy, backed_other}
use Rattle.oneshot_drive.proofs.DroppedFutures.{backed_end, backed_asks, backed_out, withdrawn_ends, withdrawn_path}
use Rattle.oneshot_drive.proofs.polling.take_back.Given as given
use Rattle.oneshot_drive.proofs.polling.take_back.Goals as goal
use Rattle.oneshot_drive.proofs.polling.take_back.Goals.{After-exchange}

pub exchange-requires : goal.exchange-requires
exchange-requires g c = asks (Exchange RECEIVING EMPTY) c.requires refl

pub withdraw-requires : goal.withdraw-requires
withdraw-requires g c =
    is_in (backed_copy (backed c.exchange.result c.requires c.exchange.ensures.finds c.exchange.ensures.log)
    c.in-0.is).waker

pub returns-in-0-clause-path : goal.returns-in-0-clause-path
returns-in-0-clause-path g c =
    withdrawn_path c.withdraw.result c.exchange.result c.in-0.is c.exchange.ensures.log c.withdraw.ensures.log

pub returns-in-0-clause-ends : goal.returns-in-0-clause-ends
returns-in-0-clause-ends g c =
    asks (Swap DISCONNECTED) (withdrawn_ends (backed c.exchange.result c.requires c.exchange.ensures.finds
    c.exchange.ensures.log) c.in-0.is
    c.withdraw.ensures.log c.withdraw.ensures.message c.withdraw.ensures.waker) refl

-- after another word it asks for its swap
left_path : (g : given.Over) (c : After-exchange g) → ¬ (c.exchange.result ≡ RECEIVING)
    → Path (AsyncDrop AsyncExchange) (Goes (AsyncDrop AsyncSwap)) (g.G.ReceiverGround.state c.args.g.now).log
    (g.G.ReceiverGround.state c.exchange.new.self).log
left_path g c other =
    backed_out c.exchange.result (backed_end (backed c.exchange.result c.requires c.exchange.ensures.finds
    c.exchange.ensures.log) other) c.exchange.ensures.log

left_asks : (g : given.Over) (c : After-exchange g) → ¬ (c.exchange.result ≡ RECEIVING)
    → ReceiverAsks (Swap DISCONNECTED) (g.G.ReceiverGround.state c.exchange.new.self)
left_asks g c other =
    backed_asks (backed c.exchange.result c.requires c.exchange.ensures.finds c.exchange.ensures.log) other

pub returns-then-this-lt3-clause-path : goal.returns-then-this-lt3-clause-path
returns-then-this-lt3-clause-path g c =
    left_path g (goal.at.returns-then-this-lt3-clause-path g c).After-exchange (search rules)

pub returns-then-this-lt3-clause-ends : goal.returns-then-this-lt3-clause-ends
returns-then-this-lt3-clause-ends g c =
    left_asks g (goal.at.returns-then-this-lt3-clause-ends g c).After-exchange (search rules)

pub returns-clause-path : goal.returns-clause-path
returns-clause-path g c = left_path g (goal.at.returns-clause-path g c).After-exchange (search rules)

pub returns-clause-ends : goal.returns-clause-ends
returns-clause-ends g c = left_asks g (goal.at.returns-clause-ends g c).After-exchange (search rules)

pub unreachable-requires : goal.unreachable-requires
unreachable-requires g c =
    backed_other (backed c.exchange.result c.requires c.exchange.ensures.finds c.exchange.ensures.log) (search rules)
    (search rules) (search rules) (search rules)
