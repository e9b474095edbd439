-- Proofs of three goals of `cancellable_request`. `search` finds them too. Over a wrong body an answer fails at once,
-- and names what differs.
use Rattle.oneshot_watch.proofs.asking.cancellable_request.Goals as goal

pub returns-clause-new_ticket : goal.returns-clause-new_ticket
returns-clause-new_ticket g c = rw c.new-2.ensures c.in_ok-request.ensures.new_ticket

pub returns-clause-open : goal.returns-clause-open
returns-clause-open g c = rw c.new-2.ensures c.in_ok-request.ensures.open

pub returns-clause-none_taken : goal.returns-clause-none_taken
returns-clause-none_taken g c = rw c.new-2.ensures c.in_ok-request.ensures.none_taken
