-- Proofs of the goals that `examples_are_so` leaves.
use Rattle.oneshot_contract_examples.proofs.TokenExamples.{tokens_that_are_not, lives_that_are, lives_that_are_not, wakers_that_woke, wakers_that_did_not}
use Rattle.oneshot_contract_examples.proofs.EndExamples.{ends_that_are, ends_that_are_not, calls_that_grow, calls_that_do_not_grow, copies_that_are}
use Rattle.oneshot_contract_examples.proofs.EndExamples.{copies_that_are_not}
use Rattle.oneshot_contract_examples.proofs.EndExamples.{real_grounds_that_are, real_grounds_that_are_not, ordered_logs, unordered_logs}
use Rattle.oneshot_contract_examples.proofs.EndedExamples.{finds_that_are, finds_that_are_not}
use Rattle.oneshot_contract_examples.proofs.OwnExamples.{uses_that_are, uses_that_are_not}
use Rattle.oneshot_contract_examples.proofs.TakenExamples.{takes_that_are, takes_that_are_not}
use Rattle.oneshot_contract_examples.proofs.ends.examples_are_so.Goals as goal

pub returns : goal.returns
returns g c =
    record {
      ends = ends_that_are;
      no_ends = ends_that_are_not;
      calls = calls_that_grow;
      no_calls = calls_that_do_not_grow;
      copies = copies_that_are;
      no_copies = copies_that_are_not;
      grounds = real_grounds_that_are;
      no_grounds = real_grounds_that_are_not;
      no_states = tokens_that_are_not;
      lives = lives_that_are;
      no_lives = lives_that_are_not;
      woken = wakers_that_woke;
      unwoken = wakers_that_did_not;
      orders = ordered_logs;
      no_orders = unordered_logs;
      uses = uses_that_are;
      no_uses = uses_that_are_not;
      takes = takes_that_are;
      no_takes = takes_that_are_not;
      finds = finds_that_are;
      no_finds = finds_that_are_not;
    }
