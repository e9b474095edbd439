-- The examples of deadlines, computed.
use Rattle.std.proofs.Common.{refl, arith}
use Rattle.oneshot_ends.specs.DeadlineExamples.{DeadlinesThatAre, DeadlinesThatAreNot}

pub deadlines_that_are : DeadlinesThatAre
deadlines_that_are =
    record {
      over_past_it = λ end now e. omega arith;
      over_unread = λ _. tt;
      over_at_once = λ _. tt;
      far = λ end now e. omega arith;
      ends = λ _. refl;
      ends_at_once = refl;
      ends_never = refl;
      after_a_failure = λ _. refl;
      end_after_a_failure = λ _. tt;
    }

pub deadlines_that_are_not : DeadlinesThatAreNot
deadlines_that_are_not =
    record {
      over_at_itself = λ end now e over. omega arith;
      over_before = λ end now e over. omega arith;
      over_without_end = λ _ over. over;
      far_by_less = λ end now e far. omega arith;
      far_unread = λ _ far. far;
      never_after_a_failure = λ _ after. cc after;
      later_after_a_failure = λ _ _ after. cc after;
      passed_after_a_reading = λ _ _ after. after;
      a_nanosecond_early = λ timeout now end e after. let at = after.0 in omega arith;
      a_nanosecond_late = λ timeout now end e after. let at = after.0 in omega arith;
      never_where_it_fits = λ _ _ fits never. never fits;
    }
