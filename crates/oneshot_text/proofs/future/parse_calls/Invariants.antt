-- The words taken ask for the calls so far; if all words ask for a script, those left ask for the rest of it.
use Rattle.std.proofs.Common.{◌≡◌, ◌++◌, length}
use Rattle.oneshot_text.specs.Future.{words_of_future_calls, HasNumbers}
use Rattle.oneshot_text.specs.Words.{words_left, IsSameLine}
use Rattle.oneshot_text.proofs.FutureWords.{Each}
use Rattle.oneshot_text.proofs.future.parse_calls.Given as goal

abbrev pub invariant-loop-calls : goal.invariant-loop-calls
invariant-loop-calls l = record {
  written : words_left l.initial.words ≡ words_of_future_calls l.calls.items ++ words_left l.words;
  each : Each (words_left l.initial.words) l.calls.items (words_left l.words);
  numbers : HasNumbers l.calls.items;
  line : IsSameLine l.initial.words l.words;
}

abbrev pub decreases-loop-calls : goal.decreases-loop-calls
decreases-loop-calls l = length (words_left l.words)
