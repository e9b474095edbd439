-- The words taken ask for the calls so far.
use Rattle.std.proofs.Common.{◌≡◌, ◌++◌, length, map}
use Rattle.oneshot_text.specs.Receiver.{word_of_call}
use Rattle.oneshot_text.specs.Words.{words_left, IsSameLine}
use Rattle.oneshot_text.proofs.receiver.parse_calls.Given as goal

abbrev pub invariant-loop-call : goal.invariant-loop-call
invariant-loop-call l = record {
  run : words_left l.initial.words ≡ map word_of_call l.calls.items ++ words_left l.words;
  line : IsSameLine l.initial.words l.words;
}

abbrev pub decreases-loop-call : goal.decreases-loop-call
decreases-loop-call l = length (words_left l.words)
