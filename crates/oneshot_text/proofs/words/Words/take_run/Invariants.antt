-- The words taken are all `text`.
use Rattle.std.proofs.Common.{◌≡◌, ◌++◌, length, replicate}
use Rattle.oneshot_text.specs.Words.{words_left, IsSameLine}
use Rattle.oneshot_text.proofs.words.Words.take_run.Given as goal

abbrev pub invariant-loop-self : goal.invariant-loop-self
invariant-loop-self l = record {
  run : words_left l.initial.self ≡ replicate l.count l.text ++ words_left l.self;
  line : IsSameLine l.initial.self l.self;
}

abbrev pub decreases-loop-self : goal.decreases-loop-self
decreases-loop-self l = length (words_left l.self)
