-- The word before, the arrow and the word after, one after the other.
use Rattle.std.proofs.Common.{refl}
use Rattle.std.proofs.Output.{has_written_append}
use Rattle.oneshot_text.proofs.show.entry.write_words.Goals as goal

pub returns : goal.returns
returns g c = λ plain ok.
    let before = c.in_ok-write_word.ensures plain refl in
    let arrow = c.in_ok-write_str.ensures.writes before.plain refl in
    let after = c.write_word-2.ensures arrow.plain ok in
    has_written_append _ _ _ _ _ _ (has_written_append _ _ _ _ _ _ before arrow) after
