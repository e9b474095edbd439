-- A text is cut at its first space, if it has one.
use Rattle.std.proofs.Common.{lit<}
use Rattle.std.proofs.lemmas.Str.Pattern.{split_parts}
use Rattle.oneshot_text.proofs.Cut.{slice_split-whole, slice_split-first}
use Rattle.oneshot_text.proofs.words.cut_word.Goals as goal

pub returns-in-Some : goal.returns-in-Some
returns-in-Some c =
    let parts = split_parts 32 c.args.text.now _ c.split_once.ensures.cases (lit< tt) in
    let cut = rw c.in-Some.is at parts in
    slice_split-first 32 c.args.text.now _ _ cut.0 cut.1

pub returns-in-None : goal.returns-in-None
returns-in-None c =
    let parts = split_parts 32 c.args.text.now _ c.split_once.ensures.cases (lit< tt) in
    slice_split-whole 32 c.args.text.now (rw c.in-None.is at parts)
