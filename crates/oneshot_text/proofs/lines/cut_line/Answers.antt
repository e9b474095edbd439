-- A text is cut at its first line feed, if it has one.
use Rattle.std.proofs.Common.{lit<, refl}
use Rattle.std.proofs.lemmas.Str.Pattern.{split_parts}
use Rattle.oneshot_text.proofs.Cut.{lines_of-cut}
use Rattle.oneshot_text.proofs.lines.cut_line.Goals as goal

pub returns : goal.returns
returns c =
    let parts = split_parts 10 c.args.text.now _ c.split_once.ensures.cases (lit< tt) in
    rw c.unwrap_or.ensures (lines_of-cut c.args.text _ c.split_once.result c.requires refl parts)
