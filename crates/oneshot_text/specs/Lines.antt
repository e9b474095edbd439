-- What contracts see of a text that is being read: the lines left, each as its words.
use Rattle.std.specs.Prelude.{ℕ, List, map}
use Rattle.oneshot_text.specs.declared.lines.Lines.{Lines}
use Rattle.oneshot_text.specs.Cut.{words_of, lines_of}

abbrev pub lines_left : Lines → List (List (List ℕ))
lines_left lines = map words_of (lines_of lines.rest.now)
