-- If no line is left, the line is missing; if its first word is another one, it begins wrongly.
use Rattle.std.proofs.Common.{◌≡◌, ◌∷◌, map, length, Some, refl, sym, ap, ◌∙◌, arith}
use Rattle.std.proofs.lemmas.Grind.{common_steps}
use Rattle.oneshot_text.specs.declared.fault.Malformed.TheVariants.{MissingLine, MustBegin}
use Rattle.oneshot_text.specs.Cut.{words_of, lines_of}
use Rattle.oneshot_text.specs.Lines.{lines_left}
use Rattle.oneshot_text.specs.Words.{words_left}
use Rattle.oneshot_text.proofs.FirstFaults.{no_line, no_lines, other_letter}
use Rattle.oneshot_text.proofs.LineFaults.{fault_of_err}
use Rattle.oneshot_text.proofs.lines.Lines.take.Goals as goal

pub returns-then-is_empty-clause-faulty : goal.returns-then-is_empty-clause-faulty
returns-then-is_empty-clause-faulty c = λ fault is later.
    let text = c.args.self.now.rest.now in
    let none : length text ≡ 0 = grind (arith, common_steps) in
    no_line c.args.line later _ fault (no_lines text none) (fault_of_err (MissingLine c.args.line) fault is)

pub returns-then-not-next_is-clause-faulty : goal.returns-then-not-next_is-clause-faulty
returns-then-not-next_is-clause-faulty c = λ fault is later.
    let text = c.args.self.now.rest.now in
    let first : lines_of text ≡ c.cut_line.result.0.now ∷ lines_of c.cut_line.result.1.now = c.cut_line.ensures in
    let words : lines_left c.args.self.now
    ≡ words_left c.new-words.result ∷ map words_of (lines_of c.cut_line.result.1.now) =
    rw (first, c.new-words.ensures.words) refl in
    other_letter c.args.line later _ (words_left c.new-words.result) _ fault words
    (λ at. absurd (cc
    (c.next_is.ensures.1 (at ∙ ap (λ letter. Some letter) (sym c.letter.ensures)), c.if-not-next_is.true)))
    (fault_of_err (MustBegin c.args.line) fault is)
