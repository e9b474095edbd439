-- A text with no lines is empty, and any other has input left.
use Rattle.std.proofs.Common.{arith}
use Rattle.std.proofs.lemmas.Grind.{common_steps}
use Rattle.oneshot_text.specs.declared.fault.Malformed.TheVariants.{InputAfterLines}
use Rattle.oneshot_text.proofs.Cut.{lines_of-none}
use Rattle.oneshot_text.proofs.FirstFaults.{input_after}
use Rattle.oneshot_text.proofs.LineFaults.{fault_of_err}
use Rattle.oneshot_text.proofs.lines.Lines.end.Goals as goal

pub returns-else-is_empty-clause-over : goal.returns-else-is_empty-clause-over
returns-else-is_empty-clause-over c = (
  (λ never. absurd cc),
  λ none. let empty = lines_of-none c.args.self.rest.now none in grind (arith, common_steps),
)

pub returns-else-is_empty-clause-faulty : goal.returns-else-is_empty-clause-faulty
returns-else-is_empty-clause-faulty c = λ fault is.
    input_after _ fault
    (λ none. let empty = lines_of-none c.args.self.rest.now none in grind (arith, common_steps))
    (fault_of_err InputAfterLines fault is)
