-- The number comes before an idle end and before a step.
use Rattle.std.proofs.Common.{refl, ◌≡◌, ℕ, List, ◌++◌, sym, ap, ◌∙◌, codes, append_assoc}
use Rattle.std.proofs.Output.{has_written_append, has_written_of_eq}
use Rattle.std.specs.Fmt.{decimal}
use Rattle.oneshot_text.specs.EntryText.{entry_text, made_text}
use Rattle.oneshot_text.specs.Names.{letter_of_end}
use Rattle.oneshot_text.proofs.show.entry.EntryLineDisplay.fmt.Goals as goal

idle_line : (number : ℕ) (end : List ℕ)
    → decimal number ++ (codes " " ++ end ++ codes " idle") ≡ decimal number ++ codes " " ++ end ++ codes " idle"
idle_line number end = simp append_assoc

pub returns-in-Made-clause-writes : goal.returns-in-Made-clause-writes
returns-in-Made-clause-writes g c = λ plain ok.
    let number = c.in_ok-fmt.ensures.writes plain refl in
    let made = c.write_made.ensures number.plain ok in
    let line = c.args.self.now in
    let text = sym (append_assoc (decimal line.number) (codes " ") (made_text line.call line.message c.in-Made.made))
    ∙ ap (λ entry. entry_text line.number line.call line.message entry) (sym c.in-Made.is) in
    has_written_of_eq _ _ _ _ _ text (has_written_append _ _ _ _ _ _ number made)

pub returns-in-Idle-clause-writes : goal.returns-in-Idle-clause-writes
returns-in-Idle-clause-writes g c = λ plain ok.
    let number = c.in_ok-fmt.ensures.writes plain refl in
    let idle = c.write_idle.ensures number.plain ok in
    let line = c.args.self.now in
    let text =
    idle_line line.number (letter_of_end c.in-Idle.end)
    ∙ ap (λ entry. entry_text line.number line.call line.message entry) (sym c.in-Idle.is) in
    has_written_of_eq _ _ _ _ _ text (has_written_append _ _ _ _ _ _ number idle)
