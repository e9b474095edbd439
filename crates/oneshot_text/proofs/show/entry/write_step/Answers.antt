-- The end, the step and the words, one after the other.
use Rattle.std.proofs.Common.{refl, ◌≡◌, ℕ, List, ◌++◌, codes, append_assoc}
use Rattle.std.proofs.Output.{has_written_append, has_written_of_eq}
use Rattle.oneshot_text.proofs.show.entry.write_step.Goals as goal

-- the texts of the end and of the step, with their spaces, in sequence
in_a_row : (space end name before arrow after end_text name_text : List ℕ) → end_text ≡ space ++ end ++ space
    → name_text ≡ name ++ space → (end_text ++ name_text) ++ (before ++ arrow ++ after)
    ≡ space ++ end ++ space ++ name ++ space ++ before ++ arrow ++ after
in_a_row space end name before arrow after end_text name_text end_is name_is = rw (end_is, name_is) (simp append_assoc)

pub returns : goal.returns
returns g c = λ plain ok.
    let end = c.in_ok-write_str.ensures.writes plain refl in
    let name = c.in_ok-write_str-2.ensures.writes end.plain refl in
    let words = c.write_words.ensures name.plain ok in
    has_written_of_eq _ _ _ _ _ (in_a_row (codes " ") _ _ _ (codes ">") _ _ _ c.end_letter.ensures c.step_name.ensures)
    (has_written_append _ _ _ _ _ _ (has_written_append _ _ _ _ _ _ end name) words)
