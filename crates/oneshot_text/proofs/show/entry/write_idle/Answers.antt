-- The end's letter between two spaces, and then the word.
use Rattle.std.proofs.Common.{refl, ◌≡◌, ℕ, List, ◌++◌, codes, append_assoc}
use Rattle.std.proofs.Output.{has_written_append, has_written_of_eq}
use Rattle.oneshot_text.proofs.show.entry.write_idle.Goals as goal

-- the space after the letter comes before the word
in_a_row : (end end_text : List ℕ) → end_text ≡ codes " " ++ end ++ codes " "
    → end_text ++ codes "idle" ≡ codes " " ++ end ++ codes " idle"
in_a_row end end_text is = rw is (append_assoc (codes " " ++ end) (codes " ") (codes "idle"))

pub returns : goal.returns
returns g c = λ plain ok.
    let end = c.in_ok-write_str.ensures.writes plain refl in
    let idle = c.write_str-2.ensures.writes end.plain ok in
    has_written_of_eq _ _ _ _ _ (in_a_row _ _ c.end_letter.ensures) (has_written_append _ _ _ _ _ _ end idle)
