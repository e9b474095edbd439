-- The step, its fields and its reply, one after the other.
use Rattle.std.proofs.Common.{refl, ◌≡◌, ℕ, List, ◌++◌, codes, append_assoc}
use Rattle.std.proofs.Output.{has_written_append, has_written_of_eq}
use Rattle.oneshot_text.proofs.show.entry.write_made.Goals as goal

-- the texts of a step in sequence, however they are grouped
in_a_row : (space end name before arrow after message waker token found own reply : List ℕ) →
    (space ++ end ++ space ++ name ++ space ++ before ++ arrow ++ after) ++ (message ++ waker ++ token ++ found ++ own)
    ++ reply
    ≡ space ++ (end ++ space ++ name ++ space ++ before ++ arrow ++ after ++ message ++ waker ++ token ++ found ++ own
    ++ reply)
in_a_row space end name before arrow after message waker token found own reply = simp append_assoc

pub returns : goal.returns
returns g c = λ plain ok.
    let step = c.in_ok-write_step.ensures plain refl in
    let fields = c.in_ok-write_fields.ensures step.plain refl in
    let reply = c.write_reply.ensures fields.plain ok in
    has_written_of_eq _ _ _ _ _ (in_a_row (codes " ") _ _ _ (codes ">") _ _ _ _ _ _ _)
    (has_written_append _ _ _ _ _ _ (has_written_append _ _ _ _ _ _ step fields) reply)
