-- The fields, one after the other.
use Rattle.std.proofs.Common.{refl}
use Rattle.std.proofs.Output.{has_written_append}
use Rattle.oneshot_text.proofs.show.entry.write_fields.Goals as goal

pub returns : goal.returns
returns g c = λ plain ok.
    let message = c.in_ok-write_message.ensures plain refl in
    let waker = c.in_ok-write_waker.ensures message.plain refl in
    let token = rw c.token_text.ensures at (c.in_ok-write_str.ensures.writes waker.plain refl) in
    let found = rw c.found_text.ensures at (c.in_ok-write_str-2.ensures.writes token.plain refl) in
    let own = c.write_own.ensures found.plain ok in
    has_written_append _ _ _ _ _ _
    (has_written_append _ _ _ _ _ _
    (has_written_append _ _ _ _ _ _ (has_written_append _ _ _ _ _ _ message waker) token) found) own
