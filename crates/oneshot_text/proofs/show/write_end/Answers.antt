-- Two lines, one after the other, and then all is written.
use Rattle.std.proofs.Common.{ap, ◌∙◌}
use Rattle.oneshot_text.specs.RestText.{block_text}
use Rattle.oneshot_text.proofs.Pages.{written_out, if_ok}
use Rattle.oneshot_text.proofs.TextGrows.{ends_written}
use Rattle.oneshot_text.proofs.show.write_end.Goals as goal

pub returns : goal.returns
returns g c =
    let lines =
    ends_written _ _ _ c.args.run.message c.args.run.world _ _ c.into_rest.ensures
    (c.block_word-block.ensures ∙ ap block_text c.block_freed.ensures)
    c.in_ok-add.ensures c.in_ok-add-2.ensures in
    if_ok c.flush.result (written_out _ _ _ _ _ _ lines c.in_ok-write_to.ensures.bytes c.flush.ensures.bytes)
