-- The first channel found by a name is the only one of that name.
use Rattle.std.proofs.Common.{sym, ◌∙◌}
use Rattle.oneshot_loops.proofs.Names.{channel_named-finds, channel_named-found}
use Rattle.oneshot_loops.proofs.channels.Channel.named.Goals as goal

pub returns : goal.returns
returns c = λ it. (
  λ is. channel_named-found it c.args.name.now (sym c.first_named.ensures ∙ is),
  λ is. c.first_named.ensures ∙ channel_named-finds it c.args.name.now is,
)
