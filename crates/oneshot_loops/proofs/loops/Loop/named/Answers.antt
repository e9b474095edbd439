-- The first loop found by a name is the only one of that name.
use Rattle.std.proofs.Common.{sym, ◌∙◌}
use Rattle.oneshot_loops.proofs.Names.{loop_named-finds, loop_named-found}
use Rattle.oneshot_loops.proofs.loops.Loop.named.Goals as goal

pub returns : goal.returns
returns c = λ it. (
  λ is. loop_named-found it c.args.name.now (sym c.first_named.ensures ∙ is),
  λ is. c.first_named.ensures ∙ loop_named-finds it c.args.name.now is,
)
