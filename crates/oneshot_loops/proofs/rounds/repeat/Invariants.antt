-- The rounds so far lead to the present state, and the next may be called.
use Rattle.std.proofs.Common.{Ok}
use denote.Param.Always.{always_mut}
use Rattle.oneshot_loops.specs.Rounds.{Leads}
use Rattle.oneshot_loops.proofs.rounds.repeat.Given as goal

abbrev pub invariant-loop-made : goal.invariant-loop-made
invariant-loop-made g l =
    (always_mut g.F.FnMut l.initial.round → always_mut g.F.FnMut l.round)
    × Leads (λ before after. goal.F-step g before (Ok tt) after) l._made l.fn.round l.round
