-- Proofs of the goals that `stop` leaves.
use Rattle.oneshot_drive.proofs.Names.{rules, refl, sym, subst, Swap, is_in, DISCONNECTED, EMPTY, MESSAGE}
use Rattle.oneshot_drive.proofs.AfterOperations.{asks}
use Rattle.oneshot_drive.proofs.Waits.{stopped, stopped_open, stopped_full, stopped_over, stopped_late, stopped_none, withdrew_nothing, ends_late, ends_by_word, stops_to, nothing_path, late_path}
use Rattle.oneshot_drive.proofs.waiting.stop.Goals as goal

pub swap-requires : goal.swap-requires
swap-requires g c = asks (Swap EMPTY) c.requires.waits refl

pub withdraw-requires : goal.withdraw-requires
withdraw-requires g c =
    is_in (stopped_open (stopped c.swap.result c.requires.waits c.swap.ensures.finds c.swap.ensures.log)
    c.in-0.is).waker

pub returns-in-0-clause-path : goal.returns-in-0-clause-path
returns-in-0-clause-path g c =
    nothing_path c.withdraw.result c.swap.result c.in-0.is c.swap.ensures.log c.withdraw.ensures.log

pub returns-in-0-clause-ends : goal.returns-in-0-clause-ends
returns-in-0-clause-ends g c =
    withdrew_nothing (stopped c.swap.result c.requires.waits c.swap.ensures.finds c.swap.ensures.log) c.in-0.is
    c.withdraw.ensures.log c.withdraw.ensures.message c.withdraw.ensures.waker

pub returns-in-0-clause-hand : goal.returns-in-0-clause-hand
returns-in-0-clause-hand g c nothing none = cc

pub returns-in-4-clause-path : goal.returns-in-4-clause-path
returns-in-4-clause-path g c = stops_to _ c.swap.result MESSAGE refl c.in-4.is c.swap.ensures.log

pub returns-in-4-clause-ends : goal.returns-in-4-clause-ends
returns-in-4-clause-ends g c =
    stopped_full (stopped c.swap.result c.requires.waits c.swap.ensures.finds c.swap.ensures.log) c.in-4.is

pub returns-in-2-clause-path : goal.returns-in-2-clause-path
returns-in-2-clause-path g c = stops_to _ c.swap.result DISCONNECTED refl c.in-2.is c.swap.ensures.log

pub returns-in-2-clause-ends : goal.returns-in-2-clause-ends
returns-in-2-clause-ends g c =
    stopped_over (stopped c.swap.result c.requires.waits c.swap.ensures.finds c.swap.ensures.log) c.in-2.is

pub wait_late-requires-clause-late : goal.wait_late-requires-clause-late
wait_late-requires-clause-late g c =
    stopped_late (stopped c.swap.result c.requires.waits c.swap.ensures.finds c.swap.ensures.log) c.in-1.is

pub returns-in-1-clause-path : goal.returns-in-1-clause-path
returns-in-1-clause-path g c =
    late_path c.wait_late.result c.swap.result c.in-1.is c.swap.ensures.log c.wait_late.ensures.path

pub returns-in-1-clause-ends : goal.returns-in-1-clause-ends
returns-in-1-clause-ends g c = ends_late c.wait_late.result _ c.wait_late.ensures.ends

pub returns-in-1-clause-hand : goal.returns-in-1-clause-hand
returns-in-1-clause-hand g c nothing none = ends_by_word c.wait_late.result _ c.wait_late.ensures.ends nothing

pub returns-in-0-clause-keeps : goal.returns-in-0-clause-keeps
returns-in-0-clause-keeps g c =
    g.G.ReceiverGround.keeps_on _ _ _ c.swap.ensures.keeps c.withdraw.ensures.keeps

pub returns-in-1-clause-keeps : goal.returns-in-1-clause-keeps
returns-in-1-clause-keeps g c =
    g.G.ReceiverGround.keeps_on _ _ _ c.swap.ensures.keeps c.wait_late.ensures.keeps

pub wait_late-requires-clause-has : goal.wait_late-requires-clause-has
wait_late-requires-clause-has g c = g.met.G.BlockGround.has_on _ _ _ c.swap.ensures.keeps c.requires.has

pub returns-in-0-clause-has : goal.returns-in-0-clause-has
returns-in-0-clause-has g c =
    g.met.G.BlockGround.has_back _ _ _ c.withdraw.ensures.was c.withdraw.ensures.keeps
    (g.met.G.BlockGround.has_on _ _ _ c.swap.ensures.keeps c.requires.has)

pub returns-in-4-clause-has : goal.returns-in-4-clause-has
returns-in-4-clause-has g c =
    subst (λ hand. g.G.ReceiverGround.has c.swap.new.self hand) (sym c.requires.empty)
    (g.met.G.BlockGround.has_on _ _ _ c.swap.ensures.keeps c.requires.has)

pub returns-in-2-clause-has : goal.returns-in-2-clause-has
returns-in-2-clause-has g c =
    subst (λ hand. g.G.ReceiverGround.has c.swap.new.self hand) (sym c.requires.empty)
    (g.met.G.BlockGround.has_on _ _ _ c.swap.ensures.keeps c.requires.has)

pub returns-in-1-clause-has : goal.returns-in-1-clause-has
returns-in-1-clause-has g c =
    let on = g.G.ReceiverGround.keeps_on in
    subst (λ hand. g.G.ReceiverGround.has c.wait_late.new.g hand) (sym c.requires.empty)
    (g.met.G.BlockGround.has_on _ _ _ (on _ _ _ c.swap.ensures.keeps c.wait_late.ensures.keeps) c.requires.has)

pub unreachable-requires : goal.unreachable-requires
unreachable-requires g c =
    stopped_none (stopped c.swap.result c.requires.waits c.swap.ensures.finds c.swap.ensures.log) (search rules)
    (search rules) (search rules) (search rules)
