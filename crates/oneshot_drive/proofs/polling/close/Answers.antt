-- Proofs of the goals that `close` leaves.
use Rattle.oneshot_drive.proofs.Names.{rules, refl, ◌∙◌, [], ◌∷◌, did, AsyncDrop, AsyncSwap, is_in, is_room, DISCONNECTED, MESSAGE}
use Rattle.oneshot_machine.specs.declared.machine.Step.TheVariants as Steps
use Rattle.oneshot_drive.proofs.LastSwap.{swapped_full, swapped_over, swapped_open, swapped_none, row_at, dropped_message, dropped_open, dropped_last}
use Rattle.oneshot_machine.specs.Over.{HasLeft}
use Rattle.oneshot_drive.proofs.EndsOver.{dropped, stays_at}
use Rattle.oneshot_drive.proofs.polling.close.Goals as goal

pub drop_message-requires : goal.drop_message-requires
drop_message-requires g c = is_in (swapped_full c.swap.ensures.finds c.in-4.is).0

pub free-requires-clause-waker : goal.free-requires-clause-waker
free-requires-clause-waker g c = c.drop_message.ensures.waker ∙ is_room (swapped_full c.swap.ensures.finds c.in-4.is).1

pub free-requires-in-2-clause-message : goal.free-requires-in-2-clause-message
free-requires-in-2-clause-message g c = is_room (swapped_over c.swap.ensures.finds c.in-2.is).0

pub free-requires-in-2-clause-waker : goal.free-requires-in-2-clause-waker
free-requires-in-2-clause-waker g c = is_room (swapped_over c.swap.ensures.finds c.in-2.is).1

pub returns-in-4-clause-run : goal.returns-in-4-clause-run
returns-in-4-clause-run g c =
    dropped_message (AsyncDrop AsyncSwap) refl c.swap.result (row_at (AsyncDrop AsyncSwap) MESSAGE refl c.in-4.is)
    c.swap.ensures.log c.drop_message.ensures.log c.free.ensures.log

pub returns-in-2-clause-run : goal.returns-in-2-clause-run
returns-in-2-clause-run g c =
    dropped_last (AsyncDrop AsyncSwap) refl c.swap.result (row_at (AsyncDrop AsyncSwap) DISCONNECTED refl c.in-2.is)
    c.swap.ensures.log c.free-in-2.ensures.log

pub returns-in-1-clause-run : goal.returns-in-1-clause-run
returns-in-1-clause-run g c =
    dropped_open (AsyncDrop AsyncSwap) refl c.swap.result
    (swapped_open c.swap.ensures.finds (search rules) (search rules)) c.swap.ensures.log

pub returns-in-4-clause-left : goal.returns-in-4-clause-left
returns-in-4-clause-left g c =
    stays_at HasLeft (did Steps.Free ∷ []) refl c.free.ensures.log
    (stays_at HasLeft (did Steps.DropMessage ∷ []) refl c.drop_message.ensures.log
    (dropped c.swap.result c.swap.ensures.finds c.swap.ensures.log))

pub returns-in-2-clause-left : goal.returns-in-2-clause-left
returns-in-2-clause-left g c =
    stays_at HasLeft (did Steps.Free ∷ []) refl c.free-in-2.ensures.log
    (dropped c.swap.result c.swap.ensures.finds c.swap.ensures.log)

pub returns-in-1-clause-left : goal.returns-in-1-clause-left
returns-in-1-clause-left g c = dropped c.swap.result c.swap.ensures.finds c.swap.ensures.log

pub unreachable-requires : goal.unreachable-requires
unreachable-requires g c =
    swapped_none c.swap.ensures.finds (search rules) (search rules) (search rules) (search rules)
