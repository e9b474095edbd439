-- The laws of the wakers' moves, computed for worked traces, and for the same traces damaged.
use Rattle.std.specs.Prelude.{not, ◌&&◌, [], ◌∷◌, ◌++◌, IsTrue}
use Rattle.std.specs.List.{list_all}
use Rattle.oneshot_machine.specs.declared.machine.Step.TheVariants as T
use Rattle.oneshot_world.specs.declared.trace.Entry.TheVariants as E
use Rattle.oneshot_world.specs.declared.trace.WakerName.TheVariants.{Parker, Copy}
use Rattle.oneshot_world.specs.declared.trace.WakerPlace.{WakerPlace}
use Rattle.oneshot_world.specs.declared.trace.WakerPlace.TheVariants as W
use Rattle.oneshot_laws.specs.WakerPlaces.{is_cell_kept}
use Rattle.oneshot_law_examples.specs.Notation.{Example, receiver, carrying, up_to, put_behind, twice, uncarried_by, carried_by}
use Rattle.oneshot_law_examples.specs.Traces.{waited_for_message, sent_before_waiting, dropped_before_waiting, still_waiting}
use Rattle.oneshot_law_examples.specs.LawExamples.{are_wakers_right, marks_in, are_wakers_kept}

-- THE PLACES
-- a task's waker moves into the receiver's hand, and from there into the cell
abbrev pub with_a_copy : Example → Example
with_a_copy x =
    record x {
      entries =
          x.entries
          ++ E.Made (carrying (Copy 1 1) W.New W.Hand (receiver T.Plain 0 0))
          ∷ E.Made (carrying (Copy 1 1) W.Hand W.Cell (receiver T.WriteWaker 0 0))
          ∷ [];
    }

-- and from there to another place
abbrev pub copy_goes_to : WakerPlace → Example
copy_goes_to place =
    record sent_before_waiting {
      entries =
          (with_a_copy (up_to 6 sent_before_waiting)).entries
          ++ E.Made (carrying (Copy 1 1) W.Cell place (receiver T.Plain 0 0))
          ∷ [];
    }

abbrev pub MisplacedWakers : Type 0
MisplacedWakers =
    IsTrue (list_all (λ x. not (are_wakers_right x.entries (marks_in x)))
    -- a move is left out: into the cell, to the sender, the wake
    (uncarried_by 2 waited_for_message
    ∷ uncarried_by 6 waited_for_message
    ∷ uncarried_by 14 waited_for_message
    ∷ uncarried_by 2 sent_before_waiting
    -- a withdrawal is left out
    ∷ uncarried_by 5 dropped_before_waiting
    -- a waker moves twice
    ∷ twice 2 still_waiting
    ∷ twice 6 waited_for_message
    ∷ twice 14 waited_for_message
    ∷ twice 6 sent_before_waiting
    -- from elsewhere
    ∷ carried_by 2 Parker W.New W.Hand still_waiting
    ∷ carried_by 6 Parker W.Hand W.SenderHand waited_for_message
    ∷ carried_by 14 Parker W.Cell W.Used waited_for_message
    ∷ carried_by 6 Parker W.SenderHand W.Hand sent_before_waiting
    -- to elsewhere
    ∷ carried_by 2 Parker W.Hand W.SenderHand still_waiting
    ∷ carried_by 6 Parker W.Cell W.Used waited_for_message
    ∷ carried_by 14 Parker W.SenderHand W.Dropped waited_for_message
    ∷ carried_by 14 Parker W.SenderHand W.Hand waited_for_message
    ∷ carried_by 6 Parker W.Cell W.Dropped sent_before_waiting
    -- only the parker's half comes back from the cell
    ∷ copy_goes_to W.Hand
    -- another waker than the one that is there
    ∷ carried_by 6 (Copy 1 2) W.Cell W.SenderHand waited_for_message
    ∷ carried_by 5 (Copy 1 2) W.Hand W.Cell (with_a_copy still_waiting)
    ∷ uncarried_by 4 (with_a_copy still_waiting)
    -- the wake comes before the sender has the waker
    ∷ put_behind 14 6 waited_for_message
    ∷ []
    ))

-- a waker is written over another: each follows its path, and only the law of the cell refuses it
abbrev pub FullCells : Type 0
FullCells =
    IsTrue (not (is_cell_kept (twice 2 still_waiting).entries))
    × IsTrue (list_all (λ x. are_wakers_right x.entries (marks_in x) && not (is_cell_kept x.entries))
    (with_a_copy still_waiting ∷ with_a_copy (up_to 2 sent_before_waiting) ∷ []))
    -- once the other is back in the hand, or the sender's, the cell is free
    × IsTrue (list_all are_wakers_kept
    (with_a_copy (up_to 6 sent_before_waiting)
    ∷ with_a_copy (up_to 6 waited_for_message)
    ∷ copy_goes_to W.SenderHand
    ∷ copy_goes_to W.Dropped
    ∷ []
    ))
