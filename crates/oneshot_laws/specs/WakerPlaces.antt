-- Each waker, by its name, is always in one place: the moves that the trace shows are a path. When a receiver ends or
-- becomes a future, its parker's half goes with it. No move shows this: by the trace the half stays in the hand.
use Rattle.std.specs.Prelude.{◌≡◌, ℕ, Bool, true, false, not, ◌&&◌, ◌==◌, List, [], ◌∷◌, Option, Some, None, if◌then◌else◌}
use Rattle.std.specs.List.{filter_map}
use Rattle.oneshot_world.specs.Wakers.{WakerMove, is_same_waker}
use Rattle.oneshot_world.specs.declared.trace.Entry.{Entry}
use Rattle.oneshot_world.specs.declared.trace.WakerName.{WakerName}
use Rattle.oneshot_world.specs.declared.trace.WakerName.TheVariants.{Parker, Copy}
use Rattle.oneshot_world.specs.declared.trace.WakerPlace.{WakerPlace}
use Rattle.oneshot_world.specs.declared.trace.WakerPlace.TheVariants.{New, Hand, Cell, SenderHand, Used, Dropped}
use Rattle.oneshot_laws.specs.Entries.{only_if}
use Rattle.oneshot_laws.specs.Marks.{Mark}
use Rattle.oneshot_laws.specs.MessagePlaces.{made_entries, is_path, last_place}
use Rattle.oneshot_laws.specs.Ended.{all_ended}

abbrev pub waker_place_code : WakerPlace → ℕ
waker_place_code New = 0
waker_place_code Hand = 1
waker_place_code Cell = 2
waker_place_code SenderHand = 3
waker_place_code Used = 4
waker_place_code Dropped = 5

abbrev pub is_same_waker_place : WakerPlace → WakerPlace → Bool
is_same_waker_place a b = waker_place_code a == waker_place_code b

-- the parker's half may come back from the cell, and a copy may be dropped
abbrev pub is_waker_move : WakerName → WakerPlace → WakerPlace → Bool
is_waker_move name New Hand = true
is_waker_move name Hand Cell = true
is_waker_move name Cell SenderHand = true
is_waker_move name SenderHand Used = true
is_waker_move (Copy number entry) Hand Dropped = true
is_waker_move (Copy number entry) Cell Dropped = true
is_waker_move Parker Cell Hand = true
is_waker_move _ _ _ = false

-- the parker's half begins in the receiver's hand, a copy is new
abbrev pub first_waker_place : WakerName → WakerPlace
first_waker_place Parker = Hand
first_waker_place (Copy number entry) = New

abbrev pub waker_moves : List Entry → List WakerMove
waker_moves entries = filter_map (λ e. e.waker) (made_entries entries)

-- the moves of one waker
abbrev pub move_of_waker : WakerName → WakerMove → Option (WakerPlace × WakerPlace)
move_of_waker name move = if is_same_waker move.0 name then Some (move.1, move.2) else None

abbrev pub moves_of_waker : WakerName → List WakerMove → List (WakerPlace × WakerPlace)
moves_of_waker name moves = filter_map (move_of_waker name) moves

-- a waker begins at its first place, and follows a path
abbrev pub is_waker_followed : List Entry → WakerName → Bool
is_waker_followed entries name =
    is_path is_same_waker_place (is_waker_move name) (first_waker_place name)
    (moves_of_waker name (waker_moves entries))

-- where a waker may be once all have ended; a copy that was never made is still new
abbrev pub is_waker_end : WakerName → WakerPlace → Bool
is_waker_end Parker Used = true
is_waker_end Parker Hand = true
is_waker_end (Copy number entry) Used = true
is_waker_end (Copy number entry) Dropped = true
is_waker_end (Copy number entry) New = true
is_waker_end _ _ = false

abbrev pub is_waker_ended : List Entry → List Mark → WakerName → Bool
is_waker_ended entries ms name =
    only_if (all_ended ms) (is_waker_end name
    (last_place (first_waker_place name) (moves_of_waker name (waker_moves entries))))

-- each waker follows its path, and has ended once all have
abbrev pub AreWakersRight : List Entry → List Mark → Type 0
AreWakersRight entries ms =
    (name : WakerName) → (is_waker_followed entries name ≡ true) × (is_waker_ended entries ms name ≡ true)

abbrev pub is_cell : WakerPlace → Bool
is_cell Cell = true
is_cell _ = false

-- whether a waker is in the cell after a move
abbrev pub cell_then : Bool → WakerMove → Bool
cell_then full move = if is_cell move.2 then true else (if is_cell move.1 then false else full)

-- a waker is written only into an empty cell, so the cell has at most one
abbrev pub is_cell_right : Bool → List WakerMove → Bool
is_cell_right full [] = true
is_cell_right full (move ∷ moves) = only_if (is_cell move.2) (not full) && is_cell_right (cell_then full move) moves

abbrev pub is_cell_kept : List Entry → Bool
is_cell_kept entries = is_cell_right false (waker_moves entries)
