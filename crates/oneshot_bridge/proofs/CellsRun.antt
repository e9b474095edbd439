-- Each run whose logs have an order leads to a world whose cells are as the rule of the word has them.
use Rattle.std.proofs.Common.{is_some}
use Rattle.oneshot_bridge.proofs.Names.{◌≡◌, ℕ, ◌+◌, Bool, true, false, ◌&&◌, List, [], ◌∷◌, Option, Some, None, refl, sym, ap, ◌∙◌, subst, option_map, and_parts, Noted, Reaches, fresh, Share, empty}
use Rattle.oneshot_bridge.proofs.Names.{filled, Call, Classes, all_alike, as_name, as_state, as_entry, control_of, as_control, all_in, IsReached, is_in_cell, World, IsRunFrom, opening, side_of}
use Rattle.oneshot_bridge.proofs.Names.{by_end, Move, ReceiverScript, SenderScript, State, Entry, Place, WakerName, passes_where_found, opening_reached, Turned, turned, turned_reaches, only_if}
use Rattle.oneshot_bridge.proofs.Names.{Product, product_coding, reads_entry, class_under_way, Classed, all_classed, found_next, opening_found, Scene, last_of, message_home, waker_home, one_has_both}
use Rattle.oneshot_bridge.proofs.Names.{CellsAreSo, RunsSo}
use Rattle.oneshot_machine.specs.Phases.{sender_at, untouched, receiver_at}
use Rattle.oneshot_world.specs.declared.trace.Entry.TheVariants.{Idle, Made as Made_entry}
use Rattle.oneshot_world.specs.declared.trace.Place.TheVariants.{InCell}
use Rattle.oneshot_laws.proofs.ProductRuns.{IsFound}
use Rattle.oneshot_bridge.proofs.PhaseCodes.{Phases}
use Rattle.oneshot_bridge.proofs.PhasesBeside.{with_phases, phase_reader, is_so, cells_are_so, phases_are_so, is_right, explored, all_right}
use Rattle.oneshot_bridge.proofs.PhasesRead.{reads_of, read_all, read_logs, phases_are}

abbrev classed : Classed phase_reader all_alike
classed = all_classed phase_reader refl

abbrev pub Found : World → Phases → Type 0
Found w m = IsFound phase_reader all_alike classed explored w m

-- a reading that was found with a world follows the run
reads_as : (k : Classes) (call : Call) (entry : Entry) (m : Phases)
    → reads_entry phase_reader call (as_entry k entry) m ≡ reads_of entry m
reads_as k call (Idle side) m = refl
reads_as k call (Made_entry e) m = refl

abbrev IsAt : World → Phases → Type 0
IsAt w m = IsReached w × Found w m

found_last : (n : ℕ) (w : World) (m : Phases) (worlds : List World) (moves : List Move) (entries : List Entry)
    → IsAt w m → IsRunFrom n w worlds moves entries → IsAt (last_of w worlds) (read_all m entries)
found_last n w m [] [] [] at is_run = at
found_last n w m (next ∷ worlds) (move ∷ moves) (entry ∷ entries) at is_run =
    let side = side_of move in
    let call = class_under_way all_alike (by_end side w.sender w.receiver) in
    let by : Turned n w side entry next = turned n w move (entry, next) is_run.0 in
    let then : Found next (reads_entry phase_reader call (as_entry all_alike entry) m) =
    found_next phase_reader all_alike classed explored n side w entry next m by at.0 at.1 refl in
    found_last (n + 1) next (reads_of entry m) worlds moves entries
    (turned_reaches n side w entry next at.0 by, subst (Found next) (reads_as all_alike call entry m) then) is_run.1
found_last n w m _ _ _ at is_run = elim is_run [ ]

-- a run leads to a world that was found with the phases of its logs
pub comes_to : {T : Type 0} (a : SenderScript T) (b : ReceiverScript) {moves : List Move} {entries : List Entry}
    {now : Scene T} {xs ys : List Noted} {word : ℕ} → RunsSo a b moves entries now xs ys word → Reaches xs ys word
    → IsAt now.world (Some (sender_at xs, receiver_at ys))
comes_to a b {moves} {entries} {now} {xs} {ys} run order =
    let ran = run.run in
    let at_first : IsAt (opening a b) (Some (fresh, untouched)) =
    (opening_reached a b, opening_found phase_reader all_alike classed explored a.last) in
    let reads : read_all (Some (fresh, untouched)) entries ≡ Some (sender_at xs, receiver_at ys) =
    read_logs entries fresh untouched
    ∙ (λ i. with_phases (sender_at (run.sender_log i)) (receiver_at (run.receiver_log i))) ∙ phases_are order in
    subst (λ w. IsAt w (Some (sender_at xs, receiver_at ys))) ran.ends
    (subst (IsAt (last_of (opening a b) ran.worlds)) reads
    (found_last 1 (opening a b) (Some (fresh, untouched)) ran.worlds moves entries at_first ran.is_run))

-- what was computed of the state by classes holds of the state
some_as : (f : WakerName → WakerName) (o : Option WakerName) → is_some (option_map f o) ≡ is_some o
some_as f None = refl
some_as f (Some name) = refl

so_as : (k : Classes) (s : State) (m : Phases) → phases_are_so (as_state k s) m ≡ phases_are_so s m
so_as k s None = refl
so_as k s (Some m) =
    ap (λ some. is_so (message_home m.0 m.1) (is_in_cell s.message)
    && (is_so (waker_home m.0 m.1) some && only_if s.freed (one_has_both m.0 m.1))) (some_as (as_name k) s.wakers.cell)

-- a test that all found worlds pass holds of each
pub found_passes : (test : Product Phases → Bool) → all_in test explored.found ≡ true → (w : World) (m : Phases)
    → Found w m → test (record { control = as_control all_alike (control_of w); reader = m }) ≡ true
found_passes test all w m found =
    passes_where_found (product_coding phase_reader).code (product_coding phase_reader).is_same
    (product_coding phase_reader).sound test explored.found
    (record { control = as_control all_alike (control_of w); reader = m }) all found

-- by the share at home
in_filled : (share : Share) (full : Bool) → is_so share full ≡ true → share ≡ filled → full ≡ true
in_filled filled full so is = so
in_filled _ full so is = absurd (cc is)

in_empty : (share : Share) (full : Bool) → is_so share full ≡ true → share ≡ empty → full ≡ false
in_empty empty true so is = absurd (cc so)
in_empty empty false so is = refl
in_empty _ full so is = absurd (cc is)

in_cell : (place : Option Place) → is_in_cell place ≡ true → place ≡ Some InCell
in_cell (Some InCell) e = refl
in_cell _ e = absurd (cc e)

no_name : (name : Option WakerName) → is_some name ≡ false → name ≡ None
no_name None e = refl
no_name (Some name) e = absurd (cc e)

pub where_so : (condition claim : Bool) → only_if condition claim ≡ true → condition ≡ true → claim ≡ true
where_so true claim so is = so
where_so false claim so is = absurd (cc is)

cells : (xs ys : List Noted) (s : State) → cells_are_so s (sender_at xs) (receiver_at ys) ≡ true → CellsAreSo xs ys s
cells xs ys s so =
    let message = and_parts (is_so (message_home (sender_at xs) (receiver_at ys)) (is_in_cell s.message)) _ so in
    let waker = and_parts (is_so (waker_home (sender_at xs) (receiver_at ys)) (is_some s.wakers.cell)) _ message.1 in
    record {
      message = λ is. in_cell s.message (in_filled _ _ message.0 is);
      no_message = λ is. in_empty _ _ message.0 is;
      waker = λ is. in_filled _ _ waker.0 is;
      no_waker = λ is. no_name s.wakers.cell (in_empty _ _ waker.0 is);
      freed = λ freed. where_so s.freed _ waker.1 freed;
    }

pub cells_run : {T : Type 0} (a : SenderScript T) (b : ReceiverScript) {moves : List Move} {entries : List Entry}
    {now : Scene T} {xs ys : List Noted} {word : ℕ} → RunsSo a b moves entries now xs ys word → Reaches xs ys word
    → CellsAreSo xs ys now.world.state
cells_run a b {now} {xs} {ys} run order =
    let phases = Some (sender_at xs, receiver_at ys) in
    cells xs ys now.world.state
    (sym (so_as all_alike now.world.state phases)
    ∙ found_passes is_right all_right now.world phases (comes_to a b run order).1)
