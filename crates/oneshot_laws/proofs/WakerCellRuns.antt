-- A waker is written into its cell only while none is there.
use Rattle.oneshot_laws.proofs.Names.{◌≡◌, Bool, true, false, not, List, [], ◌∷◌, Option, Some, None, map, refl, sym, subst, cons_option, option_map, calls_of, Classes, as_move, WakerMove, World}
use Rattle.oneshot_laws.proofs.Names.{IsRun, opening, Move, ReceiverScript, SenderScript, Entry, both, only_if, Mark, marks, is_cell, cell_then, is_cell_right, is_cell_kept}
use Rattle.oneshot_laws.proofs.Coding.{flags}
use Rattle.oneshot_laws.proofs.PastLaws.{Law, Passes, Nameless, Passed, passes_run}
use Rattle.oneshot_laws.proofs.PastViews.{PastView, past_of}
use Rattle.oneshot_laws.proofs.Product.{no_names}
use Rattle.oneshot_laws.proofs.WakerPaths.{shown_by, shown}
use Rattle.oneshot_laws.proofs.WakerPlacesRuns.{later}

-- a waker is written only into an empty cell
abbrev cell_by : Bool → Option WakerMove → Bool
cell_by full None = full
cell_by full (Some move) = cell_then full move

abbrev may_write : Bool → Option WakerMove → Bool
may_write full None = true
may_write full (Some move) = only_if (is_cell move.2) (not full)

abbrev writes_rightly : Bool → PastView → Bool
writes_rightly full g = may_write full g.entry.waker

abbrev full_then : Bool → PastView → Bool
full_then full g = cell_by full g.entry.waker

abbrev pub write_law : Law Bool
write_law =
    record { coding = flags; passes = writes_rightly; sees = full_then; names = no_names; first = λ place. false }

one_write : (x : Option WakerMove) (full : Bool) (later : List WakerMove) → may_write full x ≡ true
    → is_cell_right (cell_by full x) later ≡ true → is_cell_right full (cons_option x later) ≡ true
one_write None full later h k = k
one_write (Some move) full later h k = both (only_if (is_cell move.2) (not full)) _ h k

written : (ms : List Mark) (full : Bool) → Passes write_law full (map past_of ms)
    → is_cell_right full (shown_by ms) ≡ true
written [] full p = refl
written (m ∷ ms) full p = one_write m.entry.waker full (shown_by ms) p.0 (written ms (full_then full (past_of m)) p.1)

write_as : (k : Classes) (full : Bool) (x : Option WakerMove)
    → may_write full (option_map (as_move k) x) ≡ may_write full x
write_as k full None = refl
write_as k full (Some move) = refl

full_as : (k : Classes) (full : Bool) (x : Option WakerMove) → cell_by full (option_map (as_move k) x) ≡ cell_by full x
full_as k full None = refl
full_as k full (Some move) = refl

write_nameless : Nameless write_law
write_nameless =
    record {
      none = refl;
      passes_same = λ k full g. write_as k full g.entry.waker;
      sees_same = λ k full g. full_as k full g.entry.waker;
    }

pub cell_kept : {T : Type 0} → Passed write_law T
    → (s : SenderScript T) (r : ReceiverScript) (worlds : List World) (moves : List Move) (entries : List Entry)
    → IsRun (opening s r) worlds moves entries → is_cell_kept entries ≡ true
cell_kept each s r worlds moves entries is_run =
    subst (λ ms. is_cell_right false ms ≡ true) (sym (shown entries _ _ 1 _))
    (written (marks (calls_of s r) entries) false
    (passes_run write_law write_nameless each s r worlds moves entries is_run))
