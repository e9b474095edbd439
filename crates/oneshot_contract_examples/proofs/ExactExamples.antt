-- Proofs of the examples of the law `tables_are_exact`: each is by a row, and a test of all rows refuses the others.
use Rattle.std.proofs.Common.{◌≡◌, Bool, true, false, not, ◌&&◌, List, [], ◌∷◌, ◌++◌, refl, sym, ap, ◌∙◌, true≢false, arith}
use Rattle.std.specs.Prelude.{Contains}
use Rattle.std.specs.List.{list_all}
use Rattle.oneshot_machine.specs.declared.states.Op.{Op}
use Rattle.oneshot_machine.specs.declared.states.Op.TheVariants.{Load, Swap, Add}
use Rattle.oneshot_machine.specs.declared.machine.Seen.TheVariants.{Word}
use Rattle.oneshot_machine.specs.declared.states.TheConstants.{RECEIVING, UNPARKING, MESSAGE}
use Rattle.oneshot_machine.specs.Exact.{IsFound, none_yet, one_more, IsAllowed}
use Rattle.oneshot_contract_examples.specs.ExactExamples.{TablesAllow, TablesRefuse}
use Rattle.oneshot_machine.specs.Noted.{Noted, saw, is_same_op}
use Rattle.oneshot_machine.specs.Phases.{Row, sending, fresh, owes, untouched, sender_at, sender_moves, receiver_at, receiver_moves}
use Rattle.oneshot_machine.specs.Slots.{Held, away, vacant, held, is_away, is_held, stays_away, stays_held, gives_room, gives_thing, gets_room, gets_thing, head, tail, May, may, Finds, finds}
use Rattle.oneshot_machine.specs.TableRows.{is_same_seen}
use Rattle.oneshot_machine.proofs.Sameness.{each_passes}

-- whether this is another operation, or saw something else
abbrev other : Noted → Noted → Bool
other x y = not (is_same_op y.0 x.0 && is_same_seen y.1 x.1)

module _ {At : Type 0} (rows : At → List (Row At)) where
  -- an operation that the first phase has no row for is no log
  no_log : {T W : Type 0} (at : List Noted → At) (x : Noted)
      → list_all (λ (row : Row At). other x (row.0, saw row.0 row.2)) (rows (at [])) ≡ true → other x x ≡ false
      → {all : List Noted} → IsFound {T = T} {W = W} at (Finds rows) all → all ≡ x ∷ [] → ⊥
  no_log at x none same none_yet e = absurd (cc e)
  no_log at x none same (one_more {xs = []} {op} word earlier (finds row message waker)) e =
      let is : (op, saw op word) ≡ x = cc e in
      true≢false (sym (each_passes (λ (row : Row At). other x (row.0, saw row.0 row.2)) (rows (at [])) none row)
      ∙ ap (other x) is ∙ same)
  no_log at x none same (one_more {xs = y ∷ ys} {op} word earlier found) e =
      absurd (longer ys (op, saw op word) (cc e))
    where
      longer : (ys : List Noted) (z : Noted) → ys ++ z ∷ [] ≡ [] → ⊥
      longer [] z e = cc e
      longer (y ∷ ys) z e = cc e

  -- an operation that a phase has no row for is not allowed
  not_allowed : {T W : Type 0} (at : At) (op : Op)
      → list_all (λ (row : Row At). not (is_same_op row.0 op)) (rows at) ≡ true → not (is_same_op op op) ≡ false
      → IsAllowed {T = T} {W = W} (May rows) at op → ⊥
  not_allowed {T} {W} at op none same allowed = by allowed.2
    where
      by : {m : Held T} {w : Held W} → May rows at op m w → ⊥
      by (may row message waker) =
          true≢false (sym (each_passes (λ (row : Row At). not (is_same_op row.0 op)) (rows at) none row) ∙ same)

pub tables_allow : TablesAllow
tables_allow =
    record {
      new_log = none_yet;
      adds = one_more 3 none_yet (finds {m = held 7} {w = away} head (gives_thing 7) stays_away);
      sends_at_last = one_more 1 (one_more 0 none_yet (finds (tail head) (stays_held 7) (gets_thing 1)))
          (finds {m = held 7} {w = vacant} head (gives_thing 7) gives_room);
      loads = one_more 3 none_yet (finds {m = away} {w = away} head stays_away gets_room);
      may_add = (held 7, away, may head (is_held 7) is_away);
      may_store = (away, held 1, may (tail (tail (tail head))) is_away (is_held 1));
      adds_over_0 = λ _. refl;
      adds_elsewhere = λ e. absurd (cc e);
    }

never : Contains {X = Op} [] Add → ⊥
never among = omega (arith, among.1)

pub tables_refuse : TablesRefuse
tables_refuse =
    record {
      adds_over_4 = λ found. no_log sender_moves sender_at (Add, Word MESSAGE) refl refl found refl;
      swaps_first = λ found. no_log sender_moves sender_at (Swap MESSAGE, Word UNPARKING) refl refl found refl;
      finds_1_first = λ found. no_log receiver_moves receiver_at (Load, Word UNPARKING) refl refl found refl;
      may_swap_first = not_allowed sender_moves fresh (Swap MESSAGE) refl refl;
      may_add_again = not_allowed sender_moves (owes sending) Add refl refl;
      may_store_first = not_allowed receiver_moves untouched (Swap RECEIVING) refl refl;
      accepts_1 = λ so. let e = so refl in cc e;
      begins_nothing = λ exact.
          never (exact.no_more none_yet (may {m = held 7} {w = away} head (is_held 7) is_away));
    }
