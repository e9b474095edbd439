-- An open receiver has taken none: once a log has found the message, its phase is past the open ones.
use Rattle.std.proofs.Common.{◌≡◌, Bool, true, false, List, [], ◌∷◌, Option, Some, None, refl, sym, ap, ◌∙◌, true≢false}
use Rattle.std.proofs.lemmas.Bool.{and_parts, or_right}
use Rattle.std.specs.Prelude.{◌&&◌, ◌||◌, if◌then◌else◌}
use Rattle.std.specs.List.{list_all}
use Rattle.oneshot_machine.specs.declared.machine.Seen.{Seen}
use Rattle.oneshot_machine.specs.declared.machine.Seen.TheVariants.{Word}
use Rattle.oneshot_machine.specs.declared.states.Op.{Op}
use Rattle.oneshot_machine.specs.declared.states.TheConstants.{MESSAGE}
use Rattle.oneshot_machine.specs.Noted.{Noted, saw, is_same_op}
use Rattle.oneshot_machine.specs.Phases.{Row, ReceiverAt, untouched, idle, waits, claimed, withdrew, overdue, no_receiver, receiver_moves, receiver_next, next_by, phase_from, receiver_at}
use Rattle.oneshot_machine.specs.TableRows.{is_same_seen}
use Rattle.oneshot_drive.specs.BetweenCalls.{is_open_at}
use Rattle.oneshot_ends.specs.Taken.{has_found, TookAsFound}
use Rattle.oneshot_machine.proofs.EachPhase.{at_each_receiver, if_so}
use Rattle.oneshot_machine.proofs.RunsByRows.{seens_are_same, next_passes}

-- the phases of a receiver that may have found the message
abbrev past : ReceiverAt → Bool
past untouched = false
past (idle o) = false
past (waits w) = false
past claimed = false
past withdrew = false
past overdue = false
past _ = true

abbrev leads_past : ReceiverAt → Bool
leads_past at = list_all (λ (row : Row ReceiverAt). past row.3) (receiver_moves at)

past_rows : (at : ReceiverAt) → past at ≡ true → leads_past at ≡ true
past_rows at = if_so (past at) _ (at_each_receiver (λ at. if past at then leads_past at else true) refl at)

-- a row that finds the message leads there
abbrev found_row : Row ReceiverAt → Bool
found_row (made, before, word, next, after) = if is_same_seen (saw made word) (Word MESSAGE) then past next else true

row_found : (op : Op) (rows : List (Row ReceiverAt)) → list_all found_row rows ≡ true
    → past (next_by no_receiver rows op (Word MESSAGE)) ≡ true
row_found op [] all = refl
row_found op (row ∷ rows) all =
    let parts = and_parts (found_row row) (list_all found_row rows) all in
    by (is_same_op row.0 op) (is_same_seen (saw row.0 row.2) (Word MESSAGE)) parts.0 (row_found op rows parts.1)
  where
    by : (a b : Bool) → (if b then past row.3 else true) ≡ true
        → past (next_by no_receiver rows op (Word MESSAGE)) ≡ true
        → past (if a && b then row.3 else next_by no_receiver rows op (Word MESSAGE)) ≡ true
    by true true now there = now
    by true false now there = there
    by false b now there = there

found_next : (at : ReceiverAt) (op : Op) (seen : Seen) → is_same_seen seen (Word MESSAGE) ≡ true
    → past (receiver_next at op seen) ≡ true
found_next at op seen e =
    ap (λ seen. past (receiver_next at op seen)) (seens_are_same seen (Word MESSAGE) e)
    ∙ row_found op (receiver_moves at) (at_each_receiver (λ at. list_all found_row (receiver_moves at)) refl at)

found_past : (at : ReceiverAt) (log : List Noted) → (past at || has_found log) ≡ true
    → past (phase_from receiver_next at log) ≡ true
found_past at [] e = by (past at) e
  where
    by : (b : Bool) → (b || false) ≡ true → b ≡ true
    by true e = refl
    by false e = e
found_past at (x ∷ xs) e =
    found_past (receiver_next at x.0 x.1) xs (by (past at) refl (is_same_seen x.1 (Word MESSAGE)) refl e)
  where
    by : (a : Bool) → past at ≡ a → (b : Bool) → is_same_seen x.1 (Word MESSAGE) ≡ b → (a || (b || has_found xs)) ≡ true
        → (past (receiver_next at x.0 x.1) || has_found xs) ≡ true
    by true is b sees e =
        ap (λ d. d || has_found xs) (next_passes past no_receiver (receiver_moves at) x.0 x.1 refl (past_rows at is))
    by false is true sees e = ap (λ d. d || has_found xs) (found_next at x.0 x.1 sees)
    by false is false sees e = or_right (past (receiver_next at x.0 x.1)) (has_found xs) e

not_past : (at : ReceiverAt) → is_open_at at ≡ true → past at ≡ false
not_past untouched e = refl
not_past (idle o) e = refl
not_past (waits w) e = refl
not_past claimed e = refl
not_past _ e = absurd (cc)

pub open_took_none : {T : Type 0} (took : Option T) (log : List Noted) → TookAsFound took log
    → is_open_at (receiver_at log) ≡ true → took ≡ None
open_took_none None log so open_at = refl
open_took_none (Some m) log so open_at =
    absurd (true≢false (sym (found_past untouched log (sym so)) ∙ not_past (receiver_at log) open_at))
