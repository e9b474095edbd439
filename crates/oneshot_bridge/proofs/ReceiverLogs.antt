-- For each log that an order allows the receiver, there are a script and a walk.
use Rattle.oneshot_bridge.proofs.Names.{◌≡◌, ◌==◌, ℕ, Bool, true, false, not, ◌&&◌, ◌||◌, List, [], ◌∷◌, ◌++◌, Option, Some, None, refl, sym, ap, subst, All, list_all, list_any, flat_map, cons_option}
use Rattle.oneshot_bridge.proofs.Names.{and_parts, All-nil, All-cons, All-head, All-tail, All-contains, Seen, Step, ReceiverPos, Op, Accepts, Noted, op_of, saw, Reaches, has_row, nothing_made}
use Rattle.oneshot_bridge.proofs.Names.{receiver_step, receiver_row, receiver_rows, In, head, tail, Table, Standpoint, plainly, standpoint_row, standpoint_step, standpoint_number, outcome_at}
use Rattle.oneshot_bridge.proofs.Names.{receiver_table, is_op, onward, onward_all, moved, made_at, operations, standing, standing_from, Outcome, Goes, row_for, receiver_exact, each_passes}
use Rattle.oneshot_bridge.proofs.Names.{some_passes, ops_are_same, ReceiverScript, ReceiverIsScripted, ReceiverStand, ReceiverWalk, opening_receiver, begins}
use Rattle.std.specs.Prelude.{if◌then◌else◌, IsSome}
use Rattle.oneshot_machine.specs.declared.machine.Step.TheVariants.{Word}
use Rattle.oneshot_machine.specs.Orders.{sender_makes, receiver_makes}
use Rattle.oneshot_machine.specs.Phases.{receiver_at}
use Rattle.oneshot_machine.specs.Standing.{future_at, in_order}
use Rattle.oneshot_world.specs.declared.script.ReceiverLast.TheVariants as RL
use Rattle.oneshot_bridge.proofs.Among.{in_each, in_such, row_among}
use Rattle.oneshot_bridge.proofs.ReceiverScripted.{Came, keeps, leads_well, nothing_onward, comes_onward, steps_on}
use Rattle.oneshot_bridge.proofs.ReceiverStands.{makes, opens, some_walk}
use Rattle.oneshot_bridge.proofs.RowsChangeSlots.{row_found, is_found}
use Rattle.oneshot_bridge.proofs.Standpoints.{pos_of, is_met, Comes, receiver_begins, standpoint_is}

-- WHAT IS COMPUTED: each row of a standpoint that walks meet leads on as walks do, and so does each
-- first call.
abbrev kind_of : Standpoint → ReceiverPos → Standpoint
kind_of (plainly p) = plainly
kind_of (future_at p) = future_at

abbrev row_leads : Standpoint → Outcome Standpoint → Bool
row_leads s o = keeps s o && leads_well 6 s o

abbrev rows_lead : Standpoint → Bool
rows_lead s =
    not (is_met s)
    || list_all (λ (row : Seen × Outcome ReceiverPos). row_leads s (outcome_at (kind_of s) row.1))
    (receiver_rows (pos_of s))

all_lead : list_all rows_lead receiver_table.positions ≡ true
all_lead = refl

calls_lead : list_all (λ s. leads_well 6 s (Goes s)) receiver_table.opens ≡ true
calls_lead = refl

-- a row of a standpoint is one of its position
record RowOf (s : Standpoint) (o : Outcome Standpoint) : Type 0 where
  seen : Seen
  row : Outcome ReceiverPos
  among : In (seen, row) (receiver_rows (pos_of s))
  leads : outcome_at (kind_of s) row ≡ o

row_of : (s : Standpoint) (seen : Seen) (o : Outcome Standpoint) → standpoint_row s seen ≡ Some o → RowOf s o
row_of s seen o = by s (row_for seen (receiver_rows (pos_of s))) refl
  where
    by : (s : Standpoint) (row : Option (Outcome ReceiverPos)) → row_for seen (receiver_rows (pos_of s)) ≡ row
        → standpoint_row s seen ≡ Some o → RowOf s o
    by (plainly p) None is rows = absurd (cc (rw is at rows))
    by (future_at p) None is rows = absurd (cc (rw is at rows))
    by (plainly p) (Some row) is rows =
        let same : Some (outcome_at plainly row) ≡ Some o = rw is at rows in
        record { seen = seen; row = row; among = row_among seen (receiver_rows p) is; leads = cc same }
    by (future_at p) (Some row) is rows =
        let same : Some (outcome_at future_at row) ≡ Some o = rw is at rows in
        record { seen = seen; row = row; among = row_among seen (receiver_rows p) is; leads = cc same }

or_so : (b c : Bool) → (not b || c) ≡ true → b ≡ true → c ≡ true
or_so true c h e = h
or_so false c h e = absurd (cc e)

row_leads_so : (s : Standpoint) (seen : Seen) (o : Outcome Standpoint) → In s receiver_table.positions
    → is_met s ≡ true → standpoint_row s seen ≡ Some o → row_leads s o ≡ true
row_leads_so s seen o among met rows =
    let row = row_of s seen o rows in
    subst (λ o. row_leads s o ≡ true) row.leads
    (each_passes (λ (row : Seen × Outcome ReceiverPos). row_leads s (outcome_at (kind_of s) row.1))
    (receiver_rows (pos_of s))
    (or_so (is_met s) _ (each_passes rows_lead receiver_table.positions all_lead among) met) row.among)

-- a standpoint among those that were put in the table's order
in_both : {q : Standpoint} (ps : List Standpoint) → In q (in_order receiver_table ps)
    → In q receiver_table.positions × In q ps
in_both {q} ps there =
    let such = in_such (λ p. list_any (λ r. standpoint_number r == standpoint_number p) ps) receiver_table.positions
    there in
    let one = some_passes (λ r. standpoint_number r == standpoint_number q) ps such.passes in
    (such.among, subst (λ r. In r ps) (standpoint_is one.one q one.passes) one.among)

-- where an end may be after one more operation
module _ {P : Type 0} (t : Table P) where
  moved_more : (ps : List P) (xs : List Noted) (x : Noted)
      → standing_from t ps (xs ++ x ∷ []) ≡ moved t (standing_from t ps xs) x
  moved_more ps [] x = refl
  moved_more ps (y ∷ xs) x = moved_more (moved t ps y) xs x

  standing_more : (xs : List Noted) (x : Noted) → standing t (xs ++ x ∷ []) ≡ moved t (standing t xs) x
  standing_more xs x = moved_more (standing t []) xs x

op_is : (op : Op) (step : Step) → is_op op (op_of step) ≡ true → step ≡ Word op
op_is op (Word other) e = ap Word (sym (ops_are_same op other e))
op_is op _ e = absurd (cc e)

step_is : (s : Standpoint) (op : Op) → standpoint_step s ≡ Word op → receiver_step (pos_of s) ≡ Word op
step_is (plainly p) op e = e
step_is (future_at p) op e = e

-- a standpoint of the table that a walk meets
record Stood (ys : List Noted) (s : Standpoint) : Type 0 where
  listed : In s receiver_table.positions
  comes : Comes ys s

module _ {ys : List Noted} where
  -- an operation and what it saw: where the walk is then, and the next standpoints
  operated : (op : Op) (seen : Seen) (s : Standpoint) (o : Outcome Standpoint) → Stood ys s
      → standpoint_step s ≡ Word op → standpoint_row s seen ≡ Some o
      → (leads_well 6 s o ≡ true) × Came (ys ++ (op, seen) ∷ []) s o
  operated op seen s o stood step rows =
      let leads = and_parts (keeps s o) (leads_well 6 s o)
      (row_leads_so s seen o stood.listed stood.comes.met rows) in
      (leads.1, steps_on s o stood.comes (makes op (step_is s op step)) rows leads.0)

  after_op : {q : Standpoint} (op : Op) (seen : Seen) (s : Standpoint) → Stood ys s
      → In q (onward receiver_table 6 s (if is_op op (op_of (standpoint_step s)) then standpoint_row s seen else None))
      → Comes (ys ++ (op, seen) ∷ []) q
  after_op {q} op seen s stood there = by (is_op op (op_of (standpoint_step s))) refl there
    where
      by_row : (row : Option (Outcome Standpoint)) → standpoint_row s seen ≡ row → standpoint_step s ≡ Word op
          → In q (onward receiver_table 6 s row) → Comes (ys ++ (op, seen) ∷ []) q
      by_row None rows step there = elim (subst (In q) (nothing_onward 6 s) there) [ ]
      by_row (Some o) rows step there =
          let made = operated op seen s o stood step rows in
          comes_onward 6 s o stood.comes.met made.0 made.1 there

      by : (b : Bool) → is_op op (op_of (standpoint_step s)) ≡ b
          → In q (onward receiver_table 6 s (if b then standpoint_row s seen else None))
          → Comes (ys ++ (op, seen) ∷ []) q
      by true is there = by_row (standpoint_row s seen) refl (op_is op (standpoint_step s) is) there
      by false is there = elim (subst (In q) (nothing_onward 6 s) there) [ ]

  -- one more operation
  stood_more : {q : Standpoint} (op : Op) (seen : Seen) (ps : List Standpoint)
      → ((s : Standpoint) → In s ps → Stood ys s)
      → In q (moved receiver_table ps (op, seen)) → Stood (ys ++ (op, seen) ∷ []) q
  stood_more op seen ps before there =
      let next = λ (p : Standpoint). onward receiver_table 6 p
      (if is_op op (op_of (standpoint_step p)) then standpoint_row p seen else None) in
      let at = in_both (flat_map next ps) there in
      let each = in_each next ps at.1 in
      record { listed = at.0; comes = after_op op seen each.one (before each.one each.among) each.found }

stood_first : {q : Standpoint} → In q (standing receiver_table []) → Stood [] q
stood_first there =
    let at = in_both (onward_all receiver_table receiver_table.opens) there in
    let each = in_each (λ p. onward receiver_table 6 p (Some (Goes p))) receiver_table.opens at.1 in
    let start : Comes [] each.one = receiver_begins opens each.among in
    record {
      listed = at.0;
      comes =
          comes_onward 6 each.one (Goes each.one) start.met
          (each_passes (λ s. leads_well 6 s (Goes s)) receiver_table.opens calls_lead each.among) start each.found;
    }

-- a walk meets each standpoint at which the table may be
stood : {xs ys : List Noted} {word : ℕ} → Reaches xs ys word
    → (s : Standpoint) → In s (standing receiver_table ys) → Stood ys s
stood nothing_made s there = stood_first there
stood (sender_makes op order row) s there = stood order s there
stood (receiver_makes {ys} {word} op order row) s there =
    stood_more op (saw op word) (standing receiver_table ys) (stood order)
    (subst (In s) (standing_more receiver_table ys (op, saw op word)) there)

-- the position whose step is this operation, which the table has there
record MadeAt (ps : List Standpoint) (op : Op) : Type 0 where
  one : Standpoint
  among : In one ps
  makes : op_of (standpoint_step one) ≡ Some op

all_made : (ps qs : List Standpoint) → ((q : Standpoint) → In q qs → In q ps)
    → All (MadeAt ps) (made_at receiver_table qs)
all_made ps [] among = All-nil (MadeAt ps)
all_made ps (q ∷ qs) among =
    by (op_of (standpoint_step q)) refl (all_made ps qs (λ r there. among r (tail there)))
  where
    by : (o : Option Op) → op_of (standpoint_step q) ≡ o → All (MadeAt ps) (made_at receiver_table qs)
        → All (MadeAt ps) (cons_option o (made_at receiver_table qs))
    by None is rest = rest
    by (Some op) is rest =
        All-cons (MadeAt ps) op (made_at receiver_table qs) (record { one = q; among = among q head; makes = is }) rest

all_in : {X : Type 0} (P : X → Type 0) (xs : List X) {x : X} → All P xs → In x xs → P x
all_in P [] all there = elim there [ ]
all_in P (x ∷ xs) all head = All-head P x xs all
all_in P (x ∷ xs) all (tail there) = all_in P xs (All-tail P x xs all) there

op_some : (op : Op) (step : Step) → op_of step ≡ Some op → step ≡ Word op
op_some op (Word other) e = ap Word (cc e)
op_some op _ e = absurd (cc e)

record SomeRow (s : Standpoint) (seen : Seen) : Type 0 where
  row : Outcome ReceiverPos
  rows : receiver_row (pos_of s) seen ≡ Some row

some_row : (s : Standpoint) (seen : Seen) → IsSome (standpoint_row s seen) → SomeRow s seen
some_row s seen = by s (receiver_row (pos_of s) seen) refl
  where
    by : (s : Standpoint) (row : Option (Outcome ReceiverPos)) → receiver_row (pos_of s) seen ≡ row
        → IsSome (standpoint_row s seen) → SomeRow s seen
    by s (Some row) is some = record { row = row; rows = is }
    by (plainly p) None is some = absurd (cc (rw is at some))
    by (future_at p) None is some = absurd (cc (rw is at some))

walk_of : {xs ys : List Noted} {word : ℕ} → Reaches xs ys word
    → (r : ReceiverScript) × (at : ReceiverStand) × ReceiverWalk r ys at
walk_of nothing_made =
    (record { calls = []; last = RL.Stop }, opening_receiver (record { calls = []; last = RL.Stop }), begins)
walk_of (sender_makes op order row) = walk_of order
walk_of (receiver_makes {ys} {word} op order (has_row row)) =
    let found = row_found (receiver_at ys) row in
    let exact = receiver_exact (Unit {0}) (Unit {0}) in
    let ps = standing receiver_table ys in
    let made : MadeAt ps op =
    All-contains (MadeAt ps) (operations receiver_table ys) op (all_made ps ps (λ q there. there))
    (exact.no_more (is_found order) found.may) in
    let step : standpoint_step made.one ≡ Word op = op_some op (standpoint_step made.one) made.makes in
    let some : IsSome (standpoint_row made.one (saw op word)) =
    all_in (Accepts receiver_table op word) ps (exact.accepted word (is_found order) found.finds) made.among step in
    let last = some_row made.one (saw op word) some in
    some_walk last.row (stood order made.one made.among).comes.stands (makes op (step_is made.one op step)) last.rows

pub receiver_scripted : ReceiverIsScripted
receiver_scripted xs ys word order = walk_of order
