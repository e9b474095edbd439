-- An end's phases allow what its positions make, by a test of each phase.
use Rattle.std.proofs.Common.{◌≡◌, ℕ, Bool, true, false, not, ◌&&◌, List, [], ◌∷◌, None, refl, sym, ap, ◌∙◌, subst, All, Contains, true≢false, cond, arith}
use Rattle.std.specs.Prelude.{◌==◌, if◌then◌else◌, is_some, filter}
use Rattle.std.specs.List.{list_all, list_any, flat_map}
use Rattle.std.proofs.lemmas.Bool.{and_parts}
use Rattle.std.proofs.lemmas.List.Elements.{All-cons}
use Rattle.std.proofs.lemmas.Map.Views.{Contains-from_any}
use Rattle.oneshot_machine.specs.declared.machine.Seen.{Seen}
use Rattle.oneshot_machine.specs.declared.states.Op.{Op}
use Rattle.oneshot_machine.specs.Noted.{Noted, saw, op_of, is_same_op}
use Rattle.oneshot_machine.specs.Phases.{Slots, Row, is_row_for, next_by, phase_from}
use Rattle.oneshot_machine.specs.Slots.{Held, IsSlot, SlotChange, In, head, tail, May, may, Finds, finds}
use Rattle.oneshot_machine.specs.Standing.{Table, is_op, onward, onward_all, in_order, moved, standing, made_at, operations}
use Rattle.oneshot_machine.proofs.GrownLogs.{phase_from-snoc, standing-snoc}
use Rattle.oneshot_machine.proofs.Sameness.{each_passes, thrice, five, some_passes, same_op, ops_are_same, same_sight, is_same_share, shares_are_same, fill, fills, is_plain, changes_plainly}
use Rattle.oneshot_machine.specs.Exact.{IsFound, none_yet, one_more, IsAllowed, Accepts, IsExact}

module _ {At : Type 0} (nowhere : At) where
  -- the rows of a phase differ in their operation or in what it sees
  abbrev pub differ : List (Row At) → Bool
  differ [] = true
  differ (row ∷ rows) =
      list_all (λ (other : Row At). not (is_row_for other.0 (saw other.0 other.2) row)) rows && differ rows

  not_so : {b : Bool} → not b ≡ true → b ≡ false
  not_so {b = true} e = absurd (true≢false (sym e))
  not_so {b = false} e = refl

  -- so each row leads to its own next phase
  pub leads_exactly : (rows : List (Row At)) {op : Op} {before after : Slots} {word : ℕ} {next : At} → differ rows
      ≡ true
      → In (op, before, word, next, after) rows → next_by nowhere rows op (saw op word) ≡ next
  leads_exactly [] apart there = elim there [ ]
  leads_exactly (row ∷ rows) {op} {word} {next} apart head =
      let same : is_row_for op (saw op word) row ≡ true = rw (same_op op, same_sight op word) refl in
      ap (λ b. if b then next else next_by nowhere rows op (saw op word)) same
  leads_exactly (row ∷ rows) {op} {word} apart (tail there) =
      let parts =
      and_parts (list_all (λ (other : Row At). not (is_row_for other.0 (saw other.0 other.2) row)) rows)
      (differ rows) apart in
      let other : is_row_for op (saw op word) row ≡ false =
      not_so (each_passes (λ (other : Row At). not (is_row_for other.0 (saw other.0 other.2) row)) rows parts.0
      there) in
      ap (λ b. if b then row.3 else next_by nowhere rows op (saw op word)) other ∙ leads_exactly rows parts.1 there

module _ {P At : Type 0} (t : Table P) (nowhere : At) (rows : At → List (Row At)) (stands : At → List (List P)) where
  abbrev next_at : At → Op → Seen → At
  next_at at = next_by nowhere (rows at)

  -- the positions to which an operation leads from these
  abbrev reached : List P → Op → ℕ → List P
  reached ps op word =
      flat_map (λ p. onward t 6 p (if is_op op (op_of (t.step p)) then t.row p (saw op word) else None)) ps

  -- a position that performs the operation has a row for what it saw
  abbrev is_ready : Op → ℕ → P → Bool
  is_ready op word p = if is_op op (op_of (t.step p)) then is_some (t.row p (saw op word)) else true

  accepts_there : (op : Op) (word : ℕ) (p : P) → is_ready op word p ≡ true → Accepts t op word p
  accepts_there op word p ready step =
      sym (ap (λ b. if b then is_some (t.row p (saw op word)) else true)
      (ap (λ s. is_op op (op_of s)) step ∙ same_op op)) ∙ ready

  accept : (op : Op) (word : ℕ) (ps : List P) → list_all (is_ready op word) ps ≡ true → All (Accepts t op word) ps
  accept op word [] ready = λ n d below. absurd (omega arith)
  accept op word (p ∷ ps) ready =
      let parts = and_parts (is_ready op word p) _ ready in
      All-cons (Accepts t op word) p ps (accepts_there op word p parts.0) (accept op word ps parts.1)

  -- two lists have the same positions
  abbrev has_position : List P → P → Bool
  has_position ps p = list_any (λ q. t.number q == t.number p) ps

  abbrev is_same : Bool → Bool → Bool
  is_same true b = b
  is_same false b = not b

  abbrev agree : List P → List P → Bool
  agree ps qs = list_all (λ p. is_same (has_position ps p) (has_position qs p)) t.positions

  -- a row has this operation and these slots, and puts nothing new into them
  abbrev is_such : At → Op → Slots → Row At → Bool
  is_such at op before row =
      is_same_op op row.0 && is_same_share before.0 row.1.0 && is_same_share before.1 row.1.1
      && is_plain before.0 row.4.0 && is_plain before.1 row.4.1

  abbrev is_findable : At → Row At → Bool
  is_findable at row = list_any (is_such at row.0 row.1) (rows at)

  abbrev is_row_made : At → List P → Row At → Bool
  is_row_made at ps row =
      list_any (is_same_op row.0) (made_at t ps)
      && list_all (is_ready row.0 row.2) ps
      && list_any (agree (reached ps row.0 row.2)) (stands row.3)

  abbrev is_fit : At → List P → Bool
  is_fit at ps =
      list_all (is_row_made at ps) (rows at)
      && list_all (λ op. list_any (λ (row : Row At). is_same_op op row.0) (rows at)) (made_at t ps)

  -- the test of each phase
  abbrev pub is_exact_at : At → Bool
  is_exact_at at =
      differ nowhere (rows at) && list_all (is_findable at) (rows at)
      && list_all (λ ps. is_fit at (in_order t ps)) (stands at)

  -- the lists of positions at which an end may be at a phase
  data StandsAt (at : At) : List P → Type 0 where
    stands_at : (ps : List P) → In ps (stands at) → StandsAt at (in_order t ps)

  filter-agree : (f g : P → Bool) (ps : List P) → list_all (λ p. is_same (f p) (g p)) ps ≡ true
      → filter f ps ≡ filter g ps
  filter-agree f g [] all = refl
  filter-agree f g (p ∷ ps) all =
      let parts = and_parts (is_same (f p) (g p)) _ all in
      by (f p) (g p) parts.0 (filter-agree f g ps parts.1)
    where
      by : (a b : Bool) → is_same a b ≡ true → filter f ps ≡ filter g ps
          → cond a (p ∷ filter f ps) (filter f ps) ≡ cond b (p ∷ filter g ps) (filter g ps)
      by true true e rest = ap (λ ps. p ∷ ps) rest
      by true false e rest = absurd (cc)
      by false true e rest = absurd (cc)
      by false false e rest = rest

  -- the same positions make the same list
  in_one_order : (ps qs : List P) → agree ps qs ≡ true → in_order t ps ≡ in_order t qs
  in_one_order ps qs same = filter-agree (has_position ps) (has_position qs) t.positions same

  lands : (at : At) (ps : List P) → list_any (agree ps) (stands at) ≡ true → StandsAt at (in_order t ps)
  lands at ps any =
      let found = some_passes (agree ps) (stands at) any in
      subst (λ l. StandsAt at l) (sym (in_one_order ps found.one found.passes)) (stands_at found.one found.among)

  abbrev pub IsExactAt : Type 0
  IsExactAt = (at : At) → is_exact_at at ≡ true

  module _ (exact : IsExactAt) where
    distinct : (at : At) → differ nowhere (rows at) ≡ true
    distinct at = (thrice (differ nowhere (rows at)) (list_all (is_findable at) (rows at)) _ (exact at)).0

    findable : (at : At) {row : Row At} → In row (rows at) → is_findable at row ≡ true
    findable at row =
        each_passes (is_findable at) (rows at)
        (thrice (differ nowhere (rows at)) (list_all (is_findable at) (rows at)) _ (exact at)).1 row

    fits : (at : At) {ps : List P} → StandsAt at ps → is_fit at ps ≡ true
    fits at (stands_at ps among) =
        each_passes (λ ps. is_fit at (in_order t ps)) (stands at)
        (thrice (differ nowhere (rows at)) (list_all (is_findable at) (rows at)) _ (exact at)).2 among

    -- what a row shows of the positions: one performs it, each has a row for what it finds, and it leads on
    made : (at : At) {ps : List P} {op : Op} {before after : Slots} {word : ℕ} {next : At} → StandsAt at ps
        → In (op, before, word, next, after) (rows at)
        → (list_any (is_same_op op) (made_at t ps) ≡ true) × (list_all (is_ready op word) ps ≡ true)
        × (list_any (agree (reached ps op word)) (stands next) ≡ true)
    made at {ps} {op} {word} {next} there row =
        thrice (list_any (is_same_op op) (made_at t ps)) (list_all (is_ready op word) ps)
        (list_any (agree (reached ps op word)) (stands next))
        (each_passes (is_row_made at ps) (rows at)
        (and_parts (list_all (is_row_made at ps) (rows at)) _ (fits at there)).0 row)

    module _ {T W : Type 0} where
      goes_on : (at : At) {ps : List P} {op : Op} {m m' : Held T} {w w' : Held W} (word : ℕ) → StandsAt at ps
          → Finds rows at op word m w m' w' → StandsAt (next_at at op (saw op word)) (moved t ps (op, saw op word))
      goes_on at {ps} {op} word there (finds {next} row _ _) =
          subst (λ at. StandsAt at (moved t ps (op, saw op word)))
          (sym (leads_exactly nowhere (rows at) (distinct at) row))
          (lands next (reached ps op word) (made at there row).2)

      -- the operations at these positions are allowed
      allowed : (x : T) (k : W) (at : At) (op : Op) → list_any (λ (row : Row At). is_same_op op row.0) (rows at) ≡ true
          → IsAllowed (May {T = T} {W = W} rows) at op
      allowed x k at op any =
          let found = some_passes (λ (row : Row At). is_same_op op row.0) (rows at) any in
          let row = found.one in
          subst (λ op. IsAllowed (May {T = T} {W = W} rows) at op) (sym (ops_are_same op row.0 found.passes))
          (fill x row.1.0, fill k row.1.1, may found.among (fills x row.1.0) (fills k row.1.1))

      each_allowed : (x : T) (k : W) (at : At) (ops : List Op)
          → list_all (λ op. list_any (λ (row : Row At). is_same_op op row.0) (rows at)) ops ≡ true
          → All (IsAllowed (May {T = T} {W = W} rows) at) ops
      each_allowed x k at [] all = λ n d below. absurd (omega arith)
      each_allowed x k at (op ∷ ops) all =
          let parts = and_parts (list_any (λ (row : Row At). is_same_op op row.0) (rows at)) _ all in
          All-cons (IsAllowed (May rows) at) op ops (allowed x k at op parts.0) (each_allowed x k at ops parts.1)

      -- what is allowed is performed there
      is_made : (at : At) {op : Op} {m : Held T} {w : Held W} {ps : List P} → StandsAt at ps → May rows at op m w
          → Contains (made_at t ps) op
      is_made at {op} {ps} there (may row _ _) = Contains-from_any ops_are_same op (made_at t ps) (made at there row).0

      -- an operation that is allowed may find some word
      finds_such : (at : At) {row : Row At} {op : Op} {before : Slots} {m : Held T} {w : Held W} → In row (rows at)
          → is_such at op before row ≡ true → IsSlot before.0 m → IsSlot before.1 w
          → (word : ℕ) × (m' : Held T) × (w' : Held W) × Finds rows at op word m w m' w'
      finds_such at {row} {op} {before} {m} {w} among such message waker =
          let is = five (is_same_op op row.0) (is_same_share before.0 row.1.0) (is_same_share before.1 row.1.1)
          (is_plain before.0 row.4.0) (is_plain before.1 row.4.1) such in
          let to = changes_plainly is.3 message in
          let also = changes_plainly is.4 waker in
          let message_changes : SlotChange row.1.0 row.4.0 m to.0 =
          subst (λ s. SlotChange s row.4.0 m to.0) (shares_are_same before.0 row.1.0 is.1) to.1 in
          let waker_changes : SlotChange row.1.1 row.4.1 w also.0 =
          subst (λ s. SlotChange s row.4.1 w also.0) (shares_are_same before.1 row.1.1 is.2) also.1 in (
            row.2,
            to.0,
            also.0,
            subst (λ op. Finds rows at op row.2 m w to.0 also.0) (sym (ops_are_same op row.0 is.0))
                (finds among message_changes waker_changes),
          )

      some_word : (at : At) {op : Op} {m : Held T} {w : Held W} → May rows at op m w
          → (word : ℕ) × (m' : Held T) × (w' : Held W) × Finds rows at op word m w m' w'
      some_word at {op} (may {before} row message waker) =
          let found = some_passes (is_such at op before) (rows at) (findable at row) in
          finds_such at found.among found.passes message waker

      -- and only words that the positions accept
      accepted_there : (at : At) {op : Op} {m m' : Held T} {w w' : Held W} {ps : List P} (word : ℕ) → StandsAt at ps
          → Finds rows at op word m w m' w' → All (Accepts t op word) ps
      accepted_there at {op} {ps} word there (finds row _ _) = accept op word ps (made at there row).1

    module _ (start : At) (starts : list_any (agree (onward_all t t.opens)) (stands start) ≡ true) where
      -- along each log
      stands_after : {T W : Type 0} {xs : List Noted}
          → IsFound {T = T} {W = W} (phase_from next_at start) (Finds rows) xs
          → StandsAt (phase_from next_at start xs) (standing t xs)
      stands_after none_yet = lands start (onward_all t t.opens) starts
      stands_after (one_more {xs} {op} word before found) =
          subst (λ (z : At × List P). StandsAt z.0 z.1)
          (λ i. (
            sym (phase_from-snoc next_at start xs (op, saw op word)) i,
            sym
                (standing-snoc t xs (op, saw op word)) i,
          ))
          (goes_on (phase_from next_at start xs) word (stands_after before) found)

      pub is_exact : (T W : Type 0) → IsExact {T = T} {W = W} t (phase_from next_at start) (May rows) (Finds rows)
      is_exact T W =
          record {
            no_less =
                λ x k {xs} found. each_allowed x k (phase_from next_at start xs) (operations t xs)
                (and_parts (list_all (is_row_made (phase_from next_at start xs) (standing t xs))
                (rows (phase_from next_at start xs))) _ (fits (phase_from next_at start xs) (stands_after found))).1;
            no_more = λ {xs} found allowed. is_made (phase_from next_at start xs) (stands_after found) allowed;
            finds = λ {xs} allowed. some_word (phase_from next_at start xs) allowed;
            accepted =
                λ {xs} word found finds. accepted_there (phase_from next_at start xs) word (stands_after found) finds;
          }
