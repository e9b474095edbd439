-- Finds the row of a phase's table for an operation, the slots before it and the word that it finds.
use Rattle.std.proofs.Common.{◌≡◌, ℕ, Bool, true, false, List, [], ◌∷◌, Option, Some, None, refl}
use Rattle.std.specs.Prelude.{if◌then◌else◌}
use Rattle.oneshot_word.proofs.Names.{◌&&◌, subst, ◌==◌, and_parts, eqb-true, Op, is_same_op, Slots, Row, In, head, tail, ops_are_same, is_same_share, shares_are_same}

module _ {At : Type 0} where
  abbrev pub is_row : Op → Slots → ℕ → Row At → Bool
  is_row op before word row =
      is_same_op row.0 op && is_same_share row.1.0 before.0 && is_same_share row.1.1 before.1 && row.2 == word

  abbrev pub row_of : List (Row At) → Op → Slots → ℕ → Option Slots
  row_of [] op before word = None
  row_of (row ∷ rows) op before word = if is_row op before word row then Some row.4 else row_of rows op before word

  pub data Found (rows : List (Row At)) (op : Op) (before : Slots) (word : ℕ) : Option Slots → Type 0 where
    found_none : Found rows op before word None
    found_row : {next : At} {after : Slots} → In (op, before, word, next, after) rows
        → Found rows op before word (Some after)

  found_behind : {row : Row At} {rows : List (Row At)} {op : Op} {before : Slots} {word : ℕ} {o : Option Slots}
      → Found rows op before word o → Found (row ∷ rows) op before word o
  found_behind found_none = found_none
  found_behind (found_row there) = found_row (tail there)

  pub found : (rows : List (Row At)) (op : Op) (before : Slots) (word : ℕ)
      → Found rows op before word (row_of rows op before word)
  found [] op before word = found_none
  found (row ∷ rows) op before word = by (is_row op before word row) refl (found rows op before word)
    where
      by : (b : Bool) → is_row op before word row ≡ b → Found rows op before word (row_of rows op before word)
          → Found (row ∷ rows) op before word (if b then Some row.4 else row_of rows op before word)
      by false e rest = found_behind rest
      by true e rest =
          let words =
          and_parts (is_same_op row.0 op && is_same_share row.1.0 before.0 && is_same_share row.1.1 before.1)
          (row.2 == word) e in
          let wakers =
          and_parts (is_same_op row.0 op && is_same_share row.1.0 before.0) (is_same_share row.1.1 before.1)
          words.0 in
          let parts = and_parts (is_same_op row.0 op) (is_same_share row.1.0 before.0) wakers.0 in
          found_row (subst (λ (r : Row At). In r (row ∷ rows))
          (λ i. (
            ops_are_same row.0 op parts.0 i,
            (shares_are_same row.1.0 before.0 parts.1 i, shares_are_same row.1.1 before.1 wakers.1 i),
            eqb-true row.2
                word words.1 i,
            row.3,
            row.4,
          )) head)
