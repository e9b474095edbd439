-- When the equality of a type agrees with its hashing.
use Rattle.std.specs.Prelude.{◌≡◌, ◌↔◌, ℕ, Bool, List, IsTrue}

-- `eq x y` is what `x == y` returns, and `writes x` what `x.hash(..)` writes into any hasher, by the clauses
-- of `PartialEq` and `Hash`.
-- `Hash` requires of every type that equal values make the same writes (its law `respects_eq`). This record
-- adds the converse, and that only a value itself is equal to it.
pub record AgreesWithHashing {E : Type 0} (eq : E → E → Bool) (writes : E → List (List ℕ)) : Type 0 where
  -- values are equal if and only if they are the same
  pub same : (x y : E) → (IsTrue (eq x y) ↔ (x ≡ y))
  -- values are equal if and only if they make the same writes
  pub alike : (x y : E) → (IsTrue (eq x y) ↔ (writes x ≡ writes y))
