-- The writes into a hasher for the first and for the second variant of an enum differ.
use Rattle.std.proofs.Common.{◌≡◌, ℕ, [], ap, get_or}
use Rattle.std.specs.Hash.{le_bytes, usize}

-- the two writes differ
pub usize-apart : usize 0 ≡ usize 1 → ⊥
unfolding le_bytes
usize-apart e = let first : Path ℕ 0 1 = ap (λ writes. get_or (get_or writes 0 []) 0 0) e in absurd (cc)
