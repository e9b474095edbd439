-- A list is cut at each byte of one kind: the first part ends at the first such byte.
use Rattle.std.proofs.Common.{◌≡◌, ◌≢◌, ℕ, ◌+◌, ◌<◌, ◌≤◌, false, eqb, List, [], ◌∷◌, ◌++◌, Option, Some, None, MatchOption, unwrap_or, Bor, map, length, get_or, refl, sym, ap, ◌∙◌, arith}
use Rattle.std.specs.List.{All, slice_split, join_with_byte}
use Rattle.oneshot_text.specs.Cut.{words_of, lines_of, without_empty_last}
use Rattle.std.proofs.lemmas.List.Elements.{All-from_get_or}
use Rattle.std.proofs.lemmas.List.Splits.{slice_split_none, slice_split_at, length-slice_split, join_with_byte-slice_split}
use Rattle.std.proofs.lemmas.Grind.{common_steps}
use borrow.Author.Tests.{ne_eqb, eq-eqb}

-- the byte is nowhere in the list
abbrev pub Lacks : ℕ → List ℕ → Type 0
Lacks byte bs = (i : ℕ) → i < length bs → get_or bs i 0 ≢ byte

All-from_lacks : (byte : ℕ) (bs : List ℕ) → Lacks byte bs → All (λ b. eqb b byte ≡ false) bs
All-from_lacks byte bs lacks =
    All-from_get_or (λ b. eqb b byte ≡ false) bs 0 (λ i small. ne_eqb (get_or bs i 0) byte (lacks i small))

-- there is one part if the byte is nowhere
pub slice_split-whole : (byte : ℕ) (bs : List ℕ) → Lacks byte bs → slice_split (λ b. eqb b byte) bs ≡ bs ∷ []
slice_split-whole byte bs lacks = slice_split_none (λ b. eqb b byte) bs (All-from_lacks byte bs lacks)

-- what comes before the first such byte is the first part
pub slice_split-first : (byte : ℕ) (bs first rest : List ℕ) → bs ≡ first ++ (byte ∷ rest) → Lacks byte first
    → slice_split (λ b. eqb b byte) bs ≡ first ∷ slice_split (λ b. eqb b byte) rest
slice_split-first byte bs first rest is lacks =
    ap (slice_split (λ b. eqb b byte)) is
    ∙ slice_split_at (λ b. eqb b byte) first byte rest (All-from_lacks byte first lacks) (eq-eqb byte byte refl)

-- there is at most one more part than bytes
pub length-parts : (byte : ℕ) (bs : List ℕ) → length (slice_split (λ b. eqb b byte) bs) ≤ length bs + 1
length-parts byte bs = grind (arith, common_steps, length-slice_split (λ b. eqb b byte) bs)

cons-from_length : {A : Type 0} (xs : List A) → 0 < length xs → (y : A) × (ys : List A) × (xs ≡ y ∷ ys)
cons-from_length [] some = absurd (omega arith)
cons-from_length (y ∷ ys) some = (y, ys, refl)

-- a first line that its line feed ends
pub lines_of-first : (bs first rest : List ℕ) → bs ≡ first ++ (10 ∷ rest) → Lacks 10 first
    → lines_of bs ≡ first ∷ lines_of rest
lines_of-first bs first rest is lacks =
    let more =
    cons-from_length (slice_split (λ b. eqb b 10) rest) (omega (arith, length-slice_split (λ b. eqb b 10) rest)) in
    rw (slice_split-first 10 bs first rest is lacks, more.2) refl

-- an only line with no line feed
pub lines_of-whole : (bs : List ℕ) → 0 < length bs → Lacks 10 bs → lines_of bs ≡ bs ∷ []
lines_of-whole [] some lacks = absurd (omega arith)
lines_of-whole (b ∷ bs) some lacks = rw (slice_split-whole 10 (b ∷ bs) lacks) refl

-- the same, as the contracts of `split_once` and `unwrap_or` state it
pub lines_of-cut : (text empty : Bor (List ℕ)) (r : Option (Bor (List ℕ) × Bor (List ℕ))) → 0 < length text.now
    → empty.now ≡ []
    → MatchOption r (Lacks 10 text.now) (λ x. (text.now ≡ x.0.now ++ (10 ∷ x.1.now)) × Lacks 10 x.0.now)
    → lines_of text.now ≡ (unwrap_or r (text, empty)).0.now ∷ lines_of (unwrap_or r (text, empty)).1.now
lines_of-cut text empty None some none lacks = rw none (lines_of-whole text.now some lacks)
lines_of-cut text empty (Some x) some none parts = lines_of-first text.now x.0.now x.1.now parts.0 parts.1

one_empty_part : (parts : List (List ℕ)) → 0 < length parts → without_empty_last parts ≡ [] → parts ≡ [] ∷ []
one_empty_part [] some none = absurd (omega arith)
one_empty_part ([] ∷ []) some none = refl
one_empty_part ((b ∷ bs) ∷ []) some none = absurd cc
one_empty_part (part ∷ next ∷ parts) some none = absurd cc

map-none : {A B : Type 0} (f : A → B) (xs : List A) → map f xs ≡ [] → xs ≡ []
map-none f [] none = refl
map-none f (x ∷ xs) none = absurd cc

-- only an empty text has no line
pub lines_of-none : (bs : List ℕ) → map words_of (lines_of bs) ≡ [] → bs ≡ []
lines_of-none bs none =
    let parts = slice_split (λ b. eqb b 10) bs in
    let some : 0 < length parts = omega (arith, length-slice_split (λ b. eqb b 10) bs) in
    sym (join_with_byte-slice_split 10 bs)
    ∙ ap (join_with_byte 10) (one_empty_part parts some (map-none words_of (lines_of bs) none))
