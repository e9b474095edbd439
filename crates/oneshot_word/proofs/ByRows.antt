-- An order of two logs of real ends is an order by the rows of both phases' tables.
use Rattle.std.proofs.Common.{◌≡◌, ℕ, Bool, true, false, List, [], ◌∷◌, Option, Some, None, refl}
use Rattle.std.specs.Prelude.{if◌then◌else◌}
use Rattle.oneshot_word.proofs.Names.{◌++◌, sym, ap, ◌∙◌, subst, true≢false, ◌==◌, list_all, and_parts, eqb-true, End, Seen, Op, Load, Store, Swap, Exchange, Add, Xor, Noted, saw, is_same_op}
use Rattle.oneshot_word.proofs.Names.{is_same_seen, InOrder, none_made, by_sender, by_receiver, HasRow, has_row, Reaches, nothing_made, sender_makes, receiver_makes, Row, SenderAt, fresh, owes}
use Rattle.oneshot_word.proofs.Names.{finished, no_sender, sender_at, sender_next, sender_moves, ReceiverAt, untouched, no_receiver, receiver_at, receiver_next}
use Rattle.oneshot_word.proofs.Names.{receiver_moves, is_row_for, next_by, In}
use Rattle.oneshot_word.proofs.Names.{head, tail, each_passes, ops_are_same, Passing, phase_from-snoc, ends_of}
use Rattle.oneshot_machine.specs.declared.machine.End.TheVariants.{Sender, Receiver}
use Rattle.oneshot_machine.proofs.EachPhase.{at_each_pair}
use Rattle.oneshot_word.proofs.Between.{between}
use Rattle.oneshot_word.proofs.RuleImplies.{word_between, Is, is}

-- a phase that an end can be in
abbrev pub is_senders : SenderAt → Bool
is_senders no_sender = false
is_senders _ = true

abbrev pub is_receivers : ReceiverAt → Bool
is_receivers no_receiver = false
is_receivers _ = true

-- in an order both phases are real ones, since there is a word for them
no_word : (p : SenderAt) → word_between p no_receiver ≡ None
no_word fresh = refl
no_word (owes by) = refl
no_word (finished by) = refl
no_word _ = refl

sender_there : (p : SenderAt) (q : ReceiverAt) {word : ℕ} → Is (word_between p q) word → is_senders p ≡ true
sender_there no_sender q number = elim number [ ]
sender_there _ q number = refl

not_there : {o : Option ℕ} {word : ℕ} → Is o word → o ≡ None → ⊥
not_there is e = cc e

receiver_there : (p : SenderAt) (q : ReceiverAt) {word : ℕ} → Is (word_between p q) word → is_receivers q ≡ true
receiver_there p no_receiver number = absurd (not_there number (no_word p))
receiver_there p _ number = refl

pub sender_is : {xs ys : List Noted} {word : ℕ} → Reaches xs ys word → is_senders (sender_at xs) ≡ true
sender_is {xs} {ys} order = sender_there (sender_at xs) (receiver_at ys) (between order)

pub receiver_is : {xs ys : List Noted} {word : ℕ} → Reaches xs ys word → is_receivers (receiver_at ys) ≡ true
receiver_is {xs} {ys} order = receiver_there (sender_at xs) (receiver_at ys) (between order)

-- the phase before a real one is real
sender_was : (p : SenderAt) (op : Op) (seen : Seen) → is_senders (sender_next p op seen) ≡ true → is_senders p ≡ true
sender_was no_sender op seen phase = phase
sender_was _ op seen phase = refl

receiver_was : (q : ReceiverAt) (op : Op) (seen : Seen) → is_receivers (receiver_next q op seen) ≡ true
    → is_receivers q ≡ true
receiver_was no_receiver op seen phase = phase
receiver_was _ op seen phase = refl

-- an operation that leads to a real phase has a row
found_by : {At : Type 0} (is_phase : At → Bool) (nowhere : At) (rows : List (Row At)) (op : Op) (seen : Seen)
    → is_phase nowhere ≡ false → is_phase (next_by nowhere rows op seen) ≡ true → Passing (is_row_for op seen) rows
found_by is_phase nowhere [] op seen none phase = absurd (true≢false (sym phase ∙ none))
found_by is_phase nowhere (row ∷ rows) op seen none phase =
    by (is_row_for op seen row) refl phase (found_by is_phase nowhere rows op seen none)
  where
    by : (b : Bool) → is_row_for op seen row ≡ b
        → is_phase (if b then row.3 else next_by nowhere rows op seen) ≡ true
        → (is_phase (next_by nowhere rows op seen) ≡ true → Passing (is_row_for op seen) rows)
        → Passing (is_row_for op seen) (row ∷ rows)
    by true e phase rest = record { one = row; among = head; passes = e }
    by false e phase rest =
        let found = rest phase in
        record { one = found.one; among = tail found.among; passes = found.passes }

-- An operation saw the word that it found, except a store, which sees nothing: there the phases fix the word.
abbrev stores_so : Op → ℕ → Option ℕ → Bool
stores_so (Store new) found (Some word) = found == word
stores_so (Store new) found None = true
stores_so _ found o = true

abbrev stores_over : {At : Type 0} → Option ℕ → Row At → Bool
stores_over o row = stores_so row.0 row.2 o

saw_it : {o : Option ℕ} {word : ℕ} (op : Op) (found : ℕ) → Is o word → stores_so op found o ≡ true
    → is_same_seen (saw op found) (saw op word) ≡ true → found ≡ word
saw_it (Store new) found is stores same = eqb-true found _ stores
saw_it Load found is stores same = eqb-true found _ same
saw_it (Swap new) found is stores same = eqb-true found _ same
saw_it (Exchange expected new) found is stores same = eqb-true found _ same
saw_it Add found is stores same = eqb-true found _ same
saw_it Xor found is stores same = eqb-true found _ same

row_for_it : {At : Type 0} {rows : List (Row At)} {o : Option ℕ} {op : Op} {word : ℕ} → Is o word
    → list_all (stores_over o) rows ≡ true → Passing (is_row_for op (saw op word)) rows → HasRow rows op word
row_for_it {rows} {o} {op} {word} number all found =
    let row = found.one in
    let parts = and_parts (is_same_op row.0 op) _ found.passes in
    let made : row.0 ≡ op = ops_are_same row.0 op parts.0 in
    let same : is_same_seen (saw row.0 row.2) (saw row.0 word) ≡ true =
    subst (λ made. is_same_seen (saw row.0 row.2) (saw made word) ≡ true) (sym made) parts.1 in
    let there : row.2 ≡ word = saw_it row.0 row.2 number (each_passes (stores_over o) rows all found.among) same in
    has_row (subst (λ r. In r rows) (λ i. (made i, row.1, there i, row.3, row.4)) found.among)

sender_stores : (p : SenderAt) (q : ReceiverAt) → list_all (stores_over (word_between p q)) (sender_moves p) ≡ true
sender_stores = at_each_pair (λ p q. list_all (stores_over (word_between p q)) (sender_moves p)) refl

receiver_stores : (p : SenderAt) (q : ReceiverAt)
    → list_all (stores_over (word_between p q)) (receiver_moves q) ≡ true
receiver_stores = at_each_pair (λ p q. list_all (stores_over (word_between p q)) (receiver_moves q)) refl

-- which end performs each operation of an order by rows
abbrev pub made_by : {xs ys : List Noted} {word : ℕ} → Reaches xs ys word → List End
made_by nothing_made = []
made_by (sender_makes op order row) = made_by order ++ Sender ∷ []
made_by (receiver_makes op order row) = made_by order ++ Receiver ∷ []

pub record IsByRows {xs ys : List Noted} {word : ℕ} (order : InOrder xs ys word) : Type 0 where
  pub reaches : Reaches xs ys word
  pub ends : made_by reaches ≡ ends_of order

pub by_rows : {xs ys : List Noted} {word : ℕ} (order : InOrder xs ys word) → is_senders (sender_at xs) ≡ true
    → is_receivers (receiver_at ys) ≡ true → IsByRows order
by_rows none_made s r = record { reaches = nothing_made; ends = refl }
by_rows (by_sender {xs} {ys} {word} op order) s r =
    let p = sender_at xs in
    let seen = saw op word in
    let phase : is_senders (sender_next p op seen) ≡ true =
    subst (λ p. is_senders p ≡ true) (phase_from-snoc sender_next fresh xs (op, seen)) s in
    let so : IsByRows order = by_rows order (sender_was p op seen phase) r in
    let row : HasRow (sender_moves p) op word =
    row_for_it (between so.reaches) (sender_stores p (receiver_at ys))
    (found_by is_senders no_sender (sender_moves p) op seen refl phase) in
    record { reaches = sender_makes op so.reaches row; ends = ap (λ es. es ++ Sender ∷ []) so.ends }
by_rows (by_receiver {xs} {ys} {word} op order) s r =
    let q = receiver_at ys in
    let seen = saw op word in
    let phase : is_receivers (receiver_next q op seen) ≡ true =
    subst (λ q. is_receivers q ≡ true) (phase_from-snoc receiver_next untouched ys (op, seen)) r in
    let so : IsByRows order = by_rows order s (receiver_was q op seen phase) in
    let row : HasRow (receiver_moves q) op word =
    row_for_it (between so.reaches) (receiver_stores (sender_at xs) q)
    (found_by is_receivers no_receiver (receiver_moves q) op seen refl phase) in
    record { reaches = receiver_makes op so.reaches row; ends = ap (λ es. es ++ Receiver ∷ []) so.ends }
