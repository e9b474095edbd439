-- What follows from an order of both logs: the word for both phases, and what each log shows.
use Rattle.std.proofs.Common.{◌≡◌, ℕ, Bool, List, [], ◌∷◌, refl}
use Rattle.oneshot_word.proofs.Names.{◌++◌, sym, subst, ◌==◌, eqb-true, Op, Noted, saw, has_row, Reaches, nothing_made, sender_makes, receiver_makes, Row, Slots, SenderAt, fresh, sender_at}
use Rattle.oneshot_word.proofs.Names.{sender_next, sender_moves, ReceiverAt, untouched, receiver_at, receiver_next, receiver_moves, Held, In, Finds, finds, word_after, phase_from-snoc}
use Rattle.oneshot_machine.proofs.EachPhase.{in_each_sender_row, in_each_receiver_row}
use Rattle.oneshot_word.proofs.KeptRows.{stepped}
use Rattle.oneshot_word.proofs.RuleKept.{sender_leaves, receiver_leaves}
use Rattle.oneshot_word.proofs.LogsShow.{sender_says, receiver_says}
use Rattle.oneshot_word.proofs.RuleImplies.{word_between, Is, is, SenderSays, says_none, ReceiverSays}

-- A step on the table leaves the word that the operation leaves by definition: computed for each row.
abbrev steps_so : {At : Type 0} → Row At → Bool
steps_so row = stepped row.0 row.2 == word_after row.0 row.2

sender_word : (p : SenderAt) {next : SenderAt} {op : Op} {before after : Slots} {word : ℕ}
    → In (op, before, word, next, after) (sender_moves p) → stepped op word ≡ word_after op word
sender_word p row = eqb-true _ _ (in_each_sender_row (λ p. steps_so) refl p row)

receiver_word : (q : ReceiverAt) {next : ReceiverAt} {op : Op} {before after : Slots} {word : ℕ}
    → In (op, before, word, next, after) (receiver_moves q) → stepped op word ≡ word_after op word
receiver_word q row = eqb-true _ _ (in_each_receiver_row (λ q. steps_so) refl q row)

-- the word is the one for both phases
pub between : {xs ys : List Noted} {word : ℕ}
    → Reaches xs ys word → Is (word_between (sender_at xs) (receiver_at ys)) word
between nothing_made = is
between (sender_makes {xs} {ys} {word} op order (has_row row)) =
    let p = sender_at xs in
    let q = receiver_at ys in
    let after = sym (phase_from-snoc sender_next fresh xs (op, saw op word)) in
    subst (λ p. Is (word_between p q) (word_after op word)) after
    (subst (λ n. Is (word_between (sender_next p op (saw op word)) q) n) (sender_word p row)
    (sender_leaves p q (between order) row))
between (receiver_makes {xs} {ys} {word} op order (has_row row)) =
    let p = sender_at xs in
    let q = receiver_at ys in
    let after = sym (phase_from-snoc receiver_next untouched ys (op, saw op word)) in
    subst (λ q. Is (word_between p q) (word_after op word)) after
    (subst (λ n. Is (word_between p (receiver_next q op (saw op word))) n) (receiver_word q row)
    (receiver_leaves p q (between order) row))

-- what each log shows
pub sender_told : {xs ys : List Noted} {word : ℕ} → Reaches xs ys word → SenderSays xs (sender_at xs)
sender_told nothing_made = says_none
sender_told (sender_makes {xs} {word} op order (has_row row)) =
    let x : Noted = (op, saw op word) in
    subst (λ p. SenderSays (xs ++ x ∷ []) p) (sym (phase_from-snoc sender_next fresh xs x))
    (sender_says word (sender_told order) row)
sender_told (receiver_makes op order row) = sender_told order

pub receiver_told : {xs ys : List Noted} {word : ℕ} → Reaches xs ys word → ReceiverSays ys (receiver_at ys)
receiver_told nothing_made = record { stores = refl; overdue = refl; gone = refl; wrote = refl }
receiver_told (sender_makes op order row) = receiver_told order
receiver_told (receiver_makes {ys} {word} op order (has_row row)) =
    let y : Noted = (op, saw op word) in
    subst (λ q. ReceiverSays (ys ++ y ∷ []) q) (sym (phase_from-snoc receiver_next untouched ys y))
    (receiver_says (receiver_at ys) word row (receiver_told order))

-- an order, continued by an operation that was found in the phases' table
module _ {T W : Type 0} {xs ys : List Noted} {op : Op} {word : ℕ} {m m' : Held T} {w w' : Held W} where
  pub sender_reaches : Reaches xs ys word → Finds sender_moves (sender_at xs) op word m w m' w'
      → Reaches (xs ++ (op, saw op word) ∷ []) ys (stepped op word)
  sender_reaches order (finds row _ _) =
      subst (λ n. Reaches (xs ++ (op, saw op word) ∷ []) ys n) (sym (sender_word (sender_at xs) row))
      (sender_makes op order (has_row row))

  pub receiver_reaches : Reaches xs ys word → Finds receiver_moves (receiver_at ys) op word m w m' w'
      → Reaches xs (ys ++ (op, saw op word) ∷ []) (stepped op word)
  receiver_reaches order (finds row _ _) =
      subst (λ n. Reaches xs (ys ++ (op, saw op word) ∷ []) n) (sym (receiver_word (receiver_at ys) row))
      (receiver_makes op order (has_row row))
