-- A sender that has operated beside a receiver that waits found it waiting: by the order of both logs.
use Rattle.std.proofs.Common.{◌≡◌, ◌⊎◌, inl, inr, ℕ, Bool, true, false, List, [], ◌∷◌, ◌++◌, refl, sym, ap, ◌∙◌}
use Rattle.std.proofs.lemmas.Bool.{and_parts, eq-eqb}
use Rattle.std.specs.Prelude.{◌&&◌, ◌||◌, ◌==◌, if◌then◌else◌}
use Rattle.oneshot_machine.proofs.EachPhase.{in_each_receiver_row, if_so}
use Rattle.oneshot_machine.proofs.GrownLogs.{phase_from-snoc}
use Rattle.oneshot_machine.proofs.Sameness.{each_passes}
use Rattle.oneshot_machine.specs.declared.machine.Seen.TheVariants.{Word}
use Rattle.oneshot_machine.specs.declared.states.Op.{Op}
use Rattle.oneshot_machine.specs.declared.states.TheConstants.{RECEIVING}
use Rattle.oneshot_machine.specs.Noted.{Noted, saw}
use Rattle.oneshot_machine.specs.Orders.{Reaches, nothing_made, sender_makes, receiver_makes, has_row}
use Rattle.oneshot_machine.specs.Phases.{Share, none, filled, Slots, Row, SenderAt, fresh, sender_moves, sender_at, ReceiverAt, untouched, waits, claimed, overdue, receiver_at, receiver_next}
use Rattle.oneshot_machine.specs.Phases.{receiver_moves}
use Rattle.oneshot_machine.specs.Slots.{In}
use Rattle.oneshot_machine.specs.TableRows.{is_same_seen}
use Rattle.oneshot_drive.specs.Wakes.{found_receiver_waiting}
use Rattle.oneshot_word.proofs.Between.{between, sender_told}
use Rattle.oneshot_word.proofs.WakerPasses.{none_made, is_put}
use Rattle.oneshot_word.proofs.RuleImplies.{word_between, Is, is}
use Rattle.oneshot_word.specs.Rule.{has_made}
use Rattle.oneshot_ends.specs.OwnWakers.{is_waiting}
use Rattle.oneshot_ends.proofs.OwnWakers.{is_out, left_by, no_and}

either_so : (b c c' : Bool) → (c ≡ true → c' ≡ true) → (b || c) ≡ true → (b || c') ≡ true
either_so true c c' on e = refl
either_so false c c' on e = on e

appended : (xs : List Noted) (x : Noted) → found_receiver_waiting xs ≡ true → found_receiver_waiting (xs ++ x ∷ [])
    ≡ true
appended [] x e = absurd (cc e)
appended (y ∷ xs) x e =
    either_so (is_same_seen y.1 (Word RECEIVING)) (found_receiver_waiting xs) (found_receiver_waiting (xs ++ x ∷ []))
    (appended xs x) e

-- a sender's first operation beside such a receiver finds RECEIVING
finds_zero : (q : ReceiverAt) {word : ℕ} → is_waiting q ≡ true → Is (word_between fresh q) word → word ≡ RECEIVING
finds_zero (waits w) left is = refl
finds_zero claimed left now = elim now [ ]
finds_zero overdue left now = elim now [ ]
finds_zero _ left now = absurd (cc left)

abbrev sees_zero : Row SenderAt → Bool
sees_zero row = if row.2 == RECEIVING then is_same_seen (saw row.0 row.2) (Word RECEIVING) else true

first_finds : {op : Op} {before after : Slots} {word : ℕ} {next : SenderAt}
    → In (op, before, word, next, after) (sender_moves fresh) → word ≡ RECEIVING
    → is_same_seen (saw op word) (Word RECEIVING) ≡ true
first_finds {op} {word} row zero =
    if_so (word == RECEIVING) (is_same_seen (saw op word) (Word RECEIVING))
    (each_passes sees_zero (sender_moves fresh) refl row)
    (eq-eqb word RECEIVING zero)

on_sender : (xs : List Noted) {ys : List Noted} {op : Op} {before after : Slots} {word : ℕ} {next : SenderAt}
    → Reaches xs ys word → In (op, before, word, next, after) (sender_moves (sender_at xs))
    → (has_made xs ≡ true → found_receiver_waiting xs ≡ true) → is_waiting (receiver_at ys) ≡ true
    → found_receiver_waiting (xs ++ (op, saw op word) ∷ []) ≡ true
on_sender [] {ys} order row earlier left =
    ap (λ b. b || false) (first_finds row (finds_zero (receiver_at ys) left (between order)))
on_sender (y ∷ xs) order row earlier left = appended (y ∷ xs) _ (earlier refl)

put_or_left : (s s' : Share) (was : Bool) → (is_put s s' || (was && is_out s s')) ≡ true
    → ((s ≡ filled) × (s' ≡ none)) ⊎ (was ≡ true)
put_or_left filled none was e = inl (refl, refl)
put_or_left none none was e = inr (and_parts was true e).0
put_or_left _ _ was e = absurd (no_and was e)

on_receiver : (ys : List Noted) {op : Op} {before after : Slots} {word : ℕ} {next : ReceiverAt}
    → In (op, before, word, next, after) (receiver_moves (receiver_at ys))
    → is_waiting (receiver_at (ys ++ (op, saw op word) ∷ [])) ≡ true
    → ((before.1 ≡ filled) × (after.1 ≡ none)) ⊎ (is_waiting (receiver_at ys) ≡ true)
on_receiver ys {op} {before} {after} {word} row left =
    let q = receiver_at ys in
    put_or_left before.1 after.1 (is_waiting q)
    (if_so (is_waiting (receiver_next q op (saw op word)))
    (is_put before.1 after.1 || (is_waiting q && is_out before.1 after.1))
    (in_each_receiver_row left_by refl q row)
    (sym (ap is_waiting (phase_from-snoc receiver_next untouched ys (op, saw op word))) ∙ left))

pub finds_it_waiting : {xs ys : List Noted} {word : ℕ} → Reaches xs ys word → is_waiting (receiver_at ys) ≡ true
    → has_made xs ≡ true → found_receiver_waiting xs ≡ true
finds_it_waiting nothing_made left made = absurd (cc made)
finds_it_waiting (sender_makes {xs} op order (has_row row)) left made =
    on_sender xs order row (λ earlier. finds_it_waiting order left earlier) left
finds_it_waiting (receiver_makes {xs} {ys} op order (has_row row)) left made =
    elim (on_receiver ys row left) [
      | inl puts ↦ absurd (let e = sym made ∙ none_made (sender_at xs) (receiver_at ys) (sender_told order)
          (between order) row puts.0 puts.1 in cc e)
      | inr was ↦ finds_it_waiting order was made
    ]
