-- Two orders of the same logs are the same: the logs alone show which end performed the last operation.
use Rattle.std.proofs.Common.{◌≡◌, ℕ, Bool, true, false, List, [], ◌∷◌, Option, Some, None, refl}
use Rattle.oneshot_word.proofs.Names.{not, ◌&&◌, ◌||◌, ◌++◌, sym, ap, ◌∙◌, subst, true≢false, list_all, eq-eqb, Op, Noted, saw, is_same_seen, HasRow, has_row, Reaches, nothing_made, sender_makes}
use Rattle.oneshot_word.proofs.Names.{receiver_makes, Slots, Row, SenderAt, fresh, owes, no_sender, sender_at, sender_next, sender_moves, ReceiverAt, receiver_at, receiver_moves, In, word_after}
use Rattle.oneshot_word.proofs.Names.{each_passes, same_sight, phase_from-snoc, OrderIsOne}
use Rattle.oneshot_machine.specs.declared.machine.End.TheVariants.{Sender, Receiver}
use Rattle.oneshot_machine.proofs.EachPhase.{senders, at_each_sender, at_each_pair}
use Rattle.oneshot_word.proofs.WordsEqual.{is_word}
use Rattle.oneshot_word.proofs.Between.{between}
use Rattle.oneshot_word.proofs.ByRows.{made_by, sender_is, receiver_is, IsByRows, by_rows}
use Rattle.oneshot_word.proofs.LastOnes.{not_empty, same_start, same_last}
use Rattle.oneshot_word.proofs.RuleImplies.{word_between, Is, is}

-- whether a sender may be in the first phase and later in the second, another one
abbrev goes_on : SenderAt → SenderAt → Bool
goes_on fresh fresh = false
goes_on fresh no_sender = false
goes_on fresh _ = true
goes_on (owes by) fresh = false
goes_on (owes by) (owes other) = false
goes_on (owes by) no_sender = false
goes_on (owes by) _ = true
goes_on _ _ = false

-- A receiver's operation sees another word beside an earlier sender than beside a later one: computed for
-- each row.
abbrev is_seen : Option ℕ → Op → ℕ → Bool
is_seen None op found = false
is_seen (Some word) op found = is_same_seen (saw op word) (saw op found)

abbrev differs : SenderAt → SenderAt → ReceiverAt → Row ReceiverAt → Bool
differs earlier later q row =
    not (is_seen (word_between earlier q) row.0 row.2 && is_word (word_between later q) (Some row.2))

abbrev tells_apart : ReceiverAt → SenderAt → SenderAt → Bool
tells_apart q earlier later = not (goes_on earlier later) || list_all (differs earlier later q) (receiver_moves q)

implied : (condition claim : Bool) → (not condition || claim) ≡ true → condition ≡ true → claim ≡ true
implied true claim so e = so
implied false claim so e = absurd (cc e)

-- so the two are not the same operation
not_both : (a b : Bool) → not (a && b) ≡ true → a ≡ true → b ≡ true → ⊥
not_both true true so a b = true≢false (sym so)
not_both _ _ so a b = absurd (cc)

sees_same : {o : Option ℕ} {word : ℕ} (op : Op) (found : ℕ) → Is o word → saw op word ≡ saw op found
    → is_seen o op found ≡ true
sees_same {word} op found is same =
    subst (λ seen. is_same_seen (saw op word) seen ≡ true) same (same_sight op word)

found_so : {o : Option ℕ} {word : ℕ} → Is o word → is_word o (Some word) ≡ true
found_so {word} is = eq-eqb word word refl

apart : (earlier later : SenderAt) (q : ReceiverAt) {op : Op} {v w : ℕ} → goes_on earlier later ≡ true
    → Is (word_between earlier q) v → Is (word_between later q) w → HasRow (receiver_moves q) op w
    → saw op v ≡ saw op w → ⊥
apart earlier later q {op} {v} {w} goes before after (has_row row) same =
    let by_earlier =
    at_each_pair (λ earlier q. list_all (tells_apart q earlier) senders) refl earlier q in
    let by_later = at_each_sender (tells_apart q earlier) by_earlier later in
    let all = implied (goes_on earlier later) _ by_later goes in
    not_both (is_seen (word_between earlier q) op w) (is_word (word_between later q) (Some w))
    (each_passes (differs earlier later q) (receiver_moves q) all row) (sees_same op w before same) (found_so after)

-- whether the first phase is not later than the second
abbrev not_after : SenderAt → SenderAt → Bool
not_after fresh later = true
not_after (owes by) fresh = false
not_after (owes by) later = true
not_after _ fresh = false
not_after _ (owes by) = false
not_after _ _ = true

not_after_itself : (p : SenderAt) → not_after p p ≡ true
not_after_itself fresh = refl
not_after_itself (owes by) = refl
not_after_itself _ = refl

before_is_not_after : (earlier later : SenderAt) → goes_on earlier later ≡ true → not_after earlier later ≡ true
before_is_not_after fresh later e = refl
before_is_not_after (owes by) fresh e = absurd (cc e)
before_is_not_after (owes by) _ e = refl
before_is_not_after _ _ e = absurd (cc e)

-- an operation of the sender leads on from each phase that is not after its own: computed for each row
abbrev takes_on : SenderAt → SenderAt → Bool
takes_on p earlier =
    not (not_after earlier p)
    || list_all (λ (row : Row SenderAt). goes_on earlier (sender_next p row.0 (saw row.0 row.2))) (sender_moves p)

taken_on : (p earlier : SenderAt) {next : SenderAt} {op : Op} {before after : Slots} {word : ℕ}
    → not_after earlier p ≡ true → In (op, before, word, next, after) (sender_moves p)
    → goes_on earlier (sender_next p op (saw op word)) ≡ true
taken_on p earlier behind row =
    let by_each = at_each_sender (λ p. list_all (takes_on p) senders) refl p in
    let by_earlier = at_each_sender (takes_on p) by_each earlier in
    each_passes (λ (row : Row SenderAt). goes_on earlier (sender_next p row.0 (saw row.0 row.2))) (sender_moves p)
    (implied (not_after earlier p) _ by_earlier behind) row

-- The receiver's last operation came while the sender was no further than it is now.
record SawBeside (p : SenderAt) (q : ReceiverAt) (y : Noted) : Type 0 where
  beside : SenderAt
  behind : not_after beside p ≡ true
  word : ℕ
  number : Is (word_between beside q) word
  saw_so : y.1 ≡ saw y.0 word

saw_beside : {xs ys : List Noted} {word : ℕ} → Reaches xs ys word → (before : List Noted) (y : Noted)
    → ys ≡ before ++ y ∷ [] → SawBeside (sender_at xs) (receiver_at before) y
saw_beside nothing_made before y e = absurd (not_empty before y (sym e))
saw_beside (sender_makes {xs} {word} op order (has_row row)) before y e =
    let so = saw_beside order before y e in
    let next = sender_next (sender_at xs) op (saw op word) in
    let behind : not_after so.beside next ≡ true =
    before_is_not_after so.beside next (taken_on (sender_at xs) so.beside so.behind row) in
    let then = phase_from-snoc sender_next fresh xs (op, saw op word) in
    record {
      beside = so.beside;
      behind = subst (λ p. not_after so.beside p ≡ true) (sym then) behind;
      word = so.word;
      number = so.number;
      saw_so = so.saw_so;
    }
saw_beside (receiver_makes {xs} {ys} {word} op order row) before y e =
    let was : ys ≡ before = same_start ys before (op, saw op word) y e in
    let last : (op, saw op word) ≡ y = same_last ys before (op, saw op word) y e in
    record {
      beside = sender_at xs;
      behind = not_after_itself (sender_at xs);
      word = word;
      number = subst (λ ys. Is (word_between (sender_at xs) (receiver_at ys)) word) was (between order);
      saw_so = subst (λ (y : Noted). y.1 ≡ saw y.0 word) last refl;
    }

-- so of two orders of the same logs, one cannot end with the sender's operation and the other with the
-- receiver's
ends_differ : {xs zs ys before : List Noted} {v w : ℕ} (op made : Op) → Reaches xs ys v
    → HasRow (sender_moves (sender_at xs)) op v → Reaches zs before w
    → HasRow (receiver_moves (receiver_at before)) made w
    → zs ≡ xs ++ (op, saw op v) ∷ [] → ys ≡ before ++ (made, saw made w) ∷ [] → ⊥
ends_differ {xs} {zs} {before} {v} {w} op made order (has_row row) other found e f =
    let so = saw_beside order before (made, saw made w) f in
    let then : sender_at zs ≡ sender_next (sender_at xs) op (saw op v) =
    ap sender_at e ∙ phase_from-snoc sender_next fresh xs (op, saw op v) in
    let goes : goes_on so.beside (sender_at zs) ≡ true =
    subst (λ p. goes_on so.beside p ≡ true) (sym then) (taken_on (sender_at xs) so.beside so.behind row) in
    apart so.beside (sender_at zs) (receiver_at before) goes so.number (between other) found (sym so.saw_so)

-- both end with an operation of the same end, and were the same before it
one_by_one : {xs ys ps qs : List Noted} {v w : ℕ} (one : Reaches xs ys v) (other : Reaches ps qs w) → xs ≡ ps → ys ≡ qs
    → (v ≡ w) × (made_by one ≡ made_by other)
one_by_one nothing_made nothing_made e f = (refl, refl)
one_by_one nothing_made (sender_makes {xs = ps} op other row) e f = absurd (not_empty ps _ (sym e))
one_by_one nothing_made (receiver_makes {ys = qs} op other row) e f = absurd (not_empty qs _ (sym f))
one_by_one (sender_makes {xs} op one row) nothing_made e f = absurd (not_empty xs _ e)
one_by_one (receiver_makes {ys} op one row) nothing_made e f = absurd (not_empty ys _ f)
one_by_one (sender_makes {xs} op one row) (sender_makes {xs = ps} made other found) e f =
    let same = one_by_one one other (same_start xs ps _ _ e) f in
    let last : op ≡ made = ap (λ (x : Noted). x.0) (same_last xs ps _ _ e) in
    (λ i. word_after (last i) (same.0 i), ap (λ es. es ++ Sender ∷ []) same.1)
one_by_one (receiver_makes {ys} op one row) (receiver_makes {ys = qs} made other found) e f =
    let same = one_by_one one other e (same_start ys qs _ _ f) in
    let last : op ≡ made = ap (λ (x : Noted). x.0) (same_last ys qs _ _ f) in
    (λ i. word_after (last i) (same.0 i), ap (λ es. es ++ Receiver ∷ []) same.1)
one_by_one (sender_makes op one row) (receiver_makes made other found) e f =
    absurd (ends_differ op made one row other found (sym e) f)
one_by_one (receiver_makes made one found) (sender_makes op other row) e f =
    absurd (ends_differ op made other row one found e (sym f))

pub order_is_one : OrderIsOne
order_is_one xs ys word v w reached one other =
    let a : IsByRows one = by_rows one (sender_is reached) (receiver_is reached) in
    let b : IsByRows other = by_rows other (sender_is reached) (receiver_is reached) in
    let same : (v ≡ w) × (made_by a.reaches ≡ made_by b.reaches) = one_by_one a.reaches b.reaches refl refl in
    record { word = same.0; ends = sym a.ends ∙ same.1 ∙ b.ends }
