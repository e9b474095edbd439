-- What a log shows after one more operation.
use Rattle.std.proofs.Common.{◌≡◌, ℕ, Bool, true, List, [], ◌∷◌, Option, refl}
use Rattle.oneshot_word.proofs.Names.{◌&&◌, ◌++◌, ap, ◌∙◌, and_parts, Seen, Op, Noted, saw, sending, dropping, SenderAt, sender_moves, sender_next, Slots, Row, ReceiverAt, receiver_moves}
use Rattle.oneshot_word.proofs.Names.{receiver_next, In, head, tail, send_found, drop_found, sent_to_it, sent_to_overdue, dropped_before_it, dropped_before_overdue, sent_late, dropped_late}
use Rattle.oneshot_word.proofs.Names.{sent_overtaken, dropped_overtaken, along, stores_next, overdue_next, gone_next, wrote_next}
use Rattle.oneshot_machine.proofs.EachPhase.{in_each_receiver_row}
use Rattle.oneshot_word.specs.EndLogs.{sent, dropped}
use Rattle.oneshot_word.proofs.WordsEqual.{is_bool, bools_are, is_word, words_are}
use Rattle.oneshot_word.proofs.RuleImplies.{stores_of, overdue_of, gone_of, wrote_of, SenderSays, says_none, says_owes, says_last, says_late, says_overtaken, ReceiverSays}

along-snoc : {A : Type 0} (next : A → Op → Seen → A) (a : A) (xs : List Noted) (x : Noted)
    → along next a (xs ++ x ∷ []) ≡ next (along next a xs) x.0 x.1
along-snoc next a [] x = refl
along-snoc next a (y ∷ xs) x = along-snoc next (next a y.0 y.1) xs x

-- all that a receiver's log shows, before and after one more operation
abbrev Facts : Type 0
Facts = Bool × Bool × Bool × Option ℕ

abbrev facts_at : ReceiverAt → Facts
facts_at q = (stores_of q, overdue_of q, gone_of q, wrote_of q)

abbrev facts_next : Facts → Op → Seen → Facts
facts_next t op seen =
    (stores_next t.0 op seen, overdue_next t.1 op seen, gone_next t.2 op seen, wrote_next t.3 op seen)

abbrev agree : Facts → Facts → Bool
agree s t = is_bool s.0 t.0 && is_bool s.1 t.1 && is_bool s.2 t.2 && is_word s.3 t.3

record AreSame (s t : Facts) : Type 0 where
  stores : s.0 ≡ t.0
  overdue : s.1 ≡ t.1
  gone : s.2 ≡ t.2
  wrote : s.3 ≡ t.3

are_same : (s t : Facts) → agree s t ≡ true → AreSame s t
are_same s t all =
    let wrote = and_parts (is_bool s.0 t.0 && is_bool s.1 t.1 && is_bool s.2 t.2) (is_word s.3 t.3) all in
    let gone = and_parts (is_bool s.0 t.0 && is_bool s.1 t.1) (is_bool s.2 t.2) wrote.0 in
    let first = and_parts (is_bool s.0 t.0) (is_bool s.1 t.1) gone.0 in
    record {
      stores = bools_are s.0 t.0 first.0;
      overdue = bools_are s.1 t.1 first.1;
      gone = bools_are s.2 t.2 gone.1;
      wrote = words_are s.3 t.3 wrote.1;
    }

-- computed for each row of the receiver's table
abbrev agree_by : ReceiverAt → Row ReceiverAt → Bool
agree_by q row =
    let seen = saw row.0 row.2 in agree (facts_next (facts_at q) row.0 seen) (facts_at (receiver_next q row.0 seen))

pub sender_says : {xs : List Noted} {p next : SenderAt} {op : Op} {before after : Slots} (word : ℕ)
    → SenderSays xs p → In (op, before, word, next, after) (sender_moves p)
    → SenderSays (xs ++ (op, saw op word) ∷ []) (sender_next p op (saw op word))
sender_says _ says_none head = says_last sending sent
sender_says _ says_none (tail head) = says_owes sending send_found
sender_says _ says_none (tail (tail head)) = says_late sending sent_late
sender_says _ says_none (tail (tail (tail head))) = says_last dropping dropped
sender_says _ says_none (tail (tail (tail (tail head)))) = says_owes dropping drop_found
sender_says _ says_none (tail (tail (tail (tail (tail head))))) = says_late dropping dropped_late
sender_says _ (says_owes _ send_found) head = says_last sending sent_to_it
sender_says _ (says_owes _ send_found) (tail head) = says_last sending sent_to_overdue
sender_says _ (says_owes _ send_found) (tail (tail head)) = says_overtaken sending sent_overtaken
sender_says _ (says_owes _ drop_found) head = says_last dropping dropped_before_it
sender_says _ (says_owes _ drop_found) (tail head) = says_last dropping dropped_before_overdue
sender_says _ (says_owes _ drop_found) (tail (tail head)) = says_overtaken dropping dropped_overtaken
sender_says _ says_none (tail (tail (tail (tail (tail (tail there)))))) = elim there [ ]
sender_says _ (says_owes _ send_found) (tail (tail (tail there))) = elim there [ ]
sender_says _ (says_owes _ drop_found) (tail (tail (tail there))) = elim there [ ]
sender_says _ (says_last _ _) there = elim there [ ]
sender_says _ (says_late _ _) there = elim there [ ]
sender_says _ (says_overtaken _ _) there = elim there [ ]

adds : (q : ReceiverAt) {next : ReceiverAt} {op : Op} {before after : Slots} (word : ℕ)
    → In (op, before, word, next, after) (receiver_moves q)
    → AreSame (facts_next (facts_at q) op (saw op word)) (facts_at (receiver_next q op (saw op word)))
adds q word row = are_same _ _ (in_each_receiver_row agree_by refl q row)

pub receiver_says : {ys : List Noted} (q : ReceiverAt) {next : ReceiverAt} {op : Op} {before after : Slots} (word : ℕ)
    → In (op, before, word, next, after) (receiver_moves q) → ReceiverSays ys q
    → ReceiverSays (ys ++ (op, saw op word) ∷ []) (receiver_next q op (saw op word))
receiver_says {ys} q {op} word found says =
    let y : Noted = (op, saw op word) in
    let more = adds q word found in
    record {
      stores = along-snoc stores_next _ ys y ∙ ap (λ s. stores_next s op y.1) says.stores ∙ more.stores;
      overdue = along-snoc overdue_next _ ys y ∙ ap (λ s. overdue_next s op y.1) says.overdue ∙ more.overdue;
      gone = along-snoc gone_next _ ys y ∙ ap (λ s. gone_next s op y.1) says.gone ∙ more.gone;
      wrote = along-snoc wrote_next _ ys y ∙ ap (λ s. wrote_next s op y.1) says.wrote ∙ more.wrote;
    }
