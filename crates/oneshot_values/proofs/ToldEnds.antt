-- What the operations of a receiver tell of its sender: by induction on the order of both logs, in which the checker
-- computes each step for each pair of phases.
use Rattle.std.proofs.Common.{◌≡◌, ℕ, Bool, true, false, List, [], ◌∷◌, ◌++◌, Option, Some, None, refl, ap, ◌∙◌, subst}
use Rattle.std.proofs.lemmas.Bool.{and_parts, eq-eqb}
use Rattle.std.specs.Prelude.{◌&&◌, ◌||◌, ◌==◌, if◌then◌else◌}
use Rattle.std.specs.List.{list_all}
use Rattle.oneshot_machine.proofs.EachPhase.{at_each_pair, if_so}
use Rattle.oneshot_machine.proofs.GrownLogs.{phase_from-snoc}
use Rattle.oneshot_machine.proofs.Sameness.{each_passes}
use Rattle.oneshot_machine.specs.Noted.{Noted, saw}
use Rattle.oneshot_machine.specs.Orders.{Reaches, nothing_made, sender_makes, receiver_makes, has_row}
use Rattle.oneshot_machine.specs.Phases.{By, sending, dropping, Row, SenderAt, fresh, finished, sender_moves, sender_next, sender_at}
use Rattle.oneshot_machine.specs.Phases.{ReceiverAt, untouched, full, overwritten, disconnected, resolved, receiver_moves, receiver_next, receiver_at}
use Rattle.oneshot_word.proofs.Between.{between}
use Rattle.oneshot_word.proofs.RuleImplies.{word_between, Is, is}
use Rattle.oneshot_word.proofs.RuleReceives.{both_reach}
use Rattle.oneshot_word.specs.Side.{Side}
use Rattle.oneshot_ends.specs.Moments.{AtOneMoment}
use Rattle.oneshot_ends.specs.OwnWakers.{RealWaker}
use Rattle.oneshot_values.specs.ToldEnds.{is_answered, FoundMessagesWereSent, LostSendersWereDropped}
use Rattle.oneshot_ends.specs.Taken.{has_found}
use Rattle.oneshot_ends.proofs.Taken.{found_both}

abbrev is_by : By → SenderAt → Bool
is_by sending (finished sending) = true
is_by dropping (finished dropping) = true
is_by _ _ = false

-- whether phases of both ends agree with whether the receiver's operations found the message
abbrev agrees : SenderAt → ReceiverAt → Bool → Bool
agrees p q true = is_by sending p
agrees p (full got) false = false
agrees p q false = if is_answered q then is_by dropping p else true

abbrev has_word : Option ℕ → ℕ → Bool
has_word (Some left) word = left == word
has_word None word = false

is_had : {left : Option ℕ} {word : ℕ} → Is left word → has_word left word ≡ true
is_had {word = word} is = eq-eqb word word refl

-- an operation keeps that
abbrev receiver_keeps : SenderAt → ReceiverAt → Bool → Row ReceiverAt → Bool
receiver_keeps p q found (op, before, word, next, after) =
    if agrees p q found && has_word (word_between p q) word
    then agrees p (receiver_next q op (saw op word)) (found || has_found ((op, saw op word) ∷ []))
    else true

abbrev sender_keeps : SenderAt → ReceiverAt → Bool → Row SenderAt → Bool
sender_keeps p q found (op, before, word, next, after) =
    if agrees p q found then agrees (sender_next p op (saw op word)) q found else true

abbrev both_keep : Bool → SenderAt → ReceiverAt → Bool
both_keep found p q = list_all (receiver_keeps p q found) (receiver_moves q)
    && list_all (sender_keeps p q found) (sender_moves p)

each_keeps : (found : Bool) (p : SenderAt) (q : ReceiverAt) → both_keep found p q ≡ true
each_keeps true = at_each_pair (both_keep true) refl
each_keeps false = at_each_pair (both_keep false) refl

kept_parts : (found : Bool) (p : SenderAt) (q : ReceiverAt)
    → (list_all (receiver_keeps p q found) (receiver_moves q) ≡ true)
    × (list_all (sender_keeps p q found) (sender_moves p) ≡ true)
kept_parts found p q =
    and_parts (list_all (receiver_keeps p q found) (receiver_moves q))
    (list_all (sender_keeps p q found) (sender_moves p)) (each_keeps found p q)

both_true : (a b : Bool) → a ≡ true → b ≡ true → (a && b) ≡ true
both_true a b so also = ap (λ a. a && b) so ∙ also

all_agree : {xs ys : List Noted} {word : ℕ} → Reaches xs ys word
    → agrees (sender_at xs) (receiver_at ys) (has_found ys) ≡ true
all_agree nothing_made = refl
all_agree (sender_makes {xs} {ys} {word} op order (has_row row)) =
    let p = sender_at xs in
    let q = receiver_at ys in
    let found = has_found ys in
    ap (λ p. agrees p q found) (phase_from-snoc sender_next fresh xs (op, saw op word))
    ∙ if_so (agrees p q found) (agrees (sender_next p op (saw op word)) q found)
    (each_passes (sender_keeps p q found) (sender_moves p) (kept_parts found p q).1 row) (all_agree order)
all_agree (receiver_makes {xs} {ys} {word} op order (has_row row)) =
    let p = sender_at xs in
    let q = receiver_at ys in
    let found = has_found ys in
    let next = receiver_next q op (saw op word) in
    ap (λ q. agrees p q (has_found (ys ++ (op, saw op word) ∷ [])))
    (phase_from-snoc receiver_next untouched ys (op, saw op word))
    ∙ ap (agrees p next) (found_both ys ((op, saw op word) ∷ []))
    ∙ if_so (agrees p q found && has_word (word_between p q) word)
    (agrees p next (found || has_found ((op, saw op word) ∷ [])))
    (each_passes (receiver_keeps p q found) (receiver_moves q) (kept_parts found p q).0 row)
    (both_true (agrees p q found) (has_word (word_between p q) word) (all_agree order) (is_had (between order)))

finished_so : (by : By) (p : SenderAt) → is_by by p ≡ true → p ≡ finished by
finished_so sending (finished sending) e = refl
finished_so dropping (finished dropping) e = refl
finished_so sending _ e = absurd (cc e)
finished_so dropping _ e = absurd (cc e)

answered_none : (p : SenderAt) (q : ReceiverAt) → is_answered q ≡ true → agrees p q false ≡ true
    → p ≡ finished dropping
answered_none p (full got) answered e = absurd (cc e)
answered_none p (overwritten by) answered e = finished_so dropping p e
answered_none p (disconnected closing) answered e = finished_so dropping p e
answered_none p (resolved closing) answered e = finished_so dropping p e
answered_none p _ answered e = absurd (cc answered)

module _ {T P : Type 0} (keeps : P → T → Type 0) where
  agreed : (sender receiver : Side T RealWaker P) → AtOneMoment keeps sender receiver → {found : Bool}
      → has_found receiver.log ≡ found → agrees (sender_at sender.log) (receiver_at receiver.log) found ≡ true
  agreed sender receiver moment has =
      subst (λ found. agrees (sender_at sender.log) (receiver_at receiver.log) found ≡ true) has
      (all_agree (both_reach moment.allowed refl).1)

  pub found_messages_were_sent : FoundMessagesWereSent keeps
  found_messages_were_sent sender receiver moment has =
      finished_so sending (sender_at sender.log) (agreed sender receiver moment has)

  pub lost_senders_were_dropped : LostSendersWereDropped keeps
  lost_senders_were_dropped sender receiver moment answered none =
      answered_none (sender_at sender.log) (receiver_at receiver.log) answered (agreed sender receiver moment none)
