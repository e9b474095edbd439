-- What is there for a sender whose receiver was dropped, and what its last operation tells: by the word for both
-- phases.
use Rattle.std.proofs.Common.{◌≡◌, ℕ, [], ◌∷◌, refl, ap, ◌∙◌, subst}
use Rattle.oneshot_machine.specs.declared.states.TheConstants.{DISCONNECTED}
use Rattle.oneshot_machine.specs.Over.{IsLate, is_late, is_overtaken, HasLeft, left_first, left_last}
use Rattle.oneshot_machine.specs.Phases.{SenderAt, fresh, ReceiverAt, gone, sender_at, receiver_at}
use Rattle.oneshot_word.proofs.RuleImplies.{word_between, Is, is}
use Rattle.oneshot_values.specs.LeftReceivers.{LeavingWordsAreThere, LostReceiversWereDropped}
use Rattle.oneshot_values.proofs.EndedSenders.{shown}

left_word : (q : ReceiverAt) {word : ℕ} → HasLeft q → Is (word_between fresh q) word → word ≡ DISCONNECTED
left_word q left_first is = refl
left_word q left_last now = elim now [ ]

pub leaving_words_are_there : {T P : Type 0} (keeps : P → T → Type 0) → LeavingWordsAreThere keeps
leaving_words_are_there keeps sender receiver moment left new =
    let q = receiver_at receiver.log in
    let now = shown moment.allowed refl in
    now.words_are ∙ ap (λ w. w ∷ [])
    (left_word q left (subst (λ xs. Is (word_between (sender_at xs) q) now.word) new now.word_is))

late_left : (p : SenderAt) (q : ReceiverAt) {word : ℕ} → IsLate p → Is (word_between p q) word → HasLeft q
late_left p gone late now = left_first
late_left _ _ (is_late by) now = elim now [ ]
late_left _ _ (is_overtaken by) now = elim now [ ]

pub lost_receivers_were_dropped : {T P : Type 0} (keeps : P → T → Type 0) → LostReceiversWereDropped keeps
lost_receivers_were_dropped keeps sender receiver moment late =
    late_left (sender_at sender.log) (receiver_at receiver.log) late (shown moment.allowed refl).word_is
