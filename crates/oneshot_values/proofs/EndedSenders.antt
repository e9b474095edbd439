-- What is there for a receiver whose sender is over: by the word for both phases, and by the message's slot.
use Rattle.std.proofs.Common.{◌≡◌, ℕ, true, List, [], ◌∷◌, Option, Some, refl, ap, ◌∙◌, subst}
use Rattle.oneshot_machine.specs.Noted.{Noted}
use Rattle.oneshot_machine.specs.Over.{SenderIsOver, over_finished, over_late, over_overtaken}
use Rattle.oneshot_machine.specs.Phases.{By, sending, dropping, SenderAt, finished, sender_at, ReceiverAt, untouched, idle, waits, claimed, withdrew, overdue, receiver_at}
use Rattle.oneshot_drive.specs.BetweenCalls.{IsOpenAt}
use Rattle.oneshot_word.proofs.Between.{between}
use Rattle.oneshot_word.proofs.RuleImplies.{final_word, word_between, Is, is}
use Rattle.oneshot_word.specs.declared.rule.Role.TheVariants.{Sender, Receiver}
use Rattle.oneshot_word.specs.declared.rule.Slot.TheVariants.{Message}
use Rattle.oneshot_word.specs.declared.rule.View.{View}
use Rattle.oneshot_word.specs.declared.any_waker.AnyWaker.{AnyWaker}
use Rattle.oneshot_word.specs.Received.{both_views}
use Rattle.oneshot_word.specs.Rule.{Home, Lies, lies_filled, has_message, IsGiven, message_home, Tied, opened, slot_taken, runs}
use Rattle.oneshot_word.specs.Seats.{view}
use Rattle.oneshot_values.specs.EndedSenders.{is_seeking, last_word, OpenReceiversSeek, LastWordsAreThere, SentMessagesAreThere}

-- the word and the message's slot at home, by the phases of both ends
pub record Shown {T H K P : Type 0} (keeps : P → T → Type 0) (about : P) (words : List ℕ) (homes : List (Home T H K))
    (xs ys : List Noted) (given : Option T) : Type 0 where
  pub word : ℕ
  pub message : Home T H K
  pub waker : Home T H K
  pub words_are : words ≡ word ∷ []
  pub homes_are : homes ≡ message ∷ waker ∷ []
  pub word_is : Is (word_between (sender_at xs) (receiver_at ys)) word
  pub lies : Lies (IsGiven keeps about given) Message (message_home (sender_at xs) (receiver_at ys)) message

abbrev Same : {T H K P : Type 0} → View T H K P → View T H K P → Type 0
Same {T} {H} {K} {P} = ◌≡◌ {A = View T H K P}

module _ {T H K P : Type 0} {keeps : P → T → Type 0} {about : P} where
  pub shown : {words : List ℕ} {homes : List (Home T H K)} {views : List (View T H K P)} {xs ys : List Noted}
      {given taken : Option T} {put woke : Option (AnyWaker H K)} → Tied keeps about words homes views
      → views ≡ both_views about xs given woke ys taken put → Shown keeps about words homes xs ys given
  shown opened are = absurd (cc are)
  shown slot_taken are = absurd (cc are)
  shown {xs} {ys} {given} {taken} {put} {woke} (runs {w} {h} {k} xs' ys' {given = given'} {taken = taken'} {put = put'}
      {woke = woke'} order lies lies' same woken) are =
      let senders : Same (view about Sender xs' given' woke') (view about Sender xs given woke) = cc are in
      let receivers : Same (view about Receiver ys' taken' put') (view about Receiver ys taken put) = cc are in
      subst (λ xs. Shown keeps about (w ∷ []) (h ∷ k ∷ []) xs ys given) (ap (λ (v : View T H K P). v.log) senders)
      (subst (λ ys. Shown keeps about (w ∷ []) (h ∷ k ∷ []) xs' ys given) (ap (λ (v : View T H K P). v.log) receivers)
      (subst (λ given. Shown keeps about (w ∷ []) (h ∷ k ∷ []) xs' ys' given)
      (ap (λ (v : View T H K P). v.passed) senders)
      (record {
        word = w;
        message = h;
        waker = k;
        words_are = refl;
        homes_are = refl;
        word_is = between order;
        lies = lies;
      })))

-- a sender that is over beside a receiver that seeks found it there
found_it : (by : By) (q : ReceiverAt) {p : SenderAt} {word : ℕ} → SenderIsOver by p → is_seeking q ≡ true
    → Is (word_between p q) word → p ≡ finished by
found_it by q over_finished seeks now = refl
found_it by untouched over_late seeks now = elim now [ ]
found_it by (idle o) over_late seeks now = elim now [ ]
found_it by (waits w) over_late seeks now = elim now [ ]
found_it by claimed over_late seeks now = elim now [ ]
found_it by withdrew over_late seeks now = elim now [ ]
found_it by overdue over_late seeks now = elim now [ ]
found_it by untouched over_overtaken seeks now = elim now [ ]
found_it by (idle o) over_overtaken seeks now = elim now [ ]
found_it by (waits w) over_overtaken seeks now = elim now [ ]
found_it by claimed over_overtaken seeks now = elim now [ ]
found_it by withdrew over_overtaken seeks now = elim now [ ]
found_it by overdue over_overtaken seeks now = elim now [ ]
found_it by _ over seeks now = absurd (cc seeks)

final_so : (by : By) {word : ℕ} → Is (Some (final_word by)) word → word ≡ last_word by
final_so sending is = refl
final_so dropping is = refl

-- and left its word there
sought_word : (by : By) (q : ReceiverAt) {word : ℕ} → is_seeking q ≡ true → Is (word_between (finished by) q) word
    → word ≡ last_word by
sought_word by untouched seeks now = final_so by now
sought_word by (idle o) seeks now = final_so by now
sought_word by (waits w) seeks now = final_so by now
sought_word by claimed seeks now = final_so by now
sought_word by withdrew seeks now = final_so by now
sought_word by overdue seeks now = final_so by now
sought_word by _ seeks now = absurd (cc seeks)

-- The message that is at home of the channel of such a receiver is the one that was given.
sought_message : {T H K : Type 0} {kept : T → Type 0} {h : Home T H K} (q : ReceiverAt) → is_seeking q ≡ true
    → Lies kept Message (message_home (finished sending) q) h → (m : T) × kept m × (h ≡ has_message m)
sought_message untouched seeks (lies_filled m its) = (m, its, refl)
sought_message (idle o) seeks (lies_filled m its) = (m, its, refl)
sought_message (waits w) seeks (lies_filled m its) = (m, its, refl)
sought_message claimed seeks (lies_filled m its) = (m, its, refl)
sought_message withdrew seeks (lies_filled m its) = (m, its, refl)
sought_message overdue seeks (lies_filled m its) = (m, its, refl)
sought_message _ seeks lies = absurd (cc seeks)

open_seeks : (q : ReceiverAt) → IsOpenAt q → is_seeking q ≡ true
open_seeks untouched is_open = refl
open_seeks (idle o) is_open = refl
open_seeks (waits w) is_open = refl
open_seeks claimed is_open = refl
open_seeks _ is_open = absurd (cc is_open)

pub open_receivers_seek : OpenReceiversSeek
open_receivers_seek log = open_seeks (receiver_at log)

module _ {T P : Type 0} (keeps : P → T → Type 0) where
  pub last_words_are_there : LastWordsAreThere keeps
  last_words_are_there by sender receiver moment over seeks =
      let q = receiver_at receiver.log in
      let now = shown moment.allowed refl in
      let found = found_it by q over seeks now.word_is in
      now.words_are ∙ ap (λ w. w ∷ [])
      (sought_word by q seeks (subst (λ p. Is (word_between p q) now.word) found now.word_is))

  pub sent_messages_are_there : SentMessagesAreThere keeps
  sent_messages_are_there sender receiver moment over seeks =
      let q = receiver_at receiver.log in
      let now = shown moment.allowed refl in
      let found = found_it sending q over seeks now.word_is in
      let sought = sought_message q seeks (subst (λ p. Lies (IsGiven keeps moment.about sender.passed) Message
      (message_home p q) now.message) found now.lies) in
      record {
        message = sought.0;
        gave = sought.1.1;
        waker = now.waker;
        there = now.homes_are ∙ ap (λ h. h ∷ now.waker ∷ []) sought.2;
      }
