-- What the rule implies phase by phase: the word for each pair of phases, and what each log shows.
use Rattle.std.specs.Prelude.{◌≡◌, ℕ, Bool, true, false, List, [], Option, Some, None}
use Rattle.oneshot_word.proofs.Names.{Noted, By, sending, dropping, SenderAt, fresh, owes, finished, found_gone, overtaken, swapped, found_closed, closed_itself, ReceiverAt, untouched}
use Rattle.oneshot_word.proofs.Names.{idle, claimed, withdrew}
use Rattle.oneshot_word.proofs.Names.{overdue, full, overwritten, disconnected, resolved, gone, swapped_in, word_of, Message, FoundZero, MadeLast, MadeLate, stores_waker, is_overdue, is_gone}
use Rattle.oneshot_word.proofs.Names.{wrote_since, Home, message_home, waker_home, Lies, AnyWaker, with_waker, RECEIVING, UNPARKING, DISCONNECTED, EMPTY, MESSAGE}
use Rattle.oneshot_machine.specs.Phases.{waits, ended}

-- the word that the sender's final operation leaves, unless it is an add or an xor that found the receiver
-- gone
abbrev pub final_word : By → ℕ
final_word sending = MESSAGE
final_word dropping = DISCONNECTED

-- The word while the ends are in these phases, or none if they never are.
abbrev pub word_between : SenderAt → ReceiverAt → Option ℕ
-- the sender has performed no operation
word_between fresh untouched = Some EMPTY
word_between fresh (idle open_at) = Some EMPTY
word_between fresh (waits waiting) = Some RECEIVING
word_between fresh withdrew = Some EMPTY
word_between fresh gone = Some DISCONNECTED
-- it found RECEIVING, and its final swap is to come
word_between (owes by) (waits waiting) = Some UNPARKING
word_between (owes by) claimed = Some UNPARKING
word_between (owes by) overdue = Some EMPTY
word_between (owes by) gone = Some DISCONNECTED
-- its last operation found DISCONNECTED
word_between (found_gone by) gone = Some EMPTY
word_between (overtaken by) gone = Some (final_word by)
-- it has performed its last operation, and the receiver has performed none since
word_between (finished by) untouched = Some (final_word by)
word_between (finished by) (idle open_at) = Some (final_word by)
word_between (finished by) (waits waiting) = Some (final_word by)
word_between (finished by) claimed = Some (final_word by)
word_between (finished by) withdrew = Some (final_word by)
word_between (finished by) overdue = Some (final_word by)
-- the receiver has performed one since
word_between (finished sending) (full got) = Some (word_of got)
word_between (finished dropping) (overwritten swapping) = Some (swapped_in swapping)
word_between (finished dropping) (disconnected found_closed) = Some DISCONNECTED
word_between (finished dropping) (resolved found_closed) = Some DISCONNECTED
word_between (finished by) (disconnected closed_itself) = Some DISCONNECTED
word_between (finished by) (resolved closed_itself) = Some DISCONNECTED
word_between (finished by) ended = Some DISCONNECTED
-- never
word_between _ _ = None

-- the option has this number
pub data Is : Option ℕ → ℕ → Type 0 where
  is : {word : ℕ} → Is (Some word) word

-- the sender, the receiver, the word, and what is at home of the message's slot and of the waker's
pub data Meet (T H K : Type 0) (kept : T → Type 0) (fits : AnyWaker H K → Type 0) (p : SenderAt) (q : ReceiverAt)
    : ℕ → Home T H K → Home T H K → Type 0 where
  meet : {word : ℕ} {h k : Home T H K} → Is (word_between p q) word
      → Lies kept Message (message_home p q) h → Lies fits with_waker (waker_home p q) k
      → Meet T H K kept fits p q word h k

-- what a receiver's log shows in a phase
abbrev pub stores_of : ReceiverAt → Bool
stores_of (waits a) = true
stores_of claimed = true
stores_of _ = false

abbrev pub overdue_of : ReceiverAt → Bool
overdue_of overdue = true
overdue_of _ = false

abbrev pub gone_of : ReceiverAt → Bool
gone_of gone = true
gone_of ended = true
gone_of _ = false

abbrev pub wrote_of : ReceiverAt → Option ℕ
wrote_of (full (swapped by)) = Some (swapped_in by)
wrote_of (overwritten by) = Some (swapped_in by)
wrote_of (disconnected closed_itself) = Some 2
wrote_of (resolved closed_itself) = Some 2
wrote_of ended = Some 2
wrote_of _ = None

pub data SenderSays : List Noted → SenderAt → Type 0 where
  says_none : SenderSays [] fresh
  says_owes : {xs : List Noted} (by : By) → FoundZero by xs → SenderSays xs (owes by)
  says_last : {xs : List Noted} (by : By) → MadeLast by xs → SenderSays xs (finished by)
  says_late : {xs : List Noted} (by : By) → MadeLate by EMPTY xs → SenderSays xs (found_gone by)
  says_overtaken : {xs : List Noted} (by : By) → MadeLate by (final_word by) xs → SenderSays xs (overtaken by)

pub record ReceiverSays (ys : List Noted) (q : ReceiverAt) : Type 0 where
  pub stores : stores_waker ys ≡ stores_of q
  pub overdue : is_overdue ys ≡ overdue_of q
  pub gone : is_gone ys ≡ gone_of q
  pub wrote : wrote_since ys ≡ wrote_of q
