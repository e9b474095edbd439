-- The test of one end's rows: each operation leaves the word and the slots as the rule has them.
use Rattle.std.proofs.Common.{◌≡◌, ℕ, Bool, true, false, List, Option, Some, None}
use Rattle.oneshot_word.proofs.Names.{◌&&◌, ◌+◌, ◌%◌, ◌^◌, bit_xor, sym, subst, leb, ◌==◌, list_all, and_parts, either, Seen, Op, Load, Store, Swap, Exchange, Add, Xor, saw, Share, Slots, Row}
use Rattle.oneshot_word.proofs.Names.{SenderAt, sender_moves, sender_owns, sender_next, ReceiverAt, receiver_moves, receiver_owns, receiver_next, In, each_passes, Front, message_first, waker_first}
use Rattle.oneshot_word.proofs.Names.{message_home, waker_home}
use Rattle.oneshot_word.proofs.WordsEqual.{is_bool, is_word, words_are}
use Rattle.oneshot_word.proofs.FoundRow.{row_of}
use Rattle.oneshot_word.proofs.SlotMoves.{is_owned, is_change, is_act}
use Rattle.oneshot_word.proofs.RuleImplies.{word_between, Is, is}

-- the word that a step on the table leaves
abbrev pub stepped : Op → ℕ → ℕ
stepped Load n = n
stepped (Store new) n = new
stepped (Swap new) n = new
stepped (Exchange expected new) n = either (n == expected) new n
stepped Add n = (n + 1) % 2 ^ 64
stepped Xor n = bit_xor n 1

-- whether an end has these slots after a row
abbrev pub is_slots : Option (Bool × Bool) → Slots → Bool
is_slots None after = false
is_slots (Some slots) after = is_bool slots.0 (is_owned after.0) && is_bool slots.1 (is_owned after.1)

-- One end while the other is in some phase: its table, its seat, and in each phase of its own the rule's word
-- and what is at home of both slots.
pub record OneEnd (At : Type 0) : Type 0 where
  pub front : Front
  pub moves : At → List (Row At)
  pub next : At → Op → Seen → At
  pub owns : At → Option (Bool × Bool)
  pub word : At → Option ℕ
  pub message : At → Share
  pub waker : At → Share

-- the sender beside any phase of the receiver, and the receiver beside any of the sender
abbrev pub sender_end : ReceiverAt → OneEnd SenderAt
sender_end q =
    record {
      front = waker_first;
      moves = sender_moves;
      next = sender_next;
      owns = sender_owns;
      word = λ p. word_between p q;
      message = λ p. message_home p q;
      waker = λ p. waker_home p q;
    }

abbrev pub receiver_end : SenderAt → OneEnd ReceiverAt
receiver_end p =
    record {
      front = message_first;
      moves = receiver_moves;
      next = receiver_next;
      owns = receiver_owns;
      word = λ q. word_between p q;
      message = λ q. message_home p q;
      waker = λ q. waker_home p q;
    }

module _ {At : Type 0} (e : OneEnd At) where
  -- The test of an operation that finds this word, from this phase and these slots: the table has a row
  -- for it, and the rule holds after it.
  module _ (at : At) (op : Op) (before : Slots) (word : ℕ) where
    abbrev pub after : At
    after = e.next at op (saw op word)

    abbrev pub leaves_word : Bool
    leaves_word = is_word (e.word after) (Some (stepped op word))

    abbrev pub changes_message : Slots → Bool
    changes_message slots = is_change before.0 slots.0 (e.message after) (e.message at)

    abbrev pub changes_waker : Slots → Bool
    changes_waker slots = is_change before.1 slots.1 (e.waker after) (e.waker at)

    abbrev pub has_act : Slots → Bool
    has_act slots = is_act e.front (is_owned before.0) (is_owned slots.0) (is_owned before.1) (is_owned slots.1)

    abbrev pub is_right : Option Slots → Bool
    is_right None = false
    is_right (Some slots) =
        leaves_word && changes_message slots && changes_waker slots && is_slots (e.owns after) slots && has_act slots

  abbrev pub is_kept : At → Op → Slots → Option ℕ → Bool
  is_kept at op before None = true
  is_kept at op before (Some word) =
      leb word 4 && is_right at op before word (row_of (e.moves at) op before word)

  abbrev pub keeps_rule : At → Bool
  keeps_rule at = list_all (λ (row : Row At). is_kept at row.0 row.1 (e.word at)) (e.moves at)

module _ {At : Type 0} (e : OneEnd At) (at : At) (op : Op) (word : ℕ) where
  -- the rule's word after an operation that found this word
  abbrev pub Leaves : Type 0
  Leaves = Is (e.word (e.next at op (saw op word))) (stepped op word)

  module _ (before : Slots) where
    -- the test, part by part
    pub record Rightly (slots : Slots) : Type 0 where
      pub leaves : leaves_word e at op before word ≡ true
      pub of_message : changes_message e at op before word slots ≡ true
      pub of_waker : changes_waker e at op before word slots ≡ true
      pub owned : is_slots (e.owns (after e at op before word)) slots ≡ true
      pub acted : has_act e at op before word slots ≡ true

    pub rightly : (slots : Slots) → is_right e at op before word (Some slots) ≡ true → Rightly slots
    rightly slots fits =
        let of_message = changes_message e at op before word slots in
        let of_waker = changes_waker e at op before word slots in
        let owned = is_slots (e.owns (after e at op before word)) slots in
        let acted = has_act e at op before word slots in
        let leaves = leaves_word e at op before word in
        let acts_so = and_parts (leaves && of_message && of_waker && owned) acted fits in
        let owns_so = and_parts (leaves && of_message && of_waker) owned acts_so.0 in
        let waker_so = and_parts (leaves && of_message) of_waker owns_so.0 in
        let message_so = and_parts leaves of_message waker_so.0 in
        record {
          leaves = message_so.0;
          of_message = message_so.1;
          of_waker = waker_so.1;
          owned = owns_so.1;
          acted = acts_so.1;
        }

    pub leaves_so : leaves_word e at op before word ≡ true → Leaves
    leaves_so leaves =
        let word' = e.word (e.next at op (saw op word)) in
        subst (λ o. Is o (stepped op word)) (sym (words_are word' (Some (stepped op word)) leaves)) is

    leaves_by : (o : Option Slots) → is_right e at op before word o ≡ true → Leaves
    leaves_by None fits = absurd (cc)
    leaves_by (Some slots) fits = leaves_so (rightly slots fits).leaves

    leaves_from : {o : Option ℕ} → Is o word → is_kept e at op before o ≡ true → Leaves
    leaves_from is kept =
        let o = row_of (e.moves at) op before word in
        leaves_by o (and_parts (leb word 4) (is_right e at op before word o) kept).1

  pub keeps_word : {next : At} {before after : Slots} {found : ℕ} → keeps_rule e at ≡ true → Is (e.word at) word
      → In (op, before, found, next, after) (e.moves at) → Leaves
  keeps_word {before} all number row =
      let kept : Row At → Bool = λ row. is_kept e at row.0 row.1 (e.word at) in
      leaves_from before number (each_passes kept (e.moves at) all row)
