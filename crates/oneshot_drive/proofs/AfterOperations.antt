-- What a ground may do at a phase, and its state after an operation, by the rows of the table.
use Rattle.oneshot_drive.proofs.Names.{◌≡◌, ℕ, not, List, [], ◌∷◌, true, refl, sym, ap, ◌∙◌, subst, ◌==◌, eq-eqb, WriteWaker, Withdraw, Op, Event, Log, Grows, words, sender_of, receiver_of, took}
use Rattle.oneshot_drive.proofs.Names.{handed, worded, SenderAt, no_sender, sender_moves, sender_at, ReceiverAt, no_receiver, receiver_moves, receiver_at, Share, empty, filled, Slots, Row, next_by}
use Rattle.oneshot_drive.proofs.Names.{vacant, held, In, head, tail, May, may, Finds, finds, saw, is_same_op, same_op, differ, leads_exactly, words_stay, sender_moved, receiver_moved, put_in, emptied}
use Rattle.oneshot_drive.proofs.Names.{as_before, slot_after, has_row_for, row_of, Landing, landings, landed, Each, each, among, is_among}
use Rattle.oneshot_drive.proofs.Names.{differs, sender_apart, receiver_apart, GroundState, StandsWith}
use Rattle.oneshot_drive.proofs.Names.{Stands, receiver_slots, SenderAsks, SenderMakes, ReceiverAsks, ReceiverMakes}

-- an operation that found this word landed at one of these
pub record Lands {At T W : Type 0} (of : Log T W → At) (n : ℕ) (s : GroundState T W) (ls : List (Landing At))
    : Type 0 where
  next : At
  after : Slots
  landing : In (n, next, after) ls
  stands : StandsWith of next after s

-- it landed at this one
pub record Lone {At T W : Type 0} (of : Log T W → At) (n : ℕ) (s : GroundState T W) (l : Landing At) : Type 0 where
  pub word : n ≡ l.0
  pub stands : StandsWith of l.1 l.2 s

-- it landed at one for which this holds
pub record OneOf {At T W : Type 0} (of : Log T W → At) (n : ℕ) (s : GroundState T W) (fact : ℕ → At → Slots → Type 0)
    : Type 0 where
  pub next : At
  pub after : Slots
  pub is_so : fact n next after
  pub stands : StandsWith of next after s

module _ {At T W : Type 0} {of : Log T W → At} where
  the_lone : {n : ℕ} {next : At} {after : Slots} {s : GroundState T W} (word : ℕ) (at : At) (slots : Slots)
      → In {X = Landing At} (n, next, after) ((word, at, slots) ∷ []) → StandsWith of next after s
      → Lone of n s (word, at, slots)
  the_lone word at slots head stands = record { word = refl; stands = stands }
  the_lone word at slots (tail there) stands = elim there [ ]

  module _ {n : ℕ} {s : GroundState T W} where
    -- the word is this one, or it is another
    pub at_word : {ls : List (Landing At)} (word : ℕ) → n ≡ word → Lands of n s ls
        → Lands of n s (among (λ found. found == word) ls)
    at_word {ls} word is lands =
        record {
          next = lands.next;
          after = lands.after;
          landing = is_among (λ found. found == word) ls
              (eq-eqb n word is) lands.landing;
          stands = lands.stands;
        }

    pub not_at : {ls : List (Landing At)} (word : ℕ) → ¬ (n ≡ word) → Lands of n s ls
        → Lands of n s (among (λ found. not (found == word)) ls)
    not_at {ls} word other lands =
        record {
          next = lands.next;
          after = lands.after;
          landing = is_among (λ found. not (found == word)) ls
              (differs n word other) lands.landing;
          stands = lands.stands;
        }

    -- no landing is left, since the word is in no row
    pub unlisted : {X : Type 0} → Lands of n s [] → X
    unlisted lands = elim lands.landing [ ]

    -- the only landing that is left, or a fact of each that is left
    pub lone : {l : Landing At} → Lands of n s (l ∷ []) → Lone of n s l
    lone {l} lands = the_lone l.0 l.1 l.2 lands.landing lands.stands

    pub one_of : {ls : List (Landing At)} (fact : ℕ → At → Slots → Type 0) → Each fact ls → Lands of n s ls
        → OneOf of n s fact
    one_of {ls} fact all lands =
        record { next = lands.next; after = lands.after; is_so = each fact ls all lands.landing; stands = lands.stands }

  module _ (nowhere : At) (moves : At → List (Row At))
      (moved : (l k : Log T W) (op : Op) (word : ℕ) → Grows l k (worded op word ∷ [])
      → of k ≡ next_by nowhere (moves (of l)) op (saw op word))
      (apart : (at : At) → differ nowhere (moves at) ≡ true) where
    lands_by : (b a : GroundState T W) (op : Op) (n : ℕ)
        → Finds moves (of b.log) op n b.message b.waker a.message a.waker
        → Grows b.log a.log (worded op n ∷ []) → Lands of n a (landings op (moves (of b.log)))
    lands_by b a op n (finds {after} {next} row message waker) grows =
        record {
          next = next;
          after = after;
          landing = landed (is_same_op op) (moves (of b.log)) (same_op op) row;
          stands = record {
            phase = moved b.log a.log op n grows
                ∙ leads_exactly nowhere (moves (of b.log)) (apart (of b.log)) row;
            message =
                slot_after message;
            waker = slot_after waker;
          };
        }

  asks_by : {at : At} {slots : Slots} {s : GroundState T W} (moves : At → List (Row At)) (op : Op)
      → StandsWith of at slots s → has_row_for op slots (moves at) ≡ true → May moves (of s.log) op s.message s.waker
  asks_by {at} {slots} {s} moves op is has =
      subst (λ q. May moves q op s.message s.waker) (sym is.phase)
      (may (row_of op slots (moves at) has).row is.message is.waker)

module _ {T W : Type 0} where
  -- what a ground may do at its phase
  pub sender_asks : {at : SenderAt} {slots : Slots} {s : GroundState T W} (op : Op) → StandsWith sender_of at slots s
      → has_row_for op slots (sender_moves at) ≡ true → SenderAsks op s
  sender_asks op is has = asks_by sender_moves op is has

  pub asks : {at : ReceiverAt} {slots : Slots} {s : GroundState T W} (op : Op) → StandsWith receiver_of at slots s
      → has_row_for op slots (receiver_moves at) ≡ true → ReceiverAsks op s
  asks op is has = asks_by receiver_moves op is has

  -- where an operation from a phase landed
  pub sender_lands : {at : SenderAt} (b : GroundState T W) {a : GroundState T W} (op : Op) (n : ℕ)
      → sender_of b.log ≡ at → SenderMakes op n b a → Grows b.log a.log (worded op n ∷ [])
      → Lands sender_of n a (landings op (sender_moves at))
  sender_lands b {a} op n at made grows =
      subst (λ at. Lands sender_of n a (landings op (sender_moves at))) at (lands_by no_sender sender_moves
      (λ l k op n s. sender_moved op n s) sender_apart b a op n made grows)

  pub lands : {at : ReceiverAt} (b : GroundState T W) {a : GroundState T W} (op : Op) (n : ℕ) → receiver_of b.log ≡ at
      → ReceiverMakes op n b a → Grows b.log a.log (worded op n ∷ [])
      → Lands receiver_of n a (landings op (receiver_moves at))
  lands b {a} op n at made grows =
      subst (λ at. Lands receiver_of n a (landings op (receiver_moves at))) at (lands_by no_receiver receiver_moves
      (λ l k op n s. receiver_moved op n s) receiver_apart b a op n made grows)

  -- steps other than operations leave an end at its phase
  pub sender_still : {l k : Log T W} (steps : List (Event T W)) → words steps ≡ [] → Grows l k steps
      → sender_of k ≡ sender_of l
  sender_still steps no_word grows = ap sender_at (words_stay steps no_word grows)

  pub still : {l k : Log T W} (steps : List (Event T W)) → words steps ≡ [] → Grows l k steps
      → receiver_of k ≡ receiver_of l
  still steps no_word grows = ap receiver_at (words_stay steps no_word grows)

  -- if they leave its slots too, its state is unchanged
  pub stands_on : {at : ReceiverAt} {slots : Slots} {b a : GroundState T W} (steps : List (Event T W))
      → words steps ≡ [] → StandsWith receiver_of at slots b → Grows b.log a.log steps
      → a.message ≡ b.message → a.waker ≡ b.waker → StandsWith receiver_of at slots a
  stands_on steps no_word is grows message waker =
      record {
        phase = still steps no_word grows
            ∙ is.phase;
        message = as_before is.message message;
        waker = as_before is.waker waker;
      }

  -- an operation after which the slots are those of a receiver at the phase
  pub record Came (fact : ℕ → ReceiverAt → Type 0) (n : ℕ) (s : GroundState T W) : Type 0 where
    pub at : ReceiverAt
    pub is_so : fact n at
    pub stands : Stands at s

  pub came : {n : ℕ} {s : GroundState T W} {ls : List (Landing ReceiverAt)} (fact : ℕ → ReceiverAt → Type 0)
      → Each (λ n next after. fact n next × (after ≡ receiver_slots next)) ls → Lands receiver_of n s ls → Came fact n s
  came {s} fact all lands =
      let found = one_of (λ n next after. fact n next × (after ≡ receiver_slots next)) all lands in
      record {
        at = found.next;
        is_so = found.is_so.0;
        stands = subst
            (λ slots. StandsWith receiver_of found.next slots s) found.is_so.1 found.stands;
      }

  -- writing a slot, or taking its content, leaves the phase unchanged
  module _ {at : ReceiverAt} {b a : GroundState T W} where
    pub took_message : {w : Share} {x : T} → StandsWith receiver_of at (filled, w) b → Grows b.log a.log (took x ∷ [])
        → a.message ≡ vacant → a.waker ≡ b.waker → StandsWith receiver_of at (empty, w) a
    took_message {x} is grows message waker =
        record {
          phase = still (took x ∷ []) refl grows
              ∙ is.phase;
          message = emptied message;
          waker = as_before is.waker waker;
        }

    pub wrote_waker : {m : Share} {k : W} → StandsWith receiver_of at (m, empty) b
        → Grows b.log a.log (handed WriteWaker k ∷ []) → a.message ≡ b.message → a.waker ≡ held k
        → StandsWith receiver_of at (m, filled) a
    wrote_waker {k} is grows message waker =
        record {
          phase = still (handed WriteWaker k ∷ []) refl grows
              ∙ is.phase;
          message = as_before is.message message;
          waker = put_in k waker;
        }

    pub withdrew_waker : {m : Share} {k : W} → StandsWith receiver_of at (m, filled) b
        → Grows b.log a.log (handed Withdraw k ∷ []) → a.message ≡ b.message → a.waker ≡ vacant
        → StandsWith receiver_of at (m, empty) a
    withdrew_waker {k} is grows message waker =
        record {
          phase = still (handed Withdraw k ∷ []) refl grows
              ∙ is.phase;
          message = as_before is.message message;
          waker = emptied waker;
        }
