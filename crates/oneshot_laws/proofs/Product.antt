-- Readers of traces: the checker explores each together with the world, by classes of copies and polls.
use Rattle.oneshot_laws.proofs.Names.{◌≡◌, ℕ, Bool, true, false, ◌&&◌, List, [], ◌∷◌, Option, Some, None, refl, sym, ◌∙◌, ap, subst, list_all, filter_map, option_map, End, Sender, Receiver, Reply}
use Rattle.oneshot_laws.proofs.Names.{Call, Unanswered, first, left_by, Classes, as_call, as_made, Control, Begin, begins, control_turn, control_code, is_same_control, opening_control, one_poll}
use Rattle.oneshot_laws.proofs.Names.{one_copy, Tree, reach, is_in, all_in, by_end, Entry, Made, Place, NotSent, control_is, or_stray, call_under_way}
use Rattle.oneshot_world.specs.declared.trace.Entry.TheVariants.{Idle, Made as Made_entry}
use Rattle.oneshot_laws.proofs.Coding.{Coding, pairs, by_parts}

-- the world's finite part, and the reader's state
pub record Product (M : Type 0) : Type 0 where
  pub control : Control
  pub reader : M

pub product_of : {M : Type 0} → Control → M → Product M
product_of c m = record { control = c; reader = m }

pub its_parts : {M : Type 0} (x : Product M) → product_of x.control x.reader ≡ x
unfolding product_of
its_parts x = refl

-- what an end has left after an entry of this end
abbrev pub left_after : End → End → Option Reply → Unanswered → Unanswered
left_after Sender Sender reply left = left_by Sender reply left
left_after Receiver Receiver reply left = left_by Receiver reply left
left_after Sender Receiver reply left = left
left_after Receiver Sender reply left = left

-- the classes of polls, and those of the copies that a poll of a class may make at this state of the reader
pub record Names (M : Type 0) : Type 0 where
  pub polls : List ℕ
  pub copies : M → ℕ → List ℕ

-- for a reader that reads no name and no number
abbrev pub no_names : {M : Type 0} → Names M
no_names = record { polls = one_poll; copies = λ m. one_copy }

-- A reader of traces: whether it accepts an entry, and its state after it, both by classes; and its first
-- state, by the message's first place.
pub record Automaton (M : Type 0) : Type 0 where
  pub coding : Coding M
  pub accepts : End → Call → Made → M → Bool
  pub reads : End → Call → Made → M → M
  pub names : Names M
  pub first : Option Place → M

abbrev pub controls : Coding Control
controls = record { width = 1; code = control_code; is_same = is_same_control; sound = control_is }

module _ {M : Type 0} (a : Automaton M) where
  abbrev pub product_coding : Coding (Product M)
  product_coding = by_parts (λ x. (x.control, x.reader)) (λ p. product_of p.0 p.1) its_parts (pairs controls a.coding)

  abbrev pub accepts_entry : Call → Entry → M → Bool
  accepts_entry call (Idle side) m = true
  accepts_entry call (Made_entry e) m = a.accepts e.side call e m

  abbrev pub reads_entry : Call → Entry → M → M
  reads_entry call (Idle side) m = m
  reads_entry call (Made_entry e) m = a.reads e.side call e m

  abbrev pub product_then : Begin → M → Entry × Control → Product M
  product_then b m t = record { control = t.1; reader = reads_entry (or_stray b.call) t.0 m }

  abbrev pub begins_beside : Product M → List Begin
  begins_beside x = begins a.names.polls (a.names.copies x.reader) x.control

  abbrev pub product_successors : Product M → List (Product M)
  product_successors x =
      filter_map (λ b. option_map (product_then b x.reader) (control_turn x.control b)) (begins_beside x)

  -- before the first move, with the message in this place or no message
  abbrev pub opening_product : Option Place → Product M
  opening_product place = record { control = opening_control place; reader = a.first place }

  -- all pairs that a run can reach
  abbrev pub all_products : Tree (Product M)
  all_products =
      reach product_coding.code product_coding.is_same product_successors 20000
      (opening_product None ∷ opening_product (Some NotSent) ∷ [])

  abbrev pub is_product_in : Tree (Product M) → Product M → Bool
  is_product_in found x = is_in product_coding.code product_coding.is_same x found

  -- a move is accepted, and leads to a pair that was found
  abbrev pub passes_on : Tree (Product M) → M → Begin → Option (Entry × Control) → Bool
  passes_on found m b None = false
  passes_on found m b (Some t) = accepts_entry (or_stray b.call) t.0 m && is_product_in found (product_then b m t)

  abbrev pub all_move_on : Tree (Product M) → Bool
  all_move_on found =
      all_in (λ x. list_all (λ b. passes_on found x.reader b (control_turn x.control b)) (begins_beside x)) found

  -- both openings are found, and each move from what is found passes
  abbrev pub all_pass : Tree (Product M) → Bool
  all_pass found =
      is_product_in found (opening_product None)
      && (is_product_in found (opening_product (Some NotSent)) && all_move_on found)

-- what the checker found for a reader
pub record Explored {M : Type 0} (a : Automaton M) : Type 0 where
  pub found : Tree (Product M)
  pub all : all_pass a found ≡ true

abbrev pub class_under_way : Classes → Unanswered → Call
class_under_way k left = or_stray (option_map (as_call k) (first left.calls))

pub class_is : (k : Classes) (left : Unanswered) → class_under_way k left ≡ as_call k (call_under_way left)
class_is k left =
    elim (first left.calls) as (λ c. or_stray (option_map (as_call k) c) ≡ as_call k (or_stray c))
    [ None ↦ refl | Some call ↦ refl ]

module _ {M : Type 0} (a : Automaton M) where
  -- the reader accepts a trace of scripts that have this left
  abbrev pub Accepts : M → Unanswered → Unanswered → List Entry → Type 0
  Accepts m s r [] = Unit {0}
  Accepts m s r (Idle side ∷ entries) = Accepts m s r entries
  Accepts m s r (Made_entry e ∷ entries) =
      (a.accepts e.side (call_under_way (by_end e.side s r)) e m ≡ true)
      × Accepts (a.reads e.side (call_under_way (by_end e.side s r)) e m) (left_after e.side Sender e.reply s)
      (left_after e.side Receiver e.reply r) entries

  -- it accepts the trace, seen by classes
  abbrev pub Accepts_by : Classes → M → Unanswered → Unanswered → List Entry → Type 0
  Accepts_by k m s r [] = Unit {0}
  Accepts_by k m s r (Idle side ∷ entries) = Accepts_by k m s r entries
  Accepts_by k m s r (Made_entry e ∷ entries) =
      (a.accepts e.side (class_under_way k (by_end e.side s r)) (as_made k e) m ≡ true)
      × Accepts_by k (a.reads e.side (class_under_way k (by_end e.side s r)) (as_made k e) m)
      (left_after e.side Sender e.reply s) (left_after e.side Receiver e.reply r) entries

-- a reader that reads no name and no number
pub record NamelessReader {M : Type 0} (a : Automaton M) : Type 0 where
  pub accepts_same : (k : Classes) (side : End) (call : Call) (e : Made) (m : M)
      → a.accepts side (as_call k call) (as_made k e) m ≡ a.accepts side call e m
  pub reads_same : (k : Classes) (side : End) (call : Call) (e : Made) (m : M)
      → a.reads side (as_call k call) (as_made k e) m ≡ a.reads side call e m

-- it accepts a trace if it accepts it by classes
module _ {M : Type 0} (a : Automaton M) (nameless : NamelessReader a) (k : Classes) where
  accepts_alike : (side : End) (left : Unanswered) (e : Made) (m : M)
      → a.accepts side (class_under_way k left) (as_made k e) m ≡ a.accepts side (call_under_way left) e m
  accepts_alike side left e m =
      ap (λ call. a.accepts side call (as_made k e) m) (class_is k left)
      ∙ nameless.accepts_same k side (call_under_way left) e m

  pub reads_alike : (side : End) (left : Unanswered) (e : Made) (m : M)
      → a.reads side (class_under_way k left) (as_made k e) m ≡ a.reads side (call_under_way left) e m
  reads_alike side left e m =
      ap (λ call. a.reads side call (as_made k e) m) (class_is k left)
      ∙ nameless.reads_same k side (call_under_way left) e m

  pub alike : (entries : List Entry) (m : M) (s r : Unanswered) → Accepts_by a k m s r entries → Accepts a m s r entries
  alike [] m s r h = tt
  alike (Idle side ∷ entries) m s r h = alike entries m s r h
  alike (Made_entry e ∷ entries) m s r h = (
    sym (accepts_alike e.side (by_end e.side s r) e m) ∙ h.0,
    alike entries _ _ _ (subst
        (λ n. Accepts_by a k n (left_after e.side Sender e.reply s) (left_after e.side Receiver e.reply r) entries)
        (reads_alike e.side (by_end e.side s r) e m) h.1),
  )
