-- Logs that grow: an end's phase after one more operation, and what a log has after more steps.
use Rattle.std.proofs.Common.{◌≡◌, ℕ, Bool, true, false, cond, List, [], ◌∷◌, ◌++◌, Option, Some, None, refl, sym, ap, ◌∙◌}
use Rattle.std.proofs.lemmas.List.{append_assoc, append-nil}
use Rattle.std.proofs.lemmas.List.Elements.{filter-append, filter_map-append}
use Rattle.std.specs.Prelude.{is_some, filter}
use Rattle.std.specs.List.{cons_option}
use Rattle.std.specs.Option.{option_map}
use Rattle.oneshot_machine.specs.declared.machine.Seen.{Seen}
use Rattle.oneshot_machine.specs.declared.states.Op.{Op}
use Rattle.oneshot_machine.specs.Noted.{Noted, saw, op_of}
use Rattle.oneshot_machine.specs.Phases.{fresh, sender_next, sender_at, untouched, receiver_next, receiver_at, phase_from}
use Rattle.oneshot_machine.specs.Standing.{Table, moved, standing_from, standing}
use Rattle.oneshot_machine.specs.Logs.{Event, worded, noted, words, kept, Log, Grows, sender_of, receiver_of}

pub phase_from-append : {At : Type 0} (next : At → Op → Seen → At) (at : At) (xs ys : List Noted)
    → phase_from next at (xs ++ ys) ≡ phase_from next (phase_from next at xs) ys
phase_from-append next at [] ys = refl
phase_from-append next at (x ∷ xs) ys = phase_from-append next (next at x.0 x.1) xs ys

pub phase_from-snoc : {At : Type 0} (next : At → Op → Seen → At) (at : At) (xs : List Noted) (x : Noted)
    → phase_from next at (xs ++ x ∷ []) ≡ next (phase_from next at xs) x.0 x.1
phase_from-snoc next at xs x = phase_from-append next at xs (x ∷ [])

-- where an end may be after one more operation
standing_from-snoc : {P : Type 0} (t : Table P) (ps : List P) (xs : List Noted) (x : Noted)
    → standing_from t ps (xs ++ x ∷ []) ≡ moved t (standing_from t ps xs) x
standing_from-snoc t ps [] x = refl
standing_from-snoc t ps (y ∷ xs) x = standing_from-snoc t (moved t ps y) xs x

pub standing-snoc : {P : Type 0} (t : Table P) (xs : List Noted) (x : Noted)
    → standing t (xs ++ x ∷ []) ≡ moved t (standing t xs) x
standing-snoc t xs x = standing_from-snoc t (standing t []) xs x

module _ {T W : Type 0} where
  pub kept-append : (whole : Bool) (xs ys : List (Event T W)) → kept whole (xs ++ ys) ≡ kept whole xs ++ kept whole ys
  kept-append true xs ys = refl
  kept-append false xs ys = filter-append _ xs ys

  -- what a log leaves out is no operation on the word
  abbrev noted_by : Event T W → Option Op → Option Noted
  noted_by x op = option_map (λ op. (op, x.seen)) op

  words-cond : (x : Event T W) (xs ys : List (Event T W)) (op : Option Op) → op_of x.step ≡ op → words ys ≡ words xs
      → words (cond (is_some op) (x ∷ ys) ys) ≡ cons_option (noted_by x op) (words xs)
  words-cond x xs ys None is same = same
  words-cond x xs ys (Some op) is same =
      ap (λ o. cons_option (noted_by x o) (words ys)) is ∙ ap (λ ns. (op, x.seen) ∷ ns) same

  words-filter : (xs : List (Event T W)) → words (filter (λ x. is_some (op_of x.step)) xs) ≡ words xs
  words-filter [] = refl
  words-filter (x ∷ xs) =
      words-cond x xs (filter (λ y. is_some (op_of y.step)) xs) (op_of x.step) refl (words-filter xs)

  pub words-kept : (whole : Bool) (xs : List (Event T W)) → words (kept whole xs) ≡ words xs
  words-kept true xs = refl
  words-kept false xs = words-filter xs

  module _ {before after : Log T W} where
    -- the operations of more steps
    pub words_after : (steps : List (Event T W)) → Grows before after steps
        → words after.list ≡ words before.list ++ words steps
    words_after steps grows =
        ap words grows.list ∙ filter_map-append noted before.list (kept before.whole steps)
        ∙ ap (λ ns. words before.list ++ ns) (words-kept before.whole steps)

    -- steps without an operation keep the end's phase
    pub words_stay : (steps : List (Event T W)) → words steps ≡ [] → Grows before after steps
        → words after.list ≡ words before.list
    words_stay steps none grows =
        words_after steps grows ∙ ap (λ ns. words before.list ++ ns) none ∙ append-nil (words before.list)

    -- and an operation leads to the next phase
    pub sender_moved : (op : Op) (word : ℕ) → Grows before after (worded op word ∷ [])
        → sender_of after ≡ sender_next (sender_of before) op (saw op word)
    sender_moved op word grows =
        ap sender_at (words_after (worded op word ∷ []) grows)
        ∙ phase_from-snoc sender_next fresh (words before.list) (op, saw op word)

    pub receiver_moved : (op : Op) (word : ℕ) → Grows before after (worded op word ∷ [])
        → receiver_of after ≡ receiver_next (receiver_of before) op (saw op word)
    receiver_moved op word grows =
        ap receiver_at (words_after (worded op word ∷ []) grows)
        ∙ phase_from-snoc receiver_next untouched (words before.list) (op, saw op word)

    -- some steps, and then some more
    pub and_then : {last : Log T W} (xs ys : List (Event T W)) → Grows before after xs → Grows after last ys
        → Grows before last (xs ++ ys)
    and_then xs ys s t =
        record {
          whole = t.whole ∙ s.whole;
          channel = t.channel ∙ s.channel;
          list = t.list ∙ ap (λ l. l ++ kept after.whole ys) s.list
              ∙ append_assoc before.list (kept before.whole xs) (kept after.whole ys)
              ∙ ap (λ whole. before.list ++ (kept before.whole xs ++ kept whole ys)) s.whole
              ∙ ap (λ l. before.list ++ l) (sym (kept-append before.whole xs ys));
        }
