-- At most one receive returns the message, and at most one entry frees the block, the last that uses it.
use Rattle.std.proofs.Common.{◌≤◌, if◌then◌else◌, length}
use Rattle.oneshot_bridge.proofs.Names.{arith, ◌≡◌, ℕ, ◌+◌, Bool, true, false, not, ◌&&◌, ◌||◌, List, [], ◌∷◌, ◌++◌, Option, Some, None, cond, refl, sym, ap, subst, filter, list_all, list_any}
use Rattle.oneshot_bridge.proofs.Names.{cons_option, option_map, and_parts, Receiver, Reply, Step, Free, Call, is_receive, only_if, is_same_end, is_same_reply, is_reply, is_word, is_on_a_cell}
use Rattle.oneshot_bridge.proofs.Names.{is_free, agrees, frees, uses_block, is_free_last, Mark, side, answers, answers_only, is_gone_after_got, gave_message, answered_at, answered_by, Answered}
use Rattle.oneshot_machine.specs.declared.machine.Reply.TheVariants as R

abbrev number_of : List Answered → ℕ
number_of replies = length (filter gave_message replies)

-- what a mark adds to the count: at most one, and none if it does not give the message
abbrev at_most : Bool → ℕ
at_most gives = cond gives 1 0

one_more : {X : Type 0} (b gives : Bool) (x : X) (xs : List X) → b ≡ gives
    → length (cond b (x ∷ xs) xs) ≤ at_most gives + length xs
one_more true true x xs e = omega arith
one_more false false x xs e = omega arith
one_more true false x xs e = absurd (cc e)
one_more false true x xs e = absurd (cc e)

adds : (gives : Bool) (o : Option Answered) (xs : List Answered)
    → ((x : Answered) → o ≡ Some x → gave_message x ≡ gives)
    → number_of (cons_option o xs) ≤ at_most gives + number_of xs
adds gives None xs is = omega arith
adds gives (Some x) xs is = one_more (gave_message x) gives x (filter gave_message xs) (is x refl)

gives_as : (b : Bool) (o : Option Reply) (call : Call) (x : Answered)
    → (if b then option_map (λ reply. (call, reply)) o else None) ≡ Some x
    → gave_message x ≡ (is_receive call && is_reply R.Message o)
gives_as true (Some reply) call x e = let same : (call, reply) ≡ x = cc e in sym (ap gave_message same)
gives_as true None call x e = absurd (cc e)
gives_as false o call x e = absurd (cc e)

mark_adds : (m : Mark) (later : List Mark)
    → number_of (answered_by Receiver (m ∷ later))
    ≤ at_most (answers is_receive R.Message m) + number_of (answered_by Receiver later)
mark_adds m later =
    adds (answers is_receive R.Message m) (answered_at Receiver m) (answered_by Receiver later)
    (gives_as (is_same_end (side m) Receiver) m.entry.reply m.call)

-- a receive that returns "disconnected" does not return the message
apart : (reply : Reply) → is_same_reply reply R.Disconnected ≡ true → is_same_reply R.Message reply ≡ false
apart R.Disconnected e = refl
apart _ e = absurd (cc e)

not_both : (receive : Bool) (o : Option Reply) → only_if receive (agrees o (Some R.Disconnected)) ≡ true
    → (receive && is_reply R.Message o) ≡ false
not_both false o e = refl
not_both true None e = refl
not_both true (Some reply) e = apart reply e

none_gets : (ms : List Mark) → list_all (answers_only is_receive R.Disconnected) ms ≡ true
    → number_of (answered_by Receiver ms) ≤ 0
none_gets [] all = omega arith
none_gets (m ∷ later) all =
    let parts = and_parts (answers_only is_receive R.Disconnected m) _ all in
    let none : at_most (answers is_receive R.Message m) ≡ 0 =
    ap at_most (not_both (is_receive m.call) m.entry.reply parts.0) in
    let rest : number_of (answered_by Receiver later) ≤ 0 = none_gets later parts.1 in
    let more : number_of (answered_by Receiver (m ∷ later))
    ≤ at_most (answers is_receive R.Message m) + number_of (answered_by Receiver later) = mark_adds m later in
    omega (arith, none, rest, more)

pub one_gets : (ms : List Mark) → is_gone_after_got ms ≡ true → number_of (answered_by Receiver ms) ≤ 1
one_gets [] gone = omega arith
one_gets (m ∷ later) gone =
    let parts = and_parts (not (answers is_receive R.Message m)
    || list_all (answers_only is_receive R.Disconnected) later) (is_gone_after_got later) gone in
    by (answers is_receive R.Message m) parts.0 (mark_adds m later) (one_gets later parts.1)
  where
    by : (gives : Bool) → (not gives || list_all (answers_only is_receive R.Disconnected) later) ≡ true
        → number_of (answered_by Receiver (m ∷ later)) ≤ at_most gives + number_of (answered_by Receiver later)
        → number_of (answered_by Receiver later) ≤ 1 → number_of (answered_by Receiver (m ∷ later)) ≤ 1
    by true all more rest =
        let none : number_of (answered_by Receiver later) ≤ 0 = none_gets later all in omega (arith, none, more)
    by false all more rest = omega (arith, more, rest)

-- the block is freed at most once
or_left : (a b : Bool) → (a || b) ≡ false → (a ≡ false) × (b ≡ false)
or_left true b e = absurd (cc e)
or_left false b e = (refl, e)

free_uses : (step : Step) → (is_word step || is_on_a_cell step || is_free step) ≡ false → is_free step ≡ false
free_uses Free e = absurd (cc e)
free_uses _ e = refl

not_freed : (ms : List Mark) → list_any uses_block ms ≡ false → length (filter frees ms) ≤ 0
not_freed [] none = omega arith
not_freed (m ∷ later) none =
    let parts = or_left (uses_block m) (list_any uses_block later) none in
    let more : length (filter frees (m ∷ later)) ≤ 0 + length (filter frees later) =
    one_more (frees m) false m (filter frees later) (free_uses m.entry.step parts.0) in
    let rest : length (filter frees later) ≤ 0 = not_freed later parts.1 in omega (arith, more, rest)

not_so : (b : Bool) → not b ≡ true → b ≡ false
not_so true e = absurd (cc e)
not_so false e = refl

pub freed_once : (ms : List Mark) → is_free_last ms ≡ true → length (filter frees ms) ≤ 1
freed_once [] last = omega arith
freed_once (m ∷ later) last =
    let parts = and_parts (only_if (frees m) (not (list_any uses_block later))) (is_free_last later) last in
    by (frees m) refl parts.0 (freed_once later parts.1)
  where
    by : (b : Bool) → frees m ≡ b → only_if b (not (list_any uses_block later)) ≡ true
        → length (filter frees later) ≤ 1 → length (filter frees (m ∷ later)) ≤ 1
    by true is none rest =
        let more : length (filter frees (m ∷ later)) ≤ 1 + length (filter frees later) =
        one_more (frees m) true m (filter frees later) is in
        let freed : length (filter frees later) ≤ 0 = not_freed later (not_so (list_any uses_block later) none) in
        omega (arith, more, freed)
    by false is none rest =
        let more : length (filter frees (m ∷ later)) ≤ 0 + length (filter frees later) =
        one_more (frees m) false m (filter frees later) is in omega (arith, more, rest)

-- nothing uses it after its free
pub unused_after : (earlier later : List Mark) (m : Mark) → is_free_last (earlier ++ m ∷ later) ≡ true → frees m ≡ true
    → list_any uses_block later ≡ false
unused_after [] later m last is =
    let parts = and_parts (only_if (frees m) (not (list_any uses_block later))) (is_free_last later) last in
    not_so (list_any uses_block later)
    (subst (λ b. only_if b (not (list_any uses_block later)) ≡ true) is parts.0)
unused_after (first ∷ earlier) later m last is =
    unused_after earlier later m
    (and_parts (only_if (frees first) (not (list_any uses_block (earlier ++ m ∷ later)))) _ last).1 is
