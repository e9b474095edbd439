-- What the definition states of the last poll of a number is the last state of a reader of that number.
use Rattle.oneshot_laws.proofs.Names.{◌≡◌, ℕ, ◌==◌, Bool, true, false, not, ◌&&◌, ◌||◌, List, [], ◌∷◌, map, Option, Some, None, is_some, refl, ◌∙◌, ap, if◌then◌else◌, eq-eqb, list_any, number_of}
use Rattle.oneshot_laws.proofs.Names.{and_left, and_right, both, is_reply, is_drop_of_receiver, Mark, uses_copy_of, is_own, wakes, is_poll, begins_poll_or_drop, answers_pending, is_left_by}
use Rattle.oneshot_laws.proofs.Names.{waits_in_task}
use Rattle.oneshot_machine.specs.declared.machine.Reply.TheVariants as R
use Rattle.oneshot_laws.proofs.EndedRuns.{own_after}
use Rattle.oneshot_laws.proofs.PastViews.{PastView, past_of}

-- the last poll: none of the number waits, one is under way, or one left its task; nothing woke the number
-- since the poll began
pub data Nap : Type 0 where
  Calm : Nap
  Polling : Nap
  Left : Nap

abbrev nap_begun : Bool → Bool → Nap → Nap
nap_begun begins this nap = if begins then if this then Polling else Calm else nap

abbrev roused : Bool → Nap → Nap
roused woken nap = if woken then Calm else nap

abbrev answered : Bool → Nap → Nap
answered pending Calm = Calm
answered pending Polling = if pending then Left else Polling
answered pending Left = Left

abbrev pub nap_then : ℕ → Nap → PastView → Nap
nap_then number nap g =
    answered (is_poll g.call && is_reply R.Pending g.entry.reply)
    (roused (uses_copy_of number g.entry.waker || is_own number g.entry.own)
    (nap_begun (g.begins && (is_poll g.call || is_drop_of_receiver g.call)) (is_own number (number_of g.call)) nap))

abbrev pub nap_after : ℕ → Nap → List Mark → Nap
nap_after number nap ms = own_after (nap_then number) nap (map past_of ms)

-- a task that was left and not woken stays so
left_stays : (begins this woken pending : Bool) → begins ≡ false → woken ≡ false
    → answered pending (roused woken (nap_begun begins this Left)) ≡ Left
left_stays false this false pending b w = refl
left_stays true this woken pending b w = cc
left_stays false this true pending b w = cc

polling_stays : (begins this woken pending : Bool) → begins ≡ false → woken ≡ false
    → answered pending (roused woken (nap_begun begins this Polling)) ≡ (if pending then Left else Polling)
polling_stays false this false pending b w = refl
polling_stays true this woken pending b w = cc
polling_stays false this true pending b w = cc

polling_begins : (begins this woken pending : Bool) (nap : Nap) → begins ≡ true → this ≡ true → woken ≡ false
    → answered pending (roused woken (nap_begun begins this nap)) ≡ (if pending then Left else Polling)
polling_begins true true false pending nap b t w = refl
polling_begins false this woken pending nap b t w = cc
polling_begins true false woken pending nap b t w = cc
polling_begins true true true pending nap b t w = cc

none_first : (a b : Bool) → (a || b) ≡ false → a ≡ false
none_first false b h = refl
none_first true b h = cc

none_later : (a b : Bool) → (a || b) ≡ false → b ≡ false
none_later false b h = h
none_later true b h = cc

still_left : (number : ℕ) (ms : List Mark) → list_any begins_poll_or_drop ms ≡ false
    → list_any (wakes number) ms ≡ false → nap_after number Left ms ≡ Left
still_left number [] b w = refl
still_left number (m ∷ ms) b w =
    ap (λ nap. nap_after number nap ms)
    (left_stays (begins_poll_or_drop m) (is_own number (number_of m.call)) (wakes number m) (answers_pending m)
    (none_first _ _ b) (none_first _ _ w))
    ∙ still_left number ms (none_later (begins_poll_or_drop m) _ b) (none_later (wakes number m) _ w)

-- a poll under way that replies "pending" later
polling_left : (number : ℕ) (ms : List Mark) → list_any answers_pending ms ≡ true
    → list_any begins_poll_or_drop ms ≡ false → list_any (wakes number) ms ≡ false → nap_after number Polling ms ≡ Left
polling_left number [] p b w = cc
polling_left number (m ∷ ms) p b w =
    ap (λ nap. nap_after number nap ms)
    (polling_stays (begins_poll_or_drop m) (is_own number (number_of m.call)) (wakes number m) (answers_pending m)
    (none_first _ _ b) (none_first _ _ w))
    ∙ elim (answers_pending m) as (λ a. (a || list_any answers_pending ms) ≡ true → nap_after number
    (if a then Left else Polling) ms ≡ Left) [
      | true ↦ λ p. still_left number ms (none_later (begins_poll_or_drop m) _ b) (none_later (wakes number m) _ w)
      | false ↦ λ p. polling_left number ms p (none_later (begins_poll_or_drop m) _ b) (none_later (wakes number m) _ w)
    ] p

-- a poll of this number left its task
abbrev waits_by : ℕ → List Mark → Bool
waits_by number [] = false
waits_by number (m ∷ later) =
    m.begins && (is_own number (number_of m.call) && is_left_by (Some number) m later) || waits_by number later

has_number : (number : ℕ) (x : Option ℕ) → is_own number x ≡ true → is_some x ≡ true
has_number number None h = cc
has_number number (Some other) h = refl

begins_it : (begins poll drops : Bool) → begins ≡ true → poll ≡ true → (begins && (poll || drops)) ≡ true
begins_it true true drops b p = refl
begins_it false poll drops b p = cc
begins_it true false drops b p = cc

is_not : (b : Bool) → not b ≡ true → b ≡ false
is_not false h = refl
is_not true h = cc

-- the poll begins here
left_here : (number : ℕ) (m : Mark) (ms : List Mark) (nap : Nap) → m.begins ≡ true
    → is_own number (number_of m.call) ≡ true → is_left_by (Some number) m ms ≡ true
    → nap_after number nap (m ∷ ms) ≡ Left
left_here number m ms nap begins this left =
    let answered = and_left _ _ left in
    let pending = and_left _ _ answered in
    let calm = is_not _ (and_right (list_any answers_pending (m ∷ ms)) _ answered) in
    let silent =
    is_not _ (and_right (list_any answers_pending (m ∷ ms) && not (list_any begins_poll_or_drop ms)) _ left) in
    ap (λ nap. nap_after number nap ms)
    (polling_begins (begins_poll_or_drop m) (is_own number (number_of m.call)) (wakes number m) (answers_pending m) nap
    (begins_it m.begins (is_poll m.call) (is_drop_of_receiver m.call) begins
    (has_number number (number_of m.call) this)) this (none_first _ _ silent))
    ∙ elim (answers_pending m) as (λ a. (a || list_any answers_pending ms) ≡ true → nap_after number
    (if a then Left else Polling) ms ≡ Left) [
      | true ↦ λ p. still_left number ms calm (none_later (wakes number m) _ silent)
      | false ↦ λ p. polling_left number ms p calm (none_later (wakes number m) _ silent)
    ] pending

-- if a poll of the number left its task by the definition, the reader ends in `Left`
pub left_after_nap : (number : ℕ) (ms : List Mark) (nap : Nap) → waits_by number ms ≡ true → nap_after number nap ms
    ≡ Left
left_after_nap number [] nap w = cc
left_after_nap number (m ∷ ms) nap w =
    elim (m.begins && (is_own number (number_of m.call) && is_left_by (Some number) m ms)) as
    (λ b. (m.begins && (is_own number (number_of m.call) && is_left_by (Some number) m ms)) ≡ b
    → (b || waits_by number ms) ≡ true → nap_after number nap (m ∷ ms) ≡ Left) [
      | true ↦ λ e w.
          let it = and_right m.begins _ e in
          left_here number m ms nap (and_left _ _ e) (and_left _ _ it)
          (and_right (is_own number (number_of m.call)) _ it)
      | false ↦ λ e w. left_after_nap number ms (nap_then number nap (past_of m)) w
    ] refl w

-- the number of the poll that left its task
left_number : (x : Option ℕ) (m : Mark) (ms : List Mark) → is_left_by x m ms ≡ true
    → (number : ℕ) × (is_own number x && is_left_by (Some number) m ms) ≡ true
left_number None m ms h = absurd (cc h)
left_number (Some number) m ms h = (number, both (number == number) _ (eq-eqb number number refl) h)

or_later : (a b : Bool) → b ≡ true → (a || b) ≡ true
or_later true b h = refl
or_later false b h = h

or_first : (a b : Bool) → a ≡ true → (a || b) ≡ true
or_first true b h = refl
or_first false b h = absurd (cc h)

pub left_by_number : (ms : List Mark) → waits_in_task ms ≡ true → (number : ℕ) × waits_by number ms ≡ true
left_by_number [] h = absurd (cc h)
left_by_number (m ∷ ms) h =
    elim (m.begins && is_left_by (number_of m.call) m ms) as
    (λ b. (m.begins && is_left_by (number_of m.call) m ms) ≡ b → (b || waits_in_task ms) ≡ true
    → (number : ℕ) × waits_by number (m ∷ ms) ≡ true) [
      | true ↦ λ e h.
          let it = left_number (number_of m.call) m ms (and_right m.begins _ e) in
          (it.0, or_first _ _ (both m.begins _ (and_left _ _ e) it.1))
      | false ↦ λ e h.
          let it = left_by_number ms h in
          (it.0, or_later (m.begins && (is_own it.0 (number_of m.call) && is_left_by (Some it.0) m ms)) _ it.1)
    ] refl h
