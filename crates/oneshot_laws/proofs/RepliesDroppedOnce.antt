-- A message that was sent and never taken is dropped once, by the receiver's drop.
use Rattle.oneshot_laws.proofs.Names.{◌≡◌, ℕ, Bool, true, false, not, ◌&&◌, ◌||◌, List, [], ◌∷◌, Some, None, map, filter, get_or, is_some, refl, subst, if◌then◌else◌, list_any, only_if, is_receive}
use Rattle.oneshot_laws.proofs.Names.{is_send, is_drop_of_receiver, Mark, has_answered, answers, is_dropped, is_dropping, is_one_by_receiver, is_dropped_once}
use Rattle.oneshot_machine.specs.declared.machine.Reply.TheVariants as R
use Rattle.oneshot_laws.proofs.RepliesAfterwards.{replied}
use Rattle.oneshot_laws.proofs.Coding.{Coding, listed, pairs, by_parts, flags}
use Rattle.oneshot_laws.proofs.PastLaws.{Law, Passes, Nameless, nameless_of, Passed, holds_by}
use Rattle.oneshot_laws.proofs.PastViews.{PastView, past_of}
use Rattle.oneshot_laws.proofs.Product.{no_names}
use Rattle.oneshot_laws.proofs.ProductRuns.{EachRun}

-- how the message was dropped so far
pub data Drops : Type 0 where
  Not_yet : Drops
  By_receiver : Drops
  Wrongly : Drops

abbrev one_more : Bool → Drops → Drops
one_more by_receiver Not_yet = if by_receiver then By_receiver else Wrongly
one_more by_receiver By_receiver = Wrongly
one_more by_receiver Wrongly = Wrongly

abbrev is_by_receiver : Drops → Bool
is_by_receiver Not_yet = false
is_by_receiver By_receiver = true
is_by_receiver Wrongly = false

abbrev drops_then : Bool → Bool → Drops → Drops
drops_then true by_receiver drops = one_more by_receiver drops
drops_then false by_receiver drops = drops

-- what the trace has shown so far
pub record Story : Type 0 where
  pub sent : Bool
  pub got : Bool
  pub done : Bool
  pub drops : Drops

abbrev drops_here : PastView → Bool
drops_here g = elim g.entry.message [ None ↦ false | Some move ↦ is_dropped move.1 ]

abbrev story_then : Story → PastView → Story
story_then story g =
    record {
      sent = story.sent || replied is_send R.Sent g;
      got = story.got || replied is_receive R.Message g;
      done = story.done || (is_some g.entry.reply && is_drop_of_receiver g.call);
      drops = drops_then (drops_here g) (is_drop_of_receiver g.call) story.drops;
    }

abbrev is_well : Story → Bool
is_well story = only_if (story.sent && not story.got && story.done) (is_by_receiver story.drops)

abbrev goes_well : Story → PastView → Bool
goes_well story g = is_well (story_then story g)

abbrev drops_code : Drops → ℕ
drops_code Not_yet = 0
drops_code By_receiver = 1
drops_code Wrongly = 2

pub drops_back : (d : Drops) → get_or (Not_yet ∷ By_receiver ∷ Wrongly ∷ []) (drops_code d) Not_yet ≡ d
drops_back Not_yet = refl
drops_back By_receiver = refl
drops_back Wrongly = refl

abbrev stories : Coding Story
stories =
    by_parts (λ x. (x.sent, (x.got, (x.done, x.drops))))
    (λ p. record { sent = p.0; got = p.1.0; done = p.1.1.0; drops = p.1.1.1 }) (λ x. refl)
    (pairs flags (pairs flags
    (pairs flags (listed 3 drops_code (Not_yet ∷ By_receiver ∷ Wrongly ∷ []) Not_yet drops_back))))

abbrev no_input : Story
no_input = record { sent = false; got = false; done = false; drops = Not_yet }

abbrev pub story_law : Law Story
story_law =
    record { coding = stories; passes = goes_well; sees = story_then; names = no_names; first = λ place. no_input }

-- the drops of marks after these
abbrev drops_of : Drops → List Mark → Drops
drops_of drops [] = drops
drops_of drops (m ∷ ms) = drops_of (one_more (is_drop_of_receiver m.call) drops) ms

stays_wrong : (ms : List Mark) → drops_of Wrongly ms ≡ Wrongly
stays_wrong [] = refl
stays_wrong (m ∷ ms) = stays_wrong ms

one_by_receiver : (ms : List Mark) → is_by_receiver (drops_of Not_yet ms) ≡ true → is_one_by_receiver ms ≡ true
one_by_receiver [] h = h
one_by_receiver (m ∷ []) h =
    elim (is_drop_of_receiver m.call) as (λ b. is_by_receiver (one_more b Not_yet) ≡ true → b ≡ true)
    [ true ↦ λ h. refl | false ↦ λ h. h ] h
one_by_receiver (m ∷ n ∷ ms) h =
    let wrong : (one_more (is_drop_of_receiver n.call) (one_more (is_drop_of_receiver m.call) Not_yet)) ≡ Wrongly =
    elim (is_drop_of_receiver m.call) as (λ b. one_more (is_drop_of_receiver n.call) (one_more b Not_yet) ≡ Wrongly)
    [ true ↦ refl | false ↦ refl ]
    in absurd (cc (h, wrong, stays_wrong ms))

-- the claim on these marks, with what was shown before
abbrev IsWell : Story → List Mark → Type 0
IsWell story ms =
    only_if ((story.sent || list_any (answers is_send R.Sent) ms)
    && not (story.got || list_any (answers is_receive R.Message) ms)
    && (story.done || has_answered is_drop_of_receiver ms))
    (is_by_receiver (drops_of story.drops (filter is_dropping ms))) ≡ true

nothing_more : (sent got done well : Bool) → only_if (sent && not got && done) well ≡ true
    → only_if ((sent || false) && not (got || false) && (done || false)) well ≡ true
nothing_more false got done well h = refl
nothing_more true true done well h = refl
nothing_more true false false well h = refl
nothing_more true false true well h = h

more_told : (s x s' g y g' d z d' well : Bool)
    → only_if (((s || x) || s') && not ((g || y) || g') && ((d || z) || d')) well ≡ true
    → only_if ((s || (x || s')) && not (g || (y || g')) && (d || (z || d'))) well ≡ true
more_told false x s' false y g' false z d' well h = h
more_told false x s' false y g' true z d' well h = h
more_told false x s' true y g' false z d' well h = h
more_told false x s' true y g' true z d' well h = h
more_told true x s' false y g' false z d' well h = h
more_told true x s' false y g' true z d' well h = h
more_told true x s' true y g' false z d' well h = h
more_told true x s' true y g' true z d' well h = h

dropped_here : (here : Bool) (m : Mark) (drops : Drops) (later : List Mark)
    → drops_of (drops_then here (is_drop_of_receiver m.call) drops) later
    ≡ drops_of drops (if here then m ∷ later else later)
dropped_here true m drops later = refl
dropped_here false m drops later = refl

ends_well : (ms : List Mark) (story : Story) → is_well story ≡ true → Passes story_law story (map past_of ms)
    → IsWell story ms
ends_well [] story well p = nothing_more story.sent story.got story.done _ well
ends_well (m ∷ ms) story well p =
    subst (λ drops. only_if ((story.sent || list_any (answers is_send R.Sent) (m ∷ ms)) && not
    (story.got || list_any (answers is_receive R.Message) (m ∷ ms))
    && (story.done || has_answered is_drop_of_receiver (m ∷ ms))) (is_by_receiver drops) ≡ true)
    (dropped_here (is_dropping m) m story.drops (filter is_dropping ms))
    (more_told story.sent _ (list_any (answers is_send R.Sent) ms) story.got _
    (list_any (answers is_receive R.Message) ms) story.done _ (has_answered is_drop_of_receiver ms) _
    (ends_well ms (story_then story (past_of m)) p.0 p.1))

nameless : Nameless story_law
nameless = nameless_of story_law refl (λ k n g. (refl, refl)) (λ n g a b. (refl, refl))

with_drops : (dropped : Bool) (ms : List Mark) → only_if dropped (is_by_receiver (drops_of Not_yet ms)) ≡ true
    → only_if dropped (is_one_by_receiver ms) ≡ true
with_drops true ms h = one_by_receiver ms h
with_drops false ms h = refl

pub dropped_once : {T : Type 0} → Passed story_law T → EachRun T is_dropped_once
dropped_once each =
    holds_by story_law nameless each is_dropped_once
    (λ place ms p. with_drops _ (filter is_dropping ms) (ends_well ms no_input refl p))
