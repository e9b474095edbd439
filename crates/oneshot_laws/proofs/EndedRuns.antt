-- Claims on what a trace has shown once both ends and the error have ended, for any state kept and any classes.
use Rattle.oneshot_laws.proofs.Names.{◌≡◌, Bool, true, false, ◌&&◌, ◌||◌, List, [], ◌∷◌, Option, is_some, map, refl, ◌∙◌, ap, subst, Call, calls_of, Classes, all_alike, World, IsRun, opening}
use Rattle.oneshot_laws.proofs.Names.{opening_place, Move, ReceiverScript, SenderScript, Entry, Place, and_left, and_right, only_if, is_reply, is_end_of_sender, is_end_of_receiver, is_end_of_error}
use Rattle.oneshot_laws.proofs.Names.{Mark, marks, has_answered, is_refused, all_ended}
use Rattle.oneshot_machine.specs.declared.machine.Reply.TheVariants as R
use Rattle.oneshot_laws.proofs.Coding.{Coding, pairs, by_parts, flags}
use Rattle.oneshot_laws.proofs.PastLaws.{Law, Passes, as_past, of_call, Passed}
use Rattle.oneshot_laws.proofs.PastViews.{PastView, past_of}
use Rattle.oneshot_laws.proofs.Product.{Names, no_names}

-- which calls that end something have replied, and what is kept besides
pub record Kept (X : Type 0) : Type 0 where
  pub sender : Bool
  pub receiver : Bool
  pub refused : Bool
  pub error : Bool
  pub own : X

pub or_false : (b : Bool) → (b || false) ≡ b
or_false true = refl
or_false false = refl

pub or_more : (a b c : Bool) → (a || (b || c)) ≡ ((a || b) || c)
or_more true b c = refl
or_more false b c = refl

abbrev pub is_over : Bool → Bool → Bool → Bool → Bool
is_over sender receiver refused error = sender && receiver && only_if refused error

over_now : (s r f e good : Bool) → only_if (is_over s r f e) good ≡ true
    → only_if (is_over (s || false) (r || false) (f || false) (e || false)) good ≡ true
over_now s r f e good h = rw (or_false s, or_false r, or_false f, or_false e) h

over_later : (s x s' r y r' f z f' e w e' good : Bool)
    → only_if (is_over ((s || x) || s') ((r || y) || r') ((f || z) || f') ((e || w) || e')) good ≡ true
    → only_if (is_over (s || (x || s')) (r || (y || r')) (f || (z || f')) (e || (w || e'))) good ≡ true
over_later s x s' r y r' f z f' e w e' good h = rw (or_more s x s', or_more r y r', or_more f z f', or_more e w e') h

-- a law that requires nothing before the end
abbrev pub nothing_asked : {X : Type 0} → X → PastView → Bool
nothing_asked own g = true

-- what is kept after these pasts
abbrev pub own_after : {X : Type 0} → (X → PastView → X) → X → List PastView → X
own_after own_then own [] = own
own_after own_then own (g ∷ gs) = own_after own_then (own_then own g) gs

-- A claim on what is kept at the end: `own_then` updates it at each view of the past, `asks` is a claim on each
-- view, and `good` is the claim at the end.
pub record Ending (X : Type 0) : Type 0 where
  pub coding : Coding X
  pub own_then : X → PastView → X
  pub asks : X → PastView → Bool
  pub good : X → Bool
  pub names : Names X
  pub first : Option Place → X

-- nothing is claimed before the end
abbrev pub nothing_ended : {X : Type 0} → X → Kept X
nothing_ended own = record { sender = false; receiver = false; refused = false; error = false; own = own }

-- names, by what is kept
abbrev pub of_kept : {X : Type 0} → Names X → Names (Kept X)
of_kept names = record { polls = names.polls; copies = λ x. names.copies x.own }

module _ {X : Type 0} (ending : Ending X) where
  abbrev pub kept_then : Kept X → PastView → Kept X
  kept_then x g =
      record {
        sender = x.sender || (is_some g.entry.reply && is_end_of_sender g.call);
        receiver = x.receiver || (is_some g.entry.reply && is_end_of_receiver g.call);
        refused = x.refused || is_reply R.Refused g.entry.reply;
        error = x.error || (is_some g.entry.reply && is_end_of_error g.call);
        own = ending.own_then x.own g;
      }

  abbrev pub is_fine : Kept X → Bool
  is_fine x = only_if (is_over x.sender x.receiver x.refused x.error) (ending.good x.own)

  -- the ending as a law
  abbrev pub kept : Law (Kept X)
  kept =
      record {
        coding =
            by_parts (λ x. (x.sender, (x.receiver, (x.refused, (x.error, x.own)))))
            (λ p. record { sender = p.0; receiver = p.1.0; refused = p.1.1.0; error = p.1.1.1.0; own = p.1.1.1.1 })
            (λ x. refl)
            (pairs flags (pairs flags (pairs flags (pairs flags ending.coding))));
        passes = λ x g. ending.asks x.own g && is_fine (kept_then x g);
        sees = kept_then;
        names = of_kept ending.names;
        first = λ place. nothing_ended (ending.first place);
      }

  module _ (k : Classes) where
    -- what has ended does not depend on classes
    abbrev seen_then : Kept X → PastView → Call → Kept X
    seen_then x g call =
        record {
          sender = x.sender || (is_some g.entry.reply && is_end_of_sender call);
          receiver = x.receiver || (is_some g.entry.reply && is_end_of_receiver call);
          refused = x.refused || is_reply R.Refused g.entry.reply;
          error = x.error || (is_some g.entry.reply && is_end_of_error call);
          own = ending.own_then x.own (as_past k g);
        }

    kept_as : (x : Kept X) (g : PastView) → kept_then x (as_past k g) ≡ seen_then x g g.call
    kept_as x g = of_call k (seen_then x g) (λ a b. refl) g.call

    abbrev IsFineAtEnd : List Mark → Kept X → Type 0
    IsFineAtEnd ms x =
        only_if (is_over (x.sender || has_answered is_end_of_sender ms)
        (x.receiver || has_answered is_end_of_receiver ms) (x.refused || is_refused ms)
        (x.error || has_answered is_end_of_error ms))
        (ending.good (own_after ending.own_then x.own (map (as_past k) (map past_of ms)))) ≡ true

    fine_at_end : (ms : List Mark) (x : Kept X) → is_fine x ≡ true
        → Passes kept x (map (as_past k) (map past_of ms)) → IsFineAtEnd ms x
    fine_at_end [] x fine p = over_now x.sender x.receiver x.refused x.error _ fine
    fine_at_end (m ∷ ms) x fine p =
        over_later x.sender _ (has_answered is_end_of_sender ms) x.receiver _ (has_answered is_end_of_receiver ms)
        x.refused _ (is_refused ms) x.error _ (has_answered is_end_of_error ms) _
        (subst (IsFineAtEnd ms) (kept_as x (past_of m))
        (fine_at_end ms (kept_then x (as_past k (past_of m)))
        (and_right (ending.asks x.own (as_past k (past_of m))) _ p.0) p.1))

  -- what is asked at each view of the past
  abbrev pub Asked : X → List PastView → Type 0
  Asked own [] = Unit {0}
  Asked own (g ∷ gs) = (ending.asks own g ≡ true) × Asked (ending.own_then own g) gs

  asked : (gs : List PastView) (x : Kept X) → Passes kept x gs → Asked x.own gs
  asked [] x p = tt
  asked (g ∷ gs) x p = (and_left (ending.asks x.own g) _ p.0, asked gs (kept_then x g) p.1)

nothing_over : (good : Bool) → only_if (is_over false false false false) good ≡ true
nothing_over good = refl

-- a run, seen by classes, passes the ending's law
abbrev pub PassesEnding : {X T : Type 0} → Ending X → Classes → SenderScript T → ReceiverScript → List Entry → Type 0
PassesEnding ending k s r entries =
    Passes (kept ending) (nothing_ended (ending.first (opening_place s.last)))
    (map (as_past k) (map past_of (marks (calls_of s r) entries)))

module _ {X T : Type 0} (ending : Ending X) (k : Classes) (s : SenderScript T) (r : ReceiverScript)
    (entries : List Entry) where
  -- what is asked at each view of the past of the run, seen by classes
  pub asked_run : PassesEnding ending k s r entries → Asked ending (ending.first (opening_place s.last))
      (map (as_past k) (map past_of (marks (calls_of s r) entries)))
  asked_run p =
      asked ending (map (as_past k) (map past_of (marks (calls_of s r) entries)))
      (nothing_ended (ending.first (opening_place s.last))) p

  -- and the claim at the end
  pub ended_run : PassesEnding ending k s r entries → only_if (all_ended (marks (calls_of s r) entries))
      (ending.good (own_after ending.own_then (ending.first (opening_place s.last))
      (map (as_past k) (map past_of (marks (calls_of s r) entries))))) ≡ true
  ended_run p =
      fine_at_end ending k (marks (calls_of s r) entries) (nothing_ended (ending.first (opening_place s.last)))
      (nothing_over (ending.good (ending.first (opening_place s.last)))) p

-- an ending that reads no name
pub record EndingNameless {X : Type 0} (ending : Ending X) : Type 0 where
  pub none : ending.names ≡ no_names
  pub own_same : (k : Classes) (own : X) (g : PastView) → ending.own_then own (as_past k g) ≡ ending.own_then own g

module _ {X : Type 0} (ending : Ending X) (nameless : EndingNameless ending) where
  after_as : (k : Classes) (gs : List PastView) (own : X)
      → own_after ending.own_then own (map (as_past k) gs) ≡ own_after ending.own_then own gs
  after_as k [] own = refl
  after_as k (g ∷ gs) own =
      ap (λ own. own_after ending.own_then own (map (as_past k) gs)) (nameless.own_same k own g)
      ∙ after_as k gs (ending.own_then own g)

  pub at_the_end : {T : Type 0} → Passed (kept ending) T
      → (s : SenderScript T) (r : ReceiverScript) (worlds : List World) (moves : List Move) (entries : List Entry)
      → IsRun (opening s r) worlds moves entries → only_if (all_ended (marks (calls_of s r) entries))
      (ending.good (own_after ending.own_then (ending.first (opening_place s.last))
      (map past_of (marks (calls_of s r) entries)))) ≡ true
  at_the_end each s r worlds moves entries is_run =
      subst (λ own. only_if (all_ended (marks (calls_of s r) entries)) (ending.good own) ≡ true)
      (after_as all_alike (map past_of (marks (calls_of s r) entries)) (ending.first (opening_place s.last)))
      (ended_run ending all_alike s r entries (each s r worlds moves entries is_run))
