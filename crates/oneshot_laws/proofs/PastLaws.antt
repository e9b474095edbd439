-- Laws as readers of pasts, which the checker explores with the world and the reader of histories, by classes.
use Rattle.oneshot_laws.proofs.Names.{◌≡◌, ℕ, Bool, true, ◌&&◌, List, [], ◌∷◌, map, Option, refl, sym, ◌∙◌, ap, subst, End, Sender, Receiver, Call, Of_sender, Of_receiver, Poll, Unanswered, calls_of}
use Rattle.oneshot_laws.proofs.Names.{Classes, all_alike, as_call, as_made, Tree, World, IsRun, opening, opening_place, by_end, Move, ReceiverScript, SenderScript, Entry, Made, Place, and_left}
use Rattle.oneshot_laws.proofs.Names.{and_right, Mark, marks, call_under_way, Object}
use Rattle.oneshot_machine.specs.declared.machine.receiver.ReceiverStart.TheVariants as RC
use Rattle.oneshot_machine.specs.declared.machine.sender.SenderCall.TheVariants as SC
use Rattle.oneshot_world.specs.declared.trace.Entry.TheVariants.{Idle, Made as Made_entry}
use Rattle.oneshot_laws.proofs.Coding.{Coding, alone, pairs, by_parts}
use Rattle.oneshot_laws.proofs.PastViews.{PastView, past_of, past_at, pasts}
use Rattle.oneshot_laws.proofs.HistoryReader.{Receives, hits, object_as, Reader, Watch, new_reader, watch_at, accepts, reads, readers, histories, histories_nameless}
use Rattle.oneshot_laws.proofs.HistoryRuns.{marks_run}
use Rattle.oneshot_laws.proofs.Product.{Product, all_products, Names, no_names, Automaton, Explored, class_under_way, class_is, reads_alike, Accepts_by, left_after}
use Rattle.oneshot_laws.proofs.ProductRuns.{Classed, all_classed, accepted_run, EachRun}

-- the reader of histories, and the law's own state
pub record Pair (N : Type 0) : Type 0 where
  pub reader : Reader
  pub state : N

-- A law as a reader of pasts: whether it accepts the next view, and its state after it, both by classes;
-- and its first state, by the message's first place.
pub record Law (N : Type 0) : Type 0 where
  pub coding : Coding N
  pub passes : N → PastView → Bool
  pub sees : N → PastView → N
  pub names : Names N
  pub first : Option Place → N

-- the law accepts these pasts
abbrev pub Passes : {N : Type 0} → Law N → N → List PastView → Type 0
Passes law n [] = Unit {0}
Passes law n (g ∷ gs) = (law.passes n g ≡ true) × Passes law (law.sees n g) gs

-- a view of the past, by classes
abbrev pub as_past : Classes → PastView → PastView
as_past k g = record g { entry = as_made k g.entry; call = as_call k g.call }

past_as : (k : Classes) (call : Call) (e : Made) (o : Object) (x : Watch)
    → past_at (as_call k call) (as_made k e) o x ≡ as_past k (past_at call e o x)
past_as k (Poll number) e o x =
    ap (λ next. record (as_past k (past_at (Poll number) e o x)) { next = next })
    (object_as k (hits Receives e x) number o)
past_as k (Of_sender SC.Send) e o x = refl
past_as k (Of_receiver RC.Recv) e o x = refl
past_as k _ e o x = refl

-- a fact of a call that does not depend on a poll's number
pub of_call : {X : Type 0} (k : Classes) (f : Call → X) → ((a b : ℕ) → f (Poll a) ≡ f (Poll b)) → (call : Call)
    → f (as_call k call) ≡ f call
of_call k f same (Poll number) = same (k.polls number) number
of_call k f same _ = refl

-- a law that reads no name and no number
pub record Nameless {N : Type 0} (law : Law N) : Type 0 where
  pub none : law.names ≡ no_names
  pub passes_same : (k : Classes) (n : N) (g : PastView) → law.passes n (as_past k g) ≡ law.passes n g
  pub sees_same : (k : Classes) (n : N) (g : PastView) → law.sees n (as_past k g) ≡ law.sees n g

abbrev pub entry_as : Classes → PastView → PastView
entry_as k g = record g { entry = as_made k g.entry }

abbrev pub with_poll : ℕ → PastView → PastView
with_poll number g = record g { call = Poll number }

-- a law is so if it depends on no name in an entry and on no number of a poll
pub nameless_of : {N : Type 0} (law : Law N) → law.names ≡ no_names → ((k : Classes) (n : N) (g : PastView)
    → (law.passes n (entry_as k g) ≡ law.passes n g) × (law.sees n (entry_as k g) ≡ law.sees n g))
    → ((n : N) (g : PastView) (a b : ℕ) → (law.passes n (with_poll a g) ≡ law.passes n (with_poll b g))
    × (law.sees n (with_poll a g) ≡ law.sees n (with_poll b g))) → Nameless law
nameless_of law none entries polls =
    record {
      none = none;
      passes_same = λ k n g.
          of_call k (λ call. law.passes n (record (entry_as k g) { call = call }))
          (λ a b. (polls n (entry_as k g) a b).0) g.call ∙ (entries k n g).0;
      sees_same = λ k n g.
          of_call k (λ call. law.sees n (record (entry_as k g) { call = call })) (λ a b. (polls n (entry_as k g) a b).1)
          g.call ∙ (entries k n g).1;
    }

-- names, by the law's state
abbrev pub of_pairs : {N : Type 0} → Names N → Names (Pair N)
of_pairs names = record { polls = names.polls; copies = λ x. names.copies x.state }

module _ {N : Type 0} (law : Law N) where
  pub passes_alike : Nameless law → (k : Classes) (gs : List PastView) (n : N) → Passes law n (map (as_past k) gs)
      → Passes law n gs
  passes_alike nameless k [] n p = tt
  passes_alike nameless k (g ∷ gs) n p = (
    sym (nameless.passes_same k n g) ∙ p.0,
    passes_alike nameless k gs (law.sees n g)
        (subst (λ m. Passes law m (map (as_past k) gs)) (nameless.sees_same k n g) p.1),
  )

  abbrev pub pair_accepts : End → Call → Made → Pair N → Bool
  pair_accepts side call e x =
      accepts side call e x.reader && law.passes x.state (past_at call e x.reader.object (watch_at side x.reader))

  abbrev pub pair_reads : End → Call → Made → Pair N → Pair N
  pair_reads side call e x =
      record {
        reader = reads side call e x.reader;
        state = law.sees x.state (past_at call e x.reader.object (watch_at side x.reader));
      }

  -- the reader of histories, together with the law
  abbrev pub with_history : Automaton (Pair N)
  with_history =
      record {
        coding =
            by_parts (λ x. (x.reader, x.state)) (λ p. record { reader = p.0; state = p.1 }) (λ x. refl)
            (pairs readers law.coding);
        accepts = pair_accepts;
        reads = pair_reads;
        names = of_pairs law.names;
        first = λ place. record { reader = new_reader; state = law.first place };
      }

  module _ (k : Classes) where
    -- an entry, seen by classes
    seen_as : (side : End) (left : Unanswered) (e : Made) (m : Reader)
        → past_at (class_under_way k left) (as_made k e) m.object (watch_at side m)
        ≡ as_past k (past_at (call_under_way left) e m.object (watch_at side m))
    seen_as side left e m =
        ap (λ call. past_at call (as_made k e) m.object (watch_at side m)) (class_is k left)
        ∙ past_as k (call_under_way left) e m.object (watch_at side m)

    read_as : (side : End) (left : Unanswered) (e : Made) (m : Reader)
        → reads side (class_under_way k left) (as_made k e) m ≡ reads side (call_under_way left) e m
    read_as = reads_alike histories histories_nameless k

    -- the law accepts what the pair accepts
    pub past_read : (entries : List Entry) (x : Pair N) (s r : Unanswered) → Accepts_by with_history k x s r entries
        → Passes law x.state (map (as_past k) (pasts x.reader s r entries))
    past_read [] x s r a = tt
    past_read (Idle side ∷ entries) x s r a = past_read entries x s r a
    past_read (Made_entry e ∷ entries) x s r a = (
      subst (λ g. law.passes x.state g ≡ true) (seen_as e.side (by_end e.side s r) e x.reader) (and_right _ _ a.0),
      subst (λ g. Passes law (law.sees x.state g)
          (map (as_past k) (pasts (reads e.side (call_under_way (by_end e.side s r)) e x.reader)
          (left_after e.side Sender e.reply s) (left_after e.side Receiver e.reply r) entries)))
          (seen_as e.side (by_end e.side s r) e x.reader)
          (subst (λ m. Passes law (law.sees x.state
          (past_at (class_under_way k (by_end e.side s r)) (as_made k e) x.reader.object
          (watch_at e.side x.reader))) (map (as_past k)
          (pasts m (left_after e.side Sender e.reply s) (left_after e.side Receiver e.reply r) entries)))
          (read_as e.side (by_end e.side s r) e x.reader)
          (past_read entries _ _ _ a.1)),
    )

-- what the checker found for a law
abbrev pub LawExplored : {N : Type 0} → Law N → Type 0
LawExplored law = Explored (with_history law)

-- all that a run can reach
abbrev pub all_past : {N : Type 0} (law : Law N) → Tree (Product (Pair N))
all_past law = all_products (with_history law)

-- the law accepts each run, seen by classes
pub passes_by : {N : Type 0} (law : Law N) (k : Classes) (classed : Classed (with_history law) k) → LawExplored law
    → {T : Type 0} (s : SenderScript T) (r : ReceiverScript) (worlds : List World) (moves : List Move)
    (entries : List Entry) → classed.apt 1 ((with_history law).first (opening_place s.last)) ≡ true
    → IsRun (opening s r) worlds moves entries
    → Passes law (law.first (opening_place s.last)) (map (as_past k) (map past_of (marks (calls_of s r) entries)))
passes_by law k classed explored s r worlds moves entries apt is_run =
    subst (λ gs. Passes law (law.first (opening_place s.last)) (map (as_past k) gs))
    (sym (marks_run s r worlds moves entries is_run).1)
    (past_read law k entries ((with_history law).first (opening_place s.last)) (opening s r).sender
    (opening s r).receiver
    (accepted_run (with_history law) k classed explored s r worlds moves entries apt is_run))

abbrev pub nameless_classed : {N : Type 0} (law : Law N) → law.names ≡ no_names → Classed (with_history law) all_alike
nameless_classed law none = all_classed (with_history law) (ap of_pairs none)

-- each run, seen with all names alike, passes the law
abbrev pub Passed : {N : Type 0} → Law N → Type 0 → Type 0
Passed law T =
    (s : SenderScript T) (r : ReceiverScript) (worlds : List World) (moves : List Move) (entries : List Entry)
    → IsRun (opening s r) worlds moves entries → Passes law (law.first (opening_place s.last))
    (map (as_past all_alike) (map past_of (marks (calls_of s r) entries)))

-- a law that reads no name, if all that a run can reach was explored
pub passed : {N : Type 0} (law : Law N) → law.names ≡ no_names → LawExplored law → {T : Type 0} → Passed law T
passed law none explored s r worlds moves entries is_run =
    passes_by law all_alike (nameless_classed law none) explored s r worlds moves entries refl is_run

-- a law that reads no name accepts each run
pub passes_run : {N T : Type 0} (law : Law N) → Nameless law → Passed law T
    → (s : SenderScript T) (r : ReceiverScript) (worlds : List World) (moves : List Move) (entries : List Entry)
    → IsRun (opening s r) worlds moves entries
    → Passes law (law.first (opening_place s.last)) (map past_of (marks (calls_of s r) entries))
passes_run law nameless each s r worlds moves entries is_run =
    passes_alike law nameless all_alike (map past_of (marks (calls_of s r) entries))
    (law.first (opening_place s.last))
    (each s r worlds moves entries is_run)

-- so each run satisfies a claim on its marks that follows from the law
pub holds_by : {N T : Type 0} (law : Law N) → Nameless law → Passed law T → (claim : List Mark → Bool)
    → ((place : Option Place) (ms : List Mark) → Passes law (law.first place) (map past_of ms) → claim ms ≡ true)
    → EachRun T claim
holds_by law nameless each claim meets s r worlds moves entries is_run =
    meets (opening_place s.last) (marks (calls_of s r) entries)
    (passes_run law nameless each s r worlds moves entries is_run)

-- two laws that read no name, as one: both are explored at once
module _ {N M : Type 0} (a : Law N) (b : Law M) where
  abbrev together : Law (N × M)
  together =
      record {
        coding = pairs a.coding b.coding;
        passes = λ x g. a.passes x.0 g && b.passes x.1 g;
        sees = λ x g. (a.sees x.0 g, b.sees x.1 g);
        names = no_names;
        first = λ place. (a.first place, b.first place);
      }

  first_passes : (gs : List PastView) (x : N × M) → Passes together x gs → Passes a x.0 gs
  first_passes [] x p = tt
  first_passes (g ∷ gs) x p = (and_left _ _ p.0, first_passes gs _ p.1)

  second_passes : (gs : List PastView) (x : N × M) → Passes together x gs → Passes b x.1 gs
  second_passes [] x p = tt
  second_passes (g ∷ gs) x p = (and_right (a.passes x.0 g) _ p.0, second_passes gs _ p.1)

  first_passed : {T : Type 0} → Passed together T → Passed a T
  first_passed both s r worlds moves entries is_run = first_passes _ _ (both s r worlds moves entries is_run)

  second_passed : {T : Type 0} → Passed together T → Passed b T
  second_passed both s r worlds moves entries is_run = second_passes _ _ (both s r worlds moves entries is_run)

-- the law that requires nothing
abbrev no_law : Law (Unit {0})
no_law = record { coding = alone; passes = λ _ _. true; sees = λ _ _. tt; names = no_names; first = λ _. tt }

-- laws that read no name, explored in one search
pub data Laws : Type 1 where
  no_laws : Laws
  also : {N : Type 0} → Law N → Laws → Laws

abbrev pub States : Laws → Type 0
States no_laws = Unit {0}
States (also {N} law laws) = N × States laws

-- all of them, as one law
abbrev pub all_of : (laws : Laws) → Law (States laws)
all_of no_laws = no_law
all_of (also law laws) = together law (all_of laws)

-- each run passes all of them
abbrev pub Each : Laws → Type 0 → Type 0
Each no_laws T = Unit {0}
Each (also law laws) T = Passed law T × Each laws T

pub each_passed : {T : Type 0} (laws : Laws) → Passed (all_of laws) T → Each laws T
each_passed no_laws all = tt
each_passed (also law laws) all =
    (first_passed law (all_of laws) all, each_passed laws (second_passed law (all_of laws) all))
