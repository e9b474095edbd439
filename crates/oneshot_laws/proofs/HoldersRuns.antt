-- Only holders use the block, its last holder frees it, nothing uses it afterwards, and once all have ended
-- it is freed.
use Rattle.oneshot_laws.proofs.Names.{◌≡◌, Bool, true, false, not, ◌&&◌, ◌||◌, List, [], ◌∷◌, map, refl, subst, list_any, list_all, calls_of, by_end, and_left, and_right, both, only_if, is_word}
use Rattle.oneshot_laws.proofs.Names.{is_on_a_cell, is_free, Mark, marks, after_each, all_ended, Holders, both_hold, holds, other, is_here, uses_block, frees, is_held, is_free_last, is_freed}
use Rattle.oneshot_laws.proofs.Names.{is_freed_at_end, is_freed_right}
use Rattle.oneshot_laws.proofs.Coding.{Coding, pairs, by_parts, flags}
use Rattle.oneshot_laws.proofs.EndedRuns.{Ending, kept, own_after, nothing_asked, at_the_end, or_more}
use Rattle.oneshot_laws.proofs.PastLaws.{Law, Passes, Nameless, nameless_of, Passed, holds_by}
use Rattle.oneshot_laws.proofs.PastViews.{PastView, past_of}
use Rattle.oneshot_laws.proofs.MarksAfterEach.{ever_law, ever_after}
use Rattle.oneshot_laws.proofs.Product.{no_names}
use Rattle.oneshot_laws.proofs.ProductRuns.{EachRun}

abbrev uses : PastView → Bool
uses g = is_word g.entry.step || is_on_a_cell g.entry.step || is_free g.entry.step

abbrev is_freeing : PastView → Bool
is_freeing g = is_free g.entry.step

abbrev gives_up : PastView → Bool
gives_up g = is_freeing g || (g.last && is_here (other g.entry.side) g.object)

-- only a holder uses the block, and only the last one frees it
abbrev is_used_by_holder : Holders → PastView → Bool
is_used_by_holder h g =
    only_if (uses g) (holds g.entry.side h) && only_if (is_freeing g) (not (holds (other g.entry.side) h))

abbrev then_held : Holders → PastView → Holders
then_held h g =
    record {
      sender = h.sender && not (by_end g.entry.side (gives_up g) false);
      receiver = h.receiver && not (by_end g.entry.side false (gives_up g));
    }

abbrev holdings : Coding Holders
holdings =
    by_parts (λ h. (h.sender, h.receiver)) (λ p. record { sender = p.0; receiver = p.1 }) (λ h. refl)
    (pairs flags flags)

abbrev pub held_law : Law Holders
held_law =
    record {
      coding = holdings;
      passes = is_used_by_holder;
      sees = then_held;
      names = no_names;
      first = λ place.
          both_hold;
    }

held_by_marks : (ms : List Mark) (h : Holders) → Passes held_law h (map past_of ms) → is_held h ms ≡ true
held_by_marks [] h p = refl
held_by_marks (m ∷ ms) h p = both _ _ p.0 (held_by_marks ms _ p.1)

held_nameless : Nameless held_law
held_nameless = nameless_of held_law refl (λ k n g. (refl, refl)) (λ n g a b. (refl, refl))

held_run : {T : Type 0} → Passed held_law T → EachRun T (is_held both_hold)
held_run each = holds_by held_law held_nameless each (is_held both_hold) (λ place ms. held_by_marks ms both_hold)

-- nothing uses the block after a free
abbrev leaves_alone : PastView → Bool
leaves_alone g = not (uses g)

abbrev pub free_law : Law Bool
free_law = ever_law is_freeing leaves_alone

free_nameless : Nameless free_law
free_nameless = nameless_of free_law refl (λ k n g. (refl, refl)) (λ n g a b. (refl, refl))

none_uses : (ms : List Mark) → list_all (λ m. leaves_alone (past_of m)) ms ≡ not (list_any uses_block ms)
none_uses [] = refl
none_uses (m ∷ ms) =
    elim (uses_block m) as (λ b. (not b && list_all (λ m. leaves_alone (past_of m)) ms) ≡ not
    (b || list_any uses_block ms)) [
      | true ↦ refl
      | false ↦ none_uses ms
    ]

free_last : (ms : List Mark) → after_each (λ m. is_freeing (past_of m)) (list_all (λ m. leaves_alone (past_of m)))
    ms ≡ true → is_free_last ms ≡ true
free_last [] h = refl
free_last (m ∷ ms) h =
    both _ _
    (subst (λ unused. only_if (frees m) unused ≡ true) (none_uses ms) (and_left _ _ h))
    (free_last ms (and_right (only_if (frees m) (list_all (λ m. leaves_alone (past_of m)) ms)) _ h))

free_last_run : {T : Type 0} → Passed free_law T → EachRun T is_free_last
free_last_run each s r worlds moves entries is_run =
    free_last (marks (calls_of s r) entries)
    (ever_after is_freeing leaves_alone free_nameless each s r worlds moves entries is_run)

-- once all have ended the block is freed
abbrev freed_then : Bool → PastView → Bool
freed_then freed g = freed || is_freeing g

abbrev pub freed_ending : Ending Bool
freed_ending =
    record {
      coding = flags;
      own_then = freed_then;
      asks = nothing_asked;
      good = λ freed. freed;
      names = no_names;
      first = λ place. false;
    }

freed_after : (ms : List Mark) (freed : Bool) → own_after freed_then freed (map past_of ms) ≡ (freed || is_freed ms)
freed_after [] freed = elim freed as (λ b. b ≡ (b || false)) [ true ↦ refl | false ↦ refl ]
freed_after (m ∷ ms) freed =
    rw (or_more freed (frees m) (is_freed ms)) (freed_after ms (freed || frees m))

freed_at_end : {T : Type 0} → Passed (kept freed_ending) T → EachRun T is_freed_at_end
freed_at_end each s r worlds moves entries is_run =
    subst (λ freed. only_if (all_ended (marks (calls_of s r) entries)) freed ≡ true)
    (freed_after (marks (calls_of s r) entries) false)
    (at_the_end freed_ending (record { none = refl; own_same = λ k freed g. refl }) each s r worlds moves entries
    is_run)

pub freed_right : {T : Type 0} → Passed held_law T → Passed free_law T → Passed (kept freed_ending) T
    → EachRun T is_freed_right
freed_right by_holders last at_end s r worlds moves entries is_run =
    both _ _
    (both _ _ (held_run by_holders s r worlds moves entries is_run) (free_last_run last s r worlds moves entries
    is_run))
    (freed_at_end at_end s r worlds moves entries is_run)
