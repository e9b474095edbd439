-- A test of the wakers that a trace moves shows the law of all: any other waker stays at its first place.
use Rattle.std.proofs.Common.{◌≡◌, ◌⊎◌, inl, inr, ℕ, Bool, true, false, List, [], ◌∷◌, refl, subst}
use Rattle.std.specs.List.{list_all}
use Rattle.oneshot_world.specs.Wakers.{WakerMove, is_same_waker}
use Rattle.oneshot_world.specs.declared.trace.Entry.{Entry}
use Rattle.oneshot_world.specs.declared.trace.WakerName.{WakerName}
use Rattle.oneshot_world.specs.declared.trace.WakerName.TheVariants.{Parker, Copy}
use Rattle.oneshot_world.proofs.Bools.{and_left, and_right, both}
use Rattle.oneshot_world.proofs.ControlCodes.{waker_is}
use Rattle.oneshot_laws.specs.Ended.{all_ended}
use Rattle.oneshot_laws.specs.Entries.{only_if}
use Rattle.oneshot_laws.specs.Marks.{Mark}
use Rattle.oneshot_laws.specs.WakerPlaces.{moves_of_waker, waker_moves, is_waker_followed, AreWakersRight}
use Rattle.oneshot_law_examples.specs.LawExamples.{is_waker_right, are_wakers_right}
use Rattle.oneshot_law_examples.specs.RecordExamples.{WakersAreComputed}

true_or_false : (b : Bool) → (b ≡ true) ⊎ (b ≡ false)
true_or_false true = inl refl
true_or_false false = inr refl

only_if_so : (b : Bool) → only_if b true ≡ true
only_if_so true = refl
only_if_so false = refl

-- a copy that nothing moved
unmoved : (entries : List Entry) (ms : List Mark) (number entry : ℕ)
    → moves_of_waker (Copy number entry) (waker_moves entries) ≡ []
    → is_waker_right entries ms (Copy number entry) ≡ true
unmoved entries ms number entry none = rw none (only_if_so (all_ended ms))

-- a waker passes a test that each moved one passes, or none of these moves is its own
abbrev IsMet : (WakerName → Bool) → WakerName → List WakerMove → Type 0
IsMet test name moves = (test name ≡ true) ⊎ (moves_of_waker name moves ≡ [])

met_later : (test : WakerName → Bool) (name : WakerName) (move : WakerMove) (moves : List WakerMove)
    → is_same_waker move.0 name ≡ false → IsMet test name moves → IsMet test name (move ∷ moves)
met_later test name move moves other (inl passes) = inl passes
met_later test name move moves other (inr none) = inr (rw other none)

met : (test : WakerName → Bool) (name : WakerName) (moves : List WakerMove)
    → list_all (λ (move : WakerMove). test move.0) moves ≡ true → IsMet test name moves
met test name [] h = inr refl
met test name (move ∷ moves) h =
    elim (true_or_false (is_same_waker move.0 name)) [
      | inl same ↦ inl (subst (λ name. test name ≡ true) (waker_is move.0 name same) (and_left (test move.0) _ h))
      | inr other ↦ met_later test name move moves other (met test name moves (and_right (test move.0) _ h))
    ]

each_right : (entries : List Entry) (ms : List Mark) (name : WakerName) → are_wakers_right entries ms ≡ true
    → is_waker_right entries ms name ≡ true
each_right entries ms Parker right = and_left (is_waker_right entries ms Parker) _ right
each_right entries ms (Copy number entry) right =
    elim (met (is_waker_right entries ms) (Copy number entry) (waker_moves entries)
    (and_right (is_waker_right entries ms Parker) _ right)) [
      | inl passes ↦ passes
      | inr none ↦ unmoved entries ms number entry none
    ]

all_pass : (test : WakerName → Bool) → ((name : WakerName) → test name ≡ true) → (moves : List WakerMove)
    → list_all (λ (move : WakerMove). test move.0) moves ≡ true
all_pass test passes [] = refl
all_pass test passes (move ∷ moves) = both (test move.0) _ (passes move.0) (all_pass test passes moves)

one_right : (entries : List Entry) (ms : List Mark) → AreWakersRight entries ms → (name : WakerName)
    → is_waker_right entries ms name ≡ true
one_right entries ms right name = both (is_waker_followed entries name) _ (right name).0 (right name).1

pub wakers_are_computed : WakersAreComputed
wakers_are_computed =
    record {
      of_all =
          λ entries ms right name. (
            and_left (is_waker_followed entries name) _ (each_right entries ms name right),
            and_right (is_waker_followed entries name) _ (each_right entries ms name right),
          );
      of_each =
          λ entries ms right. both (is_waker_right entries ms Parker) _ (one_right entries ms right Parker)
          (all_pass (is_waker_right entries ms) (one_right entries ms right) (waker_moves entries));
    }
