-- A waker that is followed by its class is on a path of allowed moves by its name.
use Rattle.oneshot_laws.proofs.Names.{◌≡◌, ℕ, ◌+◌, Bool, true, false, ◌&&◌, List, [], ◌∷◌, Option, Some, None, map, get_or, refl, sym, ◌∙◌, ap, subst, if◌then◌else◌, filter_map, cons_option}
use Rattle.oneshot_laws.proofs.Names.{option_map, calls_of, Classes, as_name, as_move, WakerMove, is_same_waker, ReceiverScript, SenderScript, Entry, WakerName, WakerPlace, New, Hand, Cell}
use Rattle.oneshot_laws.proofs.Names.{SenderHand, Used, both, only_if, Object, Reading, Mark, marks, marks_from, all_ended, is_path, last_place, waker_place_code, is_same_waker_place, is_waker_move}
use Rattle.oneshot_laws.proofs.Names.{first_waker_place, waker_moves, moves_of_waker, is_waker_followed, is_waker_end, is_waker_ended}
use Rattle.oneshot_world.specs.declared.trace.Entry.TheVariants.{Idle, Made as Made_entry}
use Rattle.oneshot_world.specs.declared.trace.WakerPlace.TheVariants.{Dropped}
use Rattle.oneshot_laws.proofs.Coding.{listed}
use Rattle.oneshot_laws.proofs.EndedRuns.{Ending, Asked, own_after}
use Rattle.oneshot_laws.proofs.PastLaws.{as_past}
use Rattle.oneshot_laws.proofs.PastViews.{PastView, past_of}
use Rattle.oneshot_laws.proofs.Product.{Names}

-- the moves that marks show
abbrev pub shown_by : List Mark → List WakerMove
shown_by ms = filter_map (λ m. m.entry.waker) ms

pub shown : (es : List Entry) (s r : Reading) (n : ℕ) (o : Object) → waker_moves es ≡ shown_by (marks_from s r n o es)
shown [] s r n o = refl
shown (Idle side ∷ es) s r n o = shown es s r (n + 1) o
shown (Made_entry e ∷ es) s r n o = ap (cons_option e.waker) (shown es _ _ _ _)

-- the waker that is followed moves from its place; the others do not matter
abbrev pub may_move : WakerName → WakerPlace → Option WakerMove → Bool
may_move this place None = true
may_move this place (Some move) =
    if is_same_waker move.0 this then is_same_waker_place move.1 place && is_waker_move this move.1 move.2 else true

abbrev pub goes_to : WakerName → WakerPlace → Option WakerMove → WakerPlace
goes_to this place None = place
goes_to this place (Some move) = if is_same_waker move.0 this then move.2 else place

abbrev place_then : WakerName → WakerPlace → PastView → WakerPlace
place_then this place g = goes_to this place g.entry.waker

abbrev waker_places : List WakerPlace
waker_places = New ∷ Hand ∷ Cell ∷ SenderHand ∷ Used ∷ Dropped ∷ []

pub waker_place_back : (x : WakerPlace) → get_or waker_places (waker_place_code x) New ≡ x
waker_place_back New = refl
waker_place_back Hand = refl
waker_place_back Cell = refl
waker_place_back SenderHand = refl
waker_place_back Used = refl
waker_place_back Dropped = refl

-- a waker that begins there makes only allowed moves, and is at an end once all have ended
abbrev pub moves_of_one : WakerName → Names WakerPlace → Ending WakerPlace
moves_of_one this names =
    record {
      coding = listed 6 waker_place_code waker_places New waker_place_back;
      own_then = place_then this;
      asks = λ place g. may_move this place g.entry.waker;
      good = is_waker_end this;
      names = names;
      first = λ place. first_waker_place this;
    }

abbrev IsPath : WakerName → WakerPlace → List WakerMove → Type 0
IsPath name place moves = is_path is_same_waker_place (is_waker_move name) place (moves_of_waker name moves) ≡ true

-- A name whose class, `this`, no other name has, and which moves as its class does.
pub record IsFollowed (k : Classes) (name this : WakerName) : Type 0 where
  pub same_name : (x : WakerName) → is_same_waker (as_name k x) this ≡ is_same_waker x name
  pub same_move : (from to : WakerPlace) → is_waker_move this from to ≡ is_waker_move name from to
  pub same_end : (place : WakerPlace) → is_waker_end this place ≡ is_waker_end name place

-- what is seen of it by its class holds of it by its name
module _ (k : Classes) (name this : WakerName) (names : Names WakerPlace) (followed : IsFollowed k name this) where
  if_this : (same : Bool) (from to place : WakerPlace) (later : List WakerMove)
      → (if same then is_same_waker_place from place && is_waker_move this from to else true) ≡ true
      → IsPath name (if same then to else place) later → is_path is_same_waker_place (is_waker_move name) place
      (cons_option (if same then Some (from, to) else None) (moves_of_waker name later)) ≡ true
  if_this true from to place later h p =
      both (is_same_waker_place from place && is_waker_move name from to) _ (rw (followed.same_move from to) at h) p
  if_this false from to place later h p = p

  one_move : (x : Option WakerMove) (place : WakerPlace) (later : List WakerMove)
      → may_move this place (option_map (as_move k) x) ≡ true
      → IsPath name (goes_to this place (option_map (as_move k) x)) later → IsPath name place (cons_option x later)
  one_move None place later h p = p
  one_move (Some (other, from, to)) place later h p =
      if_this (is_same_waker other name) from to place later
      (subst (λ same. (if same then is_same_waker_place from place && is_waker_move this from to else true) ≡ true)
      (followed.same_name other) h)
      (subst (λ same. IsPath name (if same then to else place) later) (followed.same_name other) p)

  path_of_waker : (ms : List Mark) (place : WakerPlace)
      → Asked (moves_of_one this names) place (map (as_past k) (map past_of ms)) → IsPath name place (shown_by ms)
  path_of_waker [] place p = refl
  path_of_waker (m ∷ ms) place p =
      one_move m.entry.waker place (shown_by ms) p.0
      (path_of_waker ms (place_then this place (as_past k (past_of m))) p.1)

  -- its place at the end
  last_if : (same : Bool) (from to place : WakerPlace) (later : List WakerMove)
      → last_place (if same then to else place) (moves_of_waker name later)
      ≡ last_place place (cons_option (if same then Some (from, to) else None) (moves_of_waker name later))
  last_if true from to place later = refl
  last_if false from to place later = refl

  last_after : (x : Option WakerMove) (place : WakerPlace) (later : List WakerMove)
      → last_place (goes_to this place (option_map (as_move k) x)) (moves_of_waker name later)
      ≡ last_place place (moves_of_waker name (cons_option x later))
  last_after None place later = refl
  last_after (Some (other, from, to)) place later =
      ap (λ same. last_place (if same then to else place) (moves_of_waker name later)) (followed.same_name other)
      ∙ last_if (is_same_waker other name) from to place later

  place_after : (ms : List Mark) (place : WakerPlace)
      → own_after (place_then this) place (map (as_past k) (map past_of ms))
      ≡ last_place place (moves_of_waker name (shown_by ms))
  place_after [] place = refl
  place_after (m ∷ ms) place =
      place_after ms (place_then this place (as_past k (past_of m))) ∙ last_after m.entry.waker place (shown_by ms)

-- of a run
module _ {T : Type 0} (s : SenderScript T) (r : ReceiverScript) (entries : List Entry) where
  abbrev MarksOfRun : List Mark
  MarksOfRun = marks (calls_of s r) entries

  same_moves : waker_moves entries ≡ shown_by MarksOfRun
  same_moves = shown entries _ _ 1 _

  module _ (k : Classes) (name this : WakerName) (names : Names WakerPlace) (followed : IsFollowed k name this) where
    pub name_followed : Asked (moves_of_one this names) (first_waker_place name)
        (map (as_past k) (map past_of MarksOfRun)) → is_waker_followed entries name ≡ true
    name_followed p =
        subst (λ ms. IsPath name (first_waker_place name) ms) (sym same_moves)
        (path_of_waker k name this names followed MarksOfRun (first_waker_place name) p)

    pub name_ended : only_if (all_ended MarksOfRun)
        (is_waker_end this (own_after (place_then this) (first_waker_place name)
        (map (as_past k) (map past_of MarksOfRun)))) ≡ true → is_waker_ended entries MarksOfRun name ≡ true
    name_ended h =
        subst (λ good. only_if (all_ended MarksOfRun) good ≡ true)
        (followed.same_end _
        ∙ ap (is_waker_end name) (place_after k name this names followed MarksOfRun (first_waker_place name) ∙ ap
        (λ ms. last_place (first_waker_place name) (moves_of_waker name ms)) (sym same_moves)))
        h
