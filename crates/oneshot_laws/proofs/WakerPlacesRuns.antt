-- Each waker, by its name, is always in one place, and has ended once all have.
use Rattle.oneshot_laws.proofs.Names.{arith, ◌≡◌, ℕ, ◌+◌, ◌==◌, Bool, true, false, ◌&&◌, ◌||◌, List, [], ◌∷◌, Option, Some, None, nat_lt, refl, if◌then◌else◌, eqb-true, ne_eqb, ltb-true, lt-ltb}
use Rattle.oneshot_laws.proofs.Names.{option_map, calls_of, Classes, all_alike, as_name, as_move, bool_code, one_poll, WakerMove, is_same_waker, World, IsRun, opening, Move, ReceiverScript}
use Rattle.oneshot_laws.proofs.Names.{SenderScript, Entry, WakerName, Parker, Copy, WakerPlace, New, Hand, Cell, SenderHand, Used, and_left, and_right, or_right, is_listed, marks, is_same_waker_place}
use Rattle.oneshot_laws.proofs.Names.{is_waker_move, is_waker_end, AreWakersRight}
use Rattle.oneshot_world.specs.declared.trace.WakerPlace.TheVariants.{Dropped}
use Rattle.oneshot_laws.proofs.EndedRuns.{Ending, PassesEnding, kept, asked_run, ended_run}
use Rattle.oneshot_laws.proofs.PastLaws.{with_history, LawExplored, all_past, passes_by, Passed}
use Rattle.oneshot_laws.proofs.Product.{Names, no_names}
use Rattle.oneshot_laws.proofs.ProductRuns.{Classed}
use Rattle.oneshot_laws.proofs.Fresh.{is_fresh}
use Rattle.oneshot_laws.proofs.WakerPaths.{name_followed, name_ended, may_move, goes_to, moves_of_one, IsFollowed}

-- THE PARKER'S HALF, which is in the hand at first
abbrev pub parker_moves : Ending WakerPlace
parker_moves = moves_of_one Parker no_names

same_as_parker : (x : WakerName) → is_same_waker (as_name all_alike x) Parker ≡ is_same_waker x Parker
same_as_parker Parker = refl
same_as_parker (Copy number entry) = refl

parker_is_followed : IsFollowed all_alike Parker Parker
parker_is_followed = record { same_name = same_as_parker; same_move = λ from to. refl; same_end = λ place. refl }

-- A COPY, which is new at first. Its class is 1, and that of all others 0.
abbrev this_copy : WakerName
this_copy = Copy 1 0

-- it may be made while it is new, and no copy has its name afterwards
abbrev copies_at : WakerPlace → List ℕ
copies_at New = 0 ∷ 1 ∷ []
copies_at _ = 0 ∷ []

abbrev of_one_copy : Names WakerPlace
of_one_copy = record { polls = one_poll; copies = λ place number. copies_at place }

abbrev copy_moves : Ending WakerPlace
copy_moves = moves_of_one this_copy of_one_copy

copy_explored : LawExplored (kept copy_moves)
copy_explored = record { found = all_past (kept copy_moves); all = refl }

copy_move : (a i b j : ℕ) (from to : WakerPlace) → is_waker_move (Copy a i) from to ≡ is_waker_move (Copy b j) from to
copy_move a i b j New to = refl
copy_move a i b j Hand to = refl
copy_move a i b j Cell to = refl
copy_move a i b j SenderHand to = refl
copy_move a i b j Used to = refl
copy_move a i b j Dropped to = refl

copy_ended : (a i b j : ℕ) (place : WakerPlace) → is_waker_end (Copy a i) place ≡ is_waker_end (Copy b j) place
copy_ended a i b j New = refl
copy_ended a i b j Hand = refl
copy_ended a i b j Cell = refl
copy_ended a i b j SenderHand = refl
copy_ended a i b j Used = refl
copy_ended a i b j Dropped = refl

abbrev is_new : WakerPlace → Bool
is_new New = true
is_new _ = false

-- the copy of a number's waker that an entry makes
module _ (number entry : ℕ) where
  abbrev following : Classes
  following = record { copies = λ a i. bool_code (a == number && i == entry); polls = λ a. 0 }

  is_one : (b : Bool) → (bool_code b == 1 && 0 == 0) ≡ b
  is_one true = refl
  is_one false = refl

  same_as_copy : (x : WakerName) → is_same_waker (as_name following x) this_copy ≡ is_same_waker x (Copy number entry)
  same_as_copy Parker = refl
  same_as_copy (Copy a i) = is_one (a == number && i == entry)

  copy_is_followed : IsFollowed following (Copy number entry) this_copy
  copy_is_followed =
      record {
        same_name = same_as_copy;
        same_move = copy_move 1 0 number entry;
        same_end = copy_ended 1 0 number entry;
      }

  -- it is new, or its entry is past
  abbrev is_new_or_past : ℕ → WakerPlace → Bool
  is_new_or_past n place = is_new place || nat_lt entry n

  either : (b : Bool) → is_listed (bool_code b) (0 ∷ 1 ∷ []) ≡ true
  either true = refl
  either false = refl

  none_of : (a b : Bool) → b ≡ false → is_listed (bool_code (a && b)) (0 ∷ []) ≡ true
  none_of true b h = rw h refl
  none_of false b h = refl

  is_past : (n : ℕ) → nat_lt entry n ≡ true → (n == entry) ≡ false
  is_past n h = ne_eqb n entry (λ same. omega (arith, ltb-true entry n h, same))

  copied_at : (n : ℕ) (place : WakerPlace) → is_new_or_past n place ≡ true → (a : ℕ)
      → is_listed (following.copies a n) (copies_at place) ≡ true
  copied_at n New h a = either (a == number && n == entry)
  copied_at n _ h a = none_of (a == number) (n == entry) (is_past n h)

  next_past : (n : ℕ) → nat_lt entry n ≡ true → nat_lt entry (n + 1) ≡ true
  next_past n h = lt-ltb entry (n + 1) (omega (arith, ltb-true entry n h))

  pub later : (n : ℕ) (b : Bool) → (b || nat_lt entry n) ≡ true → (b || nat_lt entry (n + 1)) ≡ true
  later n true h = refl
  later n false h = next_past n h

  made_now : (n i : ℕ) → (i == entry) ≡ true → (i == n) ≡ true → nat_lt entry (n + 1) ≡ true
  made_now n i this now = lt-ltb entry (n + 1) (omega (arith, eqb-true i entry this, eqb-true i n now))

  -- it is made, now or before
  is_made : (n a i : ℕ) (from to place : WakerPlace) → is_new_or_past n place ≡ true
      → (is_same_waker_place from place && is_waker_move this_copy from to) ≡ true → (i == entry) ≡ true
      → is_fresh n (Some (Copy a i, from, to)) ≡ true → nat_lt entry (n + 1) ≡ true
  is_made n a i New to place past may this fresh = made_now n i this fresh
  is_made n a i from to Hand past may this fresh = next_past n past
  is_made n a i from to Cell past may this fresh = next_past n past
  is_made n a i from to SenderHand past may this fresh = next_past n past
  is_made n a i from to Used past may this fresh = next_past n past
  is_made n a i from to Dropped past may this fresh = next_past n past
  is_made n a i from to New past may this fresh = cc

  goes_by : (n a i : ℕ) (from to place : WakerPlace) (b : Bool) → (a == number && i == entry) ≡ b
      → is_new_or_past n place ≡ true
      → (if bool_code b == 1 && 0 == 0 then is_same_waker_place from place && is_waker_move this_copy from to else true)
      ≡ true → is_fresh n (Some (Copy a i, from, to)) ≡ true
      → is_new_or_past (n + 1) (if bool_code b == 1 && 0 == 0 then to else place) ≡ true
  goes_by n a i from to place true this past may fresh =
      or_right (is_new to) _ (is_made n a i from to place past may (and_right (a == number) _ this) fresh)
  goes_by n a i from to place false this past may fresh = later n (is_new place) past

  goes_at : (n : ℕ) (place : WakerPlace) (x : Option WakerMove) → is_new_or_past n place ≡ true
      → may_move this_copy place (option_map (as_move following) x) ≡ true → is_fresh n x ≡ true
      → is_new_or_past (n + 1) (goes_to this_copy place (option_map (as_move following) x)) ≡ true
  goes_at n place None past may fresh = later n (is_new place) past
  goes_at n place (Some (Parker, from, to)) past may fresh = later n (is_new place) past
  goes_at n place (Some (Copy a i, from, to)) past may fresh =
      goes_by n a i from to place (a == number && i == entry) refl past may fresh

  abbrev copy_classed : Classed (with_history (kept copy_moves)) following
  copy_classed =
      record {
        apt = λ n x. is_new_or_past n x.state.own;
        polled = λ a. refl;
        copied = λ n x past a. copied_at n x.state.own past a;
        stays = λ n x past. later n (is_new x.state.own) past;
        goes = λ n x side call e past a fresh. goes_at n x.state.own e.waker past (and_left _ _ (and_right _ _ a))
            fresh;
      }

module _ {T : Type 0} (each : Passed (kept parker_moves) T) (s : SenderScript T) (r : ReceiverScript)
    (worlds : List World) (moves : List Move) (entries : List Entry)
    (is_run : IsRun (opening s r) worlds moves entries) where
  copy_passes : (number entry : ℕ) → PassesEnding copy_moves (following number entry) s r entries
  copy_passes number entry =
      passes_by (kept copy_moves) (following number entry) (copy_classed number entry) copy_explored s r worlds moves
      entries refl is_run

  pub wakers_right : AreWakersRight entries (marks (calls_of s r) entries)
  wakers_right Parker = (
    name_followed s r entries all_alike Parker Parker no_names parker_is_followed
        (asked_run parker_moves all_alike s r entries (each s r worlds moves entries is_run)),
    name_ended s r entries all_alike Parker Parker no_names parker_is_followed
        (ended_run parker_moves all_alike s r entries (each s r worlds moves entries is_run)),
  )
  wakers_right (Copy number entry) = (
    name_followed s r entries (following number entry) (Copy number entry) this_copy of_one_copy
        (copy_is_followed number entry)
        (asked_run copy_moves (following number entry) s r entries (copy_passes number entry)),
    name_ended s r entries (following number entry) (Copy number entry) this_copy of_one_copy
        (copy_is_followed number entry)
        (ended_run copy_moves (following number entry) s r entries (copy_passes number entry)),
  )
