-- A reader that the checker explored with the world accepts each run of two scripts.
use Rattle.oneshot_laws.proofs.Names.{◌≡◌, ℕ, ◌+◌, Bool, true, false, List, [], ◌∷◌, None, refl, sym, subst, list_all, option_and_then, receiver_step, sender_step, End, Sender, Receiver, Call, first}
use Rattle.oneshot_laws.proofs.Names.{number_of, calls_of, Classes, all_alike, as_made, as_entry, Control, control_of, begins, control_turn, as_control, IsReached, sender_stepped, receiver_stepped}
use Rattle.oneshot_laws.proofs.Names.{World, IsRunFrom, IsRun, opening, opening_place, side_of, by_end, no_input, receiver_input, Move, ReceiverScript, SenderLast, SenderScript, Entry, Made}
use Rattle.oneshot_laws.proofs.Names.{and_left, and_right, passes_where_found, is_listed, sender_passes, receiver_passes, sender_world, receiver_world, sender_control_is, receiver_control_is}
use Rattle.oneshot_laws.proofs.Names.{opening_reached, Turned, sender_idle, sender_made, receiver_idle, receiver_made, turned, turned_reaches, Mark, marks}
use Rattle.oneshot_world.specs.declared.script.SenderLast.TheVariants as SL
use Rattle.oneshot_laws.proofs.Fresh.{is_fresh, move_fresh}
use Rattle.oneshot_laws.proofs.Product.{Product, no_names, Automaton, product_coding, reads_entry, begins_beside, opening_product, is_product_in, passes_on, Explored, class_under_way, Accepts_by}

-- Each poll and each copy has a class that was explored. `apt` relates a reader to the number of the entry
-- that is made next, as far as the classes of copies depend on it.
pub record Classed {M : Type 0} (a : Automaton M) (k : Classes) : Type 0 where
  pub apt : ℕ → M → Bool
  pub polled : (number : ℕ) → is_listed (k.polls number) a.names.polls ≡ true
  pub copied : (n : ℕ) (m : M) → apt n m ≡ true → (number : ℕ)
      → is_listed (k.copies number n) (a.names.copies m (k.polls number)) ≡ true
  pub stays : (n : ℕ) (m : M) → apt n m ≡ true → apt (n + 1) m ≡ true
  pub goes : (n : ℕ) (m : M) (side : End) (call : Call) (e : Made) → apt n m ≡ true
      → a.accepts side call (as_made k e) m ≡ true → is_fresh n e.waker ≡ true
      → apt (n + 1) (a.reads side call (as_made k e) m) ≡ true

abbrev pub all_classed : {M : Type 0} (a : Automaton M) → a.names ≡ no_names → Classed a all_alike
all_classed a none =
    record {
      apt = λ n m. true;
      polled = λ number. subst (λ names. is_listed 0 names.polls ≡ true) (sym none) refl;
      copied = λ n m apt number. subst (λ names. is_listed 0 (names.copies m 0) ≡ true) (sym none) refl;
      stays = λ n m apt. refl;
      goes = λ n m side call e apt h fresh. refl;
    }

module _ {M : Type 0} (a : Automaton M) (k : Classes) (classed : Classed a k) (explored : Explored a) where
  -- the pair, as it was explored
  abbrev pub beside : Control → M → Product M
  beside c m = record { control = as_control k c; reader = m }

  abbrev IsFoundAt : Control → M → Type 0
  IsFoundAt c m = is_product_in a explored.found (beside c m) ≡ true

  abbrev pub IsFound : World → M → Type 0
  IsFound w m = IsFoundAt (control_of w) m

  passing : (w : World) (m : M) → IsFound w m
      → list_all (λ b. passes_on a explored.found m b (control_turn (as_control k (control_of w)) b))
      (begins a.names.polls (a.names.copies m) (as_control k (control_of w))) ≡ true
  passing w m h =
      passes_where_found (product_coding a).code (product_coding a).is_same (product_coding a).sound
      (λ x. list_all (λ b. passes_on a explored.found x.reader b (control_turn x.control b)) (begins_beside a x))
      explored.found (beside (control_of w) m) (and_right _ _ (and_right _ _ explored.all)) h

  -- a pair that was found leads to one that was found
  pub found_next : (n : ℕ) (side : End) (w : World) (entry : Entry) (next : World) (m : M) → Turned n w side entry next
      → IsReached w → IsFound w m → classed.apt n m ≡ true
      → IsFound next (reads_entry a (class_under_way k (by_end side w.sender w.receiver)) (as_entry k entry) m)
  found_next n _ w _ _ m (sender_idle at) h f apt = f
  found_next n _ w _ _ m (receiver_idle at) h f apt = f
  found_next n _ w _ _ m (sender_made position row at steps) h f apt =
      let passed =
      rw steps at (sender_passes k a.names.polls (a.names.copies m) (passes_on a explored.found m) w position
      h at (passing w m f)) in
      subst (λ c. IsFoundAt c (a.reads Sender (class_under_way k w.sender)
      (as_made k (sender_stepped no_input w.state (sender_step position) row).0) m))
      (sender_control_is w (sender_step position) row)
      (and_right _ _ passed)
  found_next n _ w _ _ m (receiver_made answer position row at steps) h f apt =
      let passed =
      rw steps at (receiver_passes k a.names.polls (a.names.copies m) (passes_on a explored.found m) n
      classed.polled (classed.copied n m apt) answer w position h at (passing w m f)) in
      subst (λ c. IsFoundAt c (a.reads Receiver (class_under_way k w.receiver)
      (as_made k (receiver_stepped (receiver_input answer n w) w.state (receiver_step position) row).0) m))
      (receiver_control_is (receiver_input answer n w) w (receiver_step position) row)
      (and_right _ _ passed)

  -- every run from here on with these entries, numbered from n on, is accepted
  abbrev Claim : List Entry → Type 0
  Claim entries =
      (n : ℕ) (w : World) (m : M) (worlds : List World) (moves : List Move) → IsReached w → IsFound w m
      → classed.apt n m ≡ true → IsRunFrom n w worlds moves entries → Accepts_by a k m w.sender w.receiver entries

  accepted_turn : (entries : List Entry) → Claim entries
      → (n : ℕ) (side : End) (w : World) (entry : Entry) (next : World) (m : M) (worlds : List World)
      (moves : List Move) → Turned n w side entry next → IsReached w → IsReached next → IsFound w m
      → classed.apt n m ≡ true → IsRunFrom (n + 1) next worlds moves entries
      → Accepts_by a k m w.sender w.receiver (entry ∷ entries)
  accepted_turn entries later n _ w _ _ m worlds moves (sender_idle at) h r f apt is_run =
      later (n + 1) w m worlds moves h f (classed.stays n m apt) is_run
  accepted_turn entries later n _ w _ _ m worlds moves (receiver_idle at) h r f apt is_run =
      later (n + 1) w m worlds moves h f (classed.stays n m apt) is_run
  accepted_turn entries later n _ w _ _ m worlds moves (sender_made position row at steps) h r f apt is_run =
      let passed =
      rw steps at (sender_passes k a.names.polls (a.names.copies m) (passes_on a explored.found m) w position
      h at (passing w m f)) in (
        and_left _ _ passed,
        later (n + 1) (sender_world w (sender_step position) row) _ worlds moves r
            (found_next n Sender w _ _ m (sender_made position row at steps) h f apt)
            (classed.goes n m Sender (class_under_way k w.sender)
            (sender_stepped no_input w.state (sender_step position) row).0 apt (and_left _ _ passed)
            (move_fresh n false None w.state.word w.state.wakers (sender_step position)))
            is_run,
      )
  accepted_turn entries later n _ w _ _ m worlds moves (receiver_made answer position row at steps) h r f apt is_run =
      let passed =
      rw steps at (receiver_passes k a.names.polls (a.names.copies m) (passes_on a explored.found m) n
      classed.polled (classed.copied n m apt) answer w position h at (passing w m f)) in (
        and_left _ _ passed,
        later (n + 1) (receiver_world (receiver_input answer n w) w (receiver_step position) row) _ worlds moves r
            (found_next n Receiver w _ _ m (receiver_made answer position row at steps) h f apt)
            (classed.goes n m Receiver (class_under_way k w.receiver)
            (receiver_stepped (receiver_input answer n w) w.state (receiver_step position) row).0 apt
            (and_left _ _ passed) (move_fresh n answer (option_and_then number_of (first w.receiver.calls))
            w.state.word w.state.wakers (receiver_step position)))
            is_run,
      )

  pub accepted : (entries : List Entry) → Claim entries
  accepted [] n w m worlds moves h f apt is_run = tt
  accepted (entry ∷ entries) n w m (next ∷ worlds) (move ∷ moves) h f apt is_run =
      let by : Turned n w (side_of move) entry next = turned n w move (entry, next) is_run.0 in
      accepted_turn entries (accepted entries) n (side_of move) w entry next m worlds moves by h
      (turned_reaches n (side_of move) w entry next h by) f apt is_run.1
  accepted (entry ∷ entries) n w m [] [] h f apt is_run = elim is_run [ ]
  accepted (entry ∷ entries) n w m [] (move ∷ moves) h f apt is_run = elim is_run [ ]
  accepted (entry ∷ entries) n w m (next ∷ worlds) [] h f apt is_run = elim is_run [ ]

-- each run of two scripts is accepted
module _ {M : Type 0} (a : Automaton M) (k : Classes) (classed : Classed a k) (explored : Explored a) where
  pub opening_found : {T : Type 0} (last : SenderLast T)
      → is_product_in a explored.found (opening_product a (opening_place last)) ≡ true
  opening_found (SL.Send message error) = and_left _ _ (and_right _ _ explored.all)
  opening_found SL.Drop = and_left _ _ explored.all
  opening_found SL.Stop = and_left _ _ explored.all

  pub accepted_run : {T : Type 0} (s : SenderScript T) (r : ReceiverScript) (worlds : List World) (moves : List Move)
      (entries : List Entry) → classed.apt 1 (a.first (opening_place s.last)) ≡ true
      → IsRun (opening s r) worlds moves entries
      → Accepts_by a k (a.first (opening_place s.last)) (opening s r).sender (opening s r).receiver entries
  accepted_run s r worlds moves entries apt is_run =
      accepted a k classed explored entries 1 (opening s r) (a.first (opening_place s.last)) worlds moves
      (opening_reached s r) (opening_found s.last) apt is_run

-- a claim on the marks of each run of two scripts
abbrev pub EachRun : Type 0 → (List Mark → Bool) → Type 0
EachRun T claim =
    (s : SenderScript T) (r : ReceiverScript) (worlds : List World) (moves : List Move) (entries : List Entry)
    → IsRun (opening s r) worlds moves entries → claim (marks (calls_of s r) entries) ≡ true
