-- No receiver waits unwoken: in each run, once the sender's send or drop has replied, a receiver about to
-- park has its token, and no task waits.
use Rattle.oneshot_laws.proofs.Names.{◌≡◌, ℕ, ◌+◌, Bool, true, false, not, ◌&&◌, ◌||◌, List, [], ◌∷◌, map, refl, sym, ◌∙◌, ap, subst, receiver_step, End, Sender, Receiver, Unanswered, left_by}
use Rattle.oneshot_laws.proofs.Names.{calls_of, all_alike, as_made, as_entry, IsReached, sender_step, sender_stepped, receiver_stepped, reply_of, World, IsRunFrom, IsRun, opening, side_of, by_end}
use Rattle.oneshot_laws.proofs.Names.{no_input, receiver_input, Move, ReceiverScript, SenderScript, Entry, Made, both, sender_world, receiver_world, opening_reached, Turned, sender_idle}
use Rattle.oneshot_laws.proofs.Names.{sender_made, receiver_idle, receiver_made, turned, turned_reaches, Object, is_end_of_sender, Reading, read, Mark, marks, marks_from, sender_reading}
use Rattle.oneshot_laws.proofs.Names.{receiver_reading, call_under_way, has_answered, ahead_of, waits_in_park, waits_in_task, is_unwoken, is_never_unwoken, NeverUnwoken}
use Rattle.oneshot_world.specs.declared.trace.Entry.TheVariants.{Idle, Made as Made_entry}
use Rattle.oneshot_laws.proofs.EndedRuns.{or_more, or_false}
use Rattle.oneshot_laws.proofs.Product.{class_under_way, class_is, reads_entry}
use Rattle.oneshot_laws.proofs.ProductRuns.{found_next, opening_found}
use Rattle.oneshot_laws.proofs.PastLaws.{of_call}
use Rattle.oneshot_laws.proofs.UnwokenTasks.{no_task_waits}
use Rattle.oneshot_laws.proofs.UnwokenParks.{ends_sender_at, ended_reader, explored, ended_classed, Found, awake}

-- a turn leads to what was found; the reader reads no number
next_found : (n : ℕ) (side : End) (w : World) (entry : Entry) (next : World) (ended : Bool) → Turned n w side entry next
    → IsReached w → Found w ended → true ≡ true
    → Found next (reads_entry ended_reader (class_under_way all_alike (by_end side w.sender w.receiver))
    (as_entry all_alike entry) ended)
next_found = found_next ended_reader all_alike ended_classed explored

same_answered : (left : Unanswered) (e : Made)
    → ends_sender_at (class_under_way all_alike left) (as_made all_alike e) ≡ ends_sender_at (call_under_way left) e
same_answered left e =
    ap (λ call. ends_sender_at call e) (class_is all_alike left)
    ∙ of_call all_alike (λ call. ends_sender_at call e) (λ a b. refl) (call_under_way left)

-- whether the sender's last call replies in a front of the trace
abbrev ended_in : Reading → Reading → List Entry → Bool
ended_in s r [] = false
ended_in s r (Idle side ∷ es) = ended_in s r es
ended_in s r (Made_entry e ∷ es) =
    ends_sender_at (call_under_way (by_end e.side s r).left) e
    || ended_in (by_end e.side (read s e) s) (by_end e.side r (read r e)) es

answered_in : (es : List Entry) (s r : Reading) (n : ℕ) (o : Object)
    → has_answered is_end_of_sender (marks_from s r n o es) ≡ ended_in s r es
answered_in [] s r n o = refl
answered_in (Idle side ∷ es) s r n o = answered_in es s r (n + 1) o
answered_in (Made_entry e ∷ es) s r n o =
    ap (λ later. ends_sender_at (call_under_way (by_end e.side s r).left) e || later) (answered_in es _ _ _ _)

-- in no run from here on does a task wait
abbrev NoTaskWaits : (List Entry → List Mark) → ℕ → World → Type 0
NoTaskWaits so_far n w =
    (worlds : List World) (moves : List Move) (front : List Entry) → IsRunFrom n w worlds moves front
    → not (has_answered is_end_of_sender (so_far front) && waits_in_task (so_far front)) ≡ true

-- the moments from a world on
abbrev Claim : List Entry → Type 0
Claim entries =
    (so_far : List Entry → List Mark) (n : ℕ) (w : World) (s r : Reading) (ended : Bool) (worlds : List World)
    (moves : List Move)
    → s.left ≡ w.sender → r.left ≡ w.receiver → IsReached w → Found w ended
    → ((front : List Entry) → has_answered is_end_of_sender (so_far front) ≡ (ended || ended_in s r front))
    → NoTaskWaits so_far n w
    → IsRunFrom n w worlds moves entries
    → is_never_unwoken so_far (map ahead_of (w ∷ worlds)) entries ≡ true

neither : (answered park task : Bool) → not (answered && park) ≡ true → not (answered && task) ≡ true
    → not (answered && (park || task)) ≡ true
neither false park task p t = refl
neither true false task p t = t
neither true true task p t = p

now : (so_far : List Entry → List Mark) (n : ℕ) (w : World) (ended : Bool) → Found w ended
    → has_answered is_end_of_sender (so_far []) ≡ (ended || false) → NoTaskWaits so_far n w
    → not (is_unwoken (so_far []) (ahead_of w)) ≡ true
now so_far n w ended f h task =
    neither (has_answered is_end_of_sender (so_far [])) (waits_in_park (ahead_of w)) (waits_in_task (so_far []))
    (rw (h ∙ or_false ended) (awake w ended f)) (task [] [] [] tt)

-- an entry advances the reading as it does the reader
woken_turn : (entries : List Entry) → Claim entries
    → (so_far : List Entry → List Mark) (n : ℕ) (side : End) (w : World) (entry : Entry) (next : World) (s r : Reading)
    (ended : Bool) (worlds : List World) (moves : List Move) → Turned n w side entry next → s.left ≡ w.sender
    → r.left ≡ w.receiver → IsReached w → IsReached next → Found w ended
    → ((front : List Entry) → has_answered is_end_of_sender (so_far front) ≡ (ended || ended_in s r front))
    → NoTaskWaits (λ front. so_far (entry ∷ front)) (n + 1) next → IsRunFrom (n + 1) next worlds moves entries
    → is_never_unwoken (λ front. so_far (entry ∷ front)) (map ahead_of (next ∷ worlds)) entries ≡ true
woken_turn entries later so_far n _ w _ _ s r ended worlds moves (sender_idle at) se re h k f so task is_run =
    later (λ front. so_far (Idle Sender ∷ front)) (n + 1) w s r ended worlds moves se re h f
    (λ front. so (Idle Sender ∷ front)) task is_run
woken_turn entries later so_far n _ w _ _ s r ended worlds moves (receiver_idle at) se re h k f so task is_run =
    later (λ front. so_far (Idle Receiver ∷ front)) (n + 1) w s r ended worlds moves se re h f
    (λ front. so (Idle Receiver ∷ front)) task is_run
woken_turn entries later so_far n _ w entry next s r ended worlds moves (sender_made position row at steps) se re h k f
    so task is_run =
    later (λ front. so_far (entry ∷ front)) (n + 1) next
    (read s (sender_stepped no_input w.state (sender_step position) row).0) r
    (ended || ends_sender_at (call_under_way s.left)
    (sender_stepped no_input w.state (sender_step position) row).0) worlds moves
    (ap (λ left. left_by Sender (reply_of row) left) se) re k
    (subst (λ left. Found (sender_world w (sender_step position) row)
    (ended || ends_sender_at (call_under_way left)
    (sender_stepped no_input w.state (sender_step position) row).0)) (sym se)
    (subst (λ answered. Found (sender_world w (sender_step position) row) (ended || answered))
    (same_answered w.sender (sender_stepped no_input w.state (sender_step position) row).0)
    (next_found n Sender w _ _ ended (sender_made position row at steps) h f refl)))
    (λ front. so (entry ∷ front) ∙ or_more ended
    (ends_sender_at (call_under_way s.left) (sender_stepped no_input w.state (sender_step position) row).0)
    (ended_in (read s (sender_stepped no_input w.state (sender_step position) row).0) r front)) task is_run
woken_turn entries later so_far n _ w entry next s r ended worlds moves (receiver_made answer position row at steps) se
    re h k f so task is_run =
    later (λ front. so_far (entry ∷ front)) (n + 1) next s
    (read r (receiver_stepped (receiver_input answer n w) w.state (receiver_step position) row).0)
    (ended || ends_sender_at (call_under_way r.left)
    (receiver_stepped (receiver_input answer n w) w.state (receiver_step position) row).0) worlds moves se
    (ap (λ left. left_by Receiver (reply_of row) left) re) k
    (subst (λ left. Found (receiver_world (receiver_input answer n w) w (receiver_step position) row)
    (ended || ends_sender_at (call_under_way left)
    (receiver_stepped (receiver_input answer n w) w.state (receiver_step position) row).0)) (sym re)
    (subst (λ answered. Found (receiver_world (receiver_input answer n w) w (receiver_step position) row)
    (ended || answered)) (same_answered w.receiver
    (receiver_stepped (receiver_input answer n w) w.state (receiver_step position) row).0)
    (next_found n Receiver w _ _ ended (receiver_made answer position row at steps) h f refl)))
    (λ front. so (entry ∷ front) ∙ or_more ended
    (ends_sender_at (call_under_way r.left)
    (receiver_stepped (receiver_input answer n w) w.state (receiver_step position) row).0)
    (ended_in s (read r (receiver_stepped (receiver_input answer n w) w.state (receiver_step position) row).0)
    front)) task is_run

woken : (entries : List Entry) → Claim entries
woken [] so_far n w s r ended [] [] se re h f so task is_run = now so_far n w ended f (so []) task
woken (entry ∷ entries) so_far n w s r ended (next ∷ worlds) (move ∷ moves) se re h f so task is_run =
    let by : Turned n w (side_of move) entry next = turned n w move (entry, next) is_run.0 in
    both _ _ (now so_far n w ended f (so []) task)
    (woken_turn entries (woken entries) so_far n (side_of move) w entry next s r ended worlds moves by se re h
    (turned_reaches n (side_of move) w entry next h by) f so
    (λ worlds moves front more. task (next ∷ worlds) (move ∷ moves) (entry ∷ front) (is_run.0, more)) is_run.1)
woken [] so_far n w s r ended [] (move ∷ moves) se re h f so task is_run = elim is_run [ ]
woken [] so_far n w s r ended (next ∷ worlds) [] se re h f so task is_run = elim is_run [ ]
woken [] so_far n w s r ended (next ∷ worlds) (move ∷ moves) se re h f so task is_run = elim is_run [ ]
woken (entry ∷ entries) so_far n w s r ended [] [] se re h f so task is_run = elim is_run [ ]
woken (entry ∷ entries) so_far n w s r ended [] (move ∷ moves) se re h f so task is_run = elim is_run [ ]
woken (entry ∷ entries) so_far n w s r ended (next ∷ worlds) [] se re h f so task is_run = elim is_run [ ]

pub never_unwoken : {T : Type 0} (s : SenderScript T) (r : ReceiverScript) (worlds : List World) (moves : List Move)
    (entries : List Entry) → IsRun (opening s r) worlds moves entries → NeverUnwoken s r moves entries
never_unwoken s r worlds moves entries is_run =
    record {
      worlds = worlds;
      is_run = is_run;
      woken =
          woken entries (marks (calls_of s r)) 1 (opening s r) (sender_reading (calls_of s r))
          (receiver_reading (calls_of s r)) false worlds moves refl refl (opening_reached s r)
          (opening_found ended_reader all_alike ended_classed explored s.last)
          (λ front. answered_in front _ _ 1 _) (λ worlds moves front is_run. no_task_waits s r worlds moves front
          is_run)
          is_run;
    }
