-- Nobody waits once the sender's call has replied, or once it has made the wake that is next if it found the receiver.
use Rattle.oneshot_bridge.proofs.Names.{◌≡◌, ℕ, ◌+◌, Bool, true, false, not, ◌&&◌, ◌||◌, List, [], ◌∷◌, ◌++◌, Option, Some, refl, sym, ap, ◌∙◌, subst, list_any, option_map, and_parts, End, Reply}
use Rattle.oneshot_bridge.proofs.Names.{Done, Step, Wake, SenderPos, Noted, By, finished, ReceiverAt, gone, sender_step, sender_row, Outcome, Answers, Call, all_alike, as_call, sender_under_way}
use Rattle.oneshot_bridge.proofs.Names.{seen_by, IsReached, calls_of, sender_fits, sender_stepped, World, opening, turn, no_input, side_of, IsRunFrom, Move, ReceiverScript, SenderScript}
use Rattle.oneshot_bridge.proofs.Names.{ReceiverState, SenderState, State, Entry, Made, sender_world, Turned, sender_idle, sender_made, receiver_idle, receiver_made, turned, is_end_of_sender}
use Rattle.oneshot_bridge.proofs.Names.{has_answered, marks, or_stray, call_under_way, of_call, class_is, IsRight, HasRun, trace_at, Scene, last_of, is_right, goes_on, HaveCome, Reaches, answered_by}
use Rattle.oneshot_bridge.proofs.Names.{RunsTo, Answered, opening_sender, the_sender, SenderStand, ReceiverStand, NobodyWaitsInARun, WakeIsNextInARun, found_it_gone, WasDropped, NobodyIsLeft}
use Rattle.oneshot_machine.specs.declared.machine.End.TheVariants.{Sender}
use Rattle.oneshot_machine.specs.Phases.{sender_at, receiver_at}
use Rattle.oneshot_machine.proofs.InOrders.{order_is}
use Rattle.oneshot_world.specs.Calls.{first}
use Rattle.oneshot_world.specs.declared.script.Move.TheVariants as M
use Rattle.oneshot_world.specs.declared.state.ReceiverState.TheVariants as RS
use Rattle.oneshot_world.specs.declared.state.SenderState.TheVariants as SS
use Rattle.oneshot_world.specs.declared.trace.Entry.TheVariants.{Made as Made_entry}
use Rattle.oneshot_world.proofs.ReachedLeads.{sender_at as sender_stands_at}
use Rattle.oneshot_world.proofs.ReachedMoves.{sender_makes}
use Rattle.oneshot_bridge.specs.Woken.{waits}
use Rattle.oneshot_bridge.proofs.CellsRun.{Found, comes_to, found_passes, where_so}
use Rattle.oneshot_bridge.proofs.Given.{ended_once_answered, woken_at}
use Rattle.oneshot_bridge.proofs.PhaseCodes.{Phases}
use Rattle.oneshot_bridge.proofs.PhasesBeside.{is_wake, is_answer_row, wakes_at, wakes_if_finished, wakes_well, all_wake, is_gone, is_over as receiver_ended, ends_well, all_end}
use Rattle.oneshot_bridge.proofs.StatesRun.{orders_run}
use Rattle.oneshot_bridge.proofs.Replied.{left_all, replied_by, replied_more, shown}
use Rattle.oneshot_bridge.proofs.Turns.{by_row, sender_turn}

-- the sender's call has replied, so nobody waits
not_waiting : (ended waiting : Bool) → ended ≡ true → not (ended && waiting) ≡ true → waiting ≡ false
not_waiting true true e woken = absurd (cc woken)
not_waiting true false e woken = refl
not_waiting false waiting e woken = absurd (cc e)

module _ {T : Type 0} (a : SenderScript T) (b : ReceiverScript) where
  none_waits : (moves : List Move) (entries : List Entry) (now : Scene T) → HasRun a b moves entries now
      → IsRight a b moves (trace_at entries now)
      → list_any (λ (x : Answered). is_end_of_sender x.0) (answered_by Sender (marks (calls_of a b) entries)) ≡ true
      → waits a b entries now.world ≡ false
  none_waits moves entries now ran right answered =
      not_waiting (has_answered is_end_of_sender (marks (calls_of a b) entries)) (waits a b entries now.world)
      (ended_once_answered (marks (calls_of a b) entries) answered) (woken_at a b moves entries now ran right)

pub nobody_waits_in_a_run : (T : Type 0) → NobodyWaitsInARun T
nobody_waits_in_a_run T a b xs ys word s r come answered run =
    let replies : answered_by Sender (marks (calls_of a b) run.entries) ≡ s.2 =
    ap (λ (z : SenderStand). z.2) run.sender in
    none_waits a b run.moves run.entries run.now run.run.run run.right
    (subst (λ replies. list_any (λ (x : Answered). is_end_of_sender x.0) replies ≡ true) (sym replies) answered)

-- what the sender has left by the entries is what its world has left
left_turn : (n : ℕ) (side : End) (w : World) (entry : Entry) (next : World) → Turned n w side entry next
    → (entries : List Entry) → left_all Sender w.sender (entry ∷ entries) ≡ left_all Sender next.sender entries
left_turn n _ w _ _ (sender_idle at) entries = refl
left_turn n _ w _ _ (receiver_idle at) entries = refl
left_turn n _ w _ _ (sender_made p row at steps) entries = refl
left_turn n _ w _ _ (receiver_made answer p row at steps) entries = refl

left_last : (n : ℕ) (w : World) (worlds : List World) (moves : List Move) (entries : List Entry)
    → IsRunFrom n w worlds moves entries → left_all Sender w.sender entries ≡ (last_of w worlds).sender
left_last n w [] [] [] is_run = refl
left_last n w (next ∷ worlds) (move ∷ moves) (entry ∷ entries) is_run =
    left_turn n (side_of move) w entry next (turned n w move (entry, next) is_run.0) entries
    ∙ left_last (n + 1) next worlds moves entries is_run.1
left_last n w _ _ _ is_run = elim is_run [ ]

any_last : (test : Answered → Bool) (xs ys : List Answered) → list_any test ys ≡ true → list_any test (xs ++ ys) ≡ true
any_last test [] ys any = any
any_last test (x ∷ xs) ys any = or_later (test x) (any_last test xs ys any)
  where
    or_later : (c : Bool) {d : Bool} → d ≡ true → (c || d) ≡ true
    or_later true e = refl
    or_later false e = e

-- an entry of the sender that completes its last call
module _ {T : Type 0} (a : SenderScript T) (b : ReceiverScript) {moves : List Move} {entries : List Entry}
    {now : Scene T} (ran : HasRun a b moves entries now) where
  answers_then : (e : Made) (reply : Reply) → e.side ≡ Sender → e.reply ≡ Some reply
      → is_end_of_sender (call_under_way now.world.sender) ≡ true
      → list_any (λ (x : Answered). is_end_of_sender x.0)
      (answered_by Sender (marks (calls_of a b) (entries ++ Made_entry e ∷ []))) ≡ true
  answers_then e reply side replies last =
      let ends = λ (x : Answered). is_end_of_sender x.0 in
      let left = left_all Sender (opening_sender a).1 entries in
      let same : left ≡ now.world.sender = left_last 1 (opening a b) ran.worlds moves entries ran.is_run
      ∙ ap (λ (w : World). w.sender) ran.ends in
      let own : list_any ends (replied_by Sender left (Made_entry e ∷ [])) ≡ true =
      rw (side, replies, same, last) refl in
      subst (λ replies. list_any ends replies ≡ true)
      (sym (shown a b (entries ++ Made_entry e ∷ []) Sender
      ∙ replied_more Sender (opening_sender a).1 entries (Made_entry e ∷ [])))
      (any_last ends (replied_by Sender (opening_sender a).1 entries) (replied_by Sender left (Made_entry e ∷ [])) own)

-- the wake, which the checker found of a sender that is done with the word
wake_is : (step : Step) → is_wake step ≡ true → step ≡ Wake
wake_is Wake e = refl
wake_is _ e = absurd (cc e)

reply_is : (row : Option (Outcome SenderPos)) → is_answer_row row ≡ true → (reply : Reply) × row ≡ Some (Answers reply)
reply_is (Some (Answers reply)) e = (reply, refl)
reply_is _ e = absurd (cc e)

-- the sender's next step is a wake, and completes the sender's last call
pub record IsAboutToWake (w : World) (p : SenderPos) : Type 0 where
  pub wakes : sender_step p ≡ Wake
  pub reply : Reply
  pub row : sender_row p Done ≡ Some (Answers reply)
  pub last : is_end_of_sender (call_under_way w.sender) ≡ true

about_to_wake : (w : World) (p : SenderPos) (call : Option Call) → wakes_at (SS.At p) call ≡ true
    → or_stray call ≡ as_call all_alike (call_under_way w.sender) → IsAboutToWake w p
about_to_wake w p call so same =
    let wake = and_parts (is_wake (sender_step p)) _ so in
    let answer = and_parts (is_answer_row (sender_row p Done)) (is_end_of_sender (or_stray call)) wake.1 in
    let replies = reply_is (sender_row p Done) answer.0 in
    record {
      wakes = wake_is (sender_step p) wake.0;
      reply = replies.0;
      row = replies.1;
      last =
          sym (of_call all_alike is_end_of_sender (λ a b. refl) (call_under_way w.sender))
          ∙ ap is_end_of_sender (sym same) ∙ answer.1;
    }

about_to : (w : World) (m : Phases) (by : By) (p : SenderPos) (q : ReceiverAt) → Found w m → m ≡ Some (finished by, q)
    → w.state.sender ≡ SS.At p → IsAboutToWake w p
about_to w m by p q found is at =
    let so : wakes_if_finished w.state.sender
    (option_map (as_call all_alike) (sender_under_way w.state.sender (first w.sender.calls))) m ≡ true =
    found_passes wakes_well all_wake w m found in
    about_to_wake w p (option_map (as_call all_alike) (first w.sender.calls))
    (sym (λ i. wakes_if_finished (at i) (option_map (as_call all_alike) (sender_under_way (at i) (first
    w.sender.calls)))
    (is i)) ∙ so) (class_is all_alike w.sender)

-- the turn that makes that step
module _ (w : World) (p : SenderPos) (reached : IsReached w) (at : w.state.sender ≡ SS.At p)
    (about : IsAboutToWake w p) where
  abbrev woke : Made × State
  woke = sender_stepped no_input w.state (sender_step p) (Answers about.reply)

  stands : sender_stands_at w ≡ Some p
  stands = ap (λ (state : SenderState). the_sender.position (state, w.sender, [])) at

  sees : sender_row p (seen_by false w.state (sender_step p)) ≡ Some (Answers about.reply)
  sees = ap (λ step. sender_row p (seen_by false w.state step)) about.wakes ∙ about.row

  pub wake_turns : (k : ℕ)
      → turn k w M.Sender ≡ Some (Made_entry woke.0, sender_world w (sender_step p) (Answers about.reply))
  wake_turns k =
      sender_turn k w p (Answers about.reply) stands
      (by_row (sender_fits w.state (sender_step p)) (sender_stepped no_input w.state (sender_step p))
      (sender_row p (seen_by false w.state (sender_step p))) (Answers about.reply) (sender_makes w p reached
      stands) sees)

pub wake_is_next_in_a_run : (T : Type 0) → WakeIsNextInARun T
wake_is_next_in_a_run T a b xs ys word s r come by p is stood run =
    let w = run.now.world in
    let k = run.now.count + 1 in
    let at : w.state.sender ≡ SS.At p = ap (λ (z : SenderStand). z.0) run.sender ∙ stood in
    let there = comes_to a b run.run come.order in
    let about : IsAboutToWake w p =
    about_to w (Some (sender_at xs, receiver_at ys)) by p (receiver_at ys) there.1
    (ap (λ p. Some (p, receiver_at ys)) is) at in
    let made : Made = (woke w p there.0 at about).0 in
    let next = sender_world w (sender_step p) (Answers about.reply) in
    let turns = wake_turns w p there.0 at about k in
    let to : Scene T = record { world = next; count = k; message = run.now.message } in
    let ran : HasRun a b (run.moves ++ M.Sender ∷ []) (run.entries ++ Made_entry made ∷ []) to =
    goes_on run.now M.Sender (Made_entry made) to turns refl refl a b run.moves run.entries run.run.run in
    record {
      made = made;
      next = next;
      turns = turns;
      by_sender = refl;
      wakes = about.wakes;
      woken =
          none_waits a b (run.moves ++ M.Sender ∷ []) (run.entries ++ Made_entry made ∷ []) to ran
          (is_right a b (run.moves ++ M.Sender ∷ []) (run.entries ++ Made_entry made ∷ []) to ran)
          (answers_then a b run.run.run made about.reply refl refl about.last);
    }

-- a receiver that was found gone
gone_is : (q : ReceiverAt) → is_gone q ≡ true → q ≡ gone
gone_is gone e = refl
gone_is _ e = absurd (cc e)

ended_is : (s : ReceiverState) → receiver_ended s ≡ true → s ≡ RS.Ended
ended_is RS.Ended e = refl
ended_is _ e = absurd (cc e)

module _ {T : Type 0} {a : SenderScript T} {b : ReceiverScript} {xs ys : List Noted} {word : ℕ} {s : SenderStand}
    {r : ReceiverStand} (come : HaveCome Reaches a b xs ys word s r)
    (found : found_it_gone (sender_at xs) ≡ true) where
  left_over : (receiver_at ys ≡ gone) × (r.0 ≡ RS.Ended)
  left_over =
      let run : RunsTo a b xs ys word s r =
      orders_run T a b xs ys word s r (order_is come.order) come.sender come.receiver in
      let w = run.now.world in
      let over = and_parts (is_gone (receiver_at ys)) (receiver_ended w.state.receiver)
      (where_so (found_it_gone (sender_at xs)) _ (found_passes ends_well all_end w
      (Some (sender_at xs, receiver_at ys)) (comes_to a b run.run come.order).1) found) in (
        gone_is (receiver_at ys) over.0,
        sym (ap (λ (z : ReceiverStand). z.0) run.receiver) ∙ ended_is w.state.receiver over.1,
      )

pub was_dropped : (T : Type 0) → WasDropped T
was_dropped T a b xs ys word s r come found = (left_over come found).0

pub nobody_is_left : (T : Type 0) → NobodyIsLeft T
nobody_is_left T a b xs ys word s r come found = (left_over come found).1
