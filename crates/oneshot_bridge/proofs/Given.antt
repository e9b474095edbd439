-- What the laws of the model state of both ends: each from the run that the ends' order is.
use Rattle.std.proofs.Common.{if◌then◌else◌}
use Rattle.std.specs.Prelude.{◌≤◌, length, is_some}
use Rattle.oneshot_bridge.proofs.Names.{◌≡◌, ℕ, ◌+◌, Bool, true, false, not, ◌&&◌, ◌||◌, List, [], ◌∷◌, Option, Some, None, map, refl, sym, ap, ◌∙◌, subst, filter, list_any, cons_option, option_map}
use Rattle.oneshot_bridge.proofs.Names.{and_parts, Receiver, Reply, Noted, receiver_step, ahead_of, is_some_park, Call, calls_of, World, opening, IsRunFrom, Move, ReceiverScript, SenderScript, Entry}
use Rattle.oneshot_bridge.proofs.Names.{run_is, is_end_of_sender, has_answered, is_same_end, both_hold, is_free_last, is_freed_at_end, Mark, marks, side, is_unwoken, is_never_unwoken, waits_in_task}
use Rattle.oneshot_bridge.proofs.Names.{IsRight, HasRun, trace_at, Scene, last_of, gave_message, OneReceiveGets, RunLosesNoWakeup, RunFreesOnce, RunFreesLast, RunFreesByItsHolder, answered_by, RunsTo}
use Rattle.oneshot_bridge.proofs.Names.{Answered, the_receiver, ReceiverStand, SenderStand}
use Rattle.oneshot_machine.specs.declared.machine.End.TheVariants.{Sender}
use Rattle.oneshot_laws.specs.Holders.{is_held}
use Rattle.oneshot_bridge.proofs.OneReceive.{one_gets, freed_once, unused_after}
use Rattle.oneshot_bridge.proofs.StatesRun.{orders_run}

pub one_receive_gets : (T : Type 0) → OneReceiveGets T
one_receive_gets T a b xs ys word s r come =
    let run : RunsTo a b xs ys word s r = orders_run T a b xs ys word s r come.order come.sender come.receiver in
    let replies : answered_by Receiver (marks (calls_of a b) run.entries) ≡ r.2 =
    ap (λ (z : ReceiverStand). z.2) run.receiver in
    subst (λ replies. length (filter gave_message replies) ≤ 1) replies
    (one_gets (marks (calls_of a b) run.entries) run.right.gone_after_got)

-- the block, from the run
module _ {T : Type 0} {a : SenderScript T} {b : ReceiverScript} {xs ys : List Noted} {word : ℕ} {s : SenderStand}
    {r : ReceiverStand} (run : RunsTo a b xs ys word s r) where
  abbrev its_marks : List Mark
  its_marks = marks (calls_of a b) run.entries

  held_and_last : (is_held both_hold its_marks ≡ true) × (is_free_last its_marks ≡ true)
  held_and_last =
      and_parts (is_held both_hold its_marks) (is_free_last its_marks)
      (and_parts (is_held both_hold its_marks && is_free_last its_marks) (is_freed_at_end its_marks)
      run.right.freed_right).0

pub run_frees_once : (T : Type 0) → RunFreesOnce T
run_frees_once T a b xs ys word s r come run = freed_once (its_marks run) (held_and_last run).1

pub run_frees_last : (T : Type 0) → RunFreesLast T
run_frees_last T a b xs ys word s r come run earlier later m is freeing =
    unused_after earlier later m (subst (λ ms. is_free_last ms ≡ true) is (held_and_last run).1) freeing

pub run_frees_by_its_holder : (T : Type 0) → RunFreesByItsHolder T
run_frees_by_its_holder T a b xs ys word s r come run = (held_and_last run).0

-- the receiver is not unwoken at the last moment of a run
last_woken : (so_far : List Entry → List Mark) (k : ℕ) (w : World) (worlds : List World) (moves : List Move)
    (entries : List Entry) → IsRunFrom k w worlds moves entries
    → is_never_unwoken so_far (map ahead_of (w ∷ worlds)) entries ≡ true
    → not (is_unwoken (so_far entries) (ahead_of (last_of w worlds))) ≡ true
last_woken so_far k w [] [] [] is_run woken = woken
last_woken so_far k w (next ∷ worlds) (move ∷ moves) (entry ∷ entries) is_run woken =
    last_woken (λ front. so_far (entry ∷ front)) (k + 1) next worlds moves entries is_run.1
    (and_parts (not (is_unwoken (so_far []) (ahead_of w))) _ woken).1
last_woken so_far k w _ _ _ is_run woken = elim is_run [ ]

-- a call of an end that has replied, as its marks show it
or_so : (a b : Bool) → b ≡ true → (a || b) ≡ true
or_so true b e = refl
or_so false b e = e

ended_by : (b : Bool) (o : Option Reply) (call : Call) (xs : List Answered) (rest : Bool)
    → (list_any (λ (x : Answered). is_end_of_sender x.0) xs ≡ true → rest ≡ true)
    → list_any (λ (x : Answered). is_end_of_sender x.0)
    (cons_option (if b then option_map (λ reply. (call, reply)) o else None) xs) ≡ true
    → (is_some o && is_end_of_sender call || rest) ≡ true
ended_by true (Some reply) call xs rest later any = by (is_end_of_sender call) any
  where
    by : (ends : Bool) → (ends || list_any (λ (x : Answered). is_end_of_sender x.0) xs) ≡ true → (ends || rest) ≡ true
    by true any = refl
    by false any = later any
ended_by true None call xs rest later any = later any
ended_by false o call xs rest later any = or_so (is_some o && is_end_of_sender call) rest (later any)

pub ended_once_answered : (ms : List Mark) → list_any (λ (x : Answered). is_end_of_sender x.0) (answered_by Sender ms)
    ≡ true
    → has_answered is_end_of_sender ms ≡ true
ended_once_answered [] any = any
ended_once_answered (m ∷ later) any =
    ended_by (is_same_end (side m) Sender) m.entry.reply m.call (answered_by Sender later)
    (has_answered is_end_of_sender later) (ended_once_answered later) any

token_there : (ended parks token task : Bool) → ended ≡ true → parks ≡ true
    → not (ended && (parks && not token || task)) ≡ true → token ≡ true
token_there ended parks true task e p woken = refl
token_there true true false task e p woken = absurd (cc woken)
token_there false parks false task e p woken = absurd (cc e)
token_there true false false task e p woken = absurd (cc p)

pub same_value : {X : Type 0} {a b : X} → Some a ≡ Some b → a ≡ b
same_value is = cc

-- so it is not at the end of a run
pub woken_at : {T : Type 0} (a : SenderScript T) (b : ReceiverScript) (moves : List Move) (entries : List Entry)
    (now : Scene T) → HasRun a b moves entries now → IsRight a b moves (trace_at entries now)
    → not (is_unwoken (marks (calls_of a b) entries) (ahead_of now.world)) ≡ true
woken_at a b moves entries now ran right =
    let never = right.never_unwoken in
    let same : (entries, never.worlds) ≡ (entries, ran.worlds) =
    same_value (sym (run_is 1 (opening a b) never.worlds moves entries never.is_run)
    ∙ run_is 1 (opening a b) ran.worlds moves entries ran.is_run) in
    let last : last_of (opening a b) never.worlds ≡ now.world =
    ap (λ (made : List Entry × List World). last_of (opening a b) made.1) same ∙ ran.ends in
    subst (λ w. not (is_unwoken (marks (calls_of a b) entries) (ahead_of w)) ≡ true) last
    (last_woken (marks (calls_of a b)) 1 (opening a b) never.worlds moves entries never.is_run never.woken)

pub run_loses_no_wakeup : (T : Type 0) → RunLosesNoWakeup T
run_loses_no_wakeup T a b xs ys word s r come answered parks run =
    let ms = marks (calls_of a b) run.entries in
    let replies : answered_by Sender ms ≡ s.2 = ap (λ (z : SenderStand). z.2) run.sender in
    let ended : has_answered is_end_of_sender ms ≡ true =
    ended_once_answered ms (subst (λ replies. list_any (λ (x : Answered). is_end_of_sender x.0) replies
    ≡ true) (sym replies) answered) in
    let ahead : is_some_park (option_map receiver_step
    (the_receiver.position (run.now.world.state.receiver, run.now.world.receiver, r.2))) ≡ true =
    ap (λ (z : ReceiverStand). is_some_park (option_map receiver_step (the_receiver.position z))) run.receiver
    ∙ ap is_some_park parks in
    token_there (has_answered is_end_of_sender ms) (ahead_of run.now.world).parks run.now.world.state.wakers.token
    (waits_in_task ms) ended ahead (woken_at a b run.moves run.entries run.now run.run.run run.right)
