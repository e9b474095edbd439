-- Each state that the rule of the table allows is that of a run: its order, its slots at home, and its message.
use Rattle.oneshot_bridge.proofs.Names.{◌≡◌, ℕ, ◌+◌, List, [], ◌∷◌, Option, Some, None, refl, sym, ap, ◌∙◌, subst, End, Noted, Reaches, Share, empty, filled, receiver_step, sender_step, sender_puts}
use Rattle.oneshot_bridge.proofs.Names.{receiver_puts, place_left, reply_of, World, opening, opening_place, side_of, IsRunFrom, Move, ReceiverScript, SenderLast, SenderScript, Entry, Turned}
use Rattle.oneshot_bridge.proofs.Names.{sender_idle, sender_made, receiver_idle, receiver_made, turned, message_of, rest_at, HasRun, Scene, last_of, AnyWaker, Slot, Empty, Message, Home, bare}
use Rattle.oneshot_bridge.proofs.Names.{has_message, Lies, lies_out, lies_bare, lies_filled, IsGiven, IsTaken, took_none, took_it, opened, slot_taken, runs, with_waker, message_of_logs, waker_of_logs}
use Rattle.oneshot_bridge.proofs.Names.{CellsAreSo, SlotsAreSo, Passed, none_passed, it_passed, maker_before, maker_with_slot_before, is_run, TablesAreOfRuns, RunsSo, SendsOnly, IsOfARun, RunsCalls}
use mathlib.Core.Option as maybe
use Rattle.oneshot_world.specs.declared.script.SenderLast.TheVariants as SL
use Rattle.oneshot_world.specs.declared.trace.Place.TheVariants as P
use Rattle.oneshot_replay.specs.declared.rest.Rest.TheVariants.{InCell}
use Rattle.oneshot_word.specs.declared.any_waker.AnyWaker.TheVariants as R
use Rattle.oneshot_bridge.proofs.CallsRun.{calls_run}
use Rattle.oneshot_bridge.proofs.CellsRun.{cells_run}
use Rattle.oneshot_bridge.proofs.StatesRun.{states_run}

-- a world without a message stays without one
message_turn : (n : ℕ) (side : End) (w : World) (entry : Entry) (next : World) → Turned n w side entry next
    → w.state.message ≡ None → next.state.message ≡ None
message_turn n _ w _ _ (sender_idle at) lacks = lacks
message_turn n _ w _ _ (receiver_idle at) lacks = lacks
message_turn n _ w _ _ (sender_made p row at steps) lacks =
    ap (λ from. place_left from (sender_puts (sender_step p) (reply_of row))) lacks
message_turn n _ w _ _ (receiver_made answer p row at steps) lacks =
    ap (λ from. place_left from (receiver_puts (receiver_step p))) lacks

message_last : (n : ℕ) (w : World) (worlds : List World) (moves : List Move) (entries : List Entry)
    → IsRunFrom n w worlds moves entries → w.state.message ≡ None → (last_of w worlds).state.message ≡ None
message_last n w [] [] [] of_run lacks = lacks
message_last n w (next ∷ worlds) (move ∷ moves) (entry ∷ entries) of_run lacks =
    message_last (n + 1) next worlds moves entries of_run.1
    (message_turn n (side_of move) w entry next (turned n w move (entry, next) of_run.0) lacks)
message_last n w _ _ _ of_run lacks = elim of_run [ ]

-- so a message in the cell is the script's
sends_it : {T : Type 0} (last : SenderLast T) (m : T) → ((other : T) → message_of last ≡ Some other → other ≡ m)
    → (opening_place last ≡ None → ⊥) → message_of last ≡ Some m
sends_it (SL.Send message error) m only some = ap (λ m. Some m) (only message refl)
sends_it SL.Drop m only some = absurd (some refl)
sends_it SL.Stop m only some = absurd (some refl)

pub not_none : {X : Type 0} {o : Option X} {x : X} → o ≡ Some x → o ≡ None → ⊥
not_none some lacks = cc

lies_there : {T : Type 0} (a : SenderScript T) (b : ReceiverScript) {moves : List Move} {entries : List Entry}
    {now : Scene T} (m : T) → HasRun a b moves entries now
    → ((other : T) → message_of a.last ≡ Some other → other ≡ m) → now.world.state.message ≡ Some P.InCell
    → rest_at now.world.state.message now.message ≡ Some (InCell m)
lies_there a b {moves} {entries} {now} m ran only there =
    let sent : message_of a.last ≡ Some m = sends_it a.last m only (λ lacks. not_none there
    (sym (ap (λ (w : World). w.state.message) ran.ends)
    ∙ message_last 1 (opening a b) ran.worlds moves entries ran.is_run lacks)) in
    λ i. rest_at (there i) ((ran.message ∙ sent) i)

-- what is at home, by its share
module _ {T H K X : Type 0} {kept : X → Type 0} {put : X → Slot T H K} where
  is_filled : {share : Share} {home : Home T H K} (slot : Slot T H K) → (slot ≡ Empty → ⊥) → Lies kept put share home
      → home ≡ maybe.some slot → share ≡ filled
  is_filled slot full lies_out is = absurd (cc is)
  is_filled slot full lies_bare is = absurd (full (cc is))
  is_filled slot full (lies_filled x keeps) is = refl

  is_empty : {share : Share} {home : Home T H K} → ((x : X) → put x ≡ Empty → ⊥) → Lies kept put share home
      → home ≡ bare → share ≡ empty
  is_empty full lies_out is = absurd (cc is)
  is_empty full lies_bare is = refl
  is_empty full (lies_filled x keeps) is = absurd (full x (cc is))

module _ {T H K : Type 0} where
  full_message : (m : T) → ◌≡◌ {A = Slot T H K} (Message m) Empty → ⊥
  full_message m e = cc

  pub full_waker : (k : AnyWaker H K) → ◌≡◌ {A = Slot T H K} (with_waker k) Empty → ⊥
  full_waker (R.Thread half) e = cc
  full_waker (R.Task copy) e = cc

-- the message that passed, or this one if none did
record Passes {T H K : Type 0} (home : Home T H K) (given taken : Option T) : Type 0 where
  it : T
  only : (other : T) → home ≡ has_message other → other ≡ it
  gave : Passed it given
  took : Passed it taken

was_given : {T H K P : Type 0} (keeps : P → T → Type 0) (q : P) {given : Option T} {share : Share} {home : Home T H K}
    {other : T} → Lies (IsGiven keeps q given) Message share home → home ≡ has_message other → given ≡ Some other
was_given keeps q lies_out is = absurd (cc is)
was_given keeps q lies_bare is = absurd (cc is)
was_given keeps q {other = other} (lies_filled x kept) is = let same : x ≡ other = cc is in kept.1 ∙ ap Some same

took_same : {T : Type 0} {m : T} {taken : Option T} → IsTaken (Some m) taken → Passed m taken
took_same took_none = none_passed
took_same {m} (took_it other is) = subst (λ x. Passed m (Some x)) (cc is) it_passed

took_nothing : {T : Type 0} (m : T) {taken : Option T} → IsTaken None taken → Passed m taken
took_nothing m took_none = none_passed
took_nothing m (took_it other is) = absurd (cc is)

passes : {T H K P : Type 0} (keeps : P → T → Type 0) (q : P) (given : Option T) {taken : Option T} {share : Share}
    {home : Home T H K} → T → Lies (IsGiven keeps q given) Message share home → IsTaken given taken
    → Passes home given taken
passes keeps q None m lies same =
    record {
      it = m;
      only = λ other is. absurd (not_none (was_given keeps q lies is) refl);
      gave = none_passed;
      took = took_nothing m same;
    }
passes keeps q (Some x) m lies same =
    record {
      it = x;
      only = λ other is. let one = was_given keeps q lies is in cc one;
      gave = it_passed;
      took = took_same same;
    }

-- the slots of a run, by its cells
slots_so : {T H K : Type 0} {kept : T → Type 0} {fits : AnyWaker H K → Type 0} {h k : Home T H K} {xs ys : List Noted}
    {word : ℕ} (m : T)
    (a : SenderScript T) (b : ReceiverScript) {moves : List Move} {entries : List Entry} {now : Scene T}
    → SendsOnly m a → RunsSo a b moves entries now xs ys word → Reaches xs ys word
    → ((other : T) → h ≡ has_message other → other ≡ m)
    → Lies kept Message (message_of_logs xs ys) h → Lies fits with_waker (waker_of_logs xs ys) k → SlotsAreSo h k now
slots_so {xs} {ys} m a b {now = now} sends run order only message waker =
    let cells : CellsAreSo xs ys now.world.state = cells_run a b run order in
    record {
      has_it =
          λ other is. subst (λ other. rest_at now.world.state.message now.message ≡ Some (InCell other))
          (sym (only other is))
          (lies_there a b m run.run sends (cells.message (is_filled (Message other) (full_message other) message is)));
      has_none = λ is. cells.no_message (is_empty full_message message is);
      has_one = λ k is. cells.waker (is_filled (with_waker k) (full_waker k) waker is);
      has_no_waker = λ is. cells.no_waker (is_empty full_waker waker is);
    }

pub passed_one : {T : Type 0} {m other : T} {o : Option T} → Passed m o → o ≡ Some other → other ≡ m
passed_one none_passed is = absurd (cc is)
passed_one it_passed is = cc is

pub tables_are_of_runs : {T P : Type 0} (H K W : Type 0) (keeps : P → T → Type 0) → TablesAreOfRuns H K W keeps
tables_are_of_runs H K W keeps m q _ _ _ opened = maker_before
tables_are_of_runs H K W keeps m q _ _ _ slot_taken = maker_with_slot_before
tables_are_of_runs {T} H K W keeps m q _ _ _ (runs {w} {h} xs ys {given} {taken} order message waker same claim) =
    let sent : Passes h given taken = passes keeps q given m message same in
    let run : IsOfARun sent.it xs ys w = states_run T sent.it xs ys w order in
    is_run sent.it xs ys run (slots_so sent.it run.sender run.receiver run.sends run.run order sent.only message waker)
    (λ form received was.
    let calls : RunsCalls sent.it received xs ys w = calls_run T W sent.it form received xs ys w order was in
    (calls, slots_so sent.it calls.sender calls.receiver calls.sends calls.run.run order sent.only message waker))
    sent.gave sent.took
