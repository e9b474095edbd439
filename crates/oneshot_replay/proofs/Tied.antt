-- What a trace has besides its entries is what they show: whether the block is freed, and the message's last place.
use Rattle.std.proofs.Common.{◌≡◌, ℕ, ◌+◌, Bool, true, false, ◌||◌, List, [], ◌∷◌, Option, Some, None, refl, ◌∙◌, ap}
use Rattle.std.specs.List.{list_any, cons_option}
use Rattle.std.specs.Option.{option_map}
use Rattle.oneshot_machine.specs.Receiver.{receiver_step}
use Rattle.oneshot_machine.specs.Sender.{sender_step}
use Rattle.oneshot_machine.specs.declared.machine.End.{End}
use Rattle.oneshot_machine.specs.declared.machine.Step.{Step}
use Rattle.oneshot_machine.specs.declared.machine.Step.TheVariants as T
use Rattle.oneshot_world.specs.Scripts.{calls_of}
use Rattle.oneshot_world.specs.Effects.{freed_by, place_left, move_of, sender_puts, receiver_puts, reply_of}
use Rattle.oneshot_world.specs.World.{World, IsRunFrom, IsRun, opening, opening_place, side_of, receiver_input}
use Rattle.oneshot_world.specs.declared.script.Move.{Move}
use Rattle.oneshot_world.specs.declared.script.ReceiverScript.{ReceiverScript}
use Rattle.oneshot_world.specs.declared.script.SenderLast.{SenderLast}
use Rattle.oneshot_world.specs.declared.script.SenderLast.TheVariants as SL
use Rattle.oneshot_world.specs.declared.script.SenderScript.{SenderScript}
use Rattle.oneshot_world.specs.declared.trace.Entry.{Entry}
use Rattle.oneshot_world.specs.declared.trace.Entry.TheVariants.{Idle, Made as Made_entry}
use Rattle.oneshot_world.specs.declared.trace.Place.{Place}
use Rattle.oneshot_world.specs.declared.trace.Place.TheVariants.{NotSent}
use Rattle.oneshot_world.proofs.ReachedLeft.{sender_world, receiver_world}
use Rattle.oneshot_world.proofs.WorldTurns.{Turned, sender_idle, sender_made, receiver_idle, receiver_made, turned}
use Rattle.oneshot_laws.specs.Entries.{is_free}
use Rattle.oneshot_laws.specs.Object.{Object}
use Rattle.oneshot_laws.specs.Marks.{Reading, marks, marks_from}
use Rattle.oneshot_laws.specs.Holders.{frees, is_freed}
use Rattle.oneshot_laws.specs.MessagePlaces.{made_entries, last_place, message_moves, last_message_place}
use Rattle.oneshot_replay.specs.Rest.{message_of, rest_of, rest_at}
use Rattle.oneshot_replay.specs.TraceView.{last_of}

or_more : (a b c : Bool) → ((a || b) || c) ≡ (a || (b || c))
or_more true b c = refl
or_more false b c = refl

or_false : (b : Bool) → b ≡ (b || false)
or_false true = refl
or_false false = refl

or_true : (b : Bool) → true ≡ (b || true)
or_true true = refl
or_true false = refl

freed_at : (freed : Bool) (step : Step) → freed_by freed step ≡ (freed || is_free step)
freed_at freed (T.Word op) = or_false freed
freed_at freed T.Free = or_true freed
freed_at freed _ = or_false freed

-- the block is freed if an entry freed it
abbrev FreedClaim : List Entry → Type 0
FreedClaim entries =
    (n : ℕ) (w : World) (worlds : List World) (moves : List Move) → IsRunFrom n w worlds moves entries
    → (last_of w worlds).state.freed ≡ (w.state.freed || list_any (λ e. is_free e.step) (made_entries entries))

freed_on : (freed : Bool) (step : Step) (later : Bool) (last : Bool) → last ≡ (freed_by freed step || later) → last
    ≡ (freed || (is_free step || later))
freed_on freed step later last h =
    h ∙ ap (λ now. now || later) (freed_at freed step) ∙ or_more freed (is_free step) later

freed_turn : (entries : List Entry) → FreedClaim entries
    → (n : ℕ) (side : End) (w : World) (entry : Entry) (next : World) (worlds : List World) (moves : List Move)
    → Turned n w side entry next → IsRunFrom (n + 1) next worlds moves entries → (last_of next worlds).state.freed
    ≡ (w.state.freed || list_any (λ e. is_free e.step) (made_entries (entry ∷ entries)))
freed_turn entries later n _ w _ _ worlds moves (sender_idle at) is_run = later (n + 1) w worlds moves is_run
freed_turn entries later n _ w _ _ worlds moves (receiver_idle at) is_run = later (n + 1) w worlds moves is_run
freed_turn entries later n _ w _ _ worlds moves (sender_made position row at by) is_run =
    freed_on w.state.freed (sender_step position) _ _
    (later (n + 1) (sender_world w (sender_step position) row) worlds moves is_run)
freed_turn entries later n _ w _ _ worlds moves (receiver_made answer position row at by) is_run =
    freed_on w.state.freed (receiver_step position) _ _
    (later (n + 1) (receiver_world (receiver_input answer n w) w (receiver_step position) row) worlds moves is_run)

freed_steps : (entries : List Entry) → FreedClaim entries
freed_steps [] n w [] [] is_run = or_false w.state.freed
freed_steps [] n w (next ∷ worlds) [] is_run = elim is_run [ ]
freed_steps [] n w (next ∷ worlds) (move ∷ moves) is_run = elim is_run [ ]
freed_steps [] n w [] (move ∷ moves) is_run = elim is_run [ ]
freed_steps (entry ∷ entries) n w (next ∷ worlds) (move ∷ moves) is_run =
    freed_turn entries (freed_steps entries) n (side_of move) w entry next worlds moves
    (turned n w move (entry, next) is_run.0) is_run.1
freed_steps (entry ∷ entries) n w [] [] is_run = elim is_run [ ]
freed_steps (entry ∷ entries) n w [] (move ∷ moves) is_run = elim is_run [ ]
freed_steps (entry ∷ entries) n w (next ∷ worlds) [] is_run = elim is_run [ ]

freed_marks : (es : List Entry) (s r : Reading) (n : ℕ) (o : Object) → list_any (λ e. is_free e.step) (made_entries es)
    ≡ list_any frees (marks_from s r n o es)
freed_marks [] s r n o = refl
freed_marks (Idle side ∷ es) s r n o = freed_marks es s r (n + 1) o
freed_marks (Made_entry e ∷ es) s r n o = ap (λ later. is_free e.step || later) (freed_marks es _ _ _ _)

pub freed_shown : {T : Type 0} (s : SenderScript T) (r : ReceiverScript) (worlds : List World) (moves : List Move)
    (entries : List Entry) → IsRun (opening s r) worlds moves entries → (last_of (opening s r) worlds).state.freed
    ≡ is_freed (marks (calls_of s r) entries)
freed_shown s r worlds moves entries is_run =
    freed_steps entries 1 (opening s r) worlds moves is_run ∙ freed_marks entries _ _ 1 _

-- the message's place, by the move that a step shows
abbrev moved_to : Place → Option Place → Place
moved_to from None = from
moved_to from (Some to) = to

moved_on : (place : Option Place) (from : Place) (to : Option Place) → place ≡ Some from → place_left place to
    ≡ Some (moved_to from to)
moved_on place from None is = rw is refl
moved_on place from (Some to) is = rw is refl

last_on : (place : Option Place) (from : Place) (to : Option Place) (later : List (Place × Place)) → place ≡ Some from
    → last_place (moved_to from to) later ≡ last_place from (cons_option (move_of place to) later)
last_on place from None later is = rw is refl
last_on place from (Some to) later is = rw is refl

abbrev PlaceClaim : List Entry → Type 0
PlaceClaim entries =
    (n : ℕ) (w : World) (from : Place) (worlds : List World) (moves : List Move) → w.state.message ≡ Some from
    → IsRunFrom n w worlds moves entries → (last_of w worlds).state.message
    ≡ Some (last_place from (message_moves entries))

place_turn : (entries : List Entry) → PlaceClaim entries
    → (n : ℕ) (side : End) (w : World) (entry : Entry) (next : World) (from : Place) (worlds : List World)
    (moves : List Move) → Turned n w side entry next → w.state.message ≡ Some from
    → IsRunFrom (n + 1) next worlds moves entries → (last_of next worlds).state.message
    ≡ Some (last_place from (message_moves (entry ∷ entries)))
place_turn entries later n _ w _ _ from worlds moves (sender_idle at) is is_run =
    later (n + 1) w from worlds moves is is_run
place_turn entries later n _ w _ _ from worlds moves (receiver_idle at) is is_run =
    later (n + 1) w from worlds moves is is_run
place_turn entries later n _ w _ _ from worlds moves (sender_made position row at by) is is_run =
    let to : Option Place = sender_puts (sender_step position) (reply_of row) in
    later (n + 1) (sender_world w (sender_step position) row) (moved_to from to) worlds moves
    (moved_on w.state.message from to is) is_run
    ∙ ap (λ (place : Place). Some place) (last_on w.state.message from to (message_moves entries) is)
place_turn entries later n _ w _ _ from worlds moves (receiver_made answer position row at by) is is_run =
    let to : Option Place = receiver_puts (receiver_step position) in
    later (n + 1) (receiver_world (receiver_input answer n w) w (receiver_step position) row) (moved_to from to) worlds
    moves (moved_on w.state.message from to is) is_run
    ∙ ap (λ (place : Place). Some place) (last_on w.state.message from to (message_moves entries) is)

place_steps : (entries : List Entry) → PlaceClaim entries
place_steps [] n w from [] [] is is_run = is
place_steps [] n w from (next ∷ worlds) [] is is_run = elim is_run [ ]
place_steps [] n w from (next ∷ worlds) (move ∷ moves) is is_run = elim is_run [ ]
place_steps [] n w from [] (move ∷ moves) is is_run = elim is_run [ ]
place_steps (entry ∷ entries) n w from (next ∷ worlds) (move ∷ moves) is is_run =
    place_turn entries (place_steps entries) n (side_of move) w entry next from worlds moves
    (turned n w move (entry, next) is_run.0) is is_run.1
place_steps (entry ∷ entries) n w from [] [] is is_run = elim is_run [ ]
place_steps (entry ∷ entries) n w from [] (move ∷ moves) is is_run = elim is_run [ ]
place_steps (entry ∷ entries) n w from (next ∷ worlds) [] is is_run = elim is_run [ ]

no_rest : {T : Type 0} (place : Option Place) → rest_at {T = T} place None ≡ None
no_rest None = refl
no_rest (Some place) = refl

rest_shown_by : {T : Type 0} (last : SenderLast T) (place : Option Place) (shown : Place)
    → (opening_place last ≡ Some NotSent → place ≡ Some shown) → rest_at place (message_of last)
    ≡ option_map (rest_of shown) (message_of last)
rest_shown_by (SL.Send message error) place shown is = rw (is refl) refl
rest_shown_by SL.Drop place shown is = no_rest place
rest_shown_by SL.Stop place shown is = no_rest place

pub rest_shown : {T : Type 0} (s : SenderScript T) (r : ReceiverScript) (worlds : List World) (moves : List Move)
    (entries : List Entry) → IsRun (opening s r) worlds moves entries
    → rest_at (last_of (opening s r) worlds).state.message (message_of s.last)
    ≡ option_map (rest_of (last_message_place entries)) (message_of s.last)
rest_shown s r worlds moves entries is_run =
    rest_shown_by s.last (last_of (opening s r) worlds).state.message (last_message_place entries)
    (λ is. place_steps entries 1 (opening s r) NotSent worlds moves is is_run)
