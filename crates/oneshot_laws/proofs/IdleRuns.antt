-- In each run an end is idle only if its script has nothing left.
use Rattle.oneshot_laws.proofs.Names.{◌≡◌, ℕ, ◌+◌, Bool, true, false, List, [], ◌∷◌, Option, None, refl, ap, option_and_then, receiver_step, sender_step, End, Sender, Receiver, Call, Of_sender}
use Rattle.oneshot_laws.proofs.Names.{Of_receiver, first, is_none_left, left_by, as_sender_call, as_receiver_call, calls_of, sender_has, receiver_has, IsReached, sender_position, receiver_position}
use Rattle.oneshot_laws.proofs.Names.{reply_of, World, IsRunFrom, IsRun, opening, side_of, receiver_input, Move, ReceiverScript, SenderScript, ReceiverState, SenderState, Entry, Place, both}
use Rattle.oneshot_laws.proofs.Names.{sender_world, receiver_world, opening_reached, Turned, sender_idle, sender_made, receiver_idle, receiver_made, turned, turned_reaches, is_idle_right_from}
use Rattle.oneshot_laws.proofs.Names.{is_idle_right, Reading, sender_reading, receiver_reading}
use Rattle.oneshot_world.specs.declared.state.ReceiverState.TheVariants as RS
use Rattle.oneshot_world.specs.declared.state.SenderState.TheVariants as SS

-- an end without a position has no call left
sender_none : (message : Option Place) (s : SenderState) (calls : List Call) → sender_has message s calls ≡ true
    → sender_position s (option_and_then as_sender_call (first calls)) ≡ None → is_none_left calls ≡ true
sender_none message SS.Ready [] h at = refl
sender_none message SS.Ready (Of_sender call ∷ calls) h at = cc
sender_none message SS.Ready (_ ∷ calls) h at = cc
sender_none message (SS.At position) calls h at = cc
sender_none message SS.Failed [] h at = refl
sender_none message SS.Failed (Of_sender call ∷ calls) h at = cc
sender_none message SS.Failed (_ ∷ calls) h at = cc
sender_none message SS.Ended calls h at = h

receiver_none : (s : ReceiverState) (future : Bool) (calls : List Call) → receiver_has s future calls ≡ true
    → receiver_position s (option_and_then as_receiver_call (first calls)) ≡ None → is_none_left calls ≡ true
receiver_none RS.Ready false [] h at = refl
receiver_none RS.Ready false (Of_receiver call ∷ calls) h at = cc
receiver_none RS.Ready false (_ ∷ calls) h at = cc
receiver_none RS.Ready true [] h at = refl
receiver_none RS.Ready true (Of_receiver call ∷ calls) h at = cc
receiver_none RS.Ready true (_ ∷ calls) h at = cc
receiver_none (RS.At position) future calls h at = cc
receiver_none RS.Ended future calls h at = h

-- a reading of the entries of a run from this world
abbrev Claim : List Entry → Type 0
Claim entries =
    (n : ℕ) (w : World) (s r : Reading) (worlds : List World) (moves : List Move) → s.left ≡ w.sender
    → r.left ≡ w.receiver → IsReached w → IsRunFrom n w worlds moves entries → is_idle_right_from s r entries ≡ true

idle_turn : (entries : List Entry) → Claim entries
    → (n : ℕ) (side : End) (w : World) (entry : Entry) (next : World) (s r : Reading) (worlds : List World)
    (moves : List Move) → Turned n w side entry next → s.left ≡ w.sender → r.left ≡ w.receiver → IsReached w
    → IsReached next → IsRunFrom (n + 1) next worlds moves entries → is_idle_right_from s r (entry ∷ entries) ≡ true
idle_turn entries later n _ w _ _ s r worlds moves (sender_idle at) se re h k is_run =
    both _ _ (rw se (sender_none w.state.message w.state.sender w.sender.calls h.sender at))
    (later (n + 1) w s r worlds moves se re h is_run)
idle_turn entries later n _ w _ _ s r worlds moves (receiver_idle at) se re h k is_run =
    both _ _ (rw re (receiver_none w.state.receiver w.state.future w.receiver.calls h.receiver at))
    (later (n + 1) w s r worlds moves se re h is_run)
idle_turn entries later n _ w _ _ s r worlds moves (sender_made position row at steps) se re h k is_run =
    later (n + 1) (sender_world w (sender_step position) row) _ r worlds moves
    (ap (λ left. left_by Sender (reply_of row) left) se) re k is_run
idle_turn entries later n _ w _ _ s r worlds moves (receiver_made answer position row at steps) se re h k is_run =
    later (n + 1) (receiver_world (receiver_input answer n w) w (receiver_step position) row) s _ worlds moves se
    (ap (λ left. left_by Receiver (reply_of row) left) re) k is_run

idles : (entries : List Entry) → Claim entries
idles [] n w s r worlds moves se re h is_run = refl
idles (entry ∷ entries) n w s r (next ∷ worlds) (move ∷ moves) se re h is_run =
    let by : Turned n w (side_of move) entry next = turned n w move (entry, next) is_run.0 in
    idle_turn entries (idles entries) n (side_of move) w entry next s r worlds moves by se re h
    (turned_reaches n (side_of move) w entry next h by) is_run.1
idles (entry ∷ entries) n w s r [] [] se re h is_run = elim is_run [ ]
idles (entry ∷ entries) n w s r [] (move ∷ moves) se re h is_run = elim is_run [ ]
idles (entry ∷ entries) n w s r (next ∷ worlds) [] se re h is_run = elim is_run [ ]

pub idle_run : {T : Type 0} (s : SenderScript T) (r : ReceiverScript) (worlds : List World) (moves : List Move)
    (entries : List Entry) → IsRun (opening s r) worlds moves entries → is_idle_right (calls_of s r) entries ≡ true
idle_run s r worlds moves entries is_run =
    idles entries 1 (opening s r) (sender_reading (calls_of s r)) (receiver_reading (calls_of s r)) worlds moves refl
    refl (opening_reached s r) is_run
