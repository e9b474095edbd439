-- A turn of a world: an end without a position is idle, and one with a position makes a step by a row.
use Rattle.oneshot_world.proofs.Names.{◌≡◌, ℕ, Bool, Option, Some, None, refl, sym, ◌∙◌, ap, subst, option_map, receiver_step, Outcome, sender_step, End, Sender, Receiver, ReceiverPos, SenderPos}
use Rattle.oneshot_world.proofs.Names.{IsReached, sender_turns_at, receiver_turns_at, sender_steps, receiver_steps, sender_stepped, receiver_stepped, made_entry, World, turn, turn_of, side_of}
use Rattle.oneshot_world.proofs.Names.{receiver_answer, no_input, receiver_input, world_then, Move, State, Entry, Made, left_by, Input}
use Rattle.oneshot_world.specs.declared.script.Move.TheVariants as M
use Rattle.oneshot_world.specs.declared.trace.Entry.TheVariants.{Idle, Made as Made_entry}
use Rattle.oneshot_world.proofs.ReachedLeads.{sender_at, receiver_at}
use Rattle.oneshot_world.proofs.ReachedLeft.{sender_world, receiver_world}
use Rattle.oneshot_world.proofs.ReachedMoves.{sender_made_by, receiver_made_by, sender_row_reaches, receiver_row_reaches}

-- by the move that makes entry `k`
pub data Turned (k : ℕ) (w : World) : End → Entry → World → Type 0 where
  sender_idle : sender_at w ≡ None → Turned k w Sender (Idle Sender) w
  sender_made : (position : SenderPos) (row : Outcome SenderPos) → sender_at w ≡ Some position
      → sender_steps no_input w.state position
      ≡ Some (sender_stepped no_input w.state (sender_step position) row)
      → Turned k w Sender (Made_entry (sender_stepped no_input w.state (sender_step position) row).0)
      (sender_world w (sender_step position) row)
  receiver_idle : receiver_at w ≡ None → Turned k w Receiver (Idle Receiver) w
  receiver_made : (answer : Bool) (position : ReceiverPos) (row : Outcome ReceiverPos) → receiver_at w ≡ Some position
      → receiver_steps (receiver_input answer k w) w.state position
      ≡ Some (receiver_stepped (receiver_input answer k w) w.state (receiver_step position) row)
      → Turned k w Receiver (Made_entry
      (receiver_stepped (receiver_input answer k w) w.state (receiver_step position) row).0)
      (receiver_world (receiver_input answer k w) w (receiver_step position) row)

abbrev IsTurned : ℕ → World → End → Entry × World → Type 0
IsTurned k w side t = Turned k w side t.0 t.1

some_is : {X : Type 0} (x y : X) → Some x ≡ Some y → x ≡ y
some_is x y h = cc

sender_by_steps : (k : ℕ) (w : World) (position : SenderPos) (steps : Option (Made × State)) (t : Entry × World)
    → sender_at w ≡ Some position → sender_steps no_input w.state position ≡ steps
    → option_map (world_then Sender w) (option_map made_entry steps) ≡ Some t → IsTurned k w Sender t
sender_by_steps k w position None t at e h = absurd (cc h)
sender_by_steps k w position (Some made) t at e h =
    let by = sender_made_by no_input w.state position made e in
    let same : sender_stepped no_input w.state (sender_step position) by.0 ≡ made = by.1 in
    subst (λ t. IsTurned k w Sender t)
    (ap (λ made. world_then Sender w (made_entry made)) same ∙ some_is (world_then Sender w (made_entry made)) t h)
    (sender_made position by.0 at (e ∙ ap (λ (t : Made × State). Some t) (sym same)))

receiver_by_steps : (k : ℕ) (answer : Bool) (w : World) (position : ReceiverPos) (steps : Option (Made × State))
    (t : Entry × World) → receiver_at w ≡ Some position
    → receiver_steps (receiver_input answer k w) w.state position ≡ steps
    → option_map (world_then Receiver w) (option_map made_entry steps) ≡ Some t → IsTurned k w Receiver t
receiver_by_steps k answer w position None t at e h = absurd (cc h)
receiver_by_steps k answer w position (Some made) t at e h =
    let by = receiver_made_by (receiver_input answer k w) w.state position made e in
    let same : receiver_stepped (receiver_input answer k w) w.state (receiver_step position) by.0 ≡ made = by.1 in
    subst (λ t. IsTurned k w Receiver t)
    (ap (λ made. world_then Receiver w (made_entry made)) same ∙ some_is (world_then Receiver w (made_entry made)) t h)
    (receiver_made answer position by.0 at (e ∙ ap (λ (t : Made × State). Some t) (sym same)))

sender_turned : (k : ℕ) (w : World) (position : Option SenderPos) (t : Entry × World) → sender_at w ≡ position
    → option_map (world_then Sender w) (sender_turns_at no_input w.state position) ≡ Some t → IsTurned k w Sender t
sender_turned k w None t at h = subst (λ t. IsTurned k w Sender t) (some_is (Idle Sender, w) t h) (sender_idle at)
sender_turned k w (Some position) t at h =
    sender_by_steps k w position (sender_steps no_input w.state position) t at refl h

receiver_turned : (k : ℕ) (answer : Bool) (w : World) (position : Option ReceiverPos) (t : Entry × World)
    → receiver_at w ≡ position → option_map (world_then Receiver w)
    (receiver_turns_at (receiver_input answer k w) w.state position) ≡ Some t → IsTurned k w Receiver t
receiver_turned k answer w None t at h =
    subst (λ t. IsTurned k w Receiver t) (some_is (Idle Receiver, w) t h) (receiver_idle at)
receiver_turned k answer w (Some position) t at h =
    receiver_by_steps k answer w position (receiver_steps (receiver_input answer k w) w.state position) t at refl h

pub turned : (k : ℕ) (w : World) (move : Move) (t : Entry × World) → turn k w move ≡ Some t
    → Turned k w (side_of move) t.0 t.1
turned k w M.Sender t h = sender_turned k w (sender_at w) t refl h
turned k w (M.Receiver over refuse) t h =
    receiver_turned k (receiver_answer (receiver_at w) over refuse) w (receiver_at w) t refl h

-- a turn of a reached world leads to a reached world
pub turned_reaches : (k : ℕ) (side : End) (w : World) (entry : Entry) (next : World) → IsReached w
    → Turned k w side entry next → IsReached next
turned_reaches k _ w _ _ h (sender_idle at) = h
turned_reaches k _ w _ _ h (sender_made position row at steps) = sender_row_reaches w position row h at steps
turned_reaches k _ w _ _ h (receiver_idle at) = h
turned_reaches k _ w _ _ h (receiver_made answer position row at steps) =
    receiver_row_reaches answer k w position row h at steps

-- a step at the receiver's position, as a turn
pub receiver_turn_made : (answer : Bool) (k : ℕ) (w : World) (position : ReceiverPos) (t : Input) (e : Made) (s : State)
    → receiver_at w ≡ Some position → t ≡ receiver_input answer k w → receiver_steps t w.state position ≡ Some (e, s)
    → turn_of Receiver (receiver_input answer k w) w
    ≡ Some (Made_entry e, record { state = s; sender = w.sender; receiver = left_by Receiver e.reply w.receiver })
receiver_turn_made answer k w position t e s at given steps =
    ap (λ p. option_map (world_then Receiver w) (receiver_turns_at (receiver_input answer k w) w.state p)) at
    ∙ ap (λ t. option_map (world_then Receiver w) (option_map made_entry (receiver_steps t w.state position)))
    (sym given)
    ∙ ap (λ x. option_map (world_then Receiver w) (option_map made_entry x)) steps
