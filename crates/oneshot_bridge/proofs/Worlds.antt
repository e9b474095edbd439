-- The model makes each step of a walk by one move.
use Rattle.oneshot_bridge.proofs.Names.{◌≡◌, ℕ, ◌+◌, Bool, false, List, [], ◌∷◌, ◌++◌, Some, refl, ap, ◌∙◌, option_map, Receiver, ReceiverPos, SenderPos, Op, Noted, op_of, saw, receiver_step}
use Rattle.oneshot_bridge.proofs.Names.{receiver_row, sender_step, sender_row, word_after, Outcome, left_by, seen_by, word_left, reply_of, IsReached, sender_fits, receiver_fits, sender_steps}
use Rattle.oneshot_bridge.proofs.Names.{receiver_steps, sender_stepped, receiver_stepped, World, turn, no_input, receiver_input, opening, Move, ReceiverScript, SenderScript, State, Entry}
use Rattle.oneshot_bridge.proofs.Names.{sender_world, receiver_world, sender_row_reaches, receiver_row_reaches, opening_reached, message_of, Scene, goes_on, log_of, RunsSo, answers_with, stands_after}
use Rattle.oneshot_bridge.proofs.Names.{opening_sender, opening_receiver, SenderStand, ReceiverStand, the_sender, the_receiver, Quiet, quiet, Operates, operates}
use Rattle.oneshot_machine.specs.declared.machine.End.TheVariants.{Sender}
use Rattle.oneshot_world.specs.declared.script.Move.TheVariants as M
use Rattle.oneshot_world.specs.declared.trace.Entry.TheVariants.{Made as Made_entry}
use Rattle.oneshot_world.proofs.ReachedLeads.{sender_at, receiver_at}
use Rattle.oneshot_world.proofs.ReachedMoves.{sender_makes, receiver_makes}
use Rattle.oneshot_bridge.proofs.Interleaves.{CanStep}
use Rattle.oneshot_bridge.proofs.Seen.{op_sees, answer_in, sender_answers, sender_sees, receiver_sees}
use Rattle.oneshot_bridge.proofs.Replied.{replied_by, replies_more, replies_same}
use Rattle.oneshot_bridge.proofs.Turns.{by_row, quiet_word, quiet_op, log_stays, log_grows, sender_turn, receiver_turn}

module _ {X : Type 0} (a : SenderScript X) (b : ReceiverScript) where
  -- The simulation relation: a run with both logs that has led to where both walks are. `sender_told` and
  -- `receiver_told` are the replies so far, stated so that they stay true as the trace grows.
  pub record Got (xs ys : List Noted) (n : ℕ) (s : SenderStand) (r : ReceiverStand) : Type 0 where
    pub moves : List Move
    pub entries : List Entry
    pub now : Scene X
    pub run : RunsSo a b moves entries now xs ys n
    pub sender : now.world.state.sender ≡ s.0
    pub sender_left : now.world.sender ≡ s.1
    pub receiver : now.world.state.receiver ≡ r.0
    pub receiver_left : now.world.receiver ≡ r.1
    pub sender_replied : (more : List Entry)
        → replied_by Sender (opening_sender a).1 (entries ++ more) ≡ s.2 ++ replied_by Sender s.1 more
    pub receiver_replied : (more : List Entry)
        → replied_by Receiver (opening_receiver b).1 (entries ++ more) ≡ r.2 ++ replied_by Receiver r.1 more
    pub reached : IsReached now.world

  -- the entry of a step by a row
  abbrev sender_entry : State → SenderPos → Outcome SenderPos → Entry
  sender_entry state p row = Made_entry (sender_stepped no_input state (sender_step p) row).0

  abbrev receiver_entry : Bool → Scene X → State → ReceiverPos → Outcome ReceiverPos → Entry
  receiver_entry answer now state p row =
      Made_entry (receiver_stepped (receiver_input answer (now.count + 1) now.world) state (receiver_step p) row).0

  -- where a move leads
  abbrev then_at : Scene X → World → Scene X
  then_at now next = record { world = next; count = now.count + 1; message = now.message }

  moved_on : {xs ys zs vs : List Noted} {n m : ℕ} {s : SenderStand} {r : ReceiverStand} (g : Got xs ys n s r)
      (move : Move) (entry : Entry) (next : World) → turn (g.now.count + 1) g.now.world move ≡ Some (entry, next)
      → log_of Sender (g.entries ++ entry ∷ []) ≡ zs → log_of Receiver (g.entries ++ entry ∷ []) ≡ vs
      → next.state.word ≡ m
      → RunsSo a b (g.moves ++ move ∷ []) (g.entries ++ entry ∷ []) (then_at g.now next) zs vs m
  moved_on g move entry next turned sender receiver word =
      record {
        run = goes_on g.now move entry (then_at g.now next) turned refl refl a b g.moves g.entries g.run.run;
        sender_log = sender;
        receiver_log = receiver;
        leaves = word;
      }

  module _ {xs ys : List Noted} {n : ℕ} where
    -- a sender makes the step of its world by a row
    sender_made : {s : SenderStand} {r : ReceiverStand} (g : Got xs ys n s r) (p : SenderPos) (row : Outcome SenderPos)
        → the_sender.position s ≡ Some p → sender_row p (seen_by false g.now.world.state (sender_step p)) ≡ Some row
        → (sender_at g.now.world ≡ Some p) × (sender_steps no_input g.now.world.state p
        ≡ Some (sender_stepped no_input g.now.world.state (sender_step p) row))
    sender_made {s} g p row at rows =
        let w = g.now.world in
        let there : sender_at w ≡ Some p =
        (λ i. the_sender.position (g.sender i, g.sender_left i, s.2)) ∙ at in (
          there,
          by_row (sender_fits w.state (sender_step p)) (sender_stepped no_input w.state (sender_step p))
              (sender_row p (seen_by false w.state (sender_step p))) row (sender_makes w p g.reached there) rows,
        )

    sender_then : {zs : List Noted} {m : ℕ} {s : SenderStand} {r : ReceiverStand} (g : Got xs ys n s r) (p : SenderPos)
        (row : Outcome SenderPos) → the_sender.position s ≡ Some p
        → sender_row p (seen_by false g.now.world.state (sender_step p)) ≡ Some row
        → log_of Sender
        (g.entries ++ sender_entry g.now.world.state p row ∷ []) ≡ zs
        → word_left g.now.world.state.word (sender_step p) ≡ m
        → Got zs ys m (stands_after the_sender p row s.1 s.2) r
    sender_then {s} {r} g p row at rows log word =
        let w = g.now.world in
        let next = sender_world w (sender_step p) row in
        let entry = sender_entry w.state p row in
        let made = sender_made g p row at rows in
        record {
          moves = g.moves ++ M.Sender ∷ [];
          entries = g.entries ++ entry ∷ [];
          now = then_at g.now next;
          run =
              moved_on g M.Sender entry next (sender_turn (g.now.count + 1) w p row made.0 made.1) log
              (log_stays Receiver g.entries entry g.run.receiver_log refl) word;
          sender = refl;
          sender_left = ap (left_by Sender (reply_of row)) g.sender_left;
          receiver = g.receiver;
          receiver_left = g.receiver_left;
          sender_replied =
              replies_more Sender entry g.entries _ s.1 (left_by Sender (reply_of row) s.1) s.2
              (answers_with s.1 (reply_of row)) g.sender_replied (λ more. refl);
          receiver_replied = replies_same Receiver entry g.entries _ r.1 r.2 g.receiver_replied (λ more. refl);
          reached = sender_row_reaches w p row g.reached made.0 made.1;
        }

    sender_rests : {s next : SenderStand} {r : ReceiverStand} → Got xs ys n s r → Quiet the_sender s next
        → Got xs ys n next r
    sender_rests g (quiet p seen row at may rows) =
        let state = g.now.world.state in
        let step = sender_step p in
        sender_then g p row at (ap (sender_row p) (sender_answers p (answer_in seen) state) ∙ sender_sees p seen state
        may ∙ rows)
        (log_stays Sender g.entries (sender_entry state p row) g.run.sender_log
        (ap (λ o. option_map (λ op. (op, seen_by false state step)) o) (quiet_op step seen may)))
        (quiet_word step seen state.word may ∙ g.run.leaves)

    sender_acts : {s next : SenderStand} {r : ReceiverStand} (op : Op) → Got xs ys n s r
        → Operates the_sender s (op, saw op n) next → Got (xs ++ (op, saw op n) ∷ []) ys (word_after op n) next r
    sender_acts op g (operates p _ row at step rows) =
        let state = g.now.world.state in
        let seen : seen_by false state (sender_step p) ≡ saw op n =
        ap (seen_by false state) step ∙ op_sees false state op ∙ ap (saw op) g.run.leaves in
        sender_then g p row at (ap (sender_row p) seen ∙ rows)
        (log_grows Sender g.entries (sender_entry state p row) g.run.sender_log
        (λ i. option_map (λ op. (op, seen i)) (op_of (step i))))
        (ap (word_left state.word) step ∙ ap (word_after op) g.run.leaves)

    -- the same for the receiver
    receiver_made : {s : SenderStand} {r : ReceiverStand} (answer : Bool) (g : Got xs ys n s r) (p : ReceiverPos)
        (row : Outcome ReceiverPos) → the_receiver.position r ≡ Some p
        → receiver_row p (seen_by answer g.now.world.state (receiver_step p)) ≡ Some row
        → (receiver_at g.now.world ≡ Some p)
        × (receiver_steps (receiver_input answer (g.now.count + 1) g.now.world) g.now.world.state p ≡ Some
        (receiver_stepped (receiver_input answer (g.now.count + 1) g.now.world) g.now.world.state (receiver_step p)
        row))
    receiver_made {r} answer g p row at rows =
        let w = g.now.world in
        let k = g.now.count + 1 in
        let there : receiver_at w ≡ Some p =
        (λ i. the_receiver.position (g.receiver i, g.receiver_left i, r.2)) ∙ at in (
          there,
          by_row (receiver_fits w.state (receiver_step p))
              (receiver_stepped (receiver_input answer k w) w.state (receiver_step p))
              (receiver_row p (seen_by answer w.state (receiver_step p))) row
              (receiver_makes answer k w p g.reached there) rows,
        )

    receiver_then : {zs : List Noted} {m : ℕ} {s : SenderStand} {r : ReceiverStand} (answer : Bool)
        (g : Got xs ys n s r)
        (p : ReceiverPos) (row : Outcome ReceiverPos) → the_receiver.position r ≡ Some p
        → receiver_row p (seen_by answer g.now.world.state (receiver_step p)) ≡ Some row
        → log_of Receiver (g.entries ++ receiver_entry answer g.now g.now.world.state p row ∷ []) ≡ zs
        → word_left g.now.world.state.word (receiver_step p) ≡ m
        → Got xs zs m s (stands_after the_receiver p row r.1 r.2)
    receiver_then {s} {r} answer g p row at rows log word =
        let w = g.now.world in
        let k = g.now.count + 1 in
        let t = receiver_input answer k w in
        let next = receiver_world t w (receiver_step p) row in
        let entry = receiver_entry answer g.now w.state p row in
        let made = receiver_made answer g p row at rows in
        record {
          moves = g.moves ++ M.Receiver answer answer ∷ [];
          entries = g.entries ++ entry ∷ [];
          now = then_at g.now next;
          run =
              moved_on g (M.Receiver answer answer) entry next (receiver_turn answer k w p row made.0 made.1)
              (log_stays Sender g.entries entry g.run.sender_log refl) log word;
          sender = g.sender;
          receiver = refl;
          sender_left = g.sender_left;
          receiver_left = ap (left_by Receiver (reply_of row)) g.receiver_left;
          sender_replied = replies_same Sender entry g.entries _ s.1 s.2 g.sender_replied (λ more. refl);
          receiver_replied =
              replies_more Receiver entry g.entries _ r.1 (left_by Receiver (reply_of row) r.1) r.2
              (answers_with r.1 (reply_of row)) g.receiver_replied (λ more. refl);
          reached = receiver_row_reaches answer k w p row g.reached made.0 made.1;
        }

    receiver_rests : {s : SenderStand} {r next : ReceiverStand} → Got xs ys n s r → Quiet the_receiver r next
        → Got xs ys n s next
    receiver_rests g (quiet p seen row at may rows) =
        let state = g.now.world.state in
        let step = receiver_step p in
        receiver_then (answer_in seen) g p row at (receiver_sees p seen state may ∙ rows)
        (log_stays Receiver g.entries (receiver_entry (answer_in seen) g.now state p row) g.run.receiver_log
        (ap (λ o. option_map (λ op. (op, seen_by (answer_in seen) state step)) o) (quiet_op step seen may)))
        (quiet_word step seen state.word may ∙ g.run.leaves)

    receiver_acts : {s : SenderStand} {r next : ReceiverStand} (op : Op) → Got xs ys n s r
        → Operates the_receiver r (op, saw op n) next → Got xs (ys ++ (op, saw op n) ∷ []) (word_after op n) s next
    receiver_acts op g (operates p _ row at step rows) =
        let state = g.now.world.state in
        let seen : seen_by false state (receiver_step p) ≡ saw op n =
        ap (seen_by false state) step ∙ op_sees false state op ∙ ap (saw op) g.run.leaves in
        receiver_then false g p row at (ap (receiver_row p) seen ∙ rows)
        (log_grows Receiver g.entries (receiver_entry false g.now state p row) g.run.receiver_log
        (λ i. option_map (λ op. (op, seen i)) (op_of (step i))))
        (ap (word_left state.word) step ∙ ap (word_after op) g.run.leaves)

  opening_got : Got [] [] 3 (opening_sender a) (opening_receiver b)
  opening_got =
      record {
        moves = [];
        entries = [];
        now = record { world = opening a b; count = 0; message = message_of a.last };
        run = record {
          run = record { worlds = []; is_run = tt; ends = refl; count = refl; message = refl };
          sender_log = refl;
          receiver_log = refl;
          leaves = refl;
        };
        sender = refl;
        sender_left = refl;
        receiver = refl;
        receiver_left = refl;
        sender_replied = λ more. refl;
        receiver_replied = λ more. refl;
        reached = opening_reached a b;
      }

  pub the_model : CanStep (Quiet the_sender) (Operates the_sender) (Quiet the_receiver) (Operates the_receiver)
      (opening_sender a) (opening_receiver b) Got
  the_model =
      record {
        opens = opening_got;
        sender_rests = sender_rests;
        receiver_rests = receiver_rests;
        sender_acts = sender_acts;
        receiver_acts = receiver_acts;
      }
