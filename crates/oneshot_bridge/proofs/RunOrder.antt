-- A run performs the operations of both its logs in an order, and logs have only one order.
use Rattle.oneshot_bridge.proofs.Names.{◌≡◌, ℕ, ◌+◌, Bool, false, List, [], ◌∷◌, ◌++◌, Option, None, refl, sym, ap, ◌∙◌, subst, cons_option, option_map, append_assoc, append-nil, filter_map-append}
use Rattle.oneshot_bridge.proofs.Names.{End, Receiver, Seen, Step, Op, Load, Swap, Add, Noted, op_of, saw, InOrder, none_made, by_sender, by_receiver, receiver_step, sender_step, word_after, seen_by}
use Rattle.oneshot_bridge.proofs.Names.{word_left, World, opening, side_of, by_end, IsRunFrom, Move, ReceiverScript, SenderScript, State, Entry, Turned, sender_idle, sender_made, receiver_idle}
use Rattle.oneshot_bridge.proofs.Names.{receiver_made, turned, Scene, last_of, ends_of, order_is_one, sent, received, noted_of, log_of, RunsSo, operator_of, operators_of, RunsAreInOrder, WorkedOrder}
use Rattle.oneshot_bridge.proofs.Names.{WrongOrder}
use Rattle.oneshot_machine.specs.declared.machine.End.TheVariants.{Sender}
use Rattle.oneshot_machine.specs.declared.machine.Step.TheVariants.{Word}
use Rattle.oneshot_machine.specs.declared.states.TheConstants.{RECEIVING, MESSAGE}
use Rattle.oneshot_bridge.proofs.Seen.{op_sees}

-- an order of these logs that leaves this word, in which these ends operate
record OrderedBy (xs ys : List Noted) (word : ℕ) (ends : List End) : Type 0 where
  order : InOrder xs ys word
  same : ends_of order ≡ ends

-- a step that is no operation
stays_ordered : {xs ys : List Noted} {word : ℕ} {ends : List End} → OrderedBy xs ys word ends
    → OrderedBy (xs ++ []) (ys ++ []) word (ends ++ [])
stays_ordered {xs} {ys} {word} {ends} so =
    subst (λ xs. OrderedBy xs (ys ++ []) word (ends ++ [])) (sym (append-nil xs))
    (subst (λ ys. OrderedBy xs ys word (ends ++ [])) (sym (append-nil ys))
    (record { order = so.order; same = so.same ∙ sym (append-nil ends) }))

-- a step that is one
sender_operates : {xs ys : List Noted} {word : ℕ} {ends : List End} (op : Op) (seen : Seen) → seen ≡ saw op word
    → OrderedBy xs ys word ends
    → OrderedBy (xs ++ (op, seen) ∷ []) (ys ++ []) (word_after op word) (ends ++ Sender ∷ [])
sender_operates {xs} {ys} {word} {ends} op seen saw_so so =
    subst (λ seen. OrderedBy (xs ++ (op, seen) ∷ []) (ys ++ []) (word_after op word) (ends ++ Sender ∷ [])) (sym saw_so)
    (subst (λ ys. OrderedBy (xs ++ (op, saw op word) ∷ []) ys (word_after op word) (ends ++ Sender ∷ []))
    (sym (append-nil ys))
    (record { order = by_sender op so.order; same = ap (λ es. es ++ Sender ∷ []) so.same }))

receiver_operates : {xs ys : List Noted} {word : ℕ} {ends : List End} (op : Op) (seen : Seen) → seen ≡ saw op word
    → OrderedBy xs ys word ends
    → OrderedBy (xs ++ []) (ys ++ (op, seen) ∷ []) (word_after op word) (ends ++ Receiver ∷ [])
receiver_operates {xs} {ys} {word} {ends} op seen saw_so so =
    subst (λ seen. OrderedBy (xs ++ []) (ys ++ (op, seen) ∷ []) (word_after op word) (ends ++ Receiver ∷ []))
    (sym saw_so)
    (subst (λ xs. OrderedBy xs (ys ++ (op, saw op word) ∷ []) (word_after op word) (ends ++ Receiver ∷ []))
    (sym (append-nil xs))
    (record { order = by_receiver op so.order; same = ap (λ es. es ++ Receiver ∷ []) so.same }))

-- what an entry adds to the log
abbrev noted_by : Bool → State → Step → Option Noted
noted_by answer s step = option_map (λ op. (op, seen_by answer s step)) (op_of step)

step_orders : (end : End) (answer : Bool) (s : State) (step : Step) {xs ys : List Noted} {ends : List End}
    → OrderedBy xs ys s.word ends
    → OrderedBy (xs ++ cons_option (by_end end (noted_by answer s step) None) [])
    (ys ++ cons_option (by_end end None (noted_by answer s step)) [])
    (word_left s.word step) (ends ++ cons_option (option_map (λ op. end) (op_of step)) [])
step_orders Sender answer s (Word op) so = sender_operates op (seen_by answer s (Word op)) (op_sees answer s op) so
step_orders Receiver answer s (Word op) so = receiver_operates op (seen_by answer s (Word op)) (op_sees answer s op) so
step_orders Sender answer s _ so = stays_ordered so
step_orders Receiver answer s _ so = stays_ordered so

turn_orders : {n : ℕ} {end : End} {w next : World} {entry : Entry} {xs ys : List Noted} {ends : List End}
    → Turned n w end entry next → OrderedBy xs ys w.state.word ends
    → OrderedBy (xs ++ cons_option (noted_of Sender entry) []) (ys ++ cons_option (noted_of Receiver entry) [])
    next.state.word (ends ++ cons_option (operator_of entry) [])
turn_orders (sender_idle at) so = stays_ordered so
turn_orders (receiver_idle at) so = stays_ordered so
turn_orders {w} (sender_made p row at steps) so = step_orders Sender false w.state (sender_step p) so
turn_orders {w} (receiver_made answer p row at steps) so = step_orders Receiver answer w.state (receiver_step p) so

-- the entries so far
abbrev OrderedAs : List Entry → World → Type 0
OrderedAs entries w = OrderedBy (log_of Sender entries) (log_of Receiver entries) w.state.word (operators_of entries)

longer : (entries : List Entry) (entry : Entry) (w : World)
    → OrderedBy (log_of Sender entries ++ cons_option (noted_of Sender entry) [])
    (log_of Receiver entries ++ cons_option (noted_of Receiver entry) [])
    w.state.word (operators_of entries ++ cons_option (operator_of entry) []) → OrderedAs (entries ++ entry ∷ []) w
longer entries entry w so =
    let xs = filter_map-append (noted_of Sender) entries (entry ∷ []) in
    let ys = filter_map-append (noted_of Receiver) entries (entry ∷ []) in
    let ends = filter_map-append operator_of entries (entry ∷ []) in
    subst (λ xs. OrderedBy xs (log_of Receiver (entries ++ entry ∷ [])) w.state.word
    (operators_of (entries ++ entry ∷ [])))
    (sym xs)
    (subst (λ ys. OrderedBy (log_of Sender entries ++ log_of Sender (entry ∷ [])) ys w.state.word
    (operators_of (entries ++ entry ∷ []))) (sym ys)
    (subst (OrderedBy (log_of Sender entries ++ log_of Sender (entry ∷ []))
    (log_of Receiver entries ++ log_of Receiver (entry ∷ [])) w.state.word) (sym ends) so))

orders_from : (n : ℕ) (w : World) (done : List Entry) (worlds : List World) (moves : List Move) (entries : List Entry)
    → OrderedAs done w → IsRunFrom n w worlds moves entries → OrderedAs (done ++ entries) (last_of w worlds)
orders_from n w done [] [] [] so is_run = subst (λ entries. OrderedAs entries w) (sym (append-nil done)) so
orders_from n w done (next ∷ worlds) (move ∷ moves) (entry ∷ entries) so is_run =
    let by : Turned n w (side_of move) entry next = turned n w move (entry, next) is_run.0 in
    subst (λ entries. OrderedAs entries (last_of next worlds)) (append_assoc done (entry ∷ []) entries)
    (orders_from (n + 1) next (done ++ entry ∷ []) worlds moves entries (longer done entry next (turn_orders by so))
    is_run.1)
orders_from n w done _ _ _ so is_run = elim is_run [ ]

module _ {T : Type 0} (a : SenderScript T) (b : ReceiverScript) {moves : List Move} {entries : List Entry}
    {now : Scene T} {xs ys : List Noted} {word : ℕ} (run : RunsSo a b moves entries now xs ys word) where
  ran_in_order : OrderedBy xs ys word (operators_of entries)
  ran_in_order =
      let ran = run.run in
      let so : OrderedAs entries (last_of (opening a b) ran.worlds) =
      orders_from 1 (opening a b) [] ran.worlds moves entries (record { order = none_made; same = refl }) ran.is_run in
      let there : (last_of (opening a b) ran.worlds).state.word ≡ word =
      ap (λ (w : World). w.state.word) ran.ends ∙ run.leaves in
      subst (λ xs. OrderedBy xs ys word (operators_of entries)) run.sender_log
      (subst (λ ys. OrderedBy (log_of Sender entries) ys word (operators_of entries)) run.receiver_log
      (subst (λ n. OrderedBy (log_of Sender entries) (log_of Receiver entries) n (operators_of entries)) there so))

pub runs_are_in_order : (T : Type 0) → RunsAreInOrder T
runs_are_in_order T a b moves entries now xs ys word run reached v order =
    let ran : OrderedBy xs ys word (operators_of entries) = ran_in_order a b run in
    sym ran.same ∙ (order_is_one xs ys word word v reached ran.order order).ends

-- the order of the worked run
abbrev worked : InOrder sent received 4
worked =
    by_receiver Load
    (by_sender (Swap MESSAGE)
    (by_receiver Load (by_sender Add (by_receiver (Swap RECEIVING) (by_receiver Load none_made)))))

pub worked_order : {T : Type 0} (m : T) → WorkedOrder m
worked_order m = record { ends = refl }

pub wrong_order : {T : Type 0} (m : T) → WrongOrder m
wrong_order m =
    record {
      not_sooner = λ e. cc e;
      no_other_step = λ e. cc e;
      lacks_them = λ so. let none = so 4 worked in cc none;
    }
