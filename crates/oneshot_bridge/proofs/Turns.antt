-- One turn of a world by a row, and the logs of a trace with one more entry.
use Rattle.std.proofs.Common.{if◌then◌else◌}
use Rattle.oneshot_bridge.proofs.Names.{◌≡◌, ℕ, Bool, true, false, List, [], ◌∷◌, ◌++◌, Option, Some, None, refl, ap, ◌∙◌, append-nil, filter_map-append, cons_option, option_map, End, Receiver, Seen}
use Rattle.oneshot_bridge.proofs.Names.{Step, ReceiverPos, SenderPos, Noted, op_of, receiver_step, sender_step, Outcome, word_left, sender_steps, receiver_steps, sender_stepped, receiver_stepped}
use Rattle.oneshot_bridge.proofs.Names.{sender_turns_at, receiver_turns_at, made_entry, World, turn, turn_of, world_then, no_input, receiver_input, Entry, sender_world, receiver_world, noted_of}
use Rattle.oneshot_bridge.proofs.Names.{log_of, may_see}
use Rattle.std.specs.Option.{IsSome}
use Rattle.oneshot_machine.specs.declared.machine.End.TheVariants.{Sender}
use Rattle.oneshot_machine.specs.declared.machine.Step.TheVariants as T
use Rattle.oneshot_world.specs.declared.script.Move.TheVariants as M
use Rattle.oneshot_world.specs.declared.trace.Entry.TheVariants.{Made as Made_entry}
use Rattle.oneshot_world.proofs.ReachedLeads.{sender_at, receiver_at}

-- a step is made by the row for what it sees
pub by_row : {P X : Type 0} (fits : Bool) (f : P → X) (o : Option P) (x : P)
    → IsSome (if fits then option_map f o else None) → o ≡ Some x
    → (if fits then option_map f o else None) ≡ Some (f x)
by_row true f o x made e = ap (option_map f) e
by_row false f o x made e = absurd (cc)

if_same : (b a : Bool) → (if b then a else a) ≡ a
if_same true a = refl
if_same false a = refl

pub quiet_word : (step : Step) (seen : Seen) (n : ℕ) → may_see step seen ≡ true → word_left n step ≡ n
quiet_word (T.Word op) seen n may = absurd (cc)
quiet_word _ seen n may = refl

pub quiet_op : (step : Step) (seen : Seen) → may_see step seen ≡ true → op_of step ≡ None
quiet_op (T.Word op) seen may = absurd (cc)
quiet_op _ seen may = refl

-- the logs of a trace with one more entry
module _ (end : End) (entries : List Entry) (entry : Entry) {xs : List Noted} where
  log_more : log_of end entries ≡ xs → log_of end (entries ++ entry ∷ []) ≡ xs ++ cons_option (noted_of end entry) []
  log_more log =
      filter_map-append (noted_of end) entries (entry ∷ []) ∙ ap (λ l. l ++ cons_option (noted_of end entry) []) log

  pub log_stays : log_of end entries ≡ xs → noted_of end entry ≡ None → log_of end (entries ++ entry ∷ []) ≡ xs
  log_stays log none = log_more log ∙ ap (λ o. xs ++ cons_option o []) none ∙ append-nil xs

  pub log_grows : {x : Noted} → log_of end entries ≡ xs → noted_of end entry ≡ Some x
      → log_of end (entries ++ entry ∷ []) ≡ xs ++ x ∷ []
  log_grows log some = log_more log ∙ ap (λ o. xs ++ cons_option o []) some

pub sender_turn : (k : ℕ) (w : World) (p : SenderPos) (row : Outcome SenderPos) → sender_at w ≡ Some p
    → sender_steps no_input w.state p ≡ Some (sender_stepped no_input w.state (sender_step p) row)
    → turn k w M.Sender ≡ Some
    (Made_entry (sender_stepped no_input w.state (sender_step p) row).0, sender_world w (sender_step p) row)
sender_turn k w p row at steps =
    ap (λ p. option_map (world_then Sender w) (sender_turns_at no_input w.state p)) at
    ∙ ap (λ x. option_map (world_then Sender w) (option_map made_entry x)) steps

pub receiver_turn : (answer : Bool) (k : ℕ) (w : World) (p : ReceiverPos) (row : Outcome ReceiverPos)
    → receiver_at w ≡ Some p → receiver_steps (receiver_input answer k w) w.state p
    ≡ Some (receiver_stepped (receiver_input answer k w) w.state (receiver_step p) row)
    → turn k w (M.Receiver answer answer) ≡ Some (
      Made_entry (receiver_stepped (receiver_input answer k w) w.state (receiver_step p) row).0,
      receiver_world
          (receiver_input answer k w) w (receiver_step p) row,
    )
receiver_turn answer k w p row at steps =
    ap (λ a. turn_of Receiver (receiver_input a k w) w) (if_same _ answer)
    ∙ ap (λ p. option_map (world_then Receiver w) (receiver_turns_at (receiver_input answer k w) w.state p)) at
    ∙ ap (λ x. option_map (world_then Receiver w) (option_map made_entry x)) steps
