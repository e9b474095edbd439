-- Proofs of the examples: the calls and the order of each worked log, and why the wrong logs have none.
use Rattle.std.proofs.Common.{◌≡◌, ◌≤◌, ◌||◌, false, true, List, [], ◌∷◌, ◌++◌, length, Some, refl, sym, ◌∙◌, ap, subst, true≢false, arith}
use Rattle.std.specs.List.{cons_option}
use Rattle.std.specs.Option.{option_map}
use Rattle.oneshot_machine.specs.declared.machine.Reply.{Reply}
use Rattle.oneshot_machine.specs.declared.machine.Reply.TheVariants as R
use Rattle.oneshot_machine.specs.declared.machine.Seen.TheVariants.{Word}
use Rattle.oneshot_machine.specs.declared.machine.Step.TheVariants as Steps
use Rattle.oneshot_machine.specs.declared.machine.receiver.ReceiverPos.TheVariants.{Try}
use Rattle.oneshot_machine.specs.declared.machine.receiver.ReceiverStart.{ReceiverStart}
use Rattle.oneshot_machine.specs.declared.machine.receiver.ReceiverStart.TheVariants.{TryRecv}
use Rattle.oneshot_machine.specs.declared.machine.try_recv.TryPos.TheVariants.{TryLoad}
use Rattle.oneshot_machine.specs.declared.states.Op.TheVariants.{Load, Store, Swap, Add}
use Rattle.oneshot_machine.specs.declared.states.TheConstants.{DISCONNECTED, EMPTY, MESSAGE}
use Rattle.oneshot_machine.specs.Called.{as_receiver, ReceiverCalled, not_called, called}
use Rattle.oneshot_machine.specs.Logs.{Event, words}
use Rattle.oneshot_machine.specs.Noted.{Noted, op_of}
use Rattle.oneshot_machine.specs.Orders.{Reaches, has_row, nothing_made, sender_makes, receiver_makes}
use Rattle.oneshot_machine.specs.Receiver.{receiver_start, receiver_step, receiver_row}
use Rattle.oneshot_machine.specs.Runs.{Run, last, more}
use Rattle.oneshot_machine.specs.Slots.{head, tail}
use Rattle.oneshot_word.proofs.ByRows.{sender_is, receiver_is}
use Rattle.oneshot_word.proofs.LastOnes.{not_empty, same_start, same_last}
use Rattle.oneshot_ends.specs.Ends.{UnnamedWaker}
use Rattle.oneshot_machine.specs.TableRows.{is_same_seen}
use Rattle.oneshot_machine.proofs.CallBounds.{try_recv_makes}
use Rattle.oneshot_machine.proofs.FirstSteps.{tries_in_vain}
use Rattle.oneshot_ends.specs.Taken.{has_found}
use Rattle.oneshot_bridge.specs.CallExamples.{tried_twice}
use Rattle.oneshot_bridge.proofs.CallExamples.{worked_calls}
use Rattle.oneshot_values.specs.Examples.{got_twice, WorkedValues, WrongValues}
use Rattle.oneshot_values.specs.Values.{OnlyTheLastGot}
use Rattle.oneshot_values.proofs.ValuesRun.{shows_none, receiver_runs, error_runs}

-- the sender sends between the two tries
tried : Reaches ((Add, Word EMPTY) ∷ []) tried_twice DISCONNECTED
tried =
    receiver_makes (Store DISCONNECTED)
    (receiver_makes Load (sender_makes Add (receiver_makes Load nothing_made (has_row head)) (has_row head))
    (has_row (tail head))) (has_row head)

refused : Reaches ((Add, Word DISCONNECTED) ∷ []) ((Swap DISCONNECTED, Word EMPTY) ∷ []) EMPTY
refused =
    sender_makes Add (receiver_makes (Swap DISCONNECTED) nothing_made (has_row (tail (tail (tail head)))))
    (has_row (tail (tail head)))

pub worked_values : {T : Type 0} (m : T) → WorkedValues m
worked_values {T} m =
    let calls = (worked_calls {T = T} {W = UnnamedWaker}).tries in
    record {
      tried = receiver_runs T as_receiver (Some m) tried_twice
          ((TryRecv, R.Empty) ∷ (TryRecv, R.Message) ∷ [], calls) ((Add, Word EMPTY) ∷ [], DISCONNECTED, tried) refl;
      got_it = refl;
      last_got = ((TryRecv, R.Empty) ∷ [], calls, refl);
      refused = error_runs m ((Add, Word DISCONNECTED) ∷ []) ((Swap DISCONNECTED, Word EMPTY) ∷ [], EMPTY, refused);
    }

-- the last call of a receiver, and those before it
record IsLast (T : Type 0) (calls : List (ReceiverStart × Reply)) (x : ReceiverStart × Reply) (log : List Noted)
    : Type 0 where
  before : List Noted
  earlier : ReceiverCalled T UnnamedWaker as_receiver calls before
  run : List (Event T UnnamedWaker)
  made : Run receiver_step receiver_row (receiver_start x.0) run x.1
  leaves : log ≡ before ++ words run

last_call : {T : Type 0} (calls : List (ReceiverStart × Reply)) (x : ReceiverStart × Reply)
    {all : List (ReceiverStart × Reply)} {log : List Noted} → ReceiverCalled T UnnamedWaker as_receiver all log
    → all ≡ calls ++ x ∷ [] → IsLast T calls x log
last_call calls x not_called e = absurd (not_empty calls x (sym e))
last_call {T} calls x (called {calls = earlier} {log = log} call reply run was its made) e =
    subst (λ x. IsLast T calls x (log ++ words run)) (same_last earlier calls (call, reply) x e)
    (record {
      before = log;
      earlier = subst (λ calls. ReceiverCalled T UnnamedWaker as_receiver calls log)
          (same_start earlier calls (call, reply) x e) was;
      run = run;
      made = made;
      leaves = refl;
    })

-- a `try_recv` begins with its load
begins : {T : Type 0} (x : Event T UnnamedWaker) (xs : List (Event T UnnamedWaker)) → x.step ≡ Steps.Word Load
    → words (x ∷ xs) ≡ (Load, x.seen) ∷ words xs
begins x xs is = ap (λ step. cons_option (option_map (λ op. (op, x.seen)) (op_of step)) (words xs)) is

none_of_some : (ys : List Noted) (z : Noted) (zs : List Noted) → [] ≡ ys ++ z ∷ zs → ⊥
none_of_some [] z zs e = cc e
none_of_some (y ∷ ys) z zs e = cc e

no_operation : {T : Type 0} {run : List (Event T UnnamedWaker)} {reply : Reply}
    → Run receiver_step receiver_row (Try TryLoad) run reply → (ys : List Noted) → [] ≡ ys ++ words run → ⊥
no_operation (last x is leads) ys e = none_of_some ys _ _ (e ∙ ap (λ ns. ys ++ ns) (begins x [] is))
no_operation (more next x xs is leads rest) ys e = none_of_some ys _ _ (e ∙ ap (λ ns. ys ++ ns) (begins x xs is))

takes_nothing : {T : Type 0} {run : List (Event T UnnamedWaker)}
    → Run receiver_step receiver_row (Try TryLoad) run R.Message
    → (before : List Noted) → (Load, Word EMPTY) ∷ [] ≡ before ++ words run → ⊥
takes_nothing made [] e = tries_in_vain made e
takes_nothing made (y ∷ ys) e = no_operation made ys (cc e)

-- of two tries that found the message the first returned it
got_before : {T : Type 0} → OnlyTheLastGot T got_twice → ⊥
got_before {T} so =
    let end : IsLast T so.0 (TryRecv, R.Message) got_twice =
    last_call so.0 (TryRecv, R.Message) so.1 refl in
    true≢false (sym (begins_with_it end.before (words end.run) (try_recv_makes end.run end.made) (sym end.leaves))
    ∙ shows_none end.earlier so.2)
  where
    begins_with_it : (before own : List Noted) → length own ≤ 2 → before ++ own ≡ got_twice
        → has_found before ≡ true
    begins_with_it [] own few e = absurd (let many : length own ≡ 4 = ap length e in omega (arith, few, many))
    begins_with_it (y ∷ ys) own few e =
        let first : y ≡ (Load, Word MESSAGE) = cc e in ap (λ y. is_same_seen y.1 (Word MESSAGE) || has_found ys) first

pub wrong_values : {T : Type 0} (m : T) → WrongValues m
wrong_values {T} m =
    record {
      finds_a_waker = λ so. let is : false ≡ true = receiver_is so.order in cc is;
      took_none = λ so.
          let is : 1 ≡ 0 = so.gets ((TryRecv, R.Empty) ∷ (TryRecv, R.Message) ∷ [])
          ((worked_calls {T = T} {W = UnnamedWaker}).tries) in cc is;
      took_unfound = λ so. let is : 0 ≡ 1 = so.gets [] not_called in cc is;
      got_two = λ e. cc e;
      got_before = got_before;
      found_nothing = λ so. let end : IsLast T so.0 (TryRecv, R.Message) ((Load, Word EMPTY) ∷ []) =
          last_call so.0 (TryRecv, R.Message) so.1 refl in takes_nothing end.made end.before end.leaves;
      loaded = λ so. let is : false ≡ true = sender_is so.order in cc is;
    }
