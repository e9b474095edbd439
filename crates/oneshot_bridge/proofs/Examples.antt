-- The examples: each walk step by step, the order operation by operation, and why the counterexamples are false.
use Rattle.oneshot_bridge.proofs.Names.{◌≡◌, ℕ, true, false, List, [], ◌∷◌, Some, get_or, refl, sym, ap, subst, ◌∙◌, Seen, Done, Token, Value, SendWrite, SendAdd, SendTakeWaker, SendFinal, SendWake}
use Rattle.oneshot_bridge.proofs.Names.{RecvLoad, RecvWrite, RecvSwap, RecvPark, RecvParkLoad, RecvTake, RecvFreeGot, Load, Swap, Add, Noted, Reaches, has_row, nothing_made, receiver_step}
use Rattle.oneshot_bridge.proofs.Names.{receiver_row, head, tail, Goes, Answers, sends, receives, sent, received, worlds, WorkedRun, WrongRuns, may_see, begins, quietly, by_one, Quiet, quiet}
use Rattle.oneshot_bridge.proofs.Names.{Operates, operates, the_receiver, opening_receiver, SenderStand, ReceiverStand, SenderWalk, ReceiverWalk, not_empty, same_start, same_last}
use Rattle.std.specs.Option.{IsSome}
use Rattle.oneshot_machine.specs.declared.machine.Reply.TheVariants as R
use Rattle.oneshot_machine.specs.declared.machine.Seen.TheVariants.{Word}
use Rattle.oneshot_machine.specs.declared.machine.Step.TheVariants as Steps
use Rattle.oneshot_machine.specs.declared.states.TheConstants.{RECEIVING, UNPARKING, EMPTY, MESSAGE}
use Rattle.oneshot_machine.specs.Orders.{sender_makes, receiver_makes}
use Rattle.oneshot_world.specs.declared.state.ReceiverState.TheVariants as RS

module _ {T : Type 0} (m : T) where
  sender : (s : SenderStand) × SenderWalk (sends m) sent s
  sender = (
    _,
    quietly
        (by_one (Swap MESSAGE, Word UNPARKING)
        (quietly
        (by_one (Add, Word RECEIVING) (quietly begins (quiet SendWrite Done (Goes SendAdd) refl refl refl))
        (operates SendAdd (Add, Word RECEIVING) (Goes SendTakeWaker) refl refl refl))
        (quiet SendTakeWaker Done (Goes SendFinal) refl refl refl))
        (operates SendFinal (Swap MESSAGE, Word UNPARKING) (Goes SendWake) refl refl refl))
        (quiet SendWake Done (Answers R.Sent) refl refl refl),
  )

walk_to_wait : ReceiverWalk receives ((Load, Word EMPTY) ∷ (Swap RECEIVING, Word EMPTY) ∷ [])
    (RS.At (Value RecvPark), (opening_receiver receives).1, [])
walk_to_wait =
    by_one (Swap RECEIVING, Word EMPTY)
    (quietly
    (by_one (Load, Word EMPTY) begins
    (operates (Value RecvLoad) (Load, Word EMPTY) (Goes (Value RecvWrite)) refl refl refl))
    (quiet (Value RecvWrite) Done (Goes (Value RecvSwap)) refl refl refl))
    (operates (Value RecvSwap) (Swap RECEIVING, Word EMPTY) (Goes (Value RecvPark)) refl refl refl)

receiver : (s : ReceiverStand) × ReceiverWalk receives received s
receiver = (
  _,
  quietly
      (quietly
      (by_one (Load, Word MESSAGE)
      (quietly
      (by_one (Load, Word UNPARKING)
      (quietly walk_to_wait (quiet (Value RecvPark) (Token false) (Goes (Value RecvParkLoad)) refl refl refl))
      (operates (Value RecvParkLoad) (Load, Word UNPARKING) (Goes (Value RecvPark)) refl refl refl))
      (quiet (Value RecvPark) (Token true) (Goes (Value RecvParkLoad)) refl refl refl))
      (operates (Value RecvParkLoad) (Load, Word MESSAGE) (Goes (Value RecvTake)) refl refl refl))
      (quiet (Value RecvTake) Done (Goes (Value RecvFreeGot)) refl refl refl))
      (quiet (Value RecvFreeGot) Done (Answers R.Message) refl refl refl),
)

has_stored : Reaches [] ((Load, Word EMPTY) ∷ (Swap RECEIVING, Word EMPTY) ∷ []) RECEIVING
has_stored = receiver_makes (Swap RECEIVING) (receiver_makes Load nothing_made (has_row head))
    (has_row (tail (tail (tail head))))

order : Reaches sent received MESSAGE
order =
    receiver_makes Load
    (sender_makes (Swap MESSAGE)
    (receiver_makes Load (sender_makes Add has_stored (has_row (tail head))) (has_row (tail head))) (has_row head))
    (has_row (tail (tail head)))

pub worked_run : {T : Type 0} (m : T) → WorkedRun m
worked_run m =
    record {
      sender = sender m;
      receiver = receiver;
      order = order;
      run = record {
        run = record {
          worlds = worlds m;
          is_run = (
            refl,
            (
              refl,
              (refl, (refl, (refl, (refl, (refl, (refl, (refl, (refl, (refl, (refl, (refl, (refl, tt)))))))))))),
            ),
          );
          ends = refl;
          count = refl;
          message = refl;
        };
        sender_log = refl;
        receiver_log = refl;
        leaves = refl;
      };
    }

-- a receive begins with its load
rests_not : {s next : ReceiverStand} → s ≡ opening_receiver receives → Quiet the_receiver s next → ⊥
rests_not at (quiet p seen row position may rows) =
    let here : Some (Value RecvLoad) ≡ Some p = sym (ap the_receiver.position at) ∙ position in
    let same : Value RecvLoad ≡ p = cc here in
    let seen_so : false ≡ true = subst (λ p. may_see (receiver_step p) seen ≡ true) (sym same) may in
    absurd (cc seen_so)

stays : {xs : List Noted} {s : ReceiverStand} → ReceiverWalk receives xs s → xs ≡ [] → s ≡ opening_receiver receives
stays begins e = refl
stays (quietly a q) e = absurd (rests_not (stays a e) q)
stays (by_one {xs} x a made) e = absurd (not_empty xs x e)

-- its first row has this operation and what it saw
abbrev IsFirst : Noted → Type 0
IsFirst x = (Load ≡ x.0) × IsSome (receiver_row (Value RecvLoad) x.1)

makes_first : {s next : ReceiverStand} {x : Noted} → s ≡ opening_receiver receives → Operates the_receiver s x next
    → IsFirst x
makes_first at (operates p x row position step rows) =
    let here : Some (Value RecvLoad) ≡ Some p = sym (ap the_receiver.position at) ∙ position in
    let same : Value RecvLoad ≡ p = cc here in
    let loads : Steps.Word Load ≡ Steps.Word x.0 = ap receiver_step same ∙ step in
    let some : receiver_row (Value RecvLoad) x.1 ≡ Some row = ap (λ p. receiver_row p x.1) same ∙ rows in
    (cc loads, rw some refl)

begins_so : {xs : List Noted} {s : ReceiverStand} (x : Noted) → ReceiverWalk receives xs s → xs ≡ x ∷ [] → IsFirst x
begins_so x begins e = absurd (cc e)
begins_so x (quietly a q) e = begins_so x a e
begins_so x (by_one {xs} y a made) e =
    subst IsFirst (same_last xs [] y x e) (makes_first (stays a (same_start xs [] y x e)) made)

skips_its_load : IsFirst (Swap RECEIVING, Word EMPTY) → ⊥
skips_its_load first = let swaps : Load ≡ Swap RECEIVING = first.0 in cc swaps

finds_a_waker : IsFirst (Load, Word RECEIVING) → ⊥
finds_a_waker first = let no_row : IsSome (receiver_row (Value RecvLoad) (Word RECEIVING)) = first.1 in cc no_row

-- logs that differ from those of the run in one word, or by one operation
abbrev seen_at : ℕ → List Noted → Seen
seen_at n log = (get_or log n (Load, Done)).1

adds_elsewhere : sent ≡ (Add, Word EMPTY) ∷ (Swap MESSAGE, Word UNPARKING) ∷ [] → ⊥
adds_elsewhere is = let found : Word RECEIVING ≡ Word EMPTY = ap (seen_at 0) is in cc found

wakes_before : received ≡ (Load, Word EMPTY) ∷ (Swap RECEIVING, Word EMPTY) ∷ (Load, Word RECEIVING)
    ∷ (Load, Word MESSAGE) ∷ [] → ⊥
wakes_before is = let found : Word UNPARKING ≡ Word RECEIVING = ap (seen_at 2) is in cc found

has_no_swap : sent ≡ (Add, Word RECEIVING) ∷ [] → ⊥
has_no_swap is = cc

pub wrong_runs : {T : Type 0} (m : T) → WrongRuns m
wrong_runs m =
    record {
      skips_its_load = λ s walk. skips_its_load (begins_so _ walk refl);
      finds_a_waker = λ s walk. finds_a_waker (begins_so _ walk refl);
      adds_to_another_word = λ now ys word runs. adds_elsewhere runs.sender_log;
      wakes_before_the_add = λ now xs word runs. wakes_before runs.receiver_log;
      skips_the_swap = λ now ys word runs. has_no_swap runs.sender_log;
      leaves_another_word = λ word runs. sym runs.leaves;
    }
