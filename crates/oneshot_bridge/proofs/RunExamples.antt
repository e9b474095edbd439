-- The examples of runs: the worked one step by step, and what each field of the others states.
use Rattle.oneshot_bridge.proofs.Names.{◌≡◌, ℕ, List, [], ◌∷◌, None, Some, refl, sym, ap, ◌∙◌, Done, Try, SendWrite, SendAdd, TryLoad, Close, Take, Load, Store, Add, Noted, Goes, Answers}
use Rattle.oneshot_bridge.proofs.Names.{calls_of, Entry, marks, is_right, View, Home, view, receiver_answered, sender_answered, is_at_rest, RunsCalls, worlds_by}
use Rattle.oneshot_bridge.proofs.Names.{world_by, scene_at, sends, HaveCome, InOrder, OfARun, maker_before, maker_with_slot_before, is_run, log_of}
use Rattle.oneshot_bridge.proofs.Names.{answered_by, RunsSo, RunsTo, tries, stops, in_turn, sent_log}
use Rattle.oneshot_bridge.proofs.Names.{tried_log, sent_call, tried_call, sender_stands, receiver_stands, entries_of_run, AnswersThatAre, RunsThatAre, RunsThatAreNot, RunsSay}
use Rattle.oneshot_bridge.proofs.Names.{SendsOnly, begins, quietly}
use Rattle.oneshot_bridge.proofs.Names.{by_one, Quiet, quiet, Operates, operates, the_sender, SenderStand, ReceiverStand, SenderWalk}
use Rattle.oneshot_machine.specs.declared.machine.End.TheVariants as End
use Rattle.oneshot_machine.specs.declared.machine.Reply.TheVariants as R
use Rattle.oneshot_machine.specs.declared.machine.Seen.TheVariants.{Word}
use Rattle.oneshot_machine.specs.declared.states.TheConstants.{DISCONNECTED, EMPTY, MESSAGE}
use Rattle.oneshot_machine.proofs.InOrders.{order_is}
use Rattle.oneshot_machine.proofs.OrdersAhead.{ahead}
use Rattle.oneshot_machine.specs.Orders.{has_row, nothing_made, sender_makes, receiver_makes}
use Rattle.oneshot_machine.specs.Slots.{head, tail}
use Rattle.oneshot_world.specs.declared.state.SenderState.TheVariants as SS
use Rattle.oneshot_word.specs.declared.rule.Role.TheVariants as Role
use Rattle.oneshot_bridge.proofs.Examples.{wrong_runs}
use Rattle.oneshot_bridge.proofs.Given.{same_value}

pub answers_that_are : AnswersThatAre
answers_that_are =
    record {
      tried = refl;
      polled = refl;
      became_future = refl;
      sent = refl;
      is_ready = refl;
      has_ended = refl;
      is_sending = refl;
      received = refl;
      polled_it = refl;
      found_nothing = refl;
      took_it_back = refl;
    }

abbrev s_end : SenderStand
s_end = sender_stands (sender_answered sent_call)

abbrev r_end : ReceiverStand
r_end = receiver_stands (receiver_answered tried_call)

module _ {T : Type 0} (m : T) where
  come : HaveCome InOrder (sends m) tries sent_log tried_log 2 s_end r_end
  come =
      record {
        order =
            order_is
            (receiver_makes (Store DISCONNECTED)
            (receiver_makes Load (sender_makes Add nothing_made (has_row head)) (has_row (tail head))) (has_row head));
        sender =
            by_one (Add, Word EMPTY) (quietly begins (quiet SendWrite Done (Goes SendAdd) refl refl refl))
            (operates SendAdd (Add, Word EMPTY) (Answers R.Sent) refl refl refl);
        receiver =
            quietly
            (by_one (Store DISCONNECTED, Done)
            (by_one (Load, Word MESSAGE) begins
            (operates (Try TryLoad) (Load, Word MESSAGE) (Goes (Try Close)) refl refl refl))
            (operates (Try Close) (Store DISCONNECTED, Done) (Goes (Try Take)) refl refl refl))
            (quiet (Try Take) Done (Answers R.Message) refl refl refl);
      }

  runs : RunsSo (sends m) tries in_turn (entries_of_run m) (scene_at m (world_by m tries in_turn) 5) sent_log
      tried_log 2
  runs =
      record {
        run = record {
          worlds = worlds_by m tries in_turn;
          is_run = (refl, (refl, (refl, (refl, (refl, tt)))));
          ends = refl;
          count = refl;
          message = refl;
        };
        sender_log = refl;
        receiver_log = refl;
        leaves = refl;
      }

  abbrev run_to : RunsTo (sends m) tries sent_log tried_log 2 s_end r_end
  run_to =
      record {
        moves = in_turn;
        entries = entries_of_run m;
        now = scene_at m (world_by m tries in_turn) 5;
        run = runs;
        sender = refl;
        receiver = refl;
        right = is_right (sends m) tries in_turn (entries_of_run m) (scene_at m (world_by m tries in_turn) 5) runs.run;
      }

  sends_it : SendsOnly m (sends m)
  sends_it other is = sym (same_value is)

  abbrev both_calls : RunsCalls m tried_call sent_log tried_log 2
  both_calls =
      record {
        sender = sends m;
        sends = sends_it;
        receiver = tries;
        s = s_end;
        r = r_end;
        run = run_to;
        rests = refl;
        none_left = refl;
        answered = refl;
      }

  pub runs_that_are : RunsThatAre m
  runs_that_are =
      record {
        answered_first = refl;
        not_yet = refl;
        answered = refl;
        come = come;
        run = run_to;
        sends_it = sends_it;
        sends_none = λ other another is. cc is;
        state = record {
          sender = sends m;
          sends = sends_it;
          receiver = tries;
          moves = in_turn;
          entries = entries_of_run m;
          now = scene_at m (world_by m tries in_turn) 5;
          run = runs;
          right = run_to.right;
        };
        calls = both_calls;
        both = record { calls = both_calls; rests = refl; none_left = refl; answered = refl };
        have_an_order = λ a b xs ys word s r came. came.order;
        no_ends = maker_before;
      }

-- a sender without a call makes no step
abbrev opening_stand : SenderStand
opening_stand = (SS.Ready, record { calls = []; error = [] }, [])

rests_not : {s next : SenderStand} → s ≡ opening_stand → Quiet the_sender s next → ⊥
rests_not at (quiet p seen row position may rows) =
    let here : None ≡ Some p = sym (ap the_sender.position at) ∙ position in cc here

makes_not : {s next : SenderStand} {x : Noted} → s ≡ opening_stand → Operates the_sender s x next → ⊥
makes_not at (operates p x row position step rows) =
    let here : None ≡ Some p = sym (ap the_sender.position at) ∙ position in cc here

no_step : (T : Type 0) {xs : List Noted} {s : SenderStand} → SenderWalk (stops {T = T}) xs s
    → (s ≡ opening_stand) × (xs ≡ [])
no_step T begins = (refl, refl)
no_step T (quietly a q) = absurd (rests_not (no_step T a).0 q)
no_step T (by_one x a made) = absurd (makes_not (no_step T a).0 made)

role_is : {T H K P : Type 0} {v w : View T H K P} → v ∷ [] ≡ w ∷ [] → v.role ≡ w.role
role_is {T} {H} {K} {P} {v} {w} are =
    let same : ◌≡◌ {A = View T H K P} v w = cc are in ap (λ (v : View T H K P). v.role) same

one_end_is_no_table : {T H K P W : Type 0} {q : P} {words : List ℕ} {homes : List (Home T H K)}
    {views : List (View T H K P)} → OfARun W q words homes views → views ≡ view q Role.Sender [] None None ∷ [] → ⊥
one_end_is_no_table maker_before is = let roles : Role.Maker ≡ Role.Sender = role_is is in cc roles
one_end_is_no_table maker_with_slot_before is = let roles : Role.MakerWithSlot ≡ Role.Sender = role_is is in cc roles
one_end_is_no_table (is_run _ _ _ _ _ _ _ _) is = cc is

module _ {T : Type 0} (m : T) where
  pub runs_that_are_not : RunsThatAreNot m
  runs_that_are_not =
      record {
        have_no_order = λ s r come. let goes = ahead come.order in elim goes [ ];
        sends_unasked = λ s r come. let is : sent_log ≡ [] = (no_step T come.sender).1 in cc is;
        skips_its_load = λ s r come. (wrong_runs m).skips_its_load r come.receiver;
        has_sent_nothing =
            λ run is. let none : sent_log ≡ [] = sym (ap (log_of End.Sender) is) ∙ run.run.sender_log in cc none;
        has_tried_nothing =
            λ run is. let none : tried_log ≡ [] = sym (ap (log_of End.Receiver) is) ∙ run.run.receiver_log in cc none;
        sender_is_silent =
            λ run is. let none : sender_answered sent_call ≡ [] =
            sym (ap (λ (es : List Entry). answered_by End.Sender (marks (calls_of (sends m) tries) es)) is)
            ∙ ap (λ (s : SenderStand). s.2) run.sender in cc none;
        receiver_is_silent =
            λ run is. let none : receiver_answered tried_call ≡ [] =
            sym (ap (λ (es : List Entry). answered_by End.Receiver (marks (calls_of (sends m) tries) es)) is)
            ∙ ap (λ (r : ReceiverStand). r.2) run.receiver in cc none;
        send_nothing =
            λ wherever. let none : sent_log ≡ [] =
            wherever (sends m) tries sent_log tried_log 2 s_end r_end (come m) in cc none;
        one_end = λ word of. one_end_is_no_table of refl;
        sends_another = λ other differs only. differs (only m refl);
      }

  pub runs_say : RunsSay m
  runs_say =
      record {
        is_legal = λ run. run.right.legal;
        sends_only = λ state. state.sends;
        has_its_log = λ state. state.run.receiver_log;
        is_right = λ state. state.right.legal;
        calls_send_only = λ calls. calls.sends;
        calls_have_their_log = λ calls. calls.run.run.receiver_log;
        receiver_rests = λ calls. ap (λ (r : ReceiverStand). r.0) calls.run.receiver ∙ calls.rests;
        receiver_has_none_left = λ calls. ap (λ (r : ReceiverStand). r.1.calls) calls.run.receiver ∙ calls.none_left;
        receiver_answered_these = λ calls. ap (λ (r : ReceiverStand). r.2) calls.run.receiver ∙ calls.answered;
        sender_rests =
            λ both. ap (λ (s : SenderStand). is_at_rest s.0) both.calls.run.sender ∙ both.rests;
        sender_has_none_left =
            λ both. ap (λ (s : SenderStand). s.1.calls) both.calls.run.sender ∙ both.none_left;
        sender_answered_these = λ both. ap (λ (s : SenderStand). s.2) both.calls.run.sender ∙ both.answered;
      }
