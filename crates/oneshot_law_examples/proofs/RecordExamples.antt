-- Proofs that the worked traces satisfy each field of the record of all laws, and that each damaged one fails one.
use Rattle.std.proofs.Common.{◌≡◌, ℕ, Bool, true, false, not, ◌||◌, ◌+◌, List, [], ◌∷◌, Option, Some, refl, sym, ap, subst, ◌∙◌, map, option_map}
use Rattle.oneshot_world.specs.Ahead.{Ahead, ahead_of}
use Rattle.oneshot_world.specs.Scripts.{calls_of}
use Rattle.oneshot_world.specs.World.{World, opening, turn, IsRunFrom, IsRun}
use Rattle.oneshot_world.specs.declared.script.AsyncLast.TheVariants as AL
use Rattle.oneshot_world.specs.declared.script.ErrorLast.TheVariants as EL
use Rattle.oneshot_world.specs.declared.script.Move.{Move}
use Rattle.oneshot_world.specs.declared.script.ReceiverLast.TheVariants as RL
use Rattle.oneshot_world.specs.declared.trace.Entry.{Entry}
use Rattle.oneshot_world.proofs.Bools.{and_right}
use Rattle.oneshot_laws.specs.Marks.{Mark, marks}
use Rattle.oneshot_laws.specs.Unwoken.{is_unwoken, waits_in_park, is_never_unwoken, NeverUnwoken}
use Rattle.oneshot_laws.specs.WakerPlaces.{AreWakersRight}
use Rattle.oneshot_replay.specs.Rest.{rest_at}
use Rattle.oneshot_replay.specs.TraceView.{last_of, IsReplayed}
use Rattle.oneshot_replay.specs.declared.rest.Rest.{Rest}
use Rattle.oneshot_replay.specs.declared.rest.Rest.TheVariants.{NotSent, Delivered}
use Rattle.oneshot_law_examples.specs.FutureTraces.{dropped_while_pending}
use Rattle.oneshot_law_examples.specs.LawExamples.{are_wakers_right, marks_in}
use Rattle.oneshot_law_examples.specs.Notation.{Example, uncarried_by}
use Rattle.oneshot_law_examples.specs.TaskExamples.{wakes_nobody}
use Rattle.oneshot_law_examples.specs.Traces.{waited_for_message, nothing_moved}
use Rattle.oneshot_law_examples.specs.RecordExamples.{sending, sends, receiving, polling, moves_in, worlds_in, shows, RightRecords, WrongRecords, WrongRuns}
use Rattle.oneshot_law_examples.proofs.WakersComputed.{wakers_are_computed}

-- each entry of the worked traces is that of its move
thread_runs : IsRun (opening sends (receiving [] RL.Recv)) (worlds_in sends (receiving [] RL.Recv) waited_for_message)
    (moves_in waited_for_message) waited_for_message.entries
thread_runs = (
  refl,
  (
    refl,
    (
      refl,
      (
        refl,
        (
          refl,
          (
            refl,
            (
              refl,
              (refl, (refl, (refl, (refl, (refl, (refl, (refl, tt))))))),
            ),
          ),
        ),
      ),
    ),
  ),
)

task_runs : IsRun (opening (sending 0 EL.Drop) (polling AL.Drop))
    (worlds_in (sending 0 EL.Drop) (polling AL.Drop) dropped_while_pending)
    (moves_in dropped_while_pending) dropped_while_pending.entries
task_runs = (
  refl,
  (
    refl,
    (
      refl,
      (
        refl,
        (
          refl,
          (
            refl,
            (
              refl,
              (refl, (refl, (refl, (refl, (refl, (refl, tt)))))),
            ),
          ),
        ),
      ),
    ),
  ),
)

pub right_records : RightRecords
right_records =
    record {
      of_a_thread = record {
        run = record {
          worlds = worlds_in sends (receiving [] RL.Recv) waited_for_message;
          is_run = thread_runs;
          block_freed = refl;
          rest = refl;
        };
        an_entry_a_move = refl;
        idle = refl;
        legal = refl;
        message_followed = refl;
        message_put = refl;
        message_there = refl;
        message_ended = refl;
        wakers = wakers_are_computed.of_all waited_for_message.entries (marks_in waited_for_message) refl;
        cell_kept = refl;
        never_unwoken = record {
          worlds = worlds_in sends (receiving [] RL.Recv) waited_for_message;
          is_run = thread_runs;
          woken = refl;
        };
        freed_right = refl;
        freed_as_shown = refl;
        rest_as_shown = refl;
        gone_after_got = refl;
        got_after_full = refl;
        gone_after_closed = refl;
        refused_after_closed = refl;
        nothing_only_if_open = refl;
        dropped_once = refl;
        lone_calls = refl;
        calls_bounded = refl;
        soon_answered = refl;
      };
      of_a_task = record {
        run = record {
          worlds = worlds_in (sending 0 EL.Drop) (polling AL.Drop) dropped_while_pending;
          is_run = task_runs;
          block_freed = refl;
          rest = refl;
        };
        an_entry_a_move = refl;
        idle = refl;
        legal = refl;
        message_followed = refl;
        message_put = refl;
        message_there = refl;
        message_ended = refl;
        wakers = wakers_are_computed.of_all dropped_while_pending.entries (marks_in dropped_while_pending) refl;
        cell_kept = refl;
        never_unwoken = record {
          worlds = worlds_in (sending 0 EL.Drop) (polling AL.Drop) dropped_while_pending;
          is_run = task_runs;
          woken = refl;
        };
        freed_right = refl;
        freed_as_shown = refl;
        rest_as_shown = refl;
        gone_after_got = refl;
        got_after_full = refl;
        gone_after_closed = refl;
        refused_after_closed = refl;
        nothing_only_if_open = refl;
        dropped_once = refl;
        lone_calls = refl;
        calls_bounded = refl;
        soon_answered = refl;
      };
    }

-- the worlds of a run: none without a move, and the first is that of the first move
pub stays : (k : ℕ) (w : World) (worlds : List World) → IsRunFrom k w worlds [] [] → last_of w worlds ≡ w
stays k w [] is_run = refl
stays k w (next ∷ worlds) is_run = elim is_run [ ]

unmoved : (k : ℕ) (w : World) (worlds : List World) (entry : Entry) → IsRunFrom k w worlds [] (entry ∷ []) → ⊥
unmoved k w [] entry is_run = elim is_run [ ]
unmoved k w (next ∷ worlds) entry is_run = elim is_run [ ]

pub turned : (k : ℕ) (w : World) (worlds : List World) (move : Move) (entry : Entry)
    → IsRunFrom k w worlds (move ∷ []) (entry ∷ []) → turn k w move ≡ Some (entry, last_of w worlds)
turned k w [] move entry is_run = elim is_run [ ]
turned k w (next ∷ worlds) move entry is_run =
    subst (λ w'. turn k w move ≡ Some (entry, w')) (sym (stays (k + 1) next worlds is_run.1)) is_run.0

-- unwoken at the end of these entries, whatever lies ahead
or_true : (b : Bool) → (b || true) ≡ true
or_true true = refl
or_true false = refl

never_so : (so_far : List Entry → List Mark) (aheads : List Ahead) (entries : List Entry)
    → ((ahead : Ahead) → is_unwoken (so_far entries) ahead ≡ true) → is_never_unwoken so_far aheads entries ≡ true → ⊥
never_so so_far (ahead ∷ aheads) [] is never =
    let no : false ≡ true = subst (λ b. not b ≡ true) (is ahead) never in cc no
never_so so_far (ahead ∷ aheads) (entry ∷ entries) is never =
    never_so (λ front. so_far (entry ∷ front)) aheads entries is
    (and_right (not (is_unwoken (so_far []) ahead)) _ never)
never_so so_far [] entries is never = cc

left_unwoken : (moves : List Move) → NeverUnwoken sends (polling AL.Stop) moves wakes_nobody.entries → ⊥
left_unwoken moves never =
    never_so (marks (calls_of sends (polling AL.Stop)))
    (map ahead_of (opening sends (polling AL.Stop) ∷ never.worlds)) wakes_nobody.entries
    (λ ahead. or_true (waits_in_park ahead)) never.woken

-- what this run has at its end, without a move
not_freed : IsReplayed sends (receiving [] RL.Stop) [] (shows nothing_moved true (Some (NotSent 7))) → ⊥
not_freed run =
    let is : true ≡ false = run.block_freed ∙ ap (λ (w : World). w.state.freed) (stays 1 _ run.worlds run.is_run) in
    cc is

its_rest : (rest : Option (Rest ℕ)) → IsReplayed sends (receiving [] RL.Stop) [] (shows nothing_moved false rest)
    → rest ≡ Some (NotSent 7)
its_rest rest run =
    run.rest ∙ ap (λ (w : World). rest_at w.state.message (Some 7)) (stays 1 _ run.worlds run.is_run)

-- a damaged trace, whose computed test is false, does not satisfy the law
no_wakers : (x : Example) → are_wakers_right x.entries (marks_in x) ≡ false → AreWakersRight x.entries (marks_in x) → ⊥
no_wakers x wrong right =
    let is : true ≡ false = sym (wakers_are_computed.of_each x.entries (marks_in x) right) ∙ wrong in cc is

pub wrong_records : WrongRecords
wrong_records =
    record {
      run = λ right. not_freed right.run;
      an_entry_a_move = λ freed rest right. let is : 7 ≡ 0 = right.an_entry_a_move in cc is;
      wakers_followed = λ moves freed rest right. no_wakers (uncarried_by 6 waited_for_message) refl right.wakers;
      wakers_ended = λ moves freed rest right. no_wakers (uncarried_by 14 waited_for_message) refl right.wakers;
      never_unwoken = λ moves freed rest right. left_unwoken moves right.never_unwoken;
      freed_as_shown = λ moves rest right. let is : false ≡ true = right.freed_as_shown in cc is;
      rest_as_shown =
          λ moves freed right. let is : Some (Delivered 8) ≡ Some (Delivered 7) = right.rest_as_shown in cc is;
      idle = λ moves freed rest right. let is : false ≡ true = right.idle in cc is;
      legal = λ moves freed rest right. let is : false ≡ true = right.legal in cc is;
      message_followed = λ moves freed rest right. let is : false ≡ true = right.message_followed in cc is;
      message_put = λ moves freed rest right. let is : false ≡ true = right.message_put in cc is;
      message_there = λ moves freed rest right. let is : false ≡ true = right.message_there in cc is;
      message_ended = λ moves freed rest right. let is : false ≡ true = right.message_ended in cc is;
      cell_kept = λ moves freed rest right. let is : false ≡ true = right.cell_kept in cc is;
      freed_right = λ moves freed rest right. let is : false ≡ true = right.freed_right in cc is;
      gone_after_got = λ moves freed rest right. let is : false ≡ true = right.gone_after_got in cc is;
      got_after_full = λ moves freed rest right. let is : false ≡ true = right.got_after_full in cc is;
      gone_after_closed = λ moves freed rest right. let is : false ≡ true = right.gone_after_closed in cc is;
      refused_after_closed = λ moves freed rest right. let is : false ≡ true = right.refused_after_closed in cc is;
      nothing_only_if_open = λ moves freed rest right. let is : false ≡ true = right.nothing_only_if_open in cc is;
      dropped_once = λ moves freed rest right. let is : false ≡ true = right.dropped_once in cc is;
      lone_calls = λ moves freed rest right. let is : false ≡ true = right.lone_calls in cc is;
      calls_bounded = λ moves freed rest right. let is : false ≡ true = right.calls_bounded in cc is;
      soon_answered = λ moves freed rest right. let is : false ≡ true = right.soon_answered in cc is;
    }

pub wrong_runs : WrongRuns
wrong_runs =
    record {
      tells_another_entry =
          λ freed rest run. let made =
          ap (option_map (λ (t : Entry × World). t.0)) (turned 1 _ run.worlds _ _ run.is_run) in cc made;
      runs_unmoved = λ freed rest run. unmoved 1 _ run.worlds _ run.is_run;
      frees_nothing = not_freed;
      has_it_still =
          λ run. let is : Some (Delivered 7) ≡ Some (NotSent 7) = its_rest _ run in cc is;
      has_its_own = λ run. let is : Some (NotSent 8) ≡ Some (NotSent 7) = its_rest _ run in cc is;
      is_no_run = λ never. unmoved 1 _ never.worlds _ never.is_run;
      is_unwoken = left_unwoken;
    }
