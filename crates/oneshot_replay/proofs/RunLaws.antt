-- Each law of `oneshot_laws`, stated of a run at every point.
use Rattle.std.proofs.Common.{◌∙◌, ap, sym}
use Rattle.oneshot_world.specs.World.{World, opening}
use Rattle.oneshot_laws.proofs.IdleRuns.{idle_run}
use Rattle.oneshot_laws.proofs.HistoryRuns.{legal_run}
use Rattle.oneshot_laws.proofs.MessagePlacesRuns as Places
use Rattle.oneshot_laws.proofs.MessagePlacesPut as Put
use Rattle.oneshot_laws.proofs.MessagePlacesThere as There
use Rattle.oneshot_laws.proofs.WakerPlacesRuns as Wakers
use Rattle.oneshot_laws.proofs.WakerCellRuns as Cell
use Rattle.oneshot_laws.proofs.UnwokenRuns as Unwoken
use Rattle.oneshot_laws.proofs.HoldersRuns as Holders
use Rattle.oneshot_laws.proofs.RepliesAfterwards as Afterwards
use Rattle.oneshot_laws.proofs.RepliesNextReceive as NextReceive
use Rattle.oneshot_laws.proofs.RepliesNothingYet as NothingYet
use Rattle.oneshot_laws.proofs.RepliesDroppedOnce as DroppedOnce
use Rattle.oneshot_laws.proofs.AloneRuns as Alone
use Rattle.oneshot_laws.proofs.BoundsRuns as Bounds
use Rattle.oneshot_laws.proofs.BoundsSoon as Soon
use Rattle.oneshot_laws.proofs.TogetherPlaces as Moved
use Rattle.oneshot_laws.proofs.TogetherReplies as Said
use Rattle.oneshot_replay.specs.Rest.{message_of, rest_at}
use Rattle.oneshot_replay.specs.Right.{IsRight}
use Rattle.oneshot_replay.specs.Run.{OfEachRun, trace_at}
use Rattle.oneshot_replay.specs.TraceView.{IsReplayed}
use Rattle.oneshot_replay.proofs.Runs.{length-run}
use Rattle.oneshot_replay.proofs.Tied.{freed_shown, rest_shown}

module _ {T : Type 0} where
  is_replayed : OfEachRun T (λ s r moves entries now. IsReplayed s r moves (trace_at entries now))
  is_replayed s r moves entries now run = record {
    worlds = run.worlds;
    is_run = run.is_run;
    block_freed = ap (λ (w : World). w.state.freed) (sym run.ends);
    rest =
        ap (rest_at now.world.state.message) run.message
        ∙ ap (λ (w : World). rest_at w.state.message (message_of s.last)) (sym run.ends);
  }

  pub is_right : OfEachRun T (λ s r moves entries now. IsRight s r moves (trace_at entries now))
  is_right s r moves entries now run =
      let replayed : IsReplayed s r moves (trace_at entries now) = is_replayed s r moves entries now run in
      record {
        run = replayed;
        an_entry_a_move = length-run (opening s r) run.worlds moves entries run.is_run;
        idle = idle_run s r run.worlds moves entries run.is_run;
        legal = legal_run s r run.worlds moves entries run.is_run;
        message_followed = Places.message_followed Moved.path s r run.worlds moves entries run.is_run;
        message_put = Put.message_put Moved.put s r run.worlds moves entries run.is_run;
        message_there = There.message_there Moved.there s r run.worlds moves entries run.is_run;
        message_ended = Places.message_ended Moved.sending s r run.worlds moves entries run.is_run;
        wakers = Wakers.wakers_right Moved.parker s r run.worlds moves entries run.is_run;
        cell_kept = Cell.cell_kept Moved.write s r run.worlds moves entries run.is_run;
        never_unwoken = Unwoken.never_unwoken s r run.worlds moves entries run.is_run;
        freed_right = Holders.freed_right Moved.held Moved.free Moved.freed s r run.worlds moves entries run.is_run;
        freed_as_shown = replayed.block_freed ∙ freed_shown s r replayed.worlds moves entries replayed.is_run;
        rest_as_shown = replayed.rest ∙ rest_shown s r replayed.worlds moves entries replayed.is_run;
        gone_after_got = Afterwards.gone_after_got Said.got s r run.worlds moves entries run.is_run;
        got_after_full = NextReceive.got_after_full Said.next s r run.worlds moves entries run.is_run;
        gone_after_closed = Afterwards.gone_after_closed Said.closed s r run.worlds moves entries run.is_run;
        refused_after_closed = Afterwards.refused_after_closed Said.refused s r run.worlds moves entries run.is_run;
        nothing_only_if_open = NothingYet.nothing_only_if_open Said.met s r run.worlds moves entries run.is_run;
        dropped_once = DroppedOnce.dropped_once Said.story s r run.worlds moves entries run.is_run;
        lone_calls = Alone.lone_calls_right s r run.worlds moves entries run.is_run;
        calls_bounded = Bounds.calls_bounded s r run.worlds moves entries run.is_run;
        soon_answered = Soon.soon_answered s r run.worlds moves entries run.is_run;
      }
