-- The laws of every trace of two scripts under a schedule, one in each field.
use Rattle.std.specs.Prelude.{◌≡◌, List, IsTrue, length}
use Rattle.std.specs.Option.{option_map}
use Rattle.oneshot_world.specs.Scripts.{calls_of}
use Rattle.oneshot_world.specs.declared.script.Move.{Move}
use Rattle.oneshot_world.specs.declared.script.ReceiverScript.{ReceiverScript}
use Rattle.oneshot_world.specs.declared.script.SenderScript.{SenderScript}
use Rattle.oneshot_laws.specs.Marks.{marks}
use Rattle.oneshot_laws.specs.History.{has_legal_history}
use Rattle.oneshot_laws.specs.Idle.{is_idle_right}
use Rattle.oneshot_laws.specs.MessagePlaces.{is_message_followed, is_message_put, is_message_there, is_message_ended, last_message_place}
use Rattle.oneshot_laws.specs.WakerPlaces.{AreWakersRight, is_cell_kept}
use Rattle.oneshot_laws.specs.Unwoken.{NeverUnwoken}
use Rattle.oneshot_laws.specs.Holders.{is_freed, is_freed_right}
use Rattle.oneshot_laws.specs.Replies.{is_gone_after_got, is_got_after_full, is_gone_after_closed, is_refused_after_closed, is_nothing_only_if_open, is_dropped_once}
use Rattle.oneshot_laws.specs.Alone.{are_lone_calls_right}
use Rattle.oneshot_laws.specs.Bounds.{are_calls_bounded, is_soon_answered}
use Rattle.oneshot_replay.specs.Rest.{message_of, rest_of}
use Rattle.oneshot_replay.specs.TraceView.{TraceView, IsReplayed}

pub record IsRight {T : Type 0}
    (s : SenderScript T) (r : ReceiverScript) (moves : List Move) (t : TraceView T) : Type 0 where
  pub run : IsReplayed s r moves t
  pub an_entry_a_move : length t.entries ≡ length moves
  pub idle : IsTrue (is_idle_right (calls_of s r) t.entries)
  pub legal : IsTrue (has_legal_history (marks (calls_of s r) t.entries))
  pub message_followed : IsTrue (is_message_followed (calls_of s r) t.entries)
  pub message_put : IsTrue (is_message_put (marks (calls_of s r) t.entries))
  pub message_there : IsTrue (is_message_there (marks (calls_of s r) t.entries))
  pub message_ended : IsTrue (is_message_ended t.entries (marks (calls_of s r) t.entries))
  pub wakers : AreWakersRight t.entries (marks (calls_of s r) t.entries)
  pub cell_kept : IsTrue (is_cell_kept t.entries)
  pub never_unwoken : NeverUnwoken s r moves t.entries
  pub freed_right : IsTrue (is_freed_right (marks (calls_of s r) t.entries))
  pub freed_as_shown : t.block_freed ≡ is_freed (marks (calls_of s r) t.entries)
  pub rest_as_shown : t.rest ≡ option_map (rest_of (last_message_place t.entries)) (message_of s.last)
  pub gone_after_got : IsTrue (is_gone_after_got (marks (calls_of s r) t.entries))
  pub got_after_full : IsTrue (is_got_after_full (marks (calls_of s r) t.entries))
  pub gone_after_closed : IsTrue (is_gone_after_closed (marks (calls_of s r) t.entries))
  pub refused_after_closed : IsTrue (is_refused_after_closed (marks (calls_of s r) t.entries))
  pub nothing_only_if_open : IsTrue (is_nothing_only_if_open (marks (calls_of s r) t.entries))
  pub dropped_once : IsTrue (is_dropped_once (marks (calls_of s r) t.entries))
  pub lone_calls : IsTrue (are_lone_calls_right (marks (calls_of s r) t.entries))
  pub calls_bounded : IsTrue (are_calls_bounded (marks (calls_of s r) t.entries))
  pub soon_answered : IsTrue (is_soon_answered (marks (calls_of s r) t.entries))
