-- Two scripts have at most one trace under a schedule, since a turn is a function.
use Rattle.std.proofs.Common.{◌≡◌, Bool, List, Option, Some, refl, sym, ap, ◌∙◌}
use Rattle.oneshot_world.specs.World.{World, opening}
use Rattle.oneshot_world.specs.declared.script.Move.{Move}
use Rattle.oneshot_world.specs.declared.script.ReceiverScript.{ReceiverScript}
use Rattle.oneshot_world.specs.declared.script.SenderScript.{SenderScript}
use Rattle.oneshot_world.specs.declared.trace.Entry.{Entry}
use Rattle.oneshot_world.proofs.WorldDetermined.{run_is}
use Rattle.oneshot_replay.specs.Rest.{message_of, rest_at}
use Rattle.oneshot_replay.specs.TraceView.{TraceView, IsReplayed, last_of}
use Rattle.oneshot_replay.specs.declared.rest.Rest.{Rest}

same_value : {X : Type 0} {a b : X} → Some a ≡ Some b → a ≡ b
same_value is = cc

module _ {T : Type 0} where
  input_of : List Entry → Bool → Option (Rest T) → TraceView T
  input_of entries freed rest = record { entries = entries; block_freed = freed; rest = rest }

  told_parts : (t : TraceView T) → input_of t.entries t.block_freed t.rest ≡ t
  unfolding input_of
  told_parts t = refl

  pub one_trace : (s : SenderScript T) (r : ReceiverScript) (moves : List Move) (t u : TraceView T)
      → IsReplayed s r moves t → IsReplayed s r moves u → t ≡ u
  one_trace s r moves t u a b =
      let same : (t.entries, a.worlds) ≡ (u.entries, b.worlds) =
      same_value (sym (run_is 1 (opening s r) a.worlds moves t.entries a.is_run) ∙ run_is 1 (opening s r) b.worlds moves
      u.entries b.is_run) in
      let entries : t.entries ≡ u.entries = ap (λ (x : List Entry × List World). x.0) same in
      let worlds : a.worlds ≡ b.worlds = ap (λ (x : List Entry × List World). x.1) same in
      let freed : t.block_freed ≡ u.block_freed =
      a.block_freed ∙ ap (λ ws. (last_of (opening s r) ws).state.freed) worlds ∙ sym b.block_freed in
      let rest : t.rest ≡ u.rest =
      a.rest ∙ ap (λ ws. rest_at (last_of (opening s r) ws).state.message (message_of s.last)) worlds ∙ sym b.rest in
      cc (told_parts t, told_parts u)
