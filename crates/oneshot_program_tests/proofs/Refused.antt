-- A replayed `send` to a dropped receiver leaves its message in the error: the run is computed.
use Rattle.std.proofs.Common.{◌≡◌, List, [], ◌∷◌, Some, false, refl, sym, ◌∙◌}
use Rattle.oneshot_world.specs.World.{World, opening}
use Rattle.oneshot_world.specs.declared.script.ErrorScript.{ErrorScript}
use Rattle.oneshot_world.specs.declared.script.Move.{Move}
use Rattle.oneshot_world.specs.declared.script.Move.TheVariants as M
use Rattle.oneshot_world.specs.declared.script.ReceiverLast.TheVariants as RL
use Rattle.oneshot_world.specs.declared.script.ReceiverScript.{ReceiverScript}
use Rattle.oneshot_world.specs.declared.script.SenderLast.TheVariants as SL
use Rattle.oneshot_world.specs.declared.script.SenderScript.{SenderScript}
use Rattle.oneshot_world.specs.declared.trace.Entry.{Entry}
use Rattle.oneshot_world.proofs.WorldDetermined.{run_is}
use Rattle.oneshot_replay.specs.TraceView.{TraceView, IsReplayed}
use Rattle.oneshot_replay.specs.declared.rest.Rest.TheVariants as Rest

abbrev sends : {T : Type 0} → T → ErrorScript → SenderScript T
sends message error = record { looks = 0; last = SL.Send message error }

abbrev drops : ReceiverScript
drops = record { calls = []; last = RL.Drop }

abbrev moves : List Move
moves = M.Receiver false false ∷ M.Sender ∷ M.Sender ∷ []

worlds_are : (a b : List Entry × List World) → Some a ≡ Some b → a.1 ≡ b.1
worlds_are a b h = cc

pub comes_back : {T : Type 0} (message : T) (error : ErrorScript) (t : TraceView T)
    → IsReplayed (sends message error) drops moves t → t.rest ≡ Some (Rest.InError message)
comes_back message error t replayed =
    let told = run_is 1 (opening (sends message error) drops) replayed.worlds moves t.entries replayed.is_run in
    replayed.rest ∙ rw (sym (worlds_are _ (t.entries, replayed.worlds) told)) refl
