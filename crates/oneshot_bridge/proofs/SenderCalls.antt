-- The call that a sender has made is that of a walk whose script has just this call.
use Rattle.oneshot_bridge.proofs.Names.{◌≡◌, Bool, true, List, [], ◌∷◌, Some, refl, subst, Reply, SenderCall, SenderPos, SenderCalled, not_called_yet, called_once, Event, words, Noted, Run}
use Rattle.oneshot_bridge.proofs.Names.{sender_start, sender_step, sender_row, sender_rows, Call, Of_sender, left_by, SenderScript, sender_answered, is_at_rest, SendsOnly, SenderStand, SenderWalk}
use Rattle.oneshot_bridge.proofs.Names.{the_sender, opening_sender, begins}
use Rattle.oneshot_machine.specs.declared.machine.End.TheVariants as End
use Rattle.oneshot_machine.specs.declared.machine.Reply.TheVariants as R
use Rattle.oneshot_machine.specs.declared.machine.sender.SenderCall.TheVariants as SC
use Rattle.oneshot_machine.specs.declared.machine.sender.SenderPos.TheVariants as SP
use Rattle.oneshot_world.specs.declared.script.ErrorLast.TheVariants as EL
use Rattle.oneshot_world.specs.declared.script.SenderLast.TheVariants as SL
use Rattle.oneshot_world.specs.declared.state.SenderState.TheVariants as SS
use Rattle.oneshot_bridge.proofs.CallsWalk.{Walks, RowsFit, fit_walks, HasAnswered, call_walks}

-- WHAT IS COMPUTED: the rows of each of the sender's positions
abbrev any_position : SenderPos → Bool
any_position p = true

sender_fits : RowsFit the_sender any_position is_at_rest sender_rows
sender_fits SP.LookClosed its = refl
sender_fits _ its = refl

sender_walks : Walks the_sender any_position (λ s. is_at_rest s ≡ true)
sender_walks =
    fit_walks the_sender any_position is_at_rest sender_rows (λ p seen. refl) sender_fits (λ p next left replies. refl)

-- A sender that is between its calls, and has made these.
pub record SenderDone {T : Type 0} (message : T) (sent : List (SenderCall × Reply)) (xs : List Noted) : Type 0 where
  pub script : SenderScript T
  pub sends : SendsOnly message script
  pub stand : SenderStand
  pub rests : is_at_rest stand.0 ≡ true
  pub none_left : stand.1.calls ≡ []
  pub answered : stand.2 ≡ sender_answered sent
  pub walk : SenderWalk script xs stand

-- a sender that has made its one call has none left
none_after : (call : Call) (reply : Reply)
    → (left_by End.Sender (Some reply) (record { calls = call ∷ []; error = [] })).calls ≡ []
none_after call R.Refused = refl
none_after call _ = refl

module _ {T W : Type 0} (message : T) where
  sent_by : {call : SenderCall} {reply : Reply} {run : List (Event T W)} (script : SenderScript T)
      → SendsOnly message script
      → opening_sender script ≡ (SS.Ready, record { calls = Of_sender call ∷ []; error = [] }, [])
      → Run sender_step sender_row (sender_start call) run reply
      → SenderDone message ((call, reply) ∷ []) (words run)
  sent_by {call} {reply} {run} script sends opens made =
      let done : HasAnswered the_sender sender_walks (opening_sender script) (words run) reply
      (record { calls = Of_sender call ∷ []; error = [] }) [] =
      call_walks the_sender sender_walks (opening_sender script) made refl [] SS.Ready
      (record { calls = Of_sender call ∷ []; error = [] }) [] (subst (SenderWalk script []) opens begins) refl in
      record {
        script = script;
        sends = sends;
        stand = _;
        rests = done.so;
        none_left = none_after (Of_sender call) reply;
        answered = refl;
        walk = done.walk;
      }

  pub sender_done : {sent : List (SenderCall × Reply)} {xs : List Noted} → SenderCalled T W sent xs
      → SenderDone message sent xs
  sender_done not_called_yet =
      record {
        script = record { looks = 0; last = SL.Stop };
        sends = λ other is. absurd (cc is);
        stand = _;
        rests = refl;
        none_left = refl;
        answered = refl;
        walk = begins;
      }
  sender_done (called_once SC.Send reply run its made) =
      sent_by (record { looks = 0; last = SL.Send message (record { looks = 0; last = EL.Stop }) }) (λ other is. cc is)
      refl made
  sender_done (called_once SC.Drop reply run its made) =
      sent_by (record { looks = 0; last = SL.Drop }) (λ other is. absurd (cc is)) refl made
  sender_done (called_once _ reply run its made) = absurd (cc its)
