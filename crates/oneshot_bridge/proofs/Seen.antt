-- What a step sees in a walk and in a world: the same, except a park, whose rows are alike with and without its token.
use Rattle.oneshot_bridge.proofs.Names.{◌≡◌, Bool, true, false, Option, refl, sym, ◌∙◌, Seen, Step, Park, AsyncLoad, DropSwap, LookFull, TryLoad, ReceiverPos, Look, Try, Ref, Timed, Value, Future}
use Rattle.oneshot_bridge.proofs.Names.{AsyncDrop, SenderPos, TimedPark, LatePark, RecvPark, Op, Load, Store, saw, receiver_step, receiver_row, sender_step, sender_row, seen_by, State, may_see}
use Rattle.oneshot_machine.specs.declared.machine.Seen.TheVariants as S
use Rattle.oneshot_machine.specs.declared.machine.Step.TheVariants as T
use Rattle.oneshot_machine.specs.declared.machine.future.FuturePos.TheVariants as F
use Rattle.oneshot_machine.specs.declared.machine.receiver.ReceiverPos.TheVariants.{Drop}
use Rattle.oneshot_machine.specs.declared.machine.sender.SenderPos.TheVariants as SP

pub op_sees : (answer : Bool) (s : State) (op : Op) → seen_by answer s (T.Word op) ≡ saw op s.word
op_sees answer s (Store new) = refl
op_sees answer s Load = refl
op_sees answer s _ = refl

-- what the move tells the world, so that the clock or the copy replies so
abbrev pub answer_in : Seen → Bool
answer_in (S.Over over) = over
answer_in (S.Refused refused) = refused
answer_in _ = false

-- a row by what was seen, if a park's rows are alike
sees_alike : {X : Type 0} (row : Seen → Option X) (step : Step) (seen : Seen) (s : State)
    → ((a b : Bool) → step ≡ T.Park → row (S.Token a) ≡ row (S.Token b)) → may_see step seen ≡ true
    → row (seen_by (answer_in seen) s step) ≡ row seen
sees_alike row T.Park (S.Token woken) s parks may = parks _ woken refl
sees_alike row T.Clock (S.Over over) s parks may = refl
sees_alike row T.Copy (S.Refused refused) s parks may = refl
sees_alike row (T.Word op) seen s parks may = absurd (cc)
sees_alike row T.Park seen s parks may = absurd (cc)
sees_alike row T.Clock seen s parks may = absurd (cc)
sees_alike row T.Copy seen s parks may = absurd (cc)
sees_alike row _ S.Done s parks may = refl
sees_alike row _ seen s parks may = absurd (cc)

-- the sender reads no clock and copies no waker
pub sender_answers : (p : SenderPos) (answer : Bool) (s : State)
    → seen_by false s (sender_step p) ≡ seen_by answer s (sender_step p)
sender_answers SP.LookClosed answer s = refl
sender_answers _ answer s = refl

never_parks : (p : SenderPos) → sender_step p ≡ T.Park → ⊥
never_parks SP.LookClosed e = cc
never_parks _ e = cc

pub sender_sees : (p : SenderPos) (seen : Seen) (s : State) → may_see (sender_step p) seen ≡ true
    → sender_row p (seen_by (answer_in seen) s (sender_step p)) ≡ sender_row p seen
sender_sees p seen s may =
    sees_alike (sender_row p) (sender_step p) seen s (λ a b parks. absurd (never_parks p parks)) may

park_leads : (p : ReceiverPos) (woken : Bool) → receiver_step p ≡ T.Park
    → receiver_row p (S.Token woken) ≡ receiver_row p (S.Token true)
park_leads p true e = refl
park_leads (Ref Park) false e = refl
park_leads (Timed TimedPark) false e = refl
park_leads (Timed LatePark) false e = refl
park_leads (Value RecvPark) false e = refl
park_leads (Look LookFull) false e = absurd (cc)
park_leads (Look _) false e = absurd (cc)
park_leads (Try TryLoad) false e = absurd (cc)
park_leads (Try _) false e = absurd (cc)
park_leads (Ref _) false e = absurd (cc)
park_leads (Timed _) false e = absurd (cc)
park_leads (Value _) false e = absurd (cc)
park_leads (Future F.IntoFuture) false e = absurd (cc)
park_leads (Future _) false e = absurd (cc)
park_leads (AsyncDrop AsyncLoad) false e = absurd (cc)
park_leads (AsyncDrop _) false e = absurd (cc)
park_leads (Drop DropSwap) false e = absurd (cc)
park_leads (Drop _) false e = absurd (cc)

pub receiver_sees : (p : ReceiverPos) (seen : Seen) (s : State) → may_see (receiver_step p) seen ≡ true
    → receiver_row p (seen_by (answer_in seen) s (receiver_step p)) ≡ receiver_row p seen
receiver_sees p seen s may =
    sees_alike (receiver_row p) (receiver_step p) seen s
    (λ a b parks. park_leads p a parks ∙ sym (park_leads p b parks)) may
