-- What always holds of a receiver and of a future between two calls.
use Rattle.std.specs.Prelude.{Option, IfSome}
use Rattle.atomic_table.specs.Seated.{TableId}
use Rattle.oneshot_machine.specs.Called.{as_receiver, as_future}
use Rattle.oneshot_machine.specs.Logs.{receiver_of}
use Rattle.oneshot_drive.specs.BetweenCalls.{AtRest, IsReady}
use Rattle.oneshot_drive.specs.Polls.{IsPolled}
use Rattle.oneshot_word.specs.declared.any_waker.AnyWaker.{AnyWaker}
use Rattle.oneshot_word.specs.Side.{Side}
use Rattle.oneshot_ends.specs.declared.token.WakingHalf.{WakingHalf}
use Rattle.oneshot_ends.specs.Ends.{HasCalls}
use Rattle.oneshot_ends.specs.Grounds.{state_of}
use Rattle.oneshot_ends.specs.OwnWakers.{IsHalfOf, WaitsByHalvesOf, WaitsByNoThread}
use Rattle.oneshot_ends.specs.Taken.{TookAsFound}

module _ {T K P : Type 0} where
  -- a receiver with this ground, whose parker and the waking half in its hand are these
  pub record ReceiverInvariant (parker : TableId) (hand : Option (AnyWaker WakingHalf K))
      (ground : Side T (AnyWaker WakingHalf K) P) : Type 0 where
    pub rests : AtRest (state_of ground)
    pub ready : IsReady hand (receiver_of (state_of ground).log)
    pub calls : HasCalls T as_receiver ground.log
    pub halves : WaitsByHalvesOf parker ground
    pub half : IfSome hand (IsHalfOf parker)
    pub took : TookAsFound ground.passed ground.log

  -- a future with this ground
  pub record FutureInvariant (ground : Side T (AnyWaker WakingHalf K) P) : Type 0 where
    pub rests : IsPolled (state_of ground)
    pub calls : HasCalls T as_future ground.log
    pub no_thread : WaitsByNoThread ground
    pub took : TookAsFound ground.passed ground.log
