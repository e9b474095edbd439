-- The name of each loop.
use Rattle.std.specs.Prelude.{ℕ, List, codes}
use Rattle.oneshot_loops.specs.declared.loops.Awaited.{Awaited as AwaitedLoop}
use Rattle.oneshot_loops.specs.declared.loops.Awaited.TheVariants.{MakeSendBlockOn, MakeSendAwait, PollPending, RoundTripAwait}
use Rattle.oneshot_loops.specs.declared.loops.Loop.{Loop}
use Rattle.oneshot_loops.specs.declared.loops.Loop.TheVariants.{MakeSendReceiveDrop, MakeDrop, MakeSendRecv, MakePollSendPoll, MakeSendReceiveDropLarge}
use Rattle.oneshot_loops.specs.declared.loops.Loop.TheVariants.{RoundTrip, Awaited}

abbrev pub awaited_name : AwaitedLoop → List ℕ
awaited_name MakeSendBlockOn = codes "make_send_block_on"
awaited_name MakeSendAwait = codes "make_send_await"
awaited_name PollPending = codes "poll_pending"
awaited_name RoundTripAwait = codes "round_trip_await"

abbrev pub name_of : Loop → List ℕ
name_of MakeSendReceiveDrop = codes "make_send_receive_drop"
name_of MakeDrop = codes "make_drop"
name_of MakeSendRecv = codes "make_send_recv"
name_of MakePollSendPoll = codes "make_poll_send_poll"
name_of MakeSendReceiveDropLarge = codes "make_send_receive_drop_4096"
name_of RoundTrip = codes "round_trip"
name_of (Awaited kind) = awaited_name kind
