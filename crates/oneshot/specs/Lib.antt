-- What a proof of your own imports, some of it under another name.
-- Each line re-exports a file of a crate beneath, so that a program and its proofs list this crate alone. The files
-- stand in groups by the contracts that name them, with a comment above each group.
-- `Ends` and `Right` hold the ideas. `Ends` is what a contract sees of a real end: its channel and its log. `Right` is
-- the record of all laws of a trace of the model.
-- Of the channel read `Ends`, `Runs` and `BetweenCalls` first. Of the model read `TraceView` and `Right` first, and
-- then the file of `oneshot_laws` that a field of `Right` names.
-- the definitions that the contracts of the ends name
pub use Rattle.oneshot_ends.specs.Ends
pub use Rattle.oneshot_ends.specs.Taken
pub use Rattle.oneshot_ends.specs.NoLostWakeup
pub use Rattle.oneshot_ends.specs.OwnWakers
pub use Rattle.oneshot_ends.specs.Woken
pub use Rattle.oneshot_ends.specs.Tokens
pub use Rattle.oneshot_ends.specs.Grounds as EndGrounds
pub use Rattle.oneshot_ends.specs.Polling
pub use Rattle.oneshot_errors.specs.Equality
pub use Rattle.oneshot_errors.specs.declared.recv.RecvError
pub use Rattle.oneshot_errors.specs.declared.recv_timeout.RecvTimeoutError
pub use Rattle.oneshot_errors.specs.declared.try_recv.TryRecvError
-- those that the contracts of the drivers name
pub use Rattle.oneshot_drive.specs.BetweenCalls
pub use Rattle.oneshot_drive.specs.Blocking
pub use Rattle.oneshot_drive.specs.Grounds
pub use Rattle.oneshot_drive.specs.Polls
pub use Rattle.oneshot_drive.specs.Wakes
pub use Rattle.oneshot_machine.specs.Called
pub use Rattle.oneshot_machine.specs.Counts
pub use Rattle.oneshot_machine.specs.Logs
pub use Rattle.oneshot_machine.specs.Phases
pub use Rattle.oneshot_machine.specs.Runs
pub use Rattle.oneshot_machine.specs.Slots
pub use Rattle.oneshot_machine.specs.Noted
-- those that the contracts of the machines name
pub use Rattle.oneshot_machine.specs.Look
pub use Rattle.oneshot_machine.specs.TryRecv
pub use Rattle.oneshot_machine.specs.ByRef
pub use Rattle.oneshot_machine.specs.Timed
pub use Rattle.oneshot_machine.specs.Value
pub use Rattle.oneshot_machine.specs.Future as FutureCalls
pub use Rattle.oneshot_machine.specs.AsyncDrop
pub use Rattle.oneshot_machine.specs.Drop as ReceiverDrop
pub use Rattle.oneshot_machine.specs.Receiver
pub use Rattle.oneshot_machine.specs.TableRows
pub use Rattle.oneshot_machine.specs.Sender
pub use Rattle.oneshot_machine.specs.States
pub use Rattle.oneshot_machine.specs.declared.machine.Reply
pub use Rattle.oneshot_machine.specs.declared.machine.receiver.ReceiverStart
pub use Rattle.oneshot_machine.specs.declared.machine.sender.SenderCall
-- those that the contracts of `replay` name
pub use Rattle.oneshot_replay.specs.Rest
pub use Rattle.oneshot_replay.specs.Right
pub use Rattle.oneshot_replay.specs.Run
pub use Rattle.oneshot_replay.specs.Scene
pub use Rattle.oneshot_replay.specs.TraceView
pub use Rattle.oneshot_replay.specs.declared.rest.Rest as RestOf
pub use Rattle.oneshot_world.specs.Calls
pub use Rattle.oneshot_world.specs.Scripts
pub use Rattle.oneshot_world.specs.Ahead
pub use Rattle.oneshot_world.specs.Effects
pub use Rattle.oneshot_world.specs.State
pub use Rattle.oneshot_world.specs.World
pub use Rattle.oneshot_laws.specs.Actions
pub use Rattle.oneshot_laws.specs.Alone
pub use Rattle.oneshot_laws.specs.Bounds
pub use Rattle.oneshot_laws.specs.Ended
pub use Rattle.oneshot_laws.specs.History
pub use Rattle.oneshot_laws.specs.Holders
pub use Rattle.oneshot_laws.specs.Idle
pub use Rattle.oneshot_laws.specs.Marks
pub use Rattle.oneshot_laws.specs.MessagePlaces
pub use Rattle.oneshot_laws.specs.Object
pub use Rattle.oneshot_laws.specs.Replies
pub use Rattle.oneshot_laws.specs.Unwoken
pub use Rattle.oneshot_laws.specs.WakerPlaces
-- those that the contracts of `reply` name
pub use Rattle.oneshot_reply.specs.declared.asked.Asked
-- the one that the contracts of `watch` name
pub use Rattle.oneshot_watch.specs.declared.never.Never
