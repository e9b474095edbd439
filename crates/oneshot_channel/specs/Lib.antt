-- What a proof of your own imports: the definitions that the contracts of the channel and of `reply` name.
-- Each line re-exports a file of a crate beneath, so that a program and its proofs list this crate alone.
-- `Ends` and `Runs` hold the idea. `Ends` is what a contract sees of a sender, a receiver or a future: its channel and
-- its log. `Runs` defines a run, one path through the table of a call, whose operations the call appends to the log.
-- Read `Ends` first, then `Taken` (which message a receiver took), and `BetweenCalls` and `Polls` (how a call leaves
-- its end).
-- `Noted`, `Logs`, `Called`, `Counts` and `Phases` define logs, and what a log shows.
-- `Tokens`, `Woken`, `OwnWakers` and `NoLostWakeup` define what becomes of wakers.
pub use Rattle.oneshot_ends.specs.Ends
pub use Rattle.oneshot_ends.specs.Taken
pub use Rattle.oneshot_ends.specs.NoLostWakeup
pub use Rattle.oneshot_ends.specs.OwnWakers
pub use Rattle.oneshot_ends.specs.Woken
pub use Rattle.oneshot_ends.specs.Tokens
pub use Rattle.oneshot_errors.specs.declared.recv.RecvError
pub use Rattle.oneshot_errors.specs.declared.recv_timeout.RecvTimeoutError
pub use Rattle.oneshot_errors.specs.declared.try_recv.TryRecvError
pub use Rattle.oneshot_drive.specs.BetweenCalls
pub use Rattle.oneshot_drive.specs.Polls
pub use Rattle.oneshot_machine.specs.Called
pub use Rattle.oneshot_machine.specs.Counts
pub use Rattle.oneshot_machine.specs.Logs
pub use Rattle.oneshot_machine.specs.Noted
pub use Rattle.oneshot_machine.specs.Phases
pub use Rattle.oneshot_machine.specs.Runs
pub use Rattle.oneshot_machine.specs.declared.machine.Reply
pub use Rattle.oneshot_machine.specs.declared.machine.receiver.ReceiverStart
pub use Rattle.oneshot_machine.specs.declared.machine.sender.SenderCall
pub use Rattle.oneshot_reply.specs.declared.asked.Asked
