-- The laws of every trace of two scripts, in reading order. They read the trace and the scripts alone, and know no
-- table, position or world. Only `Unwoken` names the run, to read two flags of each world; only `Marks` names codes.
-- `Object` and `Marks` hold the idea. `Object` is the sequential channel: its state, and what each of its steps
-- replies. `Marks` gives each entry of a trace its call, the call's reply, and whether the call takes effect here (its
-- acting entry, or linearization point). Most laws are tests over marks.
-- `Entries` and `Actions` come between: tests of one entry, and each call as a step of the object.
-- `History` states that the calls are linearizable. `Idle` states that an end is idle only if it has no call left, and
-- `Ended` defines when an end has ended.
-- `MessagePlaces` and `WakerPlaces` state where the message and each waker is. `Holders` states who holds the block,
-- and that its last holder frees it.
-- `Unwoken` states that no wakeup is lost.
-- `Replies`, `Alone` and `Bounds` state what follows from a reply, what a call does that nothing interferes with, and
-- how many operations a call makes.
-- `oneshot_replay/specs/Right.antt` joins the laws to one record.
pub mod Object
pub mod Entries
pub mod Actions
pub mod Marks
pub mod History
pub mod Idle
pub mod Ended
pub mod MessagePlaces
pub mod WakerPlaces
pub mod Unwoken
pub mod Holders
pub mod Replies
pub mod Alone
pub mod Bounds
