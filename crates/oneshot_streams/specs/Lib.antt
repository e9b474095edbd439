-- What `oneshot-run` does with its streams: the text that it writes for an input, or the fault that it reports.
-- `Run` holds the idea. `IsAnswered` states which text an input has, and `IsFault` when the program may report each
-- fault. `EndsWith` ties both to the exit status. The bytes of the reader and the content of the writer may be unknown,
-- and then these state less.
-- `Fault` has the fault for each error of the parser, and the status of each fault. Read it first.
-- The texts themselves are defined in `oneshot_text/specs`.
pub mod Fault
pub mod Run
