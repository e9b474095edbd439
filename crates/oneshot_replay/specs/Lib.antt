-- What contracts of `replay` and of `Replayer` state of a run of the model and of its trace.
-- `TraceView` and `Right` hold the idea. `TraceView` is what a contract sees of a trace, and `IsReplayed` there ties it
-- to a run: worlds that the moves lead through, one after another. `Right` is the record of all laws (`IsRight`), one
-- in each field, whose definitions are in `oneshot_laws`.
-- `Rest` has the message with its last place.
-- `Scene` and `Run` are for a program that steps a `Replayer` itself. `Scene` is what a contract sees of a replayer.
-- `Run` states which run has led there (`HasRun`), and that a step lets it go on (`GoesOn`). The bridge is stated by
-- them too.
pub mod Rest
pub mod Right
pub mod Run
pub mod Scene
pub mod TraceView
