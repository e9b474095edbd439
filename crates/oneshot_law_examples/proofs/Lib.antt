-- Proofs that the worked traces satisfy the records of the laws, and that the damaged ones do not.
-- What the definitions compute for a trace needs no file here: the checker computes it in the contract of `examples`.
-- `RecordExamples` holds the idea. It proves each field of the record for the worked traces, and of each damaged trace
-- that one field is false.
-- `WakersComputed` proves that a test of the wakers which a trace names shows the law of all wakers. `RecordExamples`
-- needs it, since the law is of every name.
-- `StepExamples` computes a run step by step.
pub mod WakersComputed
pub mod RecordExamples
pub mod StepExamples
