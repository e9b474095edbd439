-- Proofs of the laws of `src/lib.rt`, from the laws of the ends and from the bridge.
-- `ValuesRun` holds the idea. A law of `oneshot_ends` states that an end's log belongs to an order of both ends'
-- operations, and that it is the log of some calls. The bridge leads from there to a run. The lemmas count the replies
-- that returned the message, and compare this count with what the receiver took.
-- `ValueExamples` proves the examples: the calls and the order of each worked log, and why a wrong log has none.
-- The other files prove the laws of `src/both_ends.rt`, each those of the file of `specs/` with its name.
pub mod ValuesRun
mod ValueExamples
mod EndedSenders
mod FirstFound
mod LeftReceivers
mod ToldEnds
