-- What contracts of the grounds in memory state. Such a ground is a second implementation of the traits of
-- `oneshot_drive`, for tests: it has no other end, and its log has every step.
-- `Events` and `Memory` hold the idea. `Events` shows a ground's list of events as a log. `Memory` is the word, with
-- which slots are the end's and which are filled, and a test of whether the rows of a phase may find that word.
-- `Sender` and `Receiver` state of each ground that its memory matches its log: the phase of the log has rows for the
-- word, and the slots that it owns are the ground's. What the other end does meanwhile is part of the ground.
pub mod Events
pub mod Memory
pub mod Sender
pub mod Receiver
