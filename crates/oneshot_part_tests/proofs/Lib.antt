-- Proofs that the tests of this crate may call what they call: each operation of a side, and each driver, has a
-- `requires`.
-- `Shown` holds the idea. From the phase and the slots of an end it proves which operation the end may perform, and its
-- phase and slots afterwards. The functions of `src/word.rt` make one stretch of operations each, and are proved with
-- it.
-- `LoadedMessage` computes for each phase what a load that finds `MESSAGE` leaves.
-- `Released` proves that an end may be released after its last operation.
mod Shown
pub mod LoadedMessage
mod Released
