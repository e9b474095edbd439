-- The definitions of scripts, of the world and its moves, and of what a run can reach, in the order to read them.
-- `State` and `World` hold the idea. `State` has one step of one end: the row for what the step sees, the entry that it
-- makes, and the state that it leaves. `World` adds the calls left to each end, and one move of a schedule (`turn`). A
-- run is a list of worlds (`IsRun`).
-- `Calls` and `Scripts` define scripts, and `Looks` what a contract of the code sees of the calls that a sender has
-- left. `Wakers` and `Effects` define what a step sees and does.
-- `Ahead` is what the laws read of a world. The files after it serve the proof that goes through every world.
-- `Classes` and `Commutes` state that a step does the same if all copies of wakers are known by a class. A world is
-- then finite but for the calls left, which `ScriptsLeft` describes.
-- `Control` is the finite part of a world, `ControlCodes` gives each value of it a number, and `Explore` is the search
-- by which the checker finds all that a run can reach. `Reached` is the result. In the field's terms this is
-- explicit-state model checking, inside the checker.
pub mod Calls
pub mod Scripts
pub mod Looks
pub mod Wakers
pub mod Effects
pub mod State
pub mod World
pub mod Ahead
pub mod Classes
pub mod Commutes
pub mod ScriptsLeft
pub mod Control
pub mod ControlCodes
pub mod Explore
pub mod Reached
