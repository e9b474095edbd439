-- The bridge, defined: what the ends of the real channel do to the shared word is a run of the model.
-- A real end shows a proof only its log: its operations on the word, with what each found. The model (`oneshot_world`)
-- runs two scripts under a schedule. The laws of `src/lib.rt` lead from logs to runs. A proof about a real channel can
-- then use what `oneshot_laws` proves of every run.
-- `Walks` and `OrdersRun` hold the idea. Read them first, and then the others in this order.
-- `Walks` defines a walk: one end carries out its script alone. It is an execution of one labelled transition system.
-- `OrdersRun` states that a walk of each end, with an order of their operations, makes a run (`RunsTo`). This is a
-- forward simulation.
-- `Scripted` states that each log which the rule of the word allows has a script and a walk, and so a run (`IsOfARun`).
-- `RunOrder` states that a run with both logs performs their operations in the one order that these logs have.
-- `Homes` states what such a run has in its cells, by which slots are *at home* in the table: no end has taken them.
-- `CallsRun` states that, between calls, some run has made just the program's own calls, with the same replies.
-- `Joined` states all of this for one state of the shared table, with the message that passed. This is a refinement.
-- `Gives` and `Woken` state what the laws of the model then say of both ends.
-- `Examples`, `CellExamples`, `CallExamples` and `RunExamples` have worked runs, and wrong ones that the definitions
-- refuse.
pub mod Walks
pub mod OrdersRun
pub mod Homes
pub mod Scripted
pub mod Examples
pub mod RunOrder
pub mod Gives
pub mod Woken
pub mod CallsRun
pub mod Joined
pub mod CellExamples
pub mod CallExamples
pub mod RunExamples
