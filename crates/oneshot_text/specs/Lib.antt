-- The grammar of a text that asks for a run, its first fault, and the text of a trace.
-- `Request` and `FirstFault` hold the idea. `Request` states which text asks for two scripts and a schedule (`Asks`).
-- It is written from the scripts to the words, as a printer, and the parser is proved to be its inverse. `FirstFault`
-- states what is wrong first with any other text (`HasFault`).
-- 1. What a text asks for, in this order: `Cut` (lines and words), `Line`, `Sender`, `Receiver`, `Future`, `Schedule`,
-- `Request`. `Lines` and `Words` are what contracts see of a text that is being read.
-- 2. Its first fault: `Grammar` has the language of each line and of its parts, `LineFault` the word at which a line
-- leaves its language, and `FirstFault` the first such line.
-- 3. The text of a run: `Names`, `ReplyText`, `EntryText`, `RestText` and `TraceText`. `CallText` adds the call to an
-- entry's line. `Page` is what a writer and its page hold together.
pub mod CallText
pub mod Cut
pub mod EntryText
pub mod FirstFault
pub mod Future
pub mod Grammar
pub mod Line
pub mod LineFault
pub mod Lines
pub mod Names
pub mod Page
pub mod Receiver
pub mod ReplyText
pub mod Request
pub mod RestText
pub mod Schedule
pub mod Sender
pub mod TraceText
pub mod Words
