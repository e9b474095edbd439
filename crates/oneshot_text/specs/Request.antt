-- The text that asks for two scripts and a schedule.
use Rattle.std.specs.Prelude.{◌≡◌, ℕ, List, [], ◌∷◌, Some, map}
use Rattle.oneshot_replay.specs.declared.Move.{Move}
use Rattle.oneshot_replay.specs.declared.ReceiverScript.{ReceiverScript}
use Rattle.oneshot_replay.specs.declared.SenderScript.{SenderScript}
use Rattle.oneshot_text.specs.declared.line.Line.TheVariants.{Sender, Receiver, Schedule}
use Rattle.oneshot_text.specs.Cut.{words_of, lines_of}
use Rattle.oneshot_text.specs.Line.{letter_of_line}
use Rattle.oneshot_text.specs.Receiver.{words_of_receiver}
use Rattle.oneshot_text.specs.Schedule.{words_of_schedule}
use Rattle.oneshot_text.specs.Sender.{words_of_sender}

-- three lines: each is its letter, and then the words that ask for its part
pub record Asks (text : List ℕ) (sender : SenderScript ℕ) (receiver : ReceiverScript) (moves : List Move) : Type 0 where
  pub schedule : List (List ℕ)
  pub letters : map (map Some) schedule ≡ words_of_schedule moves
  pub lines : map words_of (lines_of text)
      ≡ (letter_of_line Sender ∷ words_of_sender sender) ∷ (letter_of_line Receiver ∷ words_of_receiver receiver)
      ∷ (letter_of_line Schedule ∷ schedule) ∷ []
