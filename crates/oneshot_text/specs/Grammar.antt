-- The languages of the grammar: the words that may follow each line's letter, and the parts at a line's end.
use Rattle.std.specs.Prelude.{◌≡◌, ℕ, ◌^◌, ◌<◌, List, [], ◌∷◌, map, Some, decimal}
use Rattle.oneshot_replay.specs.declared.AsyncScript.{AsyncScript}
use Rattle.oneshot_replay.specs.declared.ErrorScript.{ErrorScript}
use Rattle.oneshot_replay.specs.declared.Move.{Move}
use Rattle.oneshot_replay.specs.declared.ReceiverScript.{ReceiverScript}
use Rattle.oneshot_replay.specs.declared.SenderScript.{SenderScript}
use Rattle.oneshot_text.specs.declared.line.Line.{Line}
use Rattle.oneshot_text.specs.declared.line.Line.TheVariants.{Sender, Receiver, Schedule}
use Rattle.oneshot_text.specs.Future.{words_of_future, HasNumbers}
use Rattle.oneshot_text.specs.Receiver.{words_of_receiver, IsPollable}
use Rattle.oneshot_text.specs.Schedule.{words_of_schedule}
use Rattle.oneshot_text.specs.Sender.{words_of_error, words_of_sender, IsSendable}

pub record AsksForSender (words : List (List ℕ)) : Type 0 where
  pub script : SenderScript ℕ
  pub fits : IsSendable script.last
  pub written : words ≡ words_of_sender script

pub record AsksForError (words : List (List ℕ)) : Type 0 where
  pub script : ErrorScript
  pub written : words ≡ words_of_error script

pub record AsksForReceiver (words : List (List ℕ)) : Type 0 where
  pub script : ReceiverScript
  pub fits : IsPollable script.last
  pub written : words ≡ words_of_receiver script

pub record AsksForFuture (words : List (List ℕ)) : Type 0 where
  pub script : AsyncScript
  pub fits : HasNumbers script.calls
  pub written : words ≡ words_of_future script

pub record AsksForMoves (words : List (List ℕ)) : Type 0 where
  pub moves : List Move
  pub written : map (map Some) words ≡ words_of_schedule moves

-- the line's end
abbrev pub IsOver : List (List ℕ) → Type 0
IsOver words = words ≡ []

-- a number, and then words of this language
pub record NumberAnd (language : List (List ℕ) → Type 0) (words : List (List ℕ)) : Type 0 where
  pub number : ℕ
  pub rest : List (List ℕ)
  pub small : number < 2 ^ 64
  pub written : words ≡ decimal number ∷ rest
  pub right : language rest

-- the words that may follow the letter of this line
abbrev pub IsRight : Line → List (List ℕ) → Type 0
IsRight Sender = AsksForSender
IsRight Receiver = AsksForReceiver
IsRight Schedule = AsksForMoves
