-- The words that ask for a sender's script, after the line's letter.
use Rattle.std.specs.Prelude.{ℕ, ◌^◌, ◌<◌, List, [], ◌∷◌, ◌++◌, replicate, codes, decimal}
use Rattle.oneshot_replay.specs.declared.SenderScript.{SenderScript}
use Rattle.oneshot_replay.specs.declared.SenderLast.{SenderLast}
use Rattle.oneshot_replay.specs.declared.SenderLast.TheVariants as L
use Rattle.oneshot_replay.specs.declared.ErrorScript.{ErrorScript}
use Rattle.oneshot_replay.specs.declared.ErrorLast.{ErrorLast}
use Rattle.oneshot_replay.specs.declared.ErrorLast.TheVariants as E

-- a `Stop` is the line's end
abbrev pub words_of_error_last : ErrorLast → List (List ℕ)
words_of_error_last E.IntoInner = codes "into" ∷ []
words_of_error_last E.Drop = codes "drop" ∷ []
words_of_error_last E.Stop = []

abbrev pub words_of_error : ErrorScript → List (List ℕ)
words_of_error error = replicate error.looks (codes "inner") ++ words_of_error_last error.last

abbrev pub words_of_sender_last : SenderLast ℕ → List (List ℕ)
words_of_sender_last (L.Send message error) = codes "send" ∷ decimal message ∷ words_of_error error
words_of_sender_last L.Drop = codes "drop" ∷ []
words_of_sender_last L.Stop = []

abbrev pub words_of_sender : SenderScript ℕ → List (List ℕ)
words_of_sender sender = replicate sender.looks (codes "closed") ++ words_of_sender_last sender.last

-- a message that the program can hold
abbrev pub IsSendable : SenderLast ℕ → Type 0
IsSendable (L.Send message error) = message < 2 ^ 64
IsSendable L.Drop = Unit {0}
IsSendable L.Stop = Unit {0}
