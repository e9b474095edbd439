-- The words of a sender's script determine how many looks it begins with, and its last call.
use Rattle.std.proofs.Common.{◌≡◌, ◌≢◌, ℕ, List, ◌++◌, Some, slice_get, replicate, codes, Result, Ok, ap, ◌∙◌, arith}
use Rattle.std.proofs.lemmas.Grind.{common_steps}
use Rattle.oneshot_replay.specs.declared.SenderLast.{SenderLast}
use Rattle.oneshot_replay.specs.declared.SenderLast.TheVariants as L
use Rattle.oneshot_replay.specs.declared.SenderScript.{SenderScript}
use Rattle.oneshot_replay.specs.declared.ErrorLast.{ErrorLast}
use Rattle.oneshot_replay.specs.declared.ErrorLast.TheVariants as E
use Rattle.oneshot_replay.specs.declared.ErrorScript.{ErrorScript}
use Rattle.oneshot_text.specs.Sender.{words_of_error_last, words_of_error, words_of_sender_last, words_of_sender}
use Rattle.oneshot_text.proofs.Runs.{replicate-same}

abbrev ok : {A : Type 0} (F : Type 0) → A → Result A F
ok F x = Ok x

-- no last call begins with a look
error_last-no_inner : (last : ErrorLast) → slice_get (words_of_error_last last) 0 ≢ Some (codes "inner")
error_last-no_inner E.IntoInner = λ is. grind (arith, common_steps)
error_last-no_inner E.Drop = λ is. grind (arith, common_steps)
error_last-no_inner E.Stop = λ is. grind (arith, common_steps)

sender_last-no_closed : (last : SenderLast ℕ) → slice_get (words_of_sender_last last) 0 ≢ Some (codes "closed")
sender_last-no_closed (L.Send message error) = λ is. grind (arith, common_steps)
sender_last-no_closed L.Drop = λ is. grind (arith, common_steps)
sender_last-no_closed L.Stop = λ is. grind (arith, common_steps)

pub error-same : (looks : ℕ) (rest : List (List ℕ)) (error : ErrorScript) → slice_get rest 0 ≢ Some (codes "inner")
    → replicate looks (codes "inner") ++ rest ≡ words_of_error error
    → (looks ≡ error.looks) × (rest ≡ words_of_error_last error.last)
error-same looks rest error whole is =
    replicate-same (codes "inner") looks error.looks rest (words_of_error_last error.last) whole
    (error_last-no_inner error.last) is

pub sender-same : (looks : ℕ) (rest : List (List ℕ)) (sender : SenderScript ℕ)
    → slice_get rest 0 ≢ Some (codes "closed") → replicate looks (codes "closed") ++ rest ≡ words_of_sender sender
    → (looks ≡ sender.looks) × (rest ≡ words_of_sender_last sender.last)
sender-same looks rest sender whole is =
    replicate-same (codes "closed") looks sender.looks rest (words_of_sender_last sender.last) whole
    (sender_last-no_closed sender.last) is

-- a script is its looks and its last call
pub sender-of : {F : Type 0} (looks : ℕ) (last : SenderLast ℕ) (sender : SenderScript ℕ) → looks ≡ sender.looks
    → ok F last ≡ ok F sender.last
    → ok F (record { looks = looks; last = last }) ≡ ok F sender
sender-of {F} looks last sender same_looks same_last =
    let same : last ≡ sender.last = cc in
    ap (λ n. ok F (record { looks = n; last = last })) same_looks
    ∙ ap (λ l. ok F (record { looks = sender.looks; last = l })) same
