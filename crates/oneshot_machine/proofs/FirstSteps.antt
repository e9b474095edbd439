-- What the first operation of a run saw, from the log that the run leaves.
use Rattle.std.proofs.Common.{◌≡◌, ℕ, List, [], ◌∷◌, Some, get_or, ap, ◌∙◌, subst}
use Rattle.std.specs.List.{cons_option}
use Rattle.std.specs.Option.{option_map}
use Rattle.oneshot_machine.specs.declared.machine.Reply.{Reply}
use Rattle.oneshot_machine.specs.declared.machine.Reply.TheVariants as R
use Rattle.oneshot_machine.specs.declared.machine.Seen.{Seen}
use Rattle.oneshot_machine.specs.declared.machine.Seen.TheVariants.{Done, Word}
use Rattle.oneshot_machine.specs.declared.machine.Step.TheVariants as Steps
use Rattle.oneshot_machine.specs.declared.machine.receiver.ReceiverPos.TheVariants.{Try}
use Rattle.oneshot_machine.specs.declared.machine.sender.SenderPos.{SenderPos}
use Rattle.oneshot_machine.specs.declared.machine.sender.SenderPos.TheVariants.{SendWrite, SendAdd}
use Rattle.oneshot_machine.specs.declared.machine.try_recv.TryPos.TheVariants.{TryLoad}
use Rattle.oneshot_machine.specs.declared.states.Op.{Op}
use Rattle.oneshot_machine.specs.declared.states.Op.TheVariants.{Load, Add}
use Rattle.oneshot_machine.specs.declared.states.TheConstants.{EMPTY}
use Rattle.oneshot_machine.specs.Logs.{Event, words}
use Rattle.oneshot_machine.specs.Noted.{Noted, op_of}
use Rattle.oneshot_machine.specs.Receiver.{receiver_step, receiver_row}
use Rattle.oneshot_machine.specs.Runs.{Run, last, more}
use Rattle.oneshot_machine.specs.Sender.{sender_step, sender_row}
use Rattle.oneshot_machine.specs.TableRows.{Goes, Answers}

-- a `send` that has written its message performs an add
then_adds : (seen : Seen) (next : SenderPos) → sender_row SendWrite seen ≡ Some (Goes next) → next ≡ SendAdd
then_adds Done next leads = cc
then_adds _ next leads = absurd (cc leads)

module _ {T W : Type 0} where
  -- a step that is an operation comes first in the log
  pub begins_with : (x : Event T W) (xs : List (Event T W)) {op : Op} → x.step ≡ Steps.Word op
      → words (x ∷ xs) ≡ (op, x.seen) ∷ words xs
  begins_with x xs is = ap (λ step. cons_option (option_map (λ op. (op, x.seen)) (op_of step)) (words xs)) is

  pub first_seen : (x : Event T W) (xs : List (Event T W)) {op : Op} {seen : Seen} {zs : List Noted}
      → x.step ≡ Steps.Word op → (op, seen) ∷ zs ≡ words (x ∷ xs) → seen ≡ x.seen
  first_seen x xs {op} {seen} is same =
      ap (λ (log : List Noted). (get_or {A = Noted} log 0 (op, seen)).1) (same ∙ begins_with x xs is)

  -- a `try_recv` performs an operation
  pub tries_once : {run : List (Event T W)} {r : Reply} → Run receiver_step receiver_row (Try TryLoad) run r
      → words run ≡ [] → ⊥
  tries_once (last x is leads) none = let begins = begins_with x [] is in cc
  tries_once (more next x xs is leads rest) none = let begins = begins_with x xs is in cc

  -- a `try_recv` that only loaded EMPTY receives no message
  pub tries_in_vain : {run : List (Event T W)} → Run receiver_step receiver_row (Try TryLoad) run R.Message
      → (Load, Word EMPTY) ∷ [] ≡ words run → ⊥
  tries_in_vain (last x is leads) same =
      let row : Some (Answers R.Empty) ≡ Some (Answers R.Message) =
      ap (receiver_row (Try TryLoad)) (first_seen x [] is same) ∙ leads in cc row
  tries_in_vain (more next x xs is leads rest) same =
      let row : Some (Answers R.Empty) ≡ Some (Goes next) =
      ap (receiver_row (Try TryLoad)) (first_seen x xs is same) ∙ leads in cc row

  -- `send` replies as the row for its add does, if that row has a reply
  adds : {xs : List (Event T W)} {word : ℕ} {r s : Reply} → sender_row SendAdd (Word word) ≡ Some (Answers s)
      → Run sender_step sender_row SendAdd xs r → (Add, Word word) ∷ [] ≡ words xs → r ≡ s
  adds {word = word} {r = r} answers (last x is leads) same =
      let row : sender_row SendAdd (Word word) ≡ Some (Answers r) =
      ap (sender_row SendAdd) (first_seen x [] is same) ∙ leads in cc (row, answers)
  adds {word = word} answers (more next x xs is leads rest) same =
      let row : sender_row SendAdd (Word word) ≡ Some (Goes next) =
      ap (sender_row SendAdd) (first_seen x xs is same) ∙ leads in absurd (cc (row, answers))

  pub sends_with : {run : List (Event T W)} {word : ℕ} {r s : Reply} → sender_row SendAdd (Word word) ≡ Some (Answers s)
      → Run sender_step sender_row SendWrite run r → (Add, Word word) ∷ [] ≡ words run → r ≡ s
  sends_with answers (last x is leads) same =
      let none : words (x ∷ []) ≡ [] =
      ap (λ step. cons_option (option_map (λ op. (op, x.seen)) (op_of step)) []) is in cc
  sends_with {r = r} answers (more next x xs is leads rest) same =
      let on : words (x ∷ xs) ≡ words xs =
      ap (λ step. cons_option (option_map (λ op. (op, x.seen)) (op_of step)) (words xs)) is in
      adds answers (subst (λ p. Run sender_step sender_row p xs r) (then_adds x.seen next leads) rest) (same ∙ on)
