-- What two views of one end have in common, and the promise of a message as the caller sees it.
use Rattle.std.proofs.Common.{◌≡◌, Result, ap, ◌∙◌, subst}
use Rattle.std.specs.Prelude.{IfOk}
use Rattle.futures.specs.declared.task.Poll.{Poll}
use Rattle.futures.specs.declared.task.Poll.TheVariants.{Ready, Pending}
use Rattle.futures.specs.Poll.{IfReady, OnPending}
use Rattle.oneshot_word.specs.Side.{Side}
use Rattle.oneshot_ends.specs.Ends.{SenderView, ReceiverView, FutureView}

module _ {T P : Type 0} where
  pub same_steps : {a b : ReceiverView T P} → a ≡ b → a.log ≡ b.log
  same_steps is = ap (λ (e : ReceiverView T P). e.log) is

  pub same_about : {a b : ReceiverView T P} → a ≡ b → a.channel.about ≡ b.channel.about
  same_about is = ap (λ (e : ReceiverView T P). e.channel.about) is

  pub same_took : {a b : ReceiverView T P} → a ≡ b → a.took ≡ b.took
  same_took is = ap (λ (e : ReceiverView T P). e.took) is

  pub future_steps : {a b : FutureView T P} → a ≡ b → a.log ≡ b.log
  future_steps is = ap (λ (e : FutureView T P). e.log) is

  pub future_about : {a b : FutureView T P} → a ≡ b → a.channel.about ≡ b.channel.about
  future_about is = ap (λ (e : FutureView T P). e.channel.about) is

  pub future_took : {a b : FutureView T P} → a ≡ b → a.took ≡ b.took
  future_took is = ap (λ (e : FutureView T P). e.took) is

  pub future_registered : {a b : FutureView T P} → a ≡ b → a.registered ≡ b.registered
  future_registered is = ap (λ (e : FutureView T P). e.registered) is

module _ {P : Type 0} where
  pub sent_steps : {a b : SenderView P} → a ≡ b → a.log ≡ b.log
  sent_steps is = ap (λ (e : SenderView P). e.log) is

  -- a side that was lent is about the same value as its end
  pub lent_about : {T W : Type 0} {own s : Side T W P} {about : P} → s ≡ own → own.about ≡ about → s.about ≡ about
  lent_about is shown = ap (λ s. s.about) is ∙ shown

  -- the message keeps its promise about an equal value
  pub kept_about : {T E : Type 0} (keeps : P → T → Type 0) (result : Result T E) {a b : P}
      → a ≡ b → IfOk result (λ message. keeps a message) → IfOk result (λ message. keeps b message)
  kept_about keeps result same kept = subst (λ q. IfOk result (λ message. keeps q message)) same kept

  pub polled_about : {T E : Type 0} (keeps : P → T → Type 0) (result : Poll (Result T E)) {a b : P}
      → a ≡ b → IfReady result (λ answer. IfOk answer (λ message. keeps a message))
      → IfReady result (λ answer. IfOk answer (λ message. keeps b message))
  polled_about keeps result same kept =
      subst (λ q. IfReady result (λ answer. IfOk answer (λ message. keeps q message))) same kept

  -- so does the message that a pending future will return
  pub pending_about : {T E : Type 0} (keeps : P → T → Type 0) (result : Poll (Result T E)) {a b : P} → b ≡ a
      → OnPending result ((answer : Result T E) → IfOk answer (λ message. keeps b message)
      → IfOk answer (λ message. keeps a message))
  pending_about keeps (Ready answer) same = tt
  pending_about keeps Pending same = λ answer. kept_about keeps answer same
