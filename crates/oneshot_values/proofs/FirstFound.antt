-- How a call replies by the word that its first operation finds: computed for each row of its table.
use Rattle.std.proofs.Common.{◌≡◌, ℕ, Bool, true, false, List, [], ◌∷◌, refl, ap, ◌∙◌, subst}
use Rattle.std.proofs.lemmas.Bool.{and_parts, eq-eqb}
use Rattle.std.specs.Prelude.{◌&&◌, if◌then◌else◌}
use Rattle.oneshot_machine.specs.declared.machine.Reply.{Reply}
use Rattle.oneshot_machine.specs.declared.machine.Reply.TheVariants as R
use Rattle.oneshot_machine.specs.declared.machine.Seen.{Seen}
use Rattle.oneshot_machine.specs.declared.machine.Seen.TheVariants.{Word}
use Rattle.oneshot_machine.specs.declared.machine.receiver.ReceiverStart.{ReceiverStart}
use Rattle.oneshot_machine.specs.declared.machine.receiver.ReceiverStart.TheVariants as RC
use Rattle.oneshot_machine.specs.declared.machine.receiver.ReceiverPos.{ReceiverPos}
use Rattle.oneshot_machine.specs.declared.machine.receiver.ReceiverPos.TheVariants.{Try, Ref, Timed, Value, Future}
use Rattle.oneshot_machine.specs.declared.machine.try_recv.TryPos.TheVariants.{TryLoad, Close, Take}
use Rattle.oneshot_machine.specs.declared.machine.by_ref.RefPos.TheVariants.{StartLoad, StartSwap}
use Rattle.oneshot_machine.specs.declared.machine.timed.TimedPos.TheVariants.{SumClock}
use Rattle.oneshot_machine.specs.declared.machine.value.ValuePos.TheVariants.{RecvLoad, RecvTake, RecvFreeGot, RecvFreeGone}
use Rattle.oneshot_machine.specs.declared.machine.future.FuturePos.TheVariants.{PollLoad, AsyncTryLoad}
use Rattle.oneshot_machine.specs.declared.machine.sender.SenderPos.{SenderPos}
use Rattle.oneshot_machine.specs.declared.machine.sender.SenderPos.TheVariants.{SendWrite, SendAdd, SendTakeWaker, SendFinal, SendWake, SendLateWake}
use Rattle.oneshot_machine.specs.declared.machine.Step.{Step}
use Rattle.oneshot_machine.specs.declared.states.TheConstants.{DISCONNECTED, MESSAGE}
use Rattle.oneshot_machine.specs.declared.states.Op.{Op}
use Rattle.oneshot_machine.specs.Logs.{Event, words}
use Rattle.oneshot_machine.specs.Noted.{Noted}
use Rattle.oneshot_machine.specs.Phases.{phase_from}
use Rattle.oneshot_machine.specs.Receiver.{receiver_start, receiver_step, receiver_rows}
use Rattle.oneshot_machine.specs.Runs.{Run}
use Rattle.oneshot_machine.specs.Sender.{sender_step, sender_rows}
use Rattle.oneshot_machine.specs.TableRows.{Rows, row_for, is_same_seen}
use Rattle.oneshot_machine.proofs.RunsByRows.{carries, by_tests}
use Rattle.oneshot_values.specs.FirstFound.{receives, FirstFound, first_found, ReceivesByFirstWord, SendsByFirstWord}
use Rattle.oneshot_ends.specs.Taken.{is_message}

-- the first operation of a call: none yet, one that found a certain word, or one that found another
pub data First : Type 0 where
  unmade : First
  found_word : First
  found_other : First

abbrev pub first_by : ℕ → First → Op → Seen → First
first_by word unmade op seen = if is_same_seen seen (Word word) then found_word else found_other
first_by word found_word op seen = found_word
first_by word found_other op seen = found_other

-- what was found first stays so
stays_found : (word : ℕ) (xs : List Noted) → phase_from (first_by word) found_word xs ≡ found_word
stays_found word [] = refl
stays_found word (x ∷ xs) = stays_found word xs

found_first : (word : ℕ) (xs : List Noted) → FirstFound word xs → phase_from (first_by word) unmade xs ≡ found_word
found_first word _ (first_found op rest) =
    ap (λ (is : Bool). phase_from (first_by word) (if is then found_word else found_other) rest) (eq-eqb word word refl)
    ∙ stays_found word rest

-- For a table: which positions are before the first operation, which are between that operation and the reply if it
-- found the word, and which if it found another. If it found the word, the reply passes the test.
module _ {P : Type 0} (begins leads goes_on : P → Bool) (tells : Reply → Bool) (step : P → Step) (rows : P → Rows P)
    (word : ℕ) where
  abbrev pub stands_first : P → First → Bool
  stands_first p unmade = begins p
  stands_first p found_word = leads p
  stands_first p found_other = goes_on p

  abbrev pub replies_first : Reply → First → Bool
  replies_first reply unmade = false
  replies_first reply found_word = tells reply
  replies_first reply found_other = true

  abbrev pub carries_first : P → First → Bool
  carries_first = carries stands_first replies_first step rows (first_by word)

  -- computed for each position
  abbrev pub finds_first : P → Bool
  finds_first p = carries_first p unmade && (carries_first p found_word && carries_first p found_other)

  each_so : (p : P) (first : First) → finds_first p ≡ true → carries_first p first ≡ true
  each_so p first so =
      let parts = and_parts (carries_first p unmade) (carries_first p found_word && carries_first p found_other) so in
      let later = and_parts (carries_first p found_word) (carries_first p found_other) parts.1 in
      of_first first parts.0 later.0 later.1
    where
      of_first : (first : First) → carries_first p unmade ≡ true → carries_first p found_word ≡ true
          → carries_first p found_other ≡ true → carries_first p first ≡ true
      of_first unmade none word other = none
      of_first found_word none word other = word
      of_first found_other none word other = other

  module _ (all : (p : P) → finds_first p ≡ true) {T W : Type 0} (p : P) (begins_so : begins p ≡ true)
      (run : List (Event T W)) (reply : Reply) (is_run : Run step (λ p seen. row_for seen (rows p)) p run reply) where
    ends_so : replies_first reply (phase_from (first_by word) unmade (words run)) ≡ true
    ends_so =
        by_tests stands_first replies_first step rows (first_by word) (λ p first. each_so p first (all p)) p unmade run
        reply begins_so is_run

    pub tells_so : FirstFound word (words run) → tells reply ≡ true
    tells_so first = subst (λ first. replies_first reply first ≡ true) (found_first word (words run) first) ends_so

    pub operates : words run ≡ [] → ⊥
    operates none =
        let never = subst (λ xs. replies_first reply (phase_from (first_by word) unmade xs) ≡ true) none ends_so in
        cc never

-- positions before the first operation
abbrev is_first : ReceiverPos → Bool
is_first (Try TryLoad) = true
is_first (Ref (StartLoad timed)) = true
is_first (Timed (SumClock representable)) = true
is_first (Value RecvLoad) = true
is_first (Future PollLoad) = true
is_first (Future AsyncTryLoad) = true
is_first _ = false

-- positions between that operation and the reply, if it found MESSAGE or DISCONNECTED
abbrev leads_to_message : ReceiverPos → Bool
leads_to_message (Try Close) = true
leads_to_message (Try Take) = true
leads_to_message (Value RecvTake) = true
leads_to_message (Value RecvFreeGot) = true
leads_to_message _ = false

abbrev leads_to_none : ReceiverPos → Bool
leads_to_none (Value RecvFreeGone) = true
leads_to_none _ = false

-- the families of positions of receives and polls
abbrev is_receiving : ReceiverPos → Bool
is_receiving (Try at) = true
is_receiving (Ref at) = true
is_receiving (Timed at) = true
is_receiving (Value at) = true
is_receiving (Future at) = true
is_receiving _ = false

abbrev is_none : Reply → Bool
is_none R.Disconnected = true
is_none _ = false

abbrev finds_message : ReceiverPos → Bool
finds_message =
    finds_first is_first leads_to_message is_receiving is_message receiver_step receiver_rows MESSAGE

-- in each family, the checker splits the position where a case stands
each_finds_message : (p : ReceiverPos) → finds_message p ≡ true
each_finds_message (Try TryLoad) = refl
each_finds_message (Ref (StartSwap false)) = refl
each_finds_message (Timed (SumClock true)) = refl
each_finds_message (Value RecvLoad) = refl
each_finds_message (Future PollLoad) = refl
each_finds_message _ = refl

abbrev finds_no_message : ReceiverPos → Bool
finds_no_message = finds_first is_first leads_to_none is_receiving is_none receiver_step receiver_rows DISCONNECTED

each_finds_no_message : (p : ReceiverPos) → finds_no_message p ≡ true
each_finds_no_message (Try TryLoad) = refl
each_finds_no_message (Ref (StartSwap false)) = refl
each_finds_no_message (Timed (SumClock true)) = refl
each_finds_no_message (Value RecvLoad) = refl
each_finds_no_message (Future PollLoad) = refl
each_finds_no_message _ = refl

begins_first : (call : ReceiverStart) → receives call ≡ true → is_first (receiver_start call) ≡ true
begins_first RC.TryRecv e = refl
begins_first _ e = e

its_message : (reply : Reply) → is_message reply ≡ true → reply ≡ R.Message
its_message R.Message e = refl
its_message _ e = absurd (cc e)

its_none : (reply : Reply) → is_none reply ≡ true → reply ≡ R.Disconnected
its_none R.Disconnected e = refl
its_none _ e = absurd (cc e)

pub receives_by_first_word : {T : Type 0} → ReceivesByFirstWord T
receives_by_first_word =
    record {
      operates = λ call run reply e is_run.
          operates is_first leads_to_message is_receiving is_message receiver_step receiver_rows MESSAGE
          each_finds_message (receiver_start call) (begins_first call e) run reply is_run;
      message = λ call run reply e is_run first.
          its_message reply
          (tells_so is_first leads_to_message is_receiving is_message receiver_step receiver_rows MESSAGE
          each_finds_message (receiver_start call) (begins_first call e) run reply is_run first);
      none = λ call run reply e is_run first.
          its_none reply
          (tells_so is_first leads_to_none is_receiving is_none receiver_step receiver_rows DISCONNECTED
          each_finds_no_message (receiver_start call) (begins_first call e) run reply is_run first);
    }

-- positions of a `send`
abbrev is_new : SenderPos → Bool
is_new SendWrite = true
is_new SendAdd = true
is_new _ = false

abbrev is_sending : SenderPos → Bool
is_sending SendTakeWaker = true
is_sending SendFinal = true
is_sending SendWake = true
is_sending SendLateWake = true
is_sending _ = false

abbrev is_refusal : Reply → Bool
is_refusal R.Refused = true
is_refusal _ = false

abbrev finds_gone : SenderPos → Bool
finds_gone = finds_first is_new (λ p. false) is_sending is_refusal sender_step sender_rows DISCONNECTED

each_finds_gone : (p : SenderPos) → finds_gone p ≡ true
each_finds_gone SendAdd = refl
each_finds_gone _ = refl

its_refusal : (reply : Reply) → is_refusal reply ≡ true → reply ≡ R.Refused
its_refusal R.Refused e = refl
its_refusal _ e = absurd (cc e)

pub sends_by_first_word : {T : Type 0} → SendsByFirstWord T
sends_by_first_word =
    record {
      operates = λ run reply is_run.
          operates is_new (λ p. false) is_sending is_refusal sender_step sender_rows DISCONNECTED each_finds_gone
          SendWrite refl run reply is_run;
      refused = λ run reply is_run first.
          its_refusal reply
          (tells_so is_new (λ p. false) is_sending is_refusal sender_step sender_rows DISCONNECTED each_finds_gone
          SendWrite refl run reply is_run first);
    }
