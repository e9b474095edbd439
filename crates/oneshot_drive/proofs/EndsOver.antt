-- After its last call an end is over: by the rows of its last operation.
use Rattle.oneshot_drive.proofs.Names.{◌≡◌, ℕ, false, List, [], ◌∷◌, refl, sym, ◌∙◌, subst, TakeWaker, Wake, Swap, Xor, Event, Log, Grows, words, sender_of, receiver_of, handed, worded, By, sending}
use Rattle.oneshot_drive.proofs.Names.{dropping, SenderAt, fresh, owes, found_gone, no_sender, sender_moves, ReceiverAt, untouched, idle, after_load, after_timeout, waits, claimed}
use Rattle.oneshot_drive.proofs.Names.{withdrew, full, at_once, by_future}
use Rattle.oneshot_drive.proofs.Names.{disconnected, receiver_moves, Slots, Held, In, finds, SenderFinds, leads_exactly, sender_moved, GroundState, StandsWith, SenderMakes}
use Rattle.oneshot_drive.proofs.Names.{ReceiverMakes, EndsAt, landings}
use Rattle.oneshot_drive.proofs.Names.{landings_of, landed, Each, each, sender_apart, RECEIVING, DISCONNECTED, EMPTY}
use Rattle.std.proofs.Common.{Bool, true, ◌==◌, not, ◌++◌, ap}
use Rattle.std.specs.List.{list_all}
use Rattle.oneshot_machine.specs.declared.machine.Reply.{Reply}
use Rattle.oneshot_machine.specs.declared.machine.sender.SenderCall.{SenderCall}
use Rattle.oneshot_machine.specs.Noted.{Noted}
use Rattle.oneshot_machine.specs.Phases.{finished, blocked, Row, sender_next, sender_at, phase_from}
use Rattle.oneshot_machine.proofs.GrownLogs.{words_after}
use Rattle.oneshot_machine.proofs.RunsByRows.{next_passes}
use Rattle.oneshot_drive.specs.Wakes.{found_receiver_waiting}
use Rattle.oneshot_drive.specs.declared.found.Found.{Found}
use Rattle.oneshot_drive.specs.declared.found.Found.TheVariants as F
use Rattle.oneshot_machine.specs.Over.{IsLate, is_overtaken, SenderIsOver, over_finished, over_late, over_overtaken, FoundTheEnd, found_message, found_overwritten}
use Rattle.oneshot_drive.specs.BetweenCalls.{LastLeaves, last_finished, last_overtaken}
use Rattle.oneshot_machine.specs.Over.{found_no_sender, HasLeft, left_first, left_last}
use Rattle.oneshot_drive.proofs.AfterOperations.{lone, at_word, one_of, sender_lands, lands, sender_still, still}
use Rattle.oneshot_drive.proofs.SenderCalls.{is_swap}
use Rattle.oneshot_drive.proofs.SenderRuns.{SenderWoke}

-- a sender that owes its last word leaves it
owed_over : (by : By) → Each (λ n next after. LastLeaves by (not (n == DISCONNECTED)) next)
    (landings_of is_swap (sender_moves (owes by)))
owed_over sending = (last_finished, (last_finished, (last_overtaken, tt)))
owed_over dropping = (last_finished, (last_finished, (last_overtaken, tt)))

-- it is then over, finished if it found the receiver, and else overtaken
pub last_is_over : {by : By} {is_here : Bool} {at : SenderAt} → LastLeaves by is_here at → SenderIsOver by at
last_is_over last_finished = over_finished
last_is_over last_overtaken = over_overtaken

pub last_found : {by : By} {is_here : Bool} {at : SenderAt} → LastLeaves by is_here at → is_here ≡ true
    → at ≡ finished by
last_found last_finished e = refl
last_found last_overtaken e = absurd (cc e)

pub last_late : {by : By} {is_here : Bool} {at : SenderAt} → LastLeaves by is_here at → is_here ≡ false → IsLate at
last_late last_finished e = absurd (cc e)
last_late {by} last_overtaken e = is_overtaken by

pub over_at : {by : By} {at next : SenderAt} → next ≡ at → SenderIsOver by at → SenderIsOver by next
over_at {by} is over = subst (SenderIsOver by) (sym is) over

module _ {T W : Type 0} where
  module _ {slots : Slots} {b a : GroundState T W} (n : ℕ) (is : StandsWith sender_of fresh slots b) where
    -- its first operation found no receiver that waits
    pub xored_over : n ≡ EMPTY → SenderMakes Xor n b a → Grows b.log a.log (worded Xor n ∷ [])
        → SenderIsOver dropping (sender_of a.log)
    xored_over e made grows =
        over_at (lone (at_word EMPTY e (sender_lands b Xor n is.phase made grows))).stands.phase over_finished

    -- or one that waits
    pub xored_owes : n ≡ RECEIVING → SenderMakes Xor n b a → Grows b.log a.log (worded Xor n ∷ [])
        → sender_of a.log ≡ owes dropping
    xored_owes e made grows = (lone (at_word RECEIVING e (sender_lands b Xor n is.phase made grows))).stands.phase

  -- or one that was gone
  pub late_over : {by : By} {slots : Slots} {a : GroundState T W} → StandsWith sender_of (found_gone by) slots a
      → SenderIsOver by (sender_of a.log)
  late_over stands = over_at stands.phase over_late

  last_over : {by : By} {at after : SenderAt} {new n : ℕ} {m m' : Held T} {w w' : Held W} → at ≡ owes by
      → ((next : SenderAt) (before later : Slots) → In (Swap new, before, n, next, later) (sender_moves at)
      → after ≡ next) → SenderFinds at (Swap new) n m w m' w'
      → LastLeaves by (not (n == DISCONNECTED)) after
  last_over {by} {at} {n = n} owing leads_to (finds {before} {after = slots} {next} row message waker) =
      let Left : ℕ → SenderAt → Slots → Type 0 = λ n next after. LastLeaves by (not (n == DISCONNECTED)) next in
      let all : Each Left (landings_of is_swap (sender_moves at)) =
      subst (λ at. Each Left (landings_of is_swap (sender_moves at))) (sym owing) (owed_over by) in
      subst (LastLeaves by (not (n == DISCONNECTED))) (sym (leads_to next before slots row))
      (each Left (landings_of is_swap (sender_moves at)) all (landed is_swap (sender_moves at) refl row))

  -- it takes the waker, leaves its last word, and uses the waker
  pub finished_over : {l z : Log T W} {k j : GroundState T W} {by : By} (word : ℕ) (y : W) (n : ℕ) → sender_of l ≡ owes
      by
      → Grows l k.log (handed TakeWaker y ∷ []) → SenderMakes (Swap word) n k j
      → Grows k.log j.log (worded (Swap word) n ∷ []) → Grows j.log z (handed Wake y ∷ [])
      → LastLeaves by (not (n == DISCONNECTED)) (sender_of z)
  finished_over {k = k} {by = by} word y n owing took made grows used =
      subst (LastLeaves by (not (n == DISCONNECTED))) (sym (sender_still (handed Wake y ∷ []) refl used))
      (last_over (sender_still (handed TakeWaker y ∷ []) refl took ∙ owing)
      (λ next before after row. sender_moved (Swap word) n grows
      ∙ leads_exactly no_sender (sender_moves (sender_of k.log)) (sender_apart (sender_of k.log)) row) made)

  -- other steps leave an end as far as it is
  pub sender_stays_over : {by : By} {l k : Log T W} (steps : List (Event T W)) → words steps ≡ [] → Grows l k steps
      → SenderIsOver by (sender_of l) → SenderIsOver by (sender_of k)
  sender_stays_over steps no_word grows over = over_at (sender_still steps no_word grows) over

-- a sender that is fresh has performed no operation
abbrev is_begun : SenderAt → Bool
is_begun fresh = false
is_begun _ = true

begun_rows : (at : SenderAt) → list_all (λ (row : Row SenderAt). is_begun row.3) (sender_moves at) ≡ true
begun_rows (owes sending) = refl
begun_rows (owes dropping) = refl
begun_rows _ = refl

stays_begun : (at : SenderAt) (xs : List Noted) → is_begun at ≡ true → is_begun (phase_from sender_next at xs) ≡ true
stays_begun at [] begun = begun
stays_begun at (x ∷ xs) begun =
    stays_begun (sender_next at x.0 x.1) xs
    (next_passes is_begun no_sender (sender_moves at) x.0 x.1 refl (begun_rows at))

fresh_log : (xs : List Noted) → sender_at xs ≡ fresh → xs ≡ []
fresh_log [] is = refl
fresh_log (x ∷ xs) is =
    let begun =
    stays_begun (sender_next fresh x.0 x.1) xs
    (next_passes is_begun no_sender (sender_moves fresh) x.0 x.1 refl (begun_rows fresh)) in
    let no : false ≡ true = sym (ap is_begun is) ∙ begun in absurd (cc)

module _ {T W : Type 0} where
  -- a call that was its first has woken the receiver that it found waiting
  pub woken_by : {woken : W → Type 0} {before after : Log T W} {call : SenderCall} {reply : Reply} {given got : List T}
      → sender_of before ≡ fresh → SenderWoke woken call before after reply given got
      → found_receiver_waiting (words after.list) ≡ true → (k : W) × woken k
  woken_by {before = before} was woke found =
      let list = words_after woke.ran.run woke.ran.grows in
      let alone = ap (λ xs. xs ++ words woke.ran.run) (fresh_log (words before.list) was) in
      woke.woke (sym (ap found_receiver_waiting (list ∙ alone)) ∙ found)

-- the swap of a receiver's drop
drops : (at : ReceiverAt) → Each (λ n next after. HasLeft next) (landings (Swap DISCONNECTED) (receiver_moves at))
drops untouched = (left_first, (left_last, (left_last, tt)))
drops (idle after_load) = (left_first, (left_last, (left_last, tt)))
drops (idle after_timeout) = (left_first, (left_last, (left_last, tt)))
drops claimed = (left_first, (left_last, (left_last, tt)))
drops withdrew = (left_first, (left_last, (left_last, tt)))
drops (full at_once) = (left_last, tt)
drops (full by_future) = (left_last, tt)
drops (disconnected c) = (left_last, tt)
drops (waits blocked) = tt
drops _ = tt

module _ {T W : Type 0} where
  pub dropped : {b a : GroundState T W} (n : ℕ) → ReceiverMakes (Swap DISCONNECTED) n b a
      → Grows b.log a.log (worded (Swap DISCONNECTED) n ∷ []) → HasLeft (receiver_of a.log)
  dropped {b} n made grows =
      let end =
      one_of (λ n next after. HasLeft next) (drops (receiver_of b.log))
      (lands b (Swap DISCONNECTED) n refl made grows) in
      subst HasLeft (sym end.stands.phase) end.is_so

  pub stays_at : {l k : Log T W} (Phases : ReceiverAt → Type 0) (steps : List (Event T W)) → words steps ≡ []
      → Grows l k steps → Phases (receiver_of l) → Phases (receiver_of k)
  stays_at Phases steps no_word grows is = subst Phases (sym (still steps no_word grows)) is

  -- the word that decides a receive without a deadline
  pub found : (f : Found) (s : GroundState T W) → EndsAt false f s → FoundTheEnd (receiver_of s.log)
  found F.Message s ends = subst FoundTheEnd (sym ends.2.phase) (found_message ends.0)
  found F.Closed s ends = subst FoundTheEnd (sym ends.1.phase) (found_no_sender ends.0)
  found F.Overwritten s ends = subst FoundTheEnd (sym ends.1.phase) (found_overwritten ends.0)
  found F.Nothing s ends = let timed = ends.0 in absurd (cc)
