-- What `try_recv` of a future finds by its load, how it leaves the future, and its runs.
use Rattle.oneshot_drive.proofs.Names.{◌≡◌, ℕ, [], ◌∷◌, Some, refl, Try, Future, Close, AsyncTryLoad, AsyncTryRecv, Load, Store, Log, Grows}
use Rattle.oneshot_drive.proofs.Names.{took, worded, ReceiverAt, after_load}
use Rattle.oneshot_drive.proofs.Names.{receiver_row, Goes, Answers, ReceiverRan, and_then, GroundState}
use Rattle.oneshot_drive.proofs.Names.{rests_open, rests_closed, Polled, unpolled, kept_copy, found_sender, IsPolled, HandsNoWaker}
use Rattle.oneshot_drive.proofs.Names.{DISCONNECTED, MESSAGE}
use Rattle.oneshot_machine.specs.declared.machine.Reply.TheVariants as R
use Rattle.oneshot_machine.specs.declared.machine.Seen.TheVariants as S
use Rattle.oneshot_drive.proofs.AfterOperations.{Came}
use Rattle.oneshot_drive.proofs.Stretches.{whole, by_word}
use Rattle.oneshot_drive.proofs.Receives.{full_ran}
use Rattle.oneshot_drive.proofs.PollLoads.{Met, met_empty, met_message, met_closed, met_copy, met_sender, loaded_to}

-- a load that did not find the message leaves it between two calls
met_polled : {n : ℕ} {at : ReceiverAt} → Met n at → ¬ (n ≡ MESSAGE) → Polled at
met_polled met_empty a = unpolled (rests_open after_load)
met_polled (met_message word drops) a = absurd (a refl)
met_polled (met_closed c) a = unpolled (rests_closed c)
met_polled met_copy a = kept_copy
met_polled met_sender a = found_sender

-- the rows of the words that leave it open
empty_row : {n : ℕ} {at : ReceiverAt} → Met n at → ¬ (n ≡ MESSAGE) → ¬ (n ≡ DISCONNECTED)
    → receiver_row (Future AsyncTryLoad) (S.Word n) ≡ Some (Answers R.Empty)
empty_row met_empty a b = refl
empty_row (met_message word drops) a b = absurd (a refl)
empty_row (met_closed c) a b = absurd (b refl)
empty_row met_copy a b = refl
empty_row met_sender a b = refl

module _ {T W : Type 0} where
  pub met_rests : {n : ℕ} {s : GroundState T W} → Came Met n s → ¬ (n ≡ MESSAGE) → IsPolled s
  met_rests found a = record { at = found.at; is_one = met_polled found.is_so a; stands = found.stands }

  -- its runs
  pub taken_ran : {l k j z : Log T W} (n r : ℕ) (x : T) → n ≡ MESSAGE → Grows l k (worded Load n ∷ [])
      → Grows k j (worded (Store DISCONNECTED) r ∷ []) → Grows j z (took x ∷ [])
      → ReceiverRan AsyncTryRecv l z R.Message [] (x ∷ [])
  taken_ran n r x e s t u =
      full_ran r x (loaded_to {p = Future AsyncTryLoad} (Goes (Try Close)) n MESSAGE refl refl e s) t u

  pub over_ran : {l k : Log T W} (n : ℕ) → n ≡ DISCONNECTED → Grows l k (worded Load n ∷ [])
      → ReceiverRan AsyncTryRecv l k R.Disconnected [] []
  over_ran n e s = whole (loaded_to {p = Future AsyncTryLoad} (Answers R.Disconnected) n DISCONNECTED refl refl e s)

  pub unsent_ran : {l k : Log T W} {s : GroundState T W} (n : ℕ) → Came Met n s → ¬ (n ≡ MESSAGE) → ¬ (n ≡ DISCONNECTED)
      → Grows l k (worded Load n ∷ []) → ReceiverRan AsyncTryRecv l k R.Empty [] []
  unsent_ran n found a b s =
      whole (by_word {p = Future AsyncTryLoad} (Answers R.Empty) Load n s refl (empty_row found.is_so a b))

  -- which pass on no waker
  pub load_alone : {l k : Log T W} (n : ℕ) → Grows l k (worded Load n ∷ []) → HandsNoWaker l k
  load_alone n s = record { steps = worded Load n ∷ []; grows = s; none = refl }

  pub words_alone : {l k j z : Log T W} (n r : ℕ) (x : T) → Grows l k (worded Load n ∷ [])
      → Grows k j (worded (Store DISCONNECTED) r ∷ []) → Grows j z (took x ∷ []) → HandsNoWaker l z
  words_alone n r x s t u =
      record {
        steps = worded Load n ∷ worded (Store DISCONNECTED) r ∷ took x ∷ [];
        grows = and_then (worded Load n ∷ []) _ s (and_then (worded (Store DISCONNECTED) r ∷ []) _ t u);
        none = refl;
      }
