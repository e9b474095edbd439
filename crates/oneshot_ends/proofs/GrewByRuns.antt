-- A driver's run on a real end's ground appends its operations to the end's own log.
use Rattle.std.proofs.Common.{◌≡◌, ℕ, Bool, false, List, [], ◌∷◌, ◌++◌, Option, map, refl, sym, ap, ◌∙◌, subst}
use Rattle.std.specs.List.{cons_option}
use Rattle.std.specs.Option.{option_map}
use Rattle.oneshot_machine.specs.declared.machine.Reply.{Reply}
use Rattle.oneshot_machine.specs.declared.machine.Reply.TheVariants.{Refused}
use Rattle.oneshot_machine.specs.declared.machine.Seen.{Seen}
use Rattle.oneshot_machine.specs.declared.machine.Step.{Step}
use Rattle.oneshot_machine.specs.declared.machine.receiver.ReceiverStart.{ReceiverStart}
use Rattle.oneshot_machine.specs.declared.machine.receiver.ReceiverStart.TheVariants.{TryRecv, AsyncTryRecv, Poll}
use Rattle.oneshot_machine.specs.declared.machine.sender.SenderCall.{SenderCall}
use Rattle.oneshot_machine.specs.declared.machine.sender.SenderCall.TheVariants.{Send}
use Rattle.oneshot_machine.specs.Logs.{Event, Log, Grows, noted, words}
use Rattle.oneshot_machine.specs.Phases.{ReceiverAt, receiver_at}
use Rattle.oneshot_machine.specs.TableRows.{Outcome}
use Rattle.oneshot_machine.specs.Runs.{Run, last, more, SenderRan, ReceiverRan}
use Rattle.oneshot_machine.specs.Receiver.{receiver_start, receiver_step, receiver_row}
use Rattle.oneshot_machine.specs.Sender.{sender_start, sender_step, sender_row}
use Rattle.oneshot_machine.specs.Noted.{Noted}
use Rattle.oneshot_machine.specs.Counts.{receiver_bound, GrewWithin}
use Rattle.oneshot_machine.proofs.CallBounds.{try_recv_makes, async_try_recv_makes, poll_makes}
use Rattle.oneshot_machine.proofs.GrownLogs.{words_after}
use Rattle.oneshot_drive.specs.BetweenCalls.{IsClosedAt, send_reply}
use Rattle.oneshot_word.specs.Side.{Side}
use Rattle.oneshot_ends.specs.Ends.{UnnamedWaker, SenderGrew, ReceiverGrew}
use Rattle.oneshot_ends.specs.Grounds.{events_of, state_of}

-- the operations in a ground's log are those in its end's log
pub words_of : (T W : Type 0) (xs : List Noted) → words (events_of {T = T} {W = W} xs) ≡ xs
words_of T W [] = refl
words_of T W (x ∷ xs) = ap (λ noted. x ∷ noted) (words_of T W xs)

-- so are those of a ground that was lent, whichever type `V` of wakers it shows
pub began_at : {T W P : Type 0} {own s : Side T W P} {log : List Noted} (V : Type 0) → s ≡ own → own.log ≡ log
    → words (events_of {T = T} {W = V} s.log) ≡ log
began_at {T} {s = s} V is has = words_of T V s.log ∙ ap (λ s. s.log) is ∙ has

module _ {T W : Type 0} where
  -- an event of a run, without the name of its waker
  abbrev unnamed : Event T W → Event T UnnamedWaker
  unnamed x = record { step = x.step; seen = x.seen; message = x.message; waker = option_map (λ k. tt) x.waker }

  run_unnamed : {P : Type 0} (step : P → Step) (row : P → Seen → Option (Outcome P)) (p : P) (xs : List (Event T W))
      (r : Reply) → Run step row p xs r → Run step row p (map unnamed xs) r
  run_unnamed step row p _ r (last x is leads) = last (unnamed x) is leads
  run_unnamed step row p _ r (more next x xs is leads rest) =
      more next (unnamed x) (map unnamed xs) is leads (run_unnamed step row next xs r rest)

  words_unnamed : (xs : List (Event T W)) → words (map unnamed xs) ≡ words xs
  words_unnamed [] = refl
  words_unnamed (x ∷ xs) = ap (λ rest. cons_option (noted x) rest) (words_unnamed xs)

  module _ {a b : Log T W} {before after : List Noted} (was : words a.list ≡ before) (is : words b.list ≡ after) where
    -- the end's log grows by the operations among its ground's steps
    pub grown : (xs : List (Event T W)) → Grows a b xs → after ≡ before ++ words xs
    grown xs grows = sym is ∙ words_after xs grows ∙ ap (λ ns. ns ++ words xs) was

    grown_unnamed : (xs : List (Event T W)) → Grows a b xs → after ≡ before ++ words (map unnamed xs)
    grown_unnamed xs grows = grown xs grows ∙ ap (λ ns. before ++ ns) (sym (words_unnamed xs))

    pub sender_grew : (call : SenderCall) {reply : Reply} {given got : List T} → SenderRan call a b reply given got
        → SenderGrew T call before after reply
    sender_grew call {reply} ran =
        record {
          run = map unnamed ran.run;
          is_run = run_unnamed sender_step sender_row (sender_start call) ran.run reply ran.is_run;
          list = grown_unnamed ran.run ran.grows;
        }

    pub receiver_grew : (call : ReceiverStart) {reply : Reply} {given got : List T}
        → ReceiverRan call a b reply given got → ReceiverGrew T call before after reply
    receiver_grew call {reply} ran =
        record {
          run = map unnamed ran.run;
          is_run = run_unnamed receiver_step receiver_row (receiver_start call) ran.run reply ran.is_run;
          list = grown_unnamed ran.run ran.grows;
        }

-- a call on the ground of a receiver, its own or lent for the call
pub grew_by : {T W V P : Type 0} {own s : Side T W P} {log : List Noted} {channel : List ℕ} {channel' : List ℕ}
    → s ≡ own → own.log ≡ log → (next : Side T W P) (call : ReceiverStart) {reply : Reply} {given got : List T}
    → ReceiverRan {W = V} call (record { whole = false; channel = channel; list = events_of s.log })
    (record { whole = false; channel = channel'; list = events_of next.log }) reply given got
    → ReceiverGrew T call log next.log reply
grew_by {T} {V = V} is was next = receiver_grew (began_at V is was) (words_of T V next.log)

-- a closed receiver is closed where the call begins
pub closed_before : {T W P : Type 0} {own s : Side T W P} {log : List Noted} (V : Type 0) → s ≡ own → own.log ≡ log
    → IsClosedAt (receiver_at log) → IsClosedAt (receiver_at (words (events_of {T = T} {W = V} s.log)))
closed_before V is was = subst (λ xs. IsClosedAt (receiver_at xs)) (sym (began_at V is was))

-- what holds of the ground's phase at its end holds of the receiver's
pub at_end : {T W P : Type 0} (V : Type 0) (Holds : ReceiverAt → Type 0) (s : Side T W P)
    → Holds (receiver_at (words (events_of {T = T} {W = V} s.log))) → Holds (receiver_at s.log)
at_end {T} V Holds s = subst (λ xs. Holds (receiver_at xs)) (words_of T V s.log)

-- a `send` whose driver found the receiver gone
pub send_refused : {T W P : Type 0} {own ground : Side T W P} {before last : List Noted} {sent : Bool}
    {given got : List T} (after : Side T W P) → ground ≡ own → own.log ≡ before → after.log ≡ last → sent ≡ false
    → SenderRan Send (state_of ground).log (state_of after).log (send_reply sent) given got
    → SenderGrew T Send before last Refused
send_refused {T} {W} {ground = ground} {given = given} {got = got} after is was ends found ran =
    sender_grew (began_at W is was) (words_of T W after.log ∙ ends) Send
    (subst (λ sent. SenderRan Send (state_of ground).log (state_of after).log (send_reply sent) given got) found ran)

-- a log grows by no more operations than a run of the call performs
module _ {T : Type 0} {before after : List Noted} {reply : Reply} where
  pub try_recv_few : ReceiverGrew T TryRecv before after reply → GrewWithin (receiver_bound TryRecv) before after
  try_recv_few grew = record { added = words grew.run; list = grew.list; few = try_recv_makes grew.run grew.is_run }

  pub async_try_recv_few : ReceiverGrew T AsyncTryRecv before after reply
      → GrewWithin (receiver_bound AsyncTryRecv) before after
  async_try_recv_few grew =
      record { added = words grew.run; list = grew.list; few = async_try_recv_makes grew.run grew.is_run }

  pub poll_few : ReceiverGrew T Poll before after reply → GrewWithin (receiver_bound Poll) before after
  poll_few grew = record { added = words grew.run; list = grew.list; few = poll_makes grew.run grew.is_run }
