-- A poll's own waker: the copy in hand, in its slot and in the channel wakes the task that polled.
use Rattle.std.proofs.Common.{◌≡◌, ◌⊎◌, inl, inr, Bool, true, false, [], Option, Some, None, refl, sym, ap, ◌∙◌, subst}
use Rattle.std.specs.Prelude.{IfSome, IsSome, IsSomeAnd}
use Rattle.futures.specs.Poll.{OnPending}
use Rattle.futures.specs.Task.{Keeps, Lasting, Holds, Wakes}
use Rattle.futures.specs.declared.task.Poll.{Poll}
use Rattle.futures.specs.declared.task.Poll.TheVariants.{Ready, Pending}
use Rattle.futures.specs.declared.task.context.Context.{Context}
use Rattle.futures.specs.declared.task.waker.Waker.{Waker}
use Rattle.oneshot_machine.specs.Phases.{ReceiverAt, waits, claimed, overdue, polled, receiver_at, receiver_owns}
use Rattle.oneshot_machine.specs.Slots.{Held, vacant, held, IsSlot, is_away, Owns, owns}
use Rattle.oneshot_drive.specs.BetweenCalls.{rests_new, rests_open, rests_closed}
use Rattle.oneshot_drive.specs.Grounds.{receiver_slots}
use Rattle.oneshot_drive.specs.Polls.{IsPolled, Polled, unpolled, left_copy, kept_copy, found_sender, has_resolved, is_registered, LeavesTask}
use Rattle.oneshot_machine.specs.Logs.{receiver_of}
use Rattle.oneshot_word.specs.declared.any_waker.AnyWaker.TheVariants.{Thread, Task}
use Rattle.oneshot_word.specs.Side.{Side}
use Rattle.oneshot_ends.specs.declared.copies.Copies.{Copies}
use Rattle.oneshot_ends.specs.declared.copies.TaskCopy.{TaskCopy}
use Rattle.oneshot_ends.specs.declared.ground.task.Copied.{Copied}
use Rattle.oneshot_ends.specs.Copies.{HasMade, HasCopyFor, PollHas}
use Rattle.oneshot_ends.specs.Ends.{registered_if, registered_by}
use Rattle.oneshot_ends.specs.Grounds.{state_of, unless_freed}
use Rattle.oneshot_ends.specs.Keeps.{KeepsOwn}
use Rattle.oneshot_ends.specs.OwnWakers.{RealWaker, IsCopyFor, IsTaskOf, IsNoThread, WaitsForTask, WaitsByNoThread, is_waiting, Gave}
use Rattle.oneshot_ends.specs.Polling.{polled_state}
use Rattle.oneshot_ends.proofs.GrewByRuns.{words_of}
use Rattle.oneshot_ends.proofs.GroundSlots.{own_slot}

-- a waker wakes the same task later in the poll
wakes_on : (before after : Context) (waker : Waker) → Keeps before after → Wakes waker before → Wakes waker after
unfolding Holds
wakes_on before after waker keeps wakes = subst (Wakes waker) (keeps (Lasting.same_task before) refl) wakes

made_in : (before after : Context) (hand : Option (TaskCopy Waker)) → Keeps before after
    → IsSomeAnd hand (λ copy. (copy.task ≡ before.turn.task) × ((after.lacks_waker ≡ true) ⊎ Wakes copy.waker before))
    → IsSomeAnd hand (λ copy. IsCopyFor after copy.waker)
made_in before after (Some copy) keeps made =
    elim made.1 [
      | inl lacks ↦ inl lacks
      | inr wakes ↦ inr (wakes_on before after copy.waker keeps wakes)
    ]
made_in before after None keeps made = absurd made

-- the copy that was made wakes the task
pub made_for : (before after : Context) (copies : Copies Waker) → Keeps before after → HasMade before after copies
    → HasCopyFor after copies
made_for before after copies keeps made = made_in before after copies.hand keeps made

pub is_in_hand : (cx : Context) (hand : Option (TaskCopy Waker)) → IsSomeAnd hand (λ copy. IsCopyFor cx copy.waker)
    → IsSome hand
is_in_hand cx (Some copy) its = refl
is_in_hand cx None its = absurd its

-- the waker that was given is the copy in hand
pub given_task : (cx : Context) (hand : Option (TaskCopy Waker)) (given : RealWaker)
    → IsSomeAnd hand (λ copy. given ≡ Task copy.waker) → IsSomeAnd hand (λ copy. IsCopyFor cx copy.waker)
    → IsTaskOf cx given
given_task cx (Some copy) given is its = subst (IsTaskOf cx) (sym is) its
given_task cx None given is its = absurd is

pub given_no_thread : (hand : Option (TaskCopy Waker)) (given : RealWaker)
    → IsSomeAnd hand (λ copy. given ≡ Task copy.waker) → IsNoThread given
given_no_thread (Some copy) given is = subst IsNoThread (sym is) tt
given_no_thread None given is = absurd is

-- a copy that is taken back leaves the one in hand there
pub stays_in_hand : (cx : Context) (hand next : Option (TaskCopy Waker)) → IfSome hand (λ made. next ≡ Some made)
    → IsSomeAnd hand (λ copy. IsCopyFor cx copy.waker) → IsSomeAnd next (λ copy. IsCopyFor cx copy.waker)
stays_in_hand cx (Some made) next same its =
    subst (λ hand. IsSomeAnd hand (λ copy. IsCopyFor cx copy.waker)) (sym same) its
stays_in_hand cx None next same its = absurd its

-- a receiver with room for a waker does not wait
idle_at : {T : Type 0} (at : ReceiverAt) {m : Held T} → Owns {T = T} {W = RealWaker} (receiver_owns at) m vacant
    → is_waiting at ≡ false
idle_at (waits w) (owns message waker) = elim waker [ ]
idle_at claimed (owns message waker) = elim waker [ ]
idle_at overdue (owns message waker) = elim waker [ ]
idle_at _ own = refl

pub idle_with_room : {T : Type 0} (freed : Bool) (at : ReceiverAt) {m : Held T} (w : Held RealWaker)
    → Owns {T = T} {W = RealWaker} (receiver_owns at) m w → unless_freed freed w ≡ vacant → is_waiting at ≡ false
idle_with_room {T} freed at {m} w own room =
    idle_at at
    (subst (λ w. Owns {T = T} {W = RealWaker} (receiver_owns at) m w) (own_slot freed w room (λ e. cc e)) own)

copy_of : (cx : Context) (k : RealWaker) → IsTaskOf cx k → IsSomeAnd (registered_if true (Some k)) (IsCopyFor cx)
copy_of cx (Task waker) its = its
copy_of cx (Thread half) its = absurd its

registered_at : (cx : Context) (q : ReceiverAt) (put : Option RealWaker) → q ≡ waits polled → Gave (IsTaskOf cx) put
    → IsSomeAnd (registered_if (is_registered q) put) (IsCopyFor cx)
registered_at cx q put at gave =
    subst (λ q. IsSomeAnd (registered_if (is_registered q) put) (IsCopyFor cx)) (sym at)
    (subst (λ put. IsSomeAnd (registered_if true put) (IsCopyFor cx)) (sym gave.1) (copy_of cx gave.0 gave.2))

pub registered_waits : (q : ReceiverAt) → is_registered q ≡ true → is_waiting q ≡ true
registered_waits (waits w) is = refl
registered_waits claimed is = refl
registered_waits _ is = absurd (cc is)

registered_away : {at : ReceiverAt} {w : Held RealWaker} {k : RealWaker} → Polled at → is_registered at ≡ true
    → IsSlot (receiver_slots at).1 w → w ≡ held k → ⊥
registered_away (unpolled rests_new) is slot e = cc is
registered_away (unpolled (rests_open o)) is slot e = cc is
registered_away (unpolled (rests_closed c)) is slot e = cc is
registered_away left_copy is is_away e = cc e
registered_away kept_copy is is_away e = cc e
registered_away found_sender is is_away e = cc e
registered_away (has_resolved c) is slot e = cc is

same_when : (was is : Bool) (put next : Option RealWaker) → is ≡ was → (was ≡ true → next ≡ put)
    → registered_if is next ≡ registered_if was put
same_when true is put next same stays = ap (λ b. registered_if b next) same ∙ ap (registered_if true) (stays refl)
same_when false is put next same stays = ap (λ b. registered_if b next) same

module _ {T P : Type 0} where
  -- an operation keeps what the poll has
  pub has_polled : (cx : Context) (copies : Copies Waker) {a b : Side T RealWaker P} (hand : Option Copied)
      → KeepsOwn a b → PollHas cx copies a hand → PollHas cx copies b hand
  has_polled cx copies (Some copied) keeps has = has
  has_polled cx copies None keeps has = keeps.copies cx has

  -- once it has put this waker into its slot, its wakers are the task's
  pub put_for : (cx : Context) (s next : Side T RealWaker P) (k : RealWaker) → is_waiting (receiver_at s.log) ≡ false
      → next ≡ record s { waker = held k } → IsTaskOf cx k → WaitsForTask cx next
  put_for cx s next k idle is its =
      record {
        slot = λ other e. let same : held k ≡ held other = sym (ap (λ s. s.waker) is) ∙ e in
            subst (IsTaskOf cx) (cc same) its;
        gave = λ e. absurd (let no : false ≡ true = sym idle ∙ sym (ap (λ s. is_waiting (receiver_at s.log)) is) ∙ e in
            cc no);
      }

  left_for : (cx : Context) (s : Side T RealWaker P)
      → LeavesTask (receiver_of (polled_state [] s).log) (WaitsForTask cx s) (cx.is_woken ≡ true)
      → (cx.is_woken ≡ true) ⊎ IsSomeAnd (registered_by s) (IsCopyFor cx)
  left_for cx s leaves =
      elim leaves [
        | inr woken ↦ inl woken
        | inl left ↦ inr (
            let at : receiver_at s.log ≡ waits polled = sym (ap receiver_at (words_of T Copied s.log)) ∙ left.0 in
            registered_at cx (receiver_at s.log) s.handed at (left.1.gave (ap is_waiting at)))
      ]

  -- a pending poll has woken its task, or its task's copy is in the channel
  pub woken_by : {A : Type 0} (result : Poll A) (cx : Context) (s : Side T RealWaker P)
      → OnPending result (LeavesTask (receiver_of (polled_state [] s).log) (WaitsForTask cx s) (cx.is_woken ≡ true))
      → OnPending result ((cx.is_woken ≡ true) ⊎ IsSomeAnd (registered_by s) (IsCopyFor cx))
  woken_by (Ready x) cx s leaves = tt
  woken_by Pending cx s leaves = left_for cx s leaves

  -- a call that gives no waker leaves the one that the future gave last, while it is registered
  pub same_registered : (s next : Side T RealWaker P) → IsPolled (state_of s) → WaitsByNoThread s → KeepsOwn s next
      → is_registered (receiver_at next.log) ≡ is_registered (receiver_at s.log) → registered_by next ≡ registered_by s
  same_registered s next rests free keeps same =
      same_when (is_registered (receiver_at s.log)) (is_registered (receiver_at next.log)) s.handed next.handed same
      (λ is. let gave = free.gave (registered_waits (receiver_at s.log) is) in
      let at : rests.at ≡ receiver_at s.log = sym rests.stands.phase ∙ ap receiver_at (words_of T RealWaker s.log) in
      let now = (keeps.same gave.0 (record {
        slot = λ k e. absurd (registered_away rests.is_one (ap is_registered at ∙ is) rests.stands.waker e);
        gave = λ waiting. (gave.0, gave.1, refl);
      })).gave (registered_waits (receiver_at next.log) (same ∙ is)) in
      now.1 ∙ ap (λ k. Some k) now.2 ∙ sym gave.1)
