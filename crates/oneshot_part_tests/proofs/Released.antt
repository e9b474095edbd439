-- Ends that may be released: a sender after its last swap, and a receiver that found the message, or that none comes.
use Rattle.std.proofs.Common.{◌≡◌, ◌⊎◌, ℕ, Bool, true, false, inl, inr, refl, sym, ap, ◌∙◌, subst}
use Rattle.std.specs.Prelude.{if◌then◌else◌}
use Rattle.oneshot_machine.specs.declared.states.Op.{Op}
use Rattle.oneshot_machine.specs.declared.states.Op.TheVariants.{Load, Store, Swap}
use Rattle.oneshot_machine.specs.declared.states.TheConstants.{DISCONNECTED, MESSAGE}
use Rattle.oneshot_machine.specs.Noted.{saw}
use Rattle.oneshot_machine.specs.Over.{SenderIsOver, over_finished, over_late, over_overtaken, found_no_sender, ReceiverIsOver}
use Rattle.oneshot_machine.specs.Phases.{By, Row, SenderAt, finished, found_gone, overtaken, sender_next, sender_at, blocked, waits, overdue, closed_itself, found_closed, disconnected, receiver_at}
use Rattle.oneshot_machine.specs.Slots.{finds, SenderFinds}
use Rattle.oneshot_machine.proofs.EachPhase.{in_each_sender_row}
use Rattle.oneshot_word.specs.Side.{SenderDid, ReceiverDid}
use Rattle.oneshot_part_tests.proofs.Shown.{Plain, sender_went, sender_is, receiver_went, receiver_is}

abbrev is_swap : Op → Bool
is_swap (Swap new) = true
is_swap _ = false

abbrev is_over : SenderAt → Bool
is_over (finished by) = true
is_over (found_gone by) = true
is_over (overtaken by) = true
is_over _ = false

over_is : (p : SenderAt) → is_over p ≡ true → (by : By) × SenderIsOver by p
over_is (finished by) e = (by, over_finished)
over_is (found_gone by) e = (by, over_late)
over_is (overtaken by) e = (by, over_overtaken)
over_is _ e = absurd (cc e)

abbrev ends_it : SenderAt → Row SenderAt → Bool
ends_it p row = if is_swap row.0 then is_over (sender_next p row.0 (saw row.0 row.2)) else true

module _ {T W : Type 0} where
  swap_ends : (p : SenderAt) (last : ℕ) {word : ℕ} (s t : Plain T W)
      → SenderFinds p (Swap last) word s.message s.waker t.message t.waker
      → is_over (sender_next p (Swap last) (saw (Swap last) word)) ≡ true
  swap_ends p last s t (finds row changes changes') = in_each_sender_row ends_it refl p row

  -- a sender is over after its swap
  pub swapped_over : (last : ℕ) {found : ℕ} (s t : Plain T W) → SenderDid s (Swap last) found t
      → (by : By) × SenderIsOver by (sender_at t.log)
  swapped_over last {found} s t did =
      over_is (sender_at t.log)
      (ap is_over (sender_went (Swap last) found (sender_is s refl) did refl)
      ∙ swap_ends (sender_at s.log) last s t did.finds)

  pub closed_at : (t : Plain T W) → receiver_at t.log ≡ disconnected closed_itself → ReceiverIsOver (receiver_at t.log)
  closed_at t at = subst ReceiverIsOver (sym at) (inl (found_no_sender closed_itself))

  -- a receiver that waits is over once it has loaded and closed
  pub received_over : {s t u : Plain T W} {found gone : ℕ}
      → (receiver_at s.log ≡ waits blocked) ⊎ (receiver_at s.log ≡ overdue) → ReceiverDid s Load found t
      → found ≡ MESSAGE → ReceiverDid t (Store DISCONNECTED) gone u → ReceiverIsOver (receiver_at u.log)
  received_over {s} {t} {u} {gone = gone} at did same closes =
      closed_at u
      (elim at [
        | inl blocks ↦ receiver_went (Store DISCONNECTED) gone
            (receiver_is t (receiver_went Load MESSAGE (receiver_is s blocks) did same)) closes refl
        | inr past ↦ receiver_went (Store DISCONNECTED) gone
            (receiver_is t (receiver_went Load MESSAGE (receiver_is s past) did same)) closes refl
      ])

  -- or has found the sender gone
  pub gone_over : {s t : Plain T W} {found : ℕ} → receiver_at s.log ≡ overdue → ReceiverDid s Load found t
      → found ≡ DISCONNECTED → ReceiverIsOver (receiver_at t.log)
  gone_over {s} {t} at did same =
      subst ReceiverIsOver (sym (receiver_went Load DISCONNECTED (receiver_is s at) did same))
      (inl (found_no_sender found_closed))
