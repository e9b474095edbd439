-- A load that finds MESSAGE leaves the receiver with the message, and with no waker: computed for each phase.
use Rattle.std.proofs.Common.{◌≡◌, ℕ, Bool, true, false, ◌&&◌, refl, ◌∙◌}
use Rattle.std.specs.Prelude.{◌==◌, if◌then◌else◌}
use Rattle.std.proofs.lemmas.Bool.{and_parts}
use Rattle.oneshot_machine.specs.declared.machine.Seen.TheVariants.{Word}
use Rattle.oneshot_machine.specs.declared.states.Op.TheVariants.{Load}
use Rattle.oneshot_machine.specs.declared.states.TheConstants.{MESSAGE}
use Rattle.oneshot_machine.specs.Noted.{is_same_op}
use Rattle.oneshot_machine.specs.Phases.{Share, empty, Row, Got, full, ReceiverAt, receiver_next, receiver_at}
use Rattle.oneshot_machine.specs.Slots.{Held, vacant, held, SlotChange, stays_vacant, stays_held, gets_room, gets_thing, finds, ReceiverFinds}
use Rattle.oneshot_machine.proofs.EachPhase.{in_each_receiver_row}
use Rattle.oneshot_word.specs.Side.{ReceiverDid}
use Rattle.oneshot_part_tests.proofs.Shown.{Plain, ReceiverIs, receiver_told, receiver_went, receiver_is, is_filled}

abbrev is_empty : Share → Bool
is_empty empty = true
is_empty _ = false

abbrev is_full : ReceiverAt → Bool
is_full (full g) = true
is_full _ = false

abbrev has_it : ReceiverAt → Row ReceiverAt → Bool
has_it q row =
    if is_same_op row.0 Load && row.2 == MESSAGE then is_full (receiver_next q Load (Word MESSAGE)) && is_filled row.4.0
    && is_empty row.4.1 else true

full_is : (q : ReceiverAt) → is_full q ≡ true → (g : Got) × (q ≡ full g)
full_is (full g) e = (g, refl)
full_is _ e = absurd (cc)

message_is : {X : Type 0} {s t : Share} {h h' : Held X} → is_filled t ≡ true → SlotChange s t h h'
    → (x : X) × (h' ≡ held x)
message_is e (stays_held x) = (x, refl)
message_is e (gets_thing x) = (x, refl)
message_is e _ = absurd (cc)

waker_is : {X : Type 0} {s t : Share} {h h' : Held X} → is_empty t ≡ true → SlotChange s t h h' → h' ≡ vacant
waker_is e stays_vacant = refl
waker_is e gets_room = refl
waker_is e _ = absurd (cc)

module _ {T W : Type 0} where
  record HasIt (q : ReceiverAt) (m : Held T) (w : Held W) : Type 0 where
    got : Got
    message : T
    at : receiver_next q Load (Word MESSAGE) ≡ full got
    holds : m ≡ held message
    no_waker : w ≡ vacant

  found_message : (q : ReceiverAt) {m m' : Held T} {w w' : Held W} → ReceiverFinds q Load MESSAGE m w m' w'
      → HasIt q m' w'
  found_message q (finds {after} row message waker) =
      let wakers =
      and_parts (is_full (receiver_next q Load (Word MESSAGE)) && is_filled after.0) (is_empty after.1)
      (in_each_receiver_row has_it refl q row) in
      let parts = and_parts (is_full (receiver_next q Load (Word MESSAGE))) (is_filled after.0) wakers.0 in
      let got = full_is (receiver_next q Load (Word MESSAGE)) parts.0 in
      let it = message_is parts.1 message in
      record { got = got.0; message = it.0; at = got.1; holds = it.1; no_waker = waker_is wakers.1 waker }

  pub gets : {s t : Plain T W} {found : ℕ} → ReceiverDid s Load found t → found ≡ MESSAGE
      → (g : Got) × (x : T) × ReceiverIs t (full g) (held x) vacant
  gets {s} did same =
      let it = found_message (receiver_at s.log) (receiver_told Load MESSAGE (receiver_is s refl) did same) in (
        it.got,
        it.message,
        record {
          at = receiver_went Load MESSAGE (receiver_is s refl) did same ∙ it.at;
          message = it.holds;
          waker = it.no_waker;
        },
      )
