-- The law of unwoken receivers, computed for worked traces, and for a sender that wakes too soon or never.
use Rattle.std.specs.Prelude.{◌≡◌, ℕ, ◌+◌, Bool, true, false, not, ◌&&◌, List, [], ◌∷◌, ◌++◌, take, drop, replicate, Option, Some, None, IsTrue}
use Rattle.oneshot_machine.specs.declared.machine.Reply.TheVariants as R
use Rattle.oneshot_machine.specs.declared.machine.Step.TheVariants as T
use Rattle.oneshot_machine.specs.declared.states.Op.TheVariants as O
use Rattle.oneshot_machine.specs.declared.states.TheConstants.{MESSAGE}
use Rattle.oneshot_world.specs.World.{World, opening_with, turn}
use Rattle.oneshot_world.specs.declared.trace.Entry.TheVariants as E
use Rattle.oneshot_world.specs.declared.trace.Entry.{Entry}
use Rattle.oneshot_world.specs.declared.trace.Place.{Place}
use Rattle.oneshot_world.specs.declared.trace.Place.TheVariants as P
use Rattle.oneshot_world.specs.declared.trace.WakerName.TheVariants.{Parker}
use Rattle.oneshot_world.specs.declared.trace.WakerPlace.TheVariants as W
use Rattle.oneshot_laws.specs.Marks.{marks}
use Rattle.oneshot_world.specs.Ahead.{Ahead, ahead_of}
use Rattle.oneshot_laws.specs.Unwoken.{is_never_unwoken}
use Rattle.oneshot_law_examples.specs.Notation.{Example, move_in, sender, receiver, parked, carrying, setting_token, replying, up_to, answered_by}
use Rattle.oneshot_law_examples.specs.Traces.{waited_past_its_deadline, waited_for_message, woken_by_drop, still_waiting}
use Rattle.oneshot_law_examples.specs.LawExamples.{is_right}

-- THE WAITING: before each entry, and at the end, whether the receiver is about to park, and whether there is a token
abbrev pub up : Ahead
up = record { parks = false; token = false }

abbrev pub up_with_token : Ahead
up_with_token = record { parks = false; token = true }

abbrev pub parks : Ahead
parks = record { parks = true; token = false }

abbrev pub parks_with_token : Ahead
parks_with_token = record { parks = true; token = true }

abbrev pub around_a_message : List Ahead
around_a_message =
    replicate 3 up ++ replicate 4 parks ++ up ∷ parks ∷ parks ∷ replicate 4 up ++ up_with_token ∷ []

abbrev pub around_a_drop : List Ahead
around_a_drop = replicate 3 up ++ replicate 4 parks ++ parks_with_token ∷ replicate 4 up

-- past its deadline it parks for the sender
abbrev pub around_a_late_message : List Ahead
around_a_late_message = replicate 7 up ++ parks ∷ up ∷ replicate 3 parks ++ parks_with_token ∷ replicate 4 up

abbrev pub around_no_sender : List Ahead
around_no_sender = replicate 3 up ++ parks ∷ []

abbrev pub aheads_from : ℕ → World → List Entry → List Ahead
aheads_from n w [] = ahead_of w ∷ []
aheads_from n w (entry ∷ entries) =
    ahead_of w ∷ elim (turn n w (move_in entry)) [ None ↦ [] | Some made ↦ aheads_from (n + 1) made.1 entries ]

abbrev pub aheads_by : Option Place → Example → List Ahead
aheads_by message x = aheads_from 1 (opening_with message x.calls) x.entries

abbrev pub AheadsOfRuns : Type 0
AheadsOfRuns =
    (aheads_by (Some P.NotSent) waited_for_message ≡ around_a_message)
    × (aheads_by None woken_by_drop ≡ around_a_drop)
    × (aheads_by (Some P.NotSent) waited_past_its_deadline ≡ around_a_late_message)
    × (aheads_by (Some P.NotSent) still_waiting ≡ around_no_sender)

abbrev pub is_woken_in : List Ahead → Example → Bool
is_woken_in aheads x = is_never_unwoken (marks x.calls) aheads x.entries

-- The sender wakes before it swaps. In between the receiver woke, and is about to park again.
abbrev pub woken_too_soon : Example
woken_too_soon =
    record waited_for_message {
      entries =
          take 6 waited_for_message.entries
          ++ E.Made (setting_token (carrying Parker W.SenderHand W.Used (sender T.Wake 1 1)))
          ∷ E.Made (parked true 1)
          ∷ E.Made (receiver (T.Word O.Load) 1 1)
          ∷ E.Made (replying R.Sent (sender (T.Word (O.Swap MESSAGE)) 1 4))
          ∷ take 4 (drop 9 waited_for_message.entries);
    }

abbrev pub around_a_hasty_wake : List Ahead
around_a_hasty_wake = replicate 3 up ++ replicate 4 parks ++ parks_with_token ∷ up ∷ parks ∷ parks ∷ replicate 4 up

-- the sender replies at its swap, and wakes nobody
abbrev pub never_woken : Example
never_woken = answered_by 6 R.Done (up_to 6 woken_by_drop)

-- right up to entry k, and unwoken after the next one
abbrev pub is_unwoken_behind : ℕ → List Ahead → Example → Bool
is_unwoken_behind k aheads x =
    is_woken_in aheads (up_to k x) && not (is_woken_in aheads (up_to (k + 1) x)) && not (is_woken_in aheads x)

abbrev pub UnwokenWaits : Type 0
UnwokenWaits =
    IsTrue (is_woken_in around_a_message waited_for_message
    && is_woken_in around_a_drop woken_by_drop
    && is_woken_in around_no_sender still_waiting)
    × IsTrue (is_unwoken_behind 9 around_a_hasty_wake woken_too_soon)
    × IsTrue (is_unwoken_behind 5 around_a_drop never_woken)
    × IsTrue (is_unwoken_behind 10 around_a_late_message (answered_by 11 R.Sent (up_to 11 waited_past_its_deadline)))
    -- the other definitions accept both
    × IsTrue (is_right woken_too_soon && is_right never_woken)
    -- the list is too short
    × IsTrue (not (is_woken_in (take 3 around_no_sender) still_waiting))
