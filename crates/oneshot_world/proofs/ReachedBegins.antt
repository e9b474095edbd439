-- A test of each move that may begin in a reached world passes at the move that an end makes there.
use Rattle.oneshot_world.proofs.Names.{◌≡◌, ◌==◌, ℕ, Bool, true, false, List, [], ◌∷◌, Option, Some, subst, if◌then◌else◌, map, filter, list_all, option_map, option_and_then, Sender, Receiver}
use Rattle.oneshot_world.proofs.Names.{ReceiverPos, SenderPos, Call, Of_sender, Of_receiver, Poll, number_of, first, as_sender_call, as_receiver_call, all_sender_calls, all_receiver_calls, Classes}
use Rattle.oneshot_world.proofs.Names.{as_call, Begin, begins_poll, poll_begin, plain_input, as_begin, sender_begins, receiver_begins_at, receiver_begins, sender_under_way, receiver_under_way}
use Rattle.oneshot_world.proofs.Names.{begins_with, stays_sender, ends_sender, stays_error, ends_error, begins_sender, begins_error, begins_receiver, begins_async, stays_async, ends_async, sender_has}
use Rattle.oneshot_world.proofs.Names.{receiver_has, sender_position, receiver_position, no_input, input_of, ReceiverState, SenderState, Place, Input, End, sender_call_code, receiver_call_code}
use Rattle.oneshot_world.specs.declared.state.ReceiverState.TheVariants as RS
use Rattle.oneshot_world.specs.declared.state.SenderState.TheVariants as SS
use Rattle.oneshot_world.proofs.Bools.{and_left, and_right, all_left, all_right}
use Rattle.oneshot_world.proofs.Listed.{is_listed, all_mapped, all_flat}
use Rattle.oneshot_world.proofs.ControlCodes.{with_code, sender_call_back, receiver_call_back}
use Rattle.oneshot_world.proofs.ScriptsLeft.{script_begins, receiver_script_begins}

-- a test of each call that may begin passes at one of them
module _ (test : Begin → Bool) (side : End) (t : Input) (may : Call → Bool) where
  abbrev AllBegin : List Call → Type 0
  AllBegin calls = list_all test (begins_with side t may calls) ≡ true

  abbrev Passes : Call → Type 0
  Passes call = test (record { side = side; input = t; call = Some call }) ≡ true

  first_begins : (call : Call) (calls : List Call) → may call ≡ true → AllBegin (call ∷ calls) → Passes call
  first_begins call calls ok h =
      and_left (test (record { side = side; input = t; call = Some call })) _
      (subst (λ b. list_all test (map (λ call. record { side = side; input = t; call = Some call })
      (if b then call ∷ filter may calls else filter may calls)) ≡ true) ok h)

  others_begin : (call : Call) (calls : List Call) → AllBegin (call ∷ calls) → AllBegin calls
  others_begin call calls h =
      elim (may call) as (λ b. list_all test
      (map (λ call. record { side = side; input = t; call = Some call })
      (if b then call ∷ filter may calls else filter may calls)) ≡ true → AllBegin calls) [
        | true ↦ λ h. and_right (test (record { side = side; input = t; call = Some call })) _ h
        | false ↦ λ h. h
      ] h

  one_begins : {X : Type 0} (code : X → ℕ) (of : X → Call) (calls : List X) (call : X) (n : ℕ)
      → with_code code n calls ≡ Some call → may (of call) ≡ true → AllBegin (map of calls) → Passes (of call)
  one_begins code of [] call n found ok h = cc
  one_begins code of (x ∷ calls) call n found ok h =
      elim (code x == n) as (λ b. (if b then Some x else with_code code n calls) ≡ Some call → Passes (of call)) [
        | true ↦ λ found. let same : x ≡ call =
            cc found in subst (λ x. Passes (of x)) same (first_begins (of x) (map of calls) (rw same ok) h)
        | false ↦ λ found. one_begins code of calls call n found ok (others_begin (of x) (map of calls) h)
      ] found

-- a test of each move that may begin passes at the move that an end makes
pub at_sender : (k : Classes) (test : Begin → Bool) (message : Option Place) (s : SenderState) (calls : List Call)
    (position : SenderPos) → sender_has message s calls ≡ true
    → sender_position s (option_and_then as_sender_call (first calls)) ≡ Some position
    → list_all test (sender_begins message s (option_map (as_call k) (sender_under_way s (first calls)))) ≡ true
    → test (record { side = Sender; input = no_input; call = option_map (as_call k) (first calls) }) ≡ true
at_sender k test message SS.Ready [] position has at h = cc
at_sender k test message SS.Ready (Of_sender call ∷ calls) position has at h =
    one_begins test Sender no_input (begins_sender message) sender_call_code (λ c. Of_sender c) all_sender_calls
    call (sender_call_code call) (sender_call_back call)
    (script_begins stays_sender (ends_sender message) (Of_sender call) calls has) h
at_sender k test message SS.Ready (_ ∷ calls) position has at h = cc
at_sender k test message (SS.At here) calls position has at h = and_left _ _ h
at_sender k test message SS.Failed [] position has at h = cc
at_sender k test message SS.Failed (Of_sender call ∷ calls) position has at h =
    one_begins test Sender no_input begins_error sender_call_code (λ c. Of_sender c) all_sender_calls call
    (sender_call_code call) (sender_call_back call)
    (script_begins stays_error ends_error (Of_sender call) calls has) h
at_sender k test message SS.Failed (_ ∷ calls) position has at h = cc
at_sender k test message SS.Ended calls position has at h = cc

-- the move of a receiver, by the call under way or next and the number of its entry
abbrev pub receives_at : Bool → ℕ → Option Call → Begin
receives_at answer entry call =
    record { side = Receiver; input = input_of answer entry (option_and_then number_of call); call = call }

-- The class of each poll is in `polls`, and the class of each copy made in this entry is among those of
-- its poll.
module _ (k : Classes) (polls : List ℕ) (copies : ℕ → List ℕ) (entry : ℕ)
    (polled : (number : ℕ) → is_listed (k.polls number) polls ≡ true)
    (copied : (number : ℕ) → is_listed (k.copies number entry) (copies (k.polls number)) ≡ true) where
  at_poll : (test : Begin → Bool) (answer : Bool) (number : ℕ)
      → list_all test (begins_poll copies answer (k.polls number)) ≡ true
      → test (as_begin k (receives_at answer entry (Some (Poll number)))) ≡ true
  at_poll test answer number h =
      all_mapped test (λ copy. poll_begin answer (k.polls number) copy) (copies (k.polls number))
      (k.copies number entry) h (copied number)

  at_receiver_when : (test : Begin → Bool) (answer : Bool) (s : ReceiverState) (future : Bool) (calls : List Call)
      (position : ReceiverPos) → receiver_has s future calls ≡ true
      → receiver_position s (option_and_then as_receiver_call (first calls)) ≡ Some position
      → list_all test (receiver_begins_at polls copies answer s future
      (option_map (as_call k) (receiver_under_way s (first calls)))) ≡ true
      → test (as_begin k (receives_at answer entry (first calls))) ≡ true
  at_receiver_when test answer RS.Ready false [] position has at h = cc
  at_receiver_when test answer RS.Ready false (Of_receiver call ∷ calls) position has at h =
      one_begins test Receiver (plain_input answer) begins_receiver receiver_call_code (λ c. Of_receiver c)
      all_receiver_calls call (receiver_call_code call) (receiver_call_back call)
      (receiver_script_begins call calls has) h
  at_receiver_when test answer RS.Ready false (_ ∷ calls) position has at h = cc
  at_receiver_when test answer RS.Ready true [] position has at h = cc
  at_receiver_when test answer RS.Ready true (Of_receiver call ∷ calls) position has at h =
      one_begins test Receiver (plain_input answer) begins_async receiver_call_code (λ c. Of_receiver c)
      all_receiver_calls call (receiver_call_code call) (receiver_call_back call)
      (script_begins stays_async ends_async (Of_receiver call) calls has)
      (all_left test (begins_with Receiver (plain_input answer) begins_async (map Of_receiver all_receiver_calls)) _ h)
  at_receiver_when test answer RS.Ready true (Poll number ∷ calls) position has at h =
      at_poll test answer number
      (all_flat test (begins_poll copies answer) polls (k.polls number)
      (all_right test (begins_with Receiver (plain_input answer) begins_async (map Of_receiver all_receiver_calls)) _
      h) (polled number))
  at_receiver_when test answer RS.Ready true (_ ∷ calls) position has at h = cc
  at_receiver_when test answer (RS.At here) future [] position has at h = and_left _ _ h
  at_receiver_when test answer (RS.At here) future (Poll number ∷ calls) position has at h =
      at_poll test answer number h
  at_receiver_when test answer (RS.At here) future (_ ∷ calls) position has at h = and_left _ _ h
  at_receiver_when test answer RS.Ended future calls position has at h = cc

  -- whatever the move answers
  when : (test : Begin → Bool) (answer : Bool) (s : ReceiverState) (future : Bool) (call : Option Call)
      → list_all test (receiver_begins polls copies s future call) ≡ true
      → list_all test (receiver_begins_at polls copies answer s future call) ≡ true
  when test false s future call h = all_left test (receiver_begins_at polls copies false s future call) _ h
  when test true s future call h = all_right test (receiver_begins_at polls copies false s future call) _ h

  pub at_receiver : (test : Begin → Bool) (answer : Bool) (s : ReceiverState) (future : Bool) (calls : List Call)
      (position : ReceiverPos) → receiver_has s future calls ≡ true
      → receiver_position s (option_and_then as_receiver_call (first calls)) ≡ Some position
      → list_all test (receiver_begins polls copies s future
      (option_map (as_call k) (receiver_under_way s (first calls)))) ≡ true
      → test (as_begin k (receives_at answer entry (first calls))) ≡ true
  at_receiver test answer s future calls position has at h =
      at_receiver_when test answer s future calls position
      has at (when test answer s future (option_map (as_call k) (receiver_under_way s (first calls))) h)
