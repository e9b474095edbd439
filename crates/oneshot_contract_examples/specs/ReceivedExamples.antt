-- Examples of messages and wakers that pass through the table, and of those that do not.
use Rattle.std.specs.Prelude.{◌≢◌, ℕ, List, [], ◌∷◌, Option, Some, None}
use Rattle.oneshot_machine.specs.declared.machine.Seen.TheVariants.{Word}
use Rattle.oneshot_machine.specs.declared.states.Op.TheVariants.{Load, Add}
use Rattle.oneshot_machine.specs.declared.states.TheConstants.{RECEIVING, UNPARKING, EMPTY, MESSAGE}
use Rattle.oneshot_machine.specs.Noted.{Noted}
use Rattle.oneshot_word.specs.declared.any_waker.AnyWaker.{AnyWaker}
use Rattle.oneshot_word.specs.Rule.{Home, out, bare, has_message, has_waker, Tied}
use Rattle.oneshot_word.specs.Received.{both_views}
use Rattle.oneshot_contract_examples.specs.ExampleLogs.{claims, polled, sent_over, waits}

module _ {T P : Type 0} (H K : Type 0) (keeps : P → T → Type 0) where
  -- a message that was sent to a receiver that is here, and then received
  pub record MessagesThatPass : Type 0 where
    pub lies_there : (q : P) (m : T) → keeps q m → Tied {H =
        H} {K = K} keeps q (MESSAGE
        ∷ []) (has_message m
        ∷ bare
        ∷ [])
        (both_views q ((Add, Word EMPTY) ∷ []) (Some m) None [] None None)
    pub was_taken : (q : P) (m : T) → Tied {H = H} {K = K} keeps q (MESSAGE ∷ []) (out ∷ out ∷ [])
        (both_views q ((Add, Word EMPTY) ∷ []) (Some m) None ((Load, Word MESSAGE) ∷ []) (Some m) None)

  -- whatever the words, the slots at home and both logs are
  pub record MessagesThatDoNot : Type 0 where
    pub took_another : {q : P} {words : List ℕ} {homes : List (Home T H K)} {xs ys : List Noted}
        {put woke : Option (AnyWaker H K)}
        (m other : T)
        → m ≢ other → Tied keeps q words homes (both_views q xs (Some m) woke ys (Some other) put) → ⊥
    pub took_what_none_gave : {q : P} {words : List ℕ} {homes : List (Home T H K)} {xs ys : List Noted}
        {put woke : Option (AnyWaker H K)}
        (m : T)
        → Tied keeps q words homes (both_views q xs None woke ys (Some m) put) → ⊥
    pub another_lies : {q : P} {words : List ℕ} {k : Home T H K} {xs ys : List Noted} {taken : Option T}
        {put woke : Option (AnyWaker H K)} (m other : T)
        → m ≢ other → Tied keeps q words (has_message other ∷ k ∷ []) (both_views q xs (Some m) woke ys taken put) → ⊥
    pub lies_and_none_gave : {q : P} {words : List ℕ} {k : Home T H K} {xs ys : List Noted} {taken : Option T}
        {put woke : Option (AnyWaker H K)} (m : T)
        → Tied keeps q words (has_message m ∷ k ∷ []) (both_views q xs None woke ys taken put) → ⊥

  -- a waker that lies in the table once the receiver waits, that the sender took, and that it used to end its `send`
  pub record WakersThatPass : Type 0 where
    pub rests_there : (q : P) (k : AnyWaker H K) → Tied {H =
        H} {K = K} keeps q (RECEIVING
        ∷ []) (out
        ∷ has_waker k
        ∷ [])
        (both_views q [] None None waits None (Some k))
    pub was_taken : (q : P) (k : AnyWaker H K) → Tied {H = H} {K = K} keeps q (UNPARKING ∷ []) (out ∷ out ∷ [])
        (both_views q claims None (Some k) waits None (Some k))
    pub was_used : (q : P) (m : T) (k : AnyWaker H K) → keeps q m
        → Tied {H = H} {K = K} keeps q (MESSAGE ∷ []) (has_message m ∷ bare ∷ [])
        (both_views q (sent_over UNPARKING) (Some m) (Some k) waits None (Some k))
    -- and the same of a future that a poll left waiting
    pub was_used_of_a_future : (q : P) (m : T) (k : AnyWaker H K) → keeps q m
        → Tied {H = H} {K = K} keeps q (MESSAGE ∷ []) (has_message m ∷ bare ∷ [])
        (both_views q (sent_over UNPARKING) (Some m) (Some k) polled None (Some k))

  pub record WakersThatDoNot : Type 0 where
    pub took_another : {q : P} {words : List ℕ} {homes : List (Home T H K)} {xs ys : List Noted}
        {given taken : Option T} (k other : AnyWaker H K) → k ≢ other
        → Tied keeps q words homes (both_views q xs given (Some other) ys taken (Some k)) → ⊥
    pub took_what_none_gave : {q : P} {words : List ℕ} {homes : List (Home T H K)} {xs ys : List Noted}
        {given taken : Option T} (k : AnyWaker H K)
        → Tied keeps q words homes (both_views q xs given (Some k) ys taken None) → ⊥
    pub took_it_unasked : {q : P} {words : List ℕ} {homes : List (Home T H K)} {ys : List Noted}
        {given taken : Option T} {put : Option (AnyWaker H K)} (k : AnyWaker H K)
        → Tied keeps q words homes (both_views q [] given (Some k) ys taken put) → ⊥
    pub another_rests : {q : P} {words : List ℕ} {h : Home T H K} {xs ys : List Noted} {given taken : Option T}
        {woke : Option (AnyWaker H K)} (k other : AnyWaker H K) → k ≢ other
        → Tied keeps q words (h ∷ has_waker other ∷ []) (both_views q xs given woke ys taken (Some k)) → ⊥
