-- In every state that the rule allows, the message that the receiver took is the one that the sender gave, and the
-- waker that the sender took is the one that the receiver gave last.
use Rattle.std.specs.Prelude.{◌≡◌, ℕ, List, [], ◌∷◌, Option, Some}
use Rattle.oneshot_machine.specs.Noted.{Noted}
use Rattle.oneshot_word.specs.declared.any_waker.AnyWaker.{AnyWaker}
use Rattle.oneshot_word.specs.declared.rule.Role.TheVariants.{Sender, Receiver}
use Rattle.oneshot_word.specs.declared.rule.View.{View}
use Rattle.oneshot_word.specs.Rule.{Home, has_message, has_waker, Tied}
use Rattle.oneshot_word.specs.Seats.{view}

-- the views of both ends: the message that the sender gave and the waker that it took, and the message that the
-- receiver took and the waker that it gave last
abbrev pub both_views : {T H K P : Type 0} → P → List Noted → Option T → Option (AnyWaker H K) → List Noted → Option T
    → Option (AnyWaker H K) → List (View T H K P)
both_views q xs given woke ys taken put = view q Sender xs given woke ∷ view q Receiver ys taken put ∷ []

module _ {T P : Type 0} (H K : Type 0) (keeps : P → T → Type 0) where
  pub record ReceivedIsSent : Type 0 where
    -- a message that the receiver took is the one that the sender gave
    pub taken : (q : P) (words : List ℕ) (homes : List (Home T H K)) (xs ys : List Noted) (given : Option T)
        (put woke : Option (AnyWaker H K)) (m : T)
        → Tied keeps q words homes (both_views q xs given woke ys (Some m) put) → given ≡ Some m
    -- and so is a message in the table
    pub lies : (q : P) (words : List ℕ) (k : Home T H K) (xs ys : List Noted) (given taken : Option T)
        (put woke : Option (AnyWaker H K)) (m : T)
        → Tied keeps q words (has_message m ∷ k ∷ []) (both_views q xs given woke ys taken put) → given ≡ Some m

  pub record WokenIsPut : Type 0 where
    -- a waker that the sender took is the one that the receiver gave last
    pub woken : (q : P) (words : List ℕ) (homes : List (Home T H K)) (xs ys : List Noted) (given taken : Option T)
        (put : Option (AnyWaker H K)) (k : AnyWaker H K)
        → Tied keeps q words homes (both_views q xs given (Some k) ys taken put) → put ≡ Some k
    -- and so is a waker in the table
    pub rests : (q : P) (words : List ℕ) (h : Home T H K) (xs ys : List Noted) (given taken : Option T)
        (put woke : Option (AnyWaker H K)) (k : AnyWaker H K)
        → Tied keeps q words (h ∷ has_waker k ∷ []) (both_views q xs given woke ys taken put) → put ≡ Some k
