-- Orders read from the first operation on, as the examples need them.
use Rattle.std.proofs.Common.{◌≡◌, ℕ, List, [], ◌∷◌, ◌++◌, refl}
use Rattle.oneshot_machine.specs.declared.machine.Seen.{Seen}
use Rattle.oneshot_machine.specs.declared.states.Op.{Op}
use Rattle.oneshot_machine.specs.declared.states.TheConstants.{EMPTY}
use Rattle.oneshot_machine.specs.Noted.{Noted, saw}
use Rattle.oneshot_machine.specs.Orders.{InOrder, none_made, by_sender, by_receiver}
use Rattle.oneshot_machine.specs.States.{word_after}

-- from this word on: the operations of both ends to come, and the last word
pub data Ahead : ℕ → List Noted → List Noted → ℕ → Type 0 where
  none_ahead : {word : ℕ} → Ahead word [] [] word
  sender_first : {word last : ℕ} {seen : Seen} {xs ys : List Noted} (op : Op) → seen ≡ saw op word
      → Ahead (word_after op word) xs ys last → Ahead word ((op, seen) ∷ xs) ys last
  receiver_first : {word last : ℕ} {seen : Seen} {xs ys : List Noted} (op : Op) → seen ≡ saw op word
      → Ahead (word_after op word) xs ys last → Ahead word xs ((op, seen) ∷ ys) last

-- one more operation
sender_more : {word last : ℕ} {xs ys : List Noted} (op : Op) → Ahead word xs ys last
    → Ahead word (xs ++ (op, saw op last) ∷ []) ys (word_after op last)
sender_more op none_ahead = sender_first op refl none_ahead
sender_more op (sender_first before saw_so rest) = sender_first before saw_so (sender_more op rest)
sender_more op (receiver_first before saw_so rest) = receiver_first before saw_so (sender_more op rest)

receiver_more : {word last : ℕ} {xs ys : List Noted} (op : Op) → Ahead word xs ys last
    → Ahead word xs (ys ++ (op, saw op last) ∷ []) (word_after op last)
receiver_more op none_ahead = receiver_first op refl none_ahead
receiver_more op (sender_first before saw_so rest) = sender_first before saw_so (receiver_more op rest)
receiver_more op (receiver_first before saw_so rest) = receiver_first before saw_so (receiver_more op rest)

pub ahead : {xs ys : List Noted} {word : ℕ} → InOrder xs ys word → Ahead EMPTY xs ys word
ahead none_made = none_ahead
ahead (by_sender op order) = sender_more op (ahead order)
ahead (by_receiver op order) = receiver_more op (ahead order)
