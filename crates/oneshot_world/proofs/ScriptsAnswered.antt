-- What is left of a receiver's script as its calls reply one by one.
use Rattle.oneshot_world.proofs.Names.{◌≡◌, ℕ, ◌+◌, ◌<◌, List, [], ◌∷◌, Option, Some, None, true, is_some, refl, length, drop, get_or, add-one, drop-cons, Receiver, Reply, Unanswered, first}
use Rattle.oneshot_world.proofs.Names.{number_of, rest, left_by, receiver_call, receiver_calls, async_call, async_calls, AsyncCall, AsyncLast, ReceiverCall, ReceiverLast, option_and_then}
use Rattle.oneshot_world.specs.declared.script.AsyncCall.TheVariants as AC
use Rattle.oneshot_world.specs.declared.script.ReceiverCall.TheVariants as Script
use Rattle.oneshot_world.specs.declared.script.ReceiverLast.TheVariants as RL

-- the calls from the n-th on are that call and those after it
pub from_here : (calls : List ReceiverCall) (n : ℕ) (last : ReceiverLast) → n < length calls
    → receiver_calls (drop n calls) last
    ≡ receiver_call (get_or calls n Script.TryRecv) ∷ receiver_calls (drop (n + 1) calls) last
from_here calls n last h = rw (add-one, drop-cons calls n Script.TryRecv) refl

-- a reply is that of the first call left
pub answers : (reply : Option Reply) (left : Unanswered) → is_some reply ≡ true
    → left_by Receiver reply left ≡ record { calls = rest left.calls; error = left.error }
answers None left h = cc
answers (Some reply) left h = refl

-- the same for a future's calls
pub future_from_here : (calls : List AsyncCall) (n : ℕ) (last : AsyncLast) → n < length calls
    → async_calls (drop n calls) last
    ≡ async_call (get_or calls n AC.HasMessage) ∷ async_calls (drop (n + 1) calls) last
future_from_here calls n last h = rw (add-one, drop-cons calls n AC.HasMessage) refl

-- a receiver that is no future makes no poll
pub not_polled : (calls : List ReceiverCall) (last : ReceiverLast)
    → option_and_then number_of (first (receiver_calls calls last)) ≡ None
not_polled [] RL.Recv = refl
not_polled [] _ = refl
not_polled (Script.TryRecv ∷ calls) last = refl
not_polled (_ ∷ calls) last = refl
