-- A turn from a reached world leads to a reached one, as far as its finite part shows.
use Rattle.oneshot_world.proofs.Names.{◌≡◌, ◌≤◌, ◌==◌, ℕ, Bool, true, false, List, Option, Some, None, refl, ◌∙◌, ap, subst, ◌&&◌, ◌||◌, nat_le, if◌then◌else◌, leb-true, list_all, option_map, IsSome}
use Rattle.oneshot_world.proofs.Names.{Sender, Receiver, Reply, ReceiverPos, SenderPos, Call, first, Classes, all_alike, Control, control_of, Begin, begins, as_begin, as_control, as_control_turned}
use Rattle.oneshot_world.proofs.Names.{sender_begins, control_then, control_turn, one_poll, one_copy, reached, is_reached, IsReached, bool_code, control_code, is_same_control, stays_sender}
use Rattle.oneshot_world.proofs.Names.{ends_sender, stays_error, ends_error, all_in, sender_turns_at, receiver_turns_at, position_of_sender, position_of_receiver, sender_steps, receiver_steps}
use Rattle.oneshot_world.proofs.Names.{made_entry, is_future, World, by_end, reply_in, no_input, receiver_input, ReceiverState, SenderState, State, Entry, Made, NotSent}
use Rattle.oneshot_machine.specs.declared.machine.Reply.TheVariants as Replies
use Rattle.oneshot_world.specs.declared.state.ReceiverState.TheVariants as RS
use Rattle.oneshot_world.specs.declared.state.SenderState.TheVariants as SS
use Rattle.oneshot_world.proofs.Bools.{and_left, and_right, all_left, all_right}
use Rattle.oneshot_world.proofs.CommutesTurns.{control_turn_as}
use Rattle.oneshot_world.proofs.ControlCodes.{control_is}
use Rattle.oneshot_world.proofs.Listed.{is_listed}
use Rattle.oneshot_world.proofs.ScriptsLeft.{becomes_future, ends_either}
use Rattle.oneshot_world.proofs.ExploreFound.{passes_where_found}
use Rattle.oneshot_world.proofs.ReachedBegins.{at_sender, at_receiver, receives_at}

-- a test that passes on all reached controls passes on each
pub passes : (test : Control → Bool) → all_in test reached ≡ true → (c : Control) → is_reached c ≡ true → test c ≡ true
passes test all c h = passes_where_found control_code is_same_control control_is test reached c all h

-- a move leads to a reached control, and an end stays or ends only by a call that stays or ends
unfoldable pub left_as : SenderState → Option Call → Bool
left_as s None = false
left_as SS.Ready (Some call) = stays_sender call
left_as (SS.At position) (Some call) = false
left_as SS.Failed (Some call) = stays_error call
left_as SS.Ended (Some call) = ends_sender (Some NotSent) call || ends_error call

unfoldable pub sender_left_by_its_call : Option Reply → SenderState → Option Call → Bool
sender_left_by_its_call None s call = true
sender_left_by_its_call (Some Replies.Refused) s call = true
sender_left_by_its_call (Some _) s call = left_as s call

-- a receiver becomes a future only by `into_future`, and ends only by a call that ends it
unfoldable pub ends_right : ReceiverState → Option Call → Bool
ends_right RS.Ready call = true
ends_right (RS.At position) call = false
ends_right RS.Ended None = false
ends_right RS.Ended (Some call) = ends_either call

unfoldable pub receiver_left_by_its_call : Option Reply → ReceiverState → Option Call → Bool
receiver_left_by_its_call None s call = true
receiver_left_by_its_call (Some reply) s call =
    bool_code (becomes_future call) == bool_code (is_future (Some reply)) && ends_right s call

abbrev left_right : Begin → Entry → State → Bool
left_right b entry s =
    by_end b.side (sender_left_by_its_call (reply_in entry) s.sender b.call)
    (receiver_left_by_its_call (reply_in entry) s.receiver b.call)

unfoldable pub leads_on : Begin → Option (Entry × Control) → Bool
leads_on b None = false
leads_on b (Some turned) = is_reached turned.1 && left_right b turned.0 turned.1.state

abbrev moves_on : Control → Begin → Bool
moves_on c b = leads_on b (control_turn c b)

is_closed : all_in (λ c. nat_le c.state.word 4 && list_all (moves_on c) (begins one_poll one_copy c)) reached ≡ true
unfolding reached leads_on left_as sender_left_by_its_call receiver_left_by_its_call ends_right
is_closed = refl

-- the word is one of the codes
pub word_is_code : (w : World) → IsReached w → w.state.word ≤ 4
word_is_code w h =
    leb-true w.state.word 4 (and_left _ _ (passes _ is_closed (as_control all_alike (control_of w)) h.control))

-- the position of an end of a world, and the move that it makes there
abbrev pub sender_at : World → Option SenderPos
sender_at w = position_of_sender w.state (first w.sender.calls)

abbrev pub receiver_at : World → Option ReceiverPos
receiver_at w = position_of_receiver w.state (first w.receiver.calls)

abbrev pub sender_begin : World → Begin
sender_begin w = record { side = Sender; input = no_input; call = first w.sender.calls }

abbrev pub receiver_begin : Bool → ℕ → World → Begin
receiver_begin answer entry w = receives_at answer entry (first w.receiver.calls)

-- a test of all moves that may begin, at the move that an end makes at its position
abbrev pub after_sender : World → Entry × State → Entry × Control
after_sender w turned = (turned.0, control_then Sender (first w.sender.calls) (control_of w) turned.1)

abbrev pub after_receiver : World → Entry × State → Entry × Control
after_receiver w turned = (turned.0, control_then Receiver (first w.receiver.calls) (control_of w) turned.1)

sender_turn_is : (w : World) (position : SenderPos) → sender_at w ≡ Some position
    → control_turn (control_of w) (sender_begin w)
    ≡ option_map (after_sender w) (option_map made_entry (sender_steps no_input w.state position))
sender_turn_is w position at = ap (λ p. option_map (after_sender w) (sender_turns_at no_input w.state p)) at

receiver_turn_is : (answer : Bool) (entry : ℕ) (w : World) (position : ReceiverPos) → receiver_at w ≡ Some position
    → control_turn (control_of w) (receiver_begin answer entry w) ≡ option_map (after_receiver w)
    (option_map made_entry (receiver_steps (receiver_input answer entry w) w.state position))
receiver_turn_is answer entry w position at =
    ap (λ p. option_map (after_receiver w) (receiver_turns_at (receiver_input answer entry w) w.state p)) at

module _ (k : Classes) (polls : List ℕ) (copies : ℕ → List ℕ) (test : Begin → Option (Entry × Control) → Bool) where
  abbrev pub AllPass : World → Type 0
  AllPass w =
      list_all (λ b. test b (control_turn (as_control k (control_of w)) b))
      (begins polls copies (as_control k (control_of w))) ≡ true

  pub sender_passes : (w : World) (position : SenderPos) → IsReached w → sender_at w ≡ Some position → AllPass w
      → test (as_begin k (sender_begin w))
      (option_map (as_control_turned k)
      (option_map (after_sender w) (option_map made_entry (sender_steps no_input w.state position)))) ≡ true
  sender_passes w position h at all =
      subst (λ o. test (as_begin k (sender_begin w)) o ≡ true)
      (control_turn_as k (control_of w) (sender_begin w)
      ∙ ap (option_map (as_control_turned k)) (sender_turn_is w position at))
      (at_sender k (λ b. test b (control_turn (as_control k (control_of w)) b)) w.state.message w.state.sender
      w.sender.calls position h.sender at
      (all_left (λ b. test b (control_turn (as_control k (control_of w)) b))
      (sender_begins w.state.message w.state.sender (as_control k (control_of w)).sender) _ all))

  pub receiver_passes : (entry : ℕ) → ((number : ℕ) → is_listed (k.polls number) polls ≡ true)
      → ((number : ℕ) → is_listed (k.copies number entry) (copies (k.polls number)) ≡ true)
      → (answer : Bool) (w : World) (position : ReceiverPos) → IsReached w → receiver_at w ≡ Some position → AllPass w
      → test (as_begin k (receiver_begin answer entry w))
      (option_map (as_control_turned k)
      (option_map (after_receiver w)
      (option_map made_entry (receiver_steps (receiver_input answer entry w) w.state position)))) ≡ true
  receiver_passes entry polled copied answer w position h at all =
      subst (λ o. test (as_begin k (receiver_begin answer entry w)) o ≡ true)
      (control_turn_as k (control_of w) (receiver_begin answer entry w)
      ∙ ap (option_map (as_control_turned k)) (receiver_turn_is answer entry w position at))
      (at_receiver k polls copies entry polled copied (λ b. test b (control_turn (as_control k (control_of w)) b))
      answer w.state.receiver w.state.future w.receiver.calls position h.receiver at
      (all_right (λ b. test b (control_turn (as_control k (control_of w)) b))
      (sender_begins w.state.message w.state.sender (as_control k (control_of w)).sender) _ all))

moves_there : (w : World) → IsReached w → AllPass all_alike one_poll one_copy leads_on w
moves_there w h =
    and_right (nat_le w.state.word 4) _ (passes _ is_closed (as_control all_alike (control_of w)) h.control)

pub sender_leads : (w : World) (position : SenderPos) → IsReached w → sender_at w ≡ Some position
    → leads_on (as_begin all_alike (sender_begin w))
    (option_map (as_control_turned all_alike)
    (option_map (after_sender w) (option_map made_entry (sender_steps no_input w.state position)))) ≡ true
sender_leads w position h at = sender_passes all_alike one_poll one_copy leads_on w position h at (moves_there w h)

pub receiver_leads : (answer : Bool) (entry : ℕ) (w : World) (position : ReceiverPos) → IsReached w
    → receiver_at w ≡ Some position → leads_on (as_begin all_alike (receiver_begin answer entry w))
    (option_map (as_control_turned all_alike)
    (option_map (after_receiver w)
    (option_map made_entry (receiver_steps (receiver_input answer entry w) w.state position)))) ≡ true
receiver_leads answer entry w position h at =
    receiver_passes all_alike one_poll one_copy leads_on entry (λ number. refl) (λ number. refl) answer w position
    h at (moves_there w h)

-- a step that leads on is made
pub made_if : (b : Begin) (f : Entry × State → Entry × Control) (steps : Option (Made × State))
    → leads_on b (option_map (as_control_turned all_alike) (option_map f (option_map made_entry steps))) ≡ true
    → IsSome steps
unfolding leads_on
made_if b f None h = cc
made_if b f (Some x) h = refl

-- a step that is made is made by a row
pub from_row : {P : Type 0} (fits : Bool) (f : P → Made × State) (row : Option P) (t : Made × State)
    → (if fits then option_map f row else None) ≡ Some t → (r : P) × (f r ≡ t)
from_row true f (Some r) t h = (r, cc)
from_row _ f _ t h = absurd (cc h)
