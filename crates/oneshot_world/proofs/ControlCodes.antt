-- Values that are compared by their codes are equal if their codes are.
use Rattle.oneshot_world.proofs.Names.{◌≡◌, ℕ, Bool, true, false, List, [], ◌∷◌, Option, Some, None, refl, sym, ◌∙◌, ap, ◌==◌, ◌&&◌, get_or, map, if◌then◌else◌, eqb-true, sender_positions}
use Rattle.oneshot_world.proofs.Names.{receiver_positions, LookFull, TryLoad, StartLoad, StartWrite, StartSwap, SumClock, RecvLoad, AsyncLoad, DropSwap, ReceiverStart, SenderCall, Call, Of_sender}
use Rattle.oneshot_world.proofs.Names.{Of_receiver, Poll, Stray, all_sender_calls, all_receiver_calls, Control, sender_code, receiver_code, sender_call_code, receiver_call_code, is_same_call}
use Rattle.oneshot_world.proofs.Names.{is_same_under_way, place_code, bool_code, is_same_wakers, is_same_state, is_same_control, is_same_name, is_same_waker, ReceiverState, SenderState, State, Place}
use Rattle.oneshot_world.proofs.Names.{NotSent, InCell, InError, Delivered, FromError, Dropped, WakerName, Parker, Copy, Wakers}
use Rattle.oneshot_machine.specs.declared.machine.future.FuturePos.TheVariants as F
use Rattle.oneshot_machine.specs.declared.machine.receiver.ReceiverPos.TheVariants as R
use Rattle.oneshot_machine.specs.declared.machine.sender.SenderPos.TheVariants as S
use Rattle.oneshot_machine.specs.declared.machine.receiver.ReceiverStart.TheVariants as RC
use Rattle.oneshot_machine.specs.declared.machine.sender.SenderCall.TheVariants as SC
use Rattle.oneshot_world.specs.declared.state.ReceiverState.TheVariants as RS
use Rattle.oneshot_world.specs.declared.state.SenderState.TheVariants as SS
use Rattle.oneshot_world.proofs.Bools.{and_left, and_right}

-- a code under which each value is in a list
pub same_by : {X : Type 0} (code : X → ℕ) (values : List X) (d : X) → ((x : X) → get_or values (code x) d ≡ x)
    → (x y : X) → (code x == code y) ≡ true → x ≡ y
same_by code values d back x y h = sym (back x) ∙ ap (λ k. get_or values k d) (eqb-true (code x) (code y) h) ∙ back y

abbrev senders : List SenderState
senders = SS.Ready ∷ SS.Failed ∷ SS.Ended ∷ map SS.At sender_positions

sender_back : (s : SenderState) → get_or senders (sender_code s) SS.Ended ≡ s
sender_back SS.Ready = refl
sender_back SS.Failed = refl
sender_back SS.Ended = refl
sender_back (SS.At S.LookClosed) = refl
sender_back (SS.At _) = refl

abbrev receivers : List ReceiverState
receivers = RS.Ready ∷ RS.Ended ∷ map RS.At receiver_positions

receiver_back : (s : ReceiverState) → get_or receivers (receiver_code s) RS.Ended ≡ s
receiver_back RS.Ready = refl
receiver_back RS.Ended = refl
receiver_back (RS.At (R.Look LookFull)) = refl
receiver_back (RS.At (R.Look _)) = refl
receiver_back (RS.At (R.Try TryLoad)) = refl
receiver_back (RS.At (R.Try _)) = refl
receiver_back (RS.At (R.Ref (StartLoad false))) = refl
receiver_back (RS.At (R.Ref (StartLoad true))) = refl
receiver_back (RS.At (R.Ref (StartWrite false))) = refl
receiver_back (RS.At (R.Ref (StartWrite true))) = refl
receiver_back (RS.At (R.Ref (StartSwap false))) = refl
receiver_back (RS.At (R.Ref (StartSwap true))) = refl
receiver_back (RS.At (R.Ref _)) = refl
receiver_back (RS.At (R.Timed (SumClock false))) = refl
receiver_back (RS.At (R.Timed (SumClock true))) = refl
receiver_back (RS.At (R.Timed _)) = refl
receiver_back (RS.At (R.Value RecvLoad)) = refl
receiver_back (RS.At (R.Value _)) = refl
receiver_back (RS.At (R.Future F.IntoFuture)) = refl
receiver_back (RS.At (R.Future _)) = refl
receiver_back (RS.At (R.AsyncDrop AsyncLoad)) = refl
receiver_back (RS.At (R.AsyncDrop _)) = refl
receiver_back (RS.At (R.Drop DropSwap)) = refl
receiver_back (RS.At (R.Drop _)) = refl

-- the value of a list that has this code
abbrev pub with_code : {X : Type 0} → (X → ℕ) → ℕ → List X → Option X
with_code code n [] = None
with_code code n (x ∷ xs) = if code x == n then Some x else with_code code n xs

same_with : {X : Type 0} (code : X → ℕ) (values : List X) → ((x : X) → with_code code (code x) values ≡ Some x)
    → (x y : X) → (code x == code y) ≡ true → x ≡ y
same_with code values back x y h =
    let same : Some x ≡ Some y =
    sym (back x) ∙ ap (λ k. with_code code k values) (eqb-true (code x) (code y) h) ∙ back y in
    cc same

pub sender_call_back : (c : SenderCall) → with_code sender_call_code (sender_call_code c) all_sender_calls ≡ Some c
sender_call_back SC.IsClosed = refl
sender_call_back _ = refl

pub receiver_call_back : (c : ReceiverStart)
    → with_code receiver_call_code (receiver_call_code c) all_receiver_calls ≡ Some c
receiver_call_back (RC.RecvTimeout false) = refl
receiver_call_back (RC.RecvTimeout true) = refl
receiver_call_back _ = refl

pub call_is : (a b : Call) → is_same_call a b ≡ true → a ≡ b
call_is (Of_sender a) (Of_sender b) h =
    ap (λ (c : SenderCall). Of_sender c) (same_with sender_call_code all_sender_calls sender_call_back a b h)
call_is (Of_receiver a) (Of_receiver b) h =
    ap (λ (c : ReceiverStart). Of_receiver c) (same_with receiver_call_code all_receiver_calls receiver_call_back a b h)
call_is (Poll a) (Poll b) h = ap (λ (n : ℕ). Poll n) (eqb-true a b h)
call_is Stray Stray h = refl
call_is _ _ h = cc

pub under_way_is : (a b : Option Call) → is_same_under_way a b ≡ true → a ≡ b
under_way_is None None h = refl
under_way_is (Some a) (Some b) h = ap (λ (c : Call). Some c) (call_is a b h)
under_way_is _ _ h = cc

abbrev places : List (Option Place)
places =
    None ∷ Some NotSent ∷ Some InCell ∷ Some InError ∷ Some Delivered ∷ Some FromError ∷ Some Dropped ∷ []

place_back : (p : Option Place) → get_or places (place_code p) None ≡ p
place_back None = refl
place_back (Some NotSent) = refl
place_back (Some InCell) = refl
place_back (Some InError) = refl
place_back (Some Delivered) = refl
place_back (Some FromError) = refl
place_back (Some Dropped) = refl

abbrev bools : List Bool
bools = false ∷ true ∷ []

bool_back : (b : Bool) → get_or bools (bool_code b) false ≡ b
bool_back true = refl
bool_back false = refl

pub bool_is : (a b : Bool) → (bool_code a == bool_code b) ≡ true → a ≡ b
bool_is = same_by bool_code bools false bool_back

pub waker_is : (a b : WakerName) → is_same_waker a b ≡ true → a ≡ b
waker_is Parker Parker h = refl
waker_is (Copy a i) (Copy b j) h =
    let numbers : a ≡ b = eqb-true a b (and_left _ (i == j) h) in
    let entries : i ≡ j = eqb-true i j (and_right (a == b) _ h) in
    rw (numbers, entries) refl
waker_is Parker (Copy b j) h = cc
waker_is (Copy a i) Parker h = cc

name_is : (a b : Option WakerName) → is_same_name a b ≡ true → a ≡ b
name_is None None h = refl
name_is (Some a) (Some b) h = let same : a ≡ b = waker_is a b h in rw same refl
name_is None (Some b) h = cc
name_is (Some a) None h = cc

-- records with equal fields are equal
wakers_of : Option WakerName → Option WakerName → Option WakerName → Bool → Wakers
wakers_of cell hand taken token = record { cell = cell; hand = hand; taken = taken; token = token }

its_wakers : (w : Wakers) → wakers_of w.cell w.hand w.taken w.token ≡ w
unfolding wakers_of
its_wakers w = refl

pub wakers_are : (v w : Wakers) → is_same_wakers v w ≡ true → v ≡ w
wakers_are v w h =
    let h1 = and_right (is_same_name v.cell w.cell) _ h in
    let h2 = and_right (is_same_name v.hand w.hand) _ h1 in
    let cell : v.cell ≡ w.cell =
    name_is v.cell w.cell (and_left _
    (is_same_name v.hand w.hand && (is_same_name v.taken w.taken && bool_code v.token == bool_code w.token)) h) in
    let hand : v.hand ≡ w.hand = name_is v.hand w.hand (and_left _ _ h1) in
    let taken : v.taken ≡ w.taken = name_is v.taken w.taken (and_left _ _ h2) in
    let token : v.token ≡ w.token = bool_is v.token w.token (and_right (is_same_name v.taken w.taken) _ h2) in
    cc (its_wakers v, its_wakers w)

state_of : ℕ → Bool → SenderState → ReceiverState → Bool → Option Place → Wakers → State
state_of word freed sender receiver future message wakers =
    record {
      word = word;
      freed = freed;
      sender = sender;
      receiver = receiver;
      future = future;
      message = message;
      wakers = wakers;
    }

its_fields : (s : State) → state_of s.word s.freed s.sender s.receiver s.future s.message s.wakers ≡ s
unfolding state_of
its_fields s = refl

pub state_is : (s t : State) → is_same_state s t ≡ true → s ≡ t
state_is s t h =
    let h1 = and_right _ _ h in
    let h2 = and_right _ _ h1 in
    let h3 = and_right _ _ h2 in
    let sender : s.sender ≡ t.sender =
    same_by sender_code senders SS.Ended sender_back s.sender t.sender (and_left _ _ h) in
    let receiver : s.receiver ≡ t.receiver =
    same_by receiver_code receivers RS.Ended receiver_back s.receiver t.receiver (and_left _ _ h1) in
    let word : s.word ≡ t.word = eqb-true s.word t.word (and_left _ _ h2) in
    let freed : s.freed ≡ t.freed = bool_is s.freed t.freed (and_left _ _ h3) in
    let h5 = and_right _ _ h3 in
    let future : s.future ≡ t.future = bool_is s.future t.future (and_left _ _ h5) in
    let h4 = and_right _ _ h5 in
    let message : s.message ≡ t.message =
    same_by place_code places None place_back s.message t.message (and_left _ _ h4) in
    let wakers : s.wakers ≡ t.wakers = wakers_are s.wakers t.wakers (and_right _ _ h4) in
    cc (its_fields s, its_fields t)

control_with : State → Option Call → Option Call → Control
control_with state sender receiver = record { state = state; sender = sender; receiver = receiver }

its_parts : (c : Control) → control_with c.state c.sender c.receiver ≡ c
unfolding control_with
its_parts c = refl

pub control_is : (c d : Control) → is_same_control c d ≡ true → c ≡ d
control_is c d h =
    let h1 = and_right (is_same_state c.state d.state) _ h in
    let state : c.state ≡ d.state = state_is c.state d.state (and_left _ _ h) in
    let sender : c.sender ≡ d.sender = under_way_is c.sender d.sender (and_left _ _ h1) in
    let receiver : c.receiver ≡ d.receiver = under_way_is c.receiver d.receiver (and_right _ _ h1) in
    cc (its_parts c, its_parts d)
