-- What the definition states of an entry that the reader accepts, by the kind of its call.
use Rattle.oneshot_laws.proofs.Names.{◌≡◌, Bool, true, false, not, ◌&&◌, ◌||◌, List, [], Option, Some, None, is_some, refl, list_any, Reply, Call, Of_sender, Of_receiver, Poll, Stray, Made, and_left}
use Rattle.oneshot_laws.proofs.Names.{and_right, only_if, is_nothing_yet, Object, nothing_yet_of, First, Never, rule, receive_rule, works_on_word, finds_full_or_closed, until_reply, reply_among}
use Rattle.oneshot_laws.proofs.Names.{loads, finishes, swaps_closed_in, agrees, is_object_step}
use Rattle.oneshot_machine.specs.declared.machine.receiver.ReceiverStart.TheVariants as RC
use Rattle.oneshot_machine.specs.declared.machine.sender.SenderCall.TheVariants as SC
use Rattle.oneshot_laws.proofs.HistoryReader.{Receives, kind, Watch, due, hits, owed, owes_then, object_if, object_by, pays, pays_receive, may_owe, has_reply, accepts_call}
use Rattle.oneshot_laws.proofs.HistoryOwed.{answer_from}
use Rattle.oneshot_laws.proofs.HistoryEntries.{FollowsAt, EntryRight, first_right, receive_right}

-- what `pays` shows of a reply
owes_reply : (owes reply : Option Reply) → pays owes reply ≡ true → is_some reply ≡ true → is_some owes ≡ true
owes_reply (Some y) reply h k = refl
owes_reply None None h k = k
owes_reply None (Some r) h k = h

answered : (a : Option Reply) (later : List Made) (r : Reply) → a ≡ Some r
    → until_reply a (reply_among (until_reply a later [])) a ≡ Some r
answered a later r h = rw h refl

none_after : (a : Option Reply) (later : List Made) → is_some a ≡ true → until_reply a later [] ≡ []
none_after None later h = cc
none_after (Some r) later h = refl

-- the last and the acting entries of each kind of call
local_first : (test : Made → Bool) (call : Call) (o : Object) (x : Watch) (earlier : List Made) (e : Made)
    (later : List Made) → list_any test earlier ≡ is_some x.owes
    → (has_reply (test e && not (is_some x.owes)) (due call o) && pays (owed (test e) x.owes (due call o)) e.reply)
    ≡ true → ((y : Reply) → owed (test e) x.owes (due call o) ≡ Some y → agrees (answer_from e later) (Some y) ≡ true)
    → EntryRight (First test) call o (object_if (test e && not (is_some x.owes)) call o)
    (test e && not (is_some x.owes)) (answer_from e later) e.reply earlier e (until_reply e.reply later [])
local_first test call o x earlier e later acted ok paid =
    first_right test call o x.owes (answer_from e later) e.reply earlier e (until_reply e.reply later []) acted
    (and_left _ _ ok) paid
    (owes_reply (owed (test e) x.owes (due call o)) e.reply
    (and_right (has_reply (test e && not (is_some x.owes)) (due call o)) _ ok))

local_receive : (call : Call) (o : Object) (x : Watch) (earlier : List Made) (e : Made) (later : List Made)
    → list_any finds_full_or_closed earlier ≡ is_some x.owes → list_any works_on_word earlier ≡ x.worked
    → (has_reply (finds_full_or_closed e && not (is_some x.owes)) (due call o)
    && (pays_receive call (x.worked || works_on_word e) (owed (finds_full_or_closed e) x.owes (due call o)) e.reply
    && may_owe (works_on_word e) o.content (owed (finds_full_or_closed e) x.owes (due call o)))) ≡ true
    → ((y : Reply) → owed (finds_full_or_closed e) x.owes (due call o) ≡ Some y
    → agrees (answer_from e later) (Some y) ≡ true)
    → (is_nothing_yet (answer_from e later) ≡ true → agrees (answer_from e later) (nothing_yet_of call) ≡ true)
    → EntryRight (receive_rule (answer_from e later)) call o
    (object_if (finds_full_or_closed e && not (is_some x.owes)) call o) (finds_full_or_closed e && not (is_some x.owes))
    (answer_from e later) e.reply earlier e (until_reply e.reply later [])
local_receive call o x earlier e later acted did ok paid says =
    let has = and_left (has_reply (finds_full_or_closed e && not (is_some x.owes)) (due call o)) _ ok in
    let pays_and_may = and_right (has_reply (finds_full_or_closed e && not (is_some x.owes)) (due call o)) _ ok in
    let owes : Option Reply = owed (finds_full_or_closed e) x.owes (due call o) in
    receive_right call o x.owes (answer_from e later) e.reply x.worked earlier e (until_reply e.reply later []) acted
    did has paid says
    (and_left (pays_receive call (x.worked || works_on_word e) owes e.reply) _ pays_and_may)
    (and_right (pays_receive call (x.worked || works_on_word e) owes e.reply) _ pays_and_may)
    (answered e.reply later)
    (none_after e.reply later)

-- a call that is no step of the object never acts
local_fixed : (call : Call) (o : Object) (x : Watch) (earlier : List Made) (e : Made) (later : List Made)
    → is_object_step call ≡ false → EntryRight Never call o o false (answer_from e later) e.reply earlier e
    (until_reply e.reply later [])
local_fixed call o x earlier e later none =
    record {
      legal = refl;
      object = refl;
      complete =
          rw none (elim (is_some e.reply) as (λ b. only_if (b && false) false ≡ true) [ true ↦ refl | false ↦ refl ]);
      acts = λ word. refl;
    }

pub local_right : (call : Call) (o : Object) (x : Watch) (earlier : List Made) (e : Made) (later : List Made)
    → FollowsAt call x earlier → accepts_call call e o x ≡ true
    → ((y : Reply) → owes_then call e o x ≡ Some y → agrees (answer_from e later) (Some y) ≡ true)
    → (kind call ≡ Receives → is_nothing_yet (answer_from e later) ≡ true
    → agrees (answer_from e later) (nothing_yet_of call) ≡ true)
    → EntryRight (rule call (answer_from e later)) call o (object_by call e o x) (hits (kind call) e x)
    (answer_from e later) e.reply earlier e (until_reply e.reply later [])
local_right (Of_sender SC.IsClosed) o x earlier e later f ok paid says =
    local_first loads (Of_sender SC.IsClosed) o x earlier e later f.acted ok paid
local_right (Of_sender SC.Send) o x earlier e later f ok paid says =
    local_first finishes (Of_sender SC.Send) o x earlier e later f.acted ok paid
local_right (Of_sender SC.Drop) o x earlier e later f ok paid says =
    local_first finishes (Of_sender SC.Drop) o x earlier e later f.acted ok paid
local_right (Of_sender SC.AsInner) o x earlier e later f ok paid says =
    local_fixed (Of_sender SC.AsInner) o x earlier e later refl
local_right (Of_sender SC.IntoInner) o x earlier e later f ok paid says =
    local_fixed (Of_sender SC.IntoInner) o x earlier e later refl
local_right (Of_sender SC.DropError) o x earlier e later f ok paid says =
    local_fixed (Of_sender SC.DropError) o x earlier e later refl
local_right (Of_receiver RC.TryRecv) o x earlier e later f ok paid says =
    local_receive (Of_receiver RC.TryRecv) o x earlier e later f.acted f.worked ok paid (says refl)
local_right (Of_receiver RC.RecvRef) o x earlier e later f ok paid says =
    local_receive (Of_receiver RC.RecvRef) o x earlier e later f.acted f.worked ok paid (says refl)
local_right (Of_receiver RC.RecvDeadline) o x earlier e later f ok paid says =
    local_receive (Of_receiver RC.RecvDeadline) o x earlier e later f.acted f.worked ok paid (says refl)
local_right (Of_receiver (RC.RecvTimeout representable)) o x earlier e later f ok paid says =
    local_receive (Of_receiver (RC.RecvTimeout representable)) o x earlier e later f.acted f.worked ok paid (says refl)
local_right (Of_receiver RC.Recv) o x earlier e later f ok paid says =
    local_receive (Of_receiver RC.Recv) o x earlier e later f.acted f.worked ok paid (says refl)
local_right (Of_receiver RC.HasMessage) o x earlier e later f ok paid says =
    local_first loads (Of_receiver RC.HasMessage) o x earlier e later f.acted ok paid
local_right (Of_receiver RC.IsClosed) o x earlier e later f ok paid says =
    local_first loads (Of_receiver RC.IsClosed) o x earlier e later f.acted ok paid
local_right (Of_receiver RC.Drop) o x earlier e later f ok paid says =
    local_first swaps_closed_in (Of_receiver RC.Drop) o x earlier e later f.acted ok paid
local_right (Of_receiver RC.IntoFuture) o x earlier e later f ok paid says =
    local_fixed (Of_receiver RC.IntoFuture) o x earlier e later refl
local_right (Of_receiver RC.Poll) o x earlier e later f ok paid says =
    local_receive (Of_receiver RC.Poll) o x earlier e later f.acted f.worked ok paid (says refl)
local_right (Of_receiver RC.AsyncTryRecv) o x earlier e later f ok paid says =
    local_receive (Of_receiver RC.AsyncTryRecv) o x earlier e later f.acted f.worked ok paid (says refl)
local_right (Poll number) o x earlier e later f ok paid says =
    local_receive (Poll number) o x earlier e later f.acted f.worked ok paid (says refl)
local_right (Of_receiver RC.DropAsync) o x earlier e later f ok paid says =
    local_first swaps_closed_in (Of_receiver RC.DropAsync) o x earlier e later f.acted ok paid
local_right Stray o x earlier e later f ok paid says = absurd (cc ok)
