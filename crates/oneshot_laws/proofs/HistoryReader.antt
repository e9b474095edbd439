-- A reader of the trace, entry by entry, with finitely many states: the object, and what the call under way
-- at each end owes since it acted.
use Rattle.oneshot_laws.proofs.Names.{◌≡◌, ℕ, Bool, true, false, not, ◌&&◌, ◌||◌, Option, Some, None, is_some, refl, ap, End, Sender, Receiver, Reply, Call, Of_sender, Of_receiver, Poll, Stray}
use Rattle.oneshot_laws.proofs.Names.{Classes, as_call, as_made, Made, is_same_reply, says_nothing_yet, Action, Send, Sender_gone, Take, Take_and_go, Look_full, Look_closed, Look_receiver_gone}
use Rattle.oneshot_laws.proofs.Names.{Receiver_gone, Object, Content, new_object, is_open_content, action_of, nothing_yet_of, reply_on, stepped, fixed_reply_of, loads, finishes, swaps_closed_in}
use Rattle.oneshot_laws.proofs.Names.{works_on_word, finds_full_or_closed, until_reply, agrees}
use Rattle.oneshot_machine.specs.declared.machine.receiver.ReceiverStart.TheVariants as RC
use Rattle.oneshot_machine.specs.declared.machine.sender.SenderCall.TheVariants as SC
use Rattle.oneshot_laws.proofs.Coding.{Coding, pairs, by_parts, or_none, flags, replies, contents}
use Rattle.oneshot_laws.proofs.Product.{Automaton, NamelessReader, no_names}

-- how a call acts: at its first entry that passes a test, as a receive does, or never, with a fixed
-- reply
pub data Kind : Type 0 where
  Acts_first : (test : Made → Bool) → Kind
  Receives : Kind
  Answers_always : Kind
  Is_none : Kind

abbrev pub kind_of : Action → Kind
kind_of Send = Acts_first finishes
kind_of Sender_gone = Acts_first finishes
kind_of Take = Receives
kind_of Take_and_go = Receives
kind_of Look_full = Acts_first loads
kind_of Look_closed = Acts_first loads
kind_of Look_receiver_gone = Acts_first loads
kind_of Receiver_gone = Acts_first swaps_closed_in

abbrev pub kind : Call → Kind
kind Stray = Is_none
kind call = elim (action_of call) [ None ↦ Answers_always | Some action ↦ kind_of action ]

-- the entry at which a call acts if it does not reply "nothing yet"
abbrev pub hit : Kind → Made → Bool
hit (Acts_first test) e = test e
hit Receives e = finds_full_or_closed e
hit Answers_always e = false
hit Is_none e = false

-- an end's call under way: whether it has begun, what it owes since it acted, and whether it has worked on the word
pub record Watch : Type 0 where
  pub begun : Bool
  pub owes : Option Reply
  pub worked : Bool

pub record Reader : Type 0 where
  pub object : Object
  pub sender : Watch
  pub receiver : Watch

-- the object's reply
abbrev pub due : Call → Object → Option Reply
due call o = reply_on call o (action_of call)

abbrev pub hits : Kind → Made → Watch → Bool
hits k e x = hit k e && not (is_some x.owes)

-- what is owed after an entry
abbrev pub owed : Bool → Option Reply → Option Reply → Option Reply
owed now (Some reply) expected = Some reply
owed true None expected = expected
owed false None expected = None

abbrev pub owes_then : Call → Made → Object → Watch → Option Reply
owes_then call e o x = owed (hit (kind call) e) x.owes (due call o)

abbrev pub object_if : Bool → Call → Object → Object
object_if true call o = stepped (action_of call) o
object_if false call o = o

abbrev pub object_by : Call → Made → Object → Watch → Object
object_by call e o x = object_if (hits (kind call) e x) call o

abbrev pub watch_then : Call → Made → Object → Watch → Watch
watch_then call e o x =
    record {
      begun = until_reply e.reply true false;
      owes = until_reply e.reply (owes_then call e o x) None;
      worked = until_reply e.reply (x.worked || works_on_word e) false;
    }

-- a reply is the one that is owed
abbrev pub pays : Option Reply → Option Reply → Bool
pays owes None = true
pays None (Some reply) = false
pays (Some owes) (Some reply) = is_same_reply reply owes

-- a receive that owes nothing may reply "nothing yet", once it has worked on the word
abbrev pub may_say : Option Reply → Reply → Bool
may_say None reply = false
may_say (Some nothing) reply = is_same_reply reply nothing && says_nothing_yet reply

abbrev pub pays_receive : Call → Bool → Option Reply → Option Reply → Bool
pays_receive call worked owes None = true
pays_receive call worked None (Some reply) = may_say (nothing_yet_of call) reply && worked
pays_receive call worked (Some owes) (Some reply) = is_same_reply reply owes

-- a receive that owes nothing finds the object open at each operation, and never owes "nothing yet"
abbrev pub may_owe : Bool → Content → Option Reply → Bool
may_owe works content None = not works || is_open_content content
may_owe works content (Some reply) = not (says_nothing_yet reply)

-- the object has a reply for a call that acts
abbrev pub has_reply : Bool → Option Reply → Bool
has_reply true expected = is_some expected
has_reply false expected = true

abbrev pub accepts_as : Kind → Call → Made → Object → Watch → Bool
accepts_as (Acts_first test) call e o x = pays (owed (test e) x.owes (due call o)) e.reply
accepts_as Receives call e o x =
    pays_receive call (x.worked || works_on_word e) (owed (finds_full_or_closed e) x.owes (due call o)) e.reply
    && may_owe (works_on_word e) o.content (owed (finds_full_or_closed e) x.owes (due call o))
accepts_as Answers_always call e o x = not (is_some x.owes) && agrees e.reply (fixed_reply_of call)
accepts_as Is_none call e o x = false

abbrev pub accepts_call : Call → Made → Object → Watch → Bool
accepts_call call e o x = has_reply (hits (kind call) e x) (due call o) && accepts_as (kind call) call e o x

abbrev pub watch_at : End → Reader → Watch
watch_at Sender m = m.sender
watch_at Receiver m = m.receiver

abbrev pub accepts : End → Call → Made → Reader → Bool
accepts side call e m = accepts_call call e m.object (watch_at side m)

abbrev pub reads : End → Call → Made → Reader → Reader
reads Sender call e m =
    record {
      object = object_by call e m.object m.sender;
      sender = watch_then call e m.object m.sender;
      receiver = m.receiver;
    }
reads Receiver call e m =
    record {
      object = object_by call e m.object m.receiver;
      sender = m.sender;
      receiver = watch_then call e m.object m.receiver;
    }

abbrev pub new_watch : Watch
new_watch = record { begun = false; owes = None; worked = false }

abbrev pub new_reader : Reader
new_reader = record { object = new_object; sender = new_watch; receiver = new_watch }

-- readers are compared by their parts
abbrev pub watches : Coding Watch
watches =
    by_parts (λ x. (x.owes, (x.worked, x.begun))) (λ p. record { begun = p.1.1; owes = p.0; worked = p.1.0 })
    (λ x. refl)
    (pairs (or_none replies) (pairs flags flags))

abbrev pub objects : Coding Object
objects =
    by_parts (λ o. (o.content, (o.sender_here, o.receiver_here)))
    (λ p. record { content = p.0; sender_here = p.1.0; receiver_here = p.1.1 }) (λ o. refl)
    (pairs contents (pairs flags flags))

abbrev pub readers : Coding Reader
readers =
    by_parts (λ m. (m.object, (m.sender, m.receiver))) (λ p. record { object = p.0; sender = p.1.0; receiver = p.1.1 })
    (λ m. refl)
    (pairs objects (pairs watches watches))

abbrev pub histories : Automaton Reader
histories =
    record { coding = readers; accepts = accepts; reads = reads; names = no_names; first = λ place. new_reader }

-- the reader reads no name and no number
accepts_alike : (k : Classes) (side : End) (call : Call) (e : Made) (m : Reader)
    → accepts side (as_call k call) (as_made k e) m ≡ accepts side call e m
accepts_alike k side (Of_sender SC.Send) e m = refl
accepts_alike k side (Of_receiver RC.Recv) e m = refl
accepts_alike k side _ e m = refl

pub object_as : (k : Classes) (now : Bool) (number : ℕ) (o : Object)
    → object_if now (Poll (k.polls number)) o ≡ object_if now (Poll number) o
object_as k true number o = refl
object_as k false number o = refl

abbrev read_to : End → Object → Watch → Reader → Reader
read_to Sender o x m = record { object = o; sender = x; receiver = m.receiver }
read_to Receiver o x m = record { object = o; sender = m.sender; receiver = x }

reads_by_class : (k : Classes) (side : End) (call : Call) (e : Made) (m : Reader)
    → reads side (as_call k call) (as_made k e) m ≡ reads side call e m
reads_by_class k Sender (Poll number) e m =
    ap (λ o. read_to Sender o (watch_then (Poll number) e m.object m.sender) m)
    (object_as k (hits Receives e m.sender) number m.object)
reads_by_class k Sender (Of_sender SC.Send) e m = refl
reads_by_class k Sender (Of_receiver RC.Recv) e m = refl
reads_by_class k Sender _ e m = refl
reads_by_class k Receiver (Poll number) e m =
    ap (λ o. read_to Receiver o (watch_then (Poll number) e m.object m.receiver) m)
    (object_as k (hits Receives e m.receiver) number m.object)
reads_by_class k Receiver (Of_sender SC.Send) e m = refl
reads_by_class k Receiver (Of_receiver RC.Recv) e m = refl
reads_by_class k Receiver _ e m = refl

pub histories_nameless : NamelessReader histories
histories_nameless = record { accepts_same = accepts_alike; reads_same = reads_by_class }
