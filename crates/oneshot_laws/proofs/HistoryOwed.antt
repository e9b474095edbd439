-- What a call owes since it acted is its reply, if it replies; a receive's "nothing yet" is the reply of its kind.
use Rattle.oneshot_laws.proofs.Names.{◌≡◌, Bool, true, false, not, ◌&&◌, ◌||◌, List, [], ◌∷◌, Option, Some, None, is_some, refl, ◌∙◌, ap, subst, End, Sender, Receiver, Reply, Call, Unanswered, by_end}
use Rattle.oneshot_laws.proofs.Names.{Entry, Made, and_left, and_right, is_same_end, says_nothing_yet, is_nothing_yet, Object, Content, nothing_yet_of, until_reply, to_reply, reply_among}
use Rattle.oneshot_laws.proofs.Names.{call_under_way, works_on_word, finds_full_or_closed, agrees}
use Rattle.oneshot_world.specs.declared.trace.Entry.TheVariants.{Idle, Made as Made_entry}
use Rattle.oneshot_laws.proofs.Coding.{replies}
use Rattle.oneshot_laws.proofs.HistoryReader.{histories, Kind, Acts_first, Receives, Answers_always, Is_none, kind, Watch, Reader, due, hit, owed, owes_then, watch_at, pays, may_say, pays_receive}
use Rattle.oneshot_laws.proofs.HistoryReader.{may_owe, has_reply, accepts_as, accepts_call, accepts, reads, hits}
use Rattle.oneshot_laws.proofs.Product.{Accepts, left_after}

abbrev pub AcceptedFrom : Reader → Unanswered → Unanswered → List Entry → Type 0
AcceptedFrom m s r entries = Accepts histories m s r entries

-- an entry of this end is accepted, and so are those after it
abbrev pub Goes_on : End → Made → List Entry → Reader → Unanswered → Unanswered → Type 0
Goes_on d e es m s r =
    (accepts d (call_under_way (by_end d s r)) e m ≡ true)
    × AcceptedFrom (reads d (call_under_way (by_end d s r)) e m) (left_after d Sender e.reply s)
    (left_after d Receiver e.reply r) es

-- a call's reply from an entry on, by the end's later entries
abbrev pub answer_from : Made → List Made → Option Reply
answer_from e later = reply_among (e ∷ until_reply e.reply later [])

pays_agrees : (y : Reply) (a : Option Reply) → pays (Some y) a ≡ true → agrees a (Some y) ≡ true
pays_agrees y None h = refl
pays_agrees y (Some r) h = h

pays_receive_agrees : (call : Call) (worked : Bool) (y : Reply) (a : Option Reply)
    → pays_receive call worked (Some y) a ≡ true → agrees a (Some y) ≡ true
pays_receive_agrees call worked y None h = refl
pays_receive_agrees call worked y (Some r) h = h

nothing_owed : (owes expected : Option Reply) (y : Reply) (b : Bool) → owed false owes expected ≡ Some y
    → (not (is_some owes) && b) ≡ true → ⊥
nothing_owed None expected y b h k = cc
nothing_owed (Some z) expected y b h k = cc

pays_as : (k : Kind) (call : Call) (e : Made) (o : Object) (x : Watch) (y : Reply)
    → owed (hit k e) x.owes (due call o) ≡ Some y → accepts_as k call e o x ≡ true → agrees e.reply (Some y) ≡ true
pays_as (Acts_first test) call e o x y h k = pays_agrees y e.reply (rw h at k)
pays_as Receives call e o x y h k =
    pays_receive_agrees call (x.worked || works_on_word e) y e.reply
    (rw h at (and_left (pays_receive call (x.worked || works_on_word e)
    (owed (finds_full_or_closed e) x.owes (due call o)) e.reply) _ k))
pays_as Answers_always call e o x y h k = absurd (nothing_owed x.owes (due call o) y _ h k)
pays_as Is_none call e o x y h k = cc

pays_now : (call : Call) (e : Made) (o : Object) (x : Watch) (y : Reply) → owes_then call e o x ≡ Some y
    → accepts_call call e o x ≡ true → agrees e.reply (Some y) ≡ true
pays_now call e o x y h k =
    pays_as (kind call) call e o x y h (and_right (has_reply (hits (kind call) e x) (due call o)) _ k)

still_owes : (call : Call) (e : Made) (o : Object) (x : Watch) (y : Reply) → x.owes ≡ Some y
    → owes_then call e o x ≡ Some y
still_owes call e o x y h = rw h refl

unanswered : {X : Type 0} (a : Option Reply) (before after : X) → a ≡ None → until_reply a before after ≡ before
unanswered a before after h = rw h refl

-- a reply that comes now, or later
paid : (a : Option Reply) (later : List Made) (y : Reply) → agrees a (Some y) ≡ true
    → (a ≡ None → agrees (reply_among later) (Some y) ≡ true)
    → agrees (until_reply a (reply_among (until_reply a later [])) a) (Some y) ≡ true
paid None later y now after = after refl
paid (Some r) later y now after = now

abbrev Pays_in : End → List Entry → Reply → Type 0
Pays_in d es y =
    (m : Reader) (s r : Unanswered) → (watch_at d m).owes ≡ Some y → AcceptedFrom m s r es
    → agrees (reply_among (to_reply d es)) (Some y) ≡ true

-- the reply from an entry on at which it is owed
pub answer_pays : (d : End) (e : Made) (es : List Entry) (y : Reply) → Pays_in d es y → (m : Reader) (s r : Unanswered)
    → owes_then (call_under_way (by_end d s r)) e m.object (watch_at d m) ≡ Some y → Goes_on d e es m s r
    → agrees (answer_from e (to_reply d es)) (Some y) ≡ true
answer_pays Sender e es y later m s r h go =
    paid e.reply (to_reply Sender es) y (pays_now (call_under_way s) e m.object m.sender y h go.0)
    (λ none. later (reads Sender (call_under_way s) e m) _ _ (unanswered e.reply _ None none ∙ h) go.1)
answer_pays Receiver e es y later m s r h go =
    paid e.reply (to_reply Receiver es) y (pays_now (call_under_way r) e m.object m.receiver y h go.0)
    (λ none. later (reads Receiver (call_under_way r) e m) _ _ (unanswered e.reply _ None none ∙ h) go.1)

pays_at : (a d : End) (e : Made) (es : List Entry) (y : Reply) → Pays_in d es y → (m : Reader) (s r : Unanswered)
    → (watch_at d m).owes ≡ Some y → Goes_on a e es m s r
    → agrees (reply_among (elim (is_same_end a d) as (λ _. List Made)
    [ true ↦ e ∷ until_reply e.reply (to_reply d es) [] | false ↦ to_reply d es ])) (Some y) ≡ true
pays_at Sender Sender e es y later m s r h go =
    answer_pays Sender e es y later m s r (still_owes (call_under_way s) e m.object m.sender y h) go
pays_at Receiver Receiver e es y later m s r h go =
    answer_pays Receiver e es y later m s r (still_owes (call_under_way r) e m.object m.receiver y h) go
pays_at Sender Receiver e es y later m s r h go = later (reads Sender (call_under_way s) e m) _ _ h go.1
pays_at Receiver Sender e es y later m s r h go = later (reads Receiver (call_under_way r) e m) _ _ h go.1

pub pays_in : (d : End) (es : List Entry) (y : Reply) → Pays_in d es y
pays_in d [] y m s r h go = refl
pays_in d (Idle side ∷ es) y m s r h go = pays_in d es y m s r h go
pays_in d (Made_entry e ∷ es) y m s r h go = pays_at e.side d e es y (pays_in d es y) m s r h go

-- "nothing yet" is never owed
pub fine_as : (works : Bool) (c : Content) (owes : Option Reply) → may_owe works c owes ≡ true
    → is_nothing_yet owes ≡ false
fine_as works c None h = refl
fine_as works c (Some y) h =
    elim (says_nothing_yet y) as (λ b. not b ≡ true → b ≡ false) [ true ↦ λ h. cc | false ↦ λ h. refl ] h

-- a reply that was owed is not "nothing yet"
pub not_owed : (y : Reply) (a : Option Reply) → is_nothing_yet (Some y) ≡ false → agrees a (Some y) ≡ true
    → is_nothing_yet a ≡ false
not_owed y None fine h = refl
not_owed y (Some r) fine h = ap (λ x. says_nothing_yet x) (replies.sound r y h) ∙ fine

says_own : (call : Call) (worked : Bool) (owes : Option Reply) (works : Bool) (c : Content) (r : Reply)
    → pays_receive call worked owes (Some r) ≡ true → may_owe works c owes ≡ true → says_nothing_yet r ≡ true
    → agrees (Some r) (nothing_yet_of call) ≡ true
says_own call worked None works c r h fine says =
    elim (nothing_yet_of call) as (λ n. (may_say n r && worked) ≡ true → agrees (Some r) n ≡ true) [
      | None ↦ λ h. cc
      | Some n ↦ λ h. and_left _ (says_nothing_yet r) (and_left _ worked h)
    ] h
says_own call worked (Some y) works c r h fine says =
    let none = not_owed y (Some r) (fine_as works c (Some y) fine) h in cc

-- the reader accepts "nothing yet" of a receive only as that call's own reply
says_now : (k : Kind) (call : Call) (e : Made) (o : Object) (x : Watch) (r : Reply) → k ≡ Receives → e.reply ≡ Some r
    → accepts_as k call e o x ≡ true → says_nothing_yet r ≡ true → agrees (Some r) (nothing_yet_of call) ≡ true
says_now k call e o x r is at h says =
    let both = rw is at h in
    let owes : Option Reply = owed (finds_full_or_closed e) x.owes (due call o) in
    says_own call (x.worked || works_on_word e) owes (works_on_word e) o.content r
    (subst (λ a. pays_receive call (x.worked || works_on_word e) owes a
    ≡ true) at (and_left (pays_receive call (x.worked || works_on_word e) owes e.reply) _ both))
    (and_right (pays_receive call (x.worked || works_on_word e) owes e.reply) _ both) says

said : (call : Call) (a : Option Reply) (later : List Made)
    → ((r : Reply) → a ≡ Some r → says_nothing_yet r ≡ true → agrees (Some r) (nothing_yet_of call) ≡ true)
    → (a ≡ None → is_nothing_yet (reply_among later) ≡ true → agrees (reply_among later) (nothing_yet_of call) ≡ true)
    → is_nothing_yet (until_reply a (reply_among (until_reply a later [])) a) ≡ true
    → agrees (until_reply a (reply_among (until_reply a later [])) a) (nothing_yet_of call) ≡ true
said call None later now after h = after refl h
said call (Some r) later now after h = now r refl h

abbrev Says_in : End → List Entry → Call → Type 0
Says_in d es call =
    (m : Reader) (s r : Unanswered) → call_under_way (by_end d s r) ≡ call → AcceptedFrom m s r es
    → is_nothing_yet (reply_among (to_reply d es)) ≡ true
    → agrees (reply_among (to_reply d es)) (nothing_yet_of call) ≡ true

same_call : (d : End) (a : Option Reply) (left : Unanswered) → a ≡ None
    → call_under_way (left_after d d a left) ≡ call_under_way left
same_call Sender a left none = rw none refl
same_call Receiver a left none = rw none refl

pub answer_says : (d : End) (e : Made) (es : List Entry) (call : Call) → kind call ≡ Receives → Says_in d es call
    → (m : Reader) (s r : Unanswered) → call_under_way (by_end d s r) ≡ call → Goes_on d e es m s r
    → is_nothing_yet (answer_from e (to_reply d es)) ≡ true
    → agrees (answer_from e (to_reply d es)) (nothing_yet_of call) ≡ true
answer_says Sender e es call is later m s r under go =
    said call e.reply (to_reply Sender es)
    (λ reply at says. says_now (kind call) call e m.object m.sender reply
    is at (rw under at (and_right
    (has_reply (hits (kind (call_under_way s)) e m.sender) (due (call_under_way s) m.object)) _ go.0)) says)
    (λ none says. later (reads Sender (call_under_way s) e m) _ _ (same_call Sender e.reply s none ∙ under) go.1 says)
answer_says Receiver e es call is later m s r under go =
    said call e.reply (to_reply Receiver es)
    (λ reply at says. says_now (kind call) call e m.object m.receiver reply
    is at (rw under at (and_right
    (has_reply (hits (kind (call_under_way r)) e m.receiver) (due (call_under_way r) m.object)) _ go.0)) says)
    (λ none says. later (reads Receiver (call_under_way r) e m) _ _ (same_call Receiver e.reply r none ∙ under) go.1
    says)

says_at : (a d : End) (e : Made) (es : List Entry) (call : Call) → kind call ≡ Receives → Says_in d es call
    → (m : Reader) (s r : Unanswered) → call_under_way (by_end d s r) ≡ call → Goes_on a e es m s r
    → is_nothing_yet (reply_among
    (elim (is_same_end a d) as (λ _. List Made)
    [ true ↦ e ∷ until_reply e.reply (to_reply d es) [] | false ↦ to_reply d es ])) ≡ true
    → agrees (reply_among (elim (is_same_end a d) as (λ _. List Made)
    [ true ↦ e ∷ until_reply e.reply (to_reply d es) [] | false ↦ to_reply d es ])) (nothing_yet_of call) ≡ true
says_at Sender Sender e es call is later m s r under go h = answer_says Sender e es call is later m s r under go h
says_at Receiver Receiver e es call is later m s r under go h = answer_says Receiver e es call is later m s r under go h
says_at Sender Receiver e es call is later m s r under go h =
    later (reads Sender (call_under_way s) e m) _ _ under go.1 h
says_at Receiver Sender e es call is later m s r under go h =
    later (reads Receiver (call_under_way r) e m) _ _ under go.1 h

pub says_in : (d : End) (es : List Entry) (call : Call) → kind call ≡ Receives → Says_in d es call
says_in d [] call is m s r under go h = cc
says_in d (Idle side ∷ es) call is m s r under go h = says_in d es call is m s r under go h
says_in d (Made_entry e ∷ es) call is m s r under go h =
    says_at e.side d e es call is (says_in d es call is) m s r under go h
