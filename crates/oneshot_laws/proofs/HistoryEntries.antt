-- What the definition states of one entry that the reader accepts, without table and world.
use Rattle.oneshot_laws.proofs.Names.{◌≡◌, Bool, true, false, not, ◌&&◌, ◌||◌, List, [], ◌∷◌, ◌++◌, Option, Some, None, is_some, refl, sym, ◌∙◌, ap, subst, list_any, Reply, Call, Of_receiver, Poll}
use Rattle.oneshot_laws.proofs.Names.{is_none_left, Made, and_left, and_right, only_if, says_nothing_yet, is_nothing_yet, Object, Content, Open, Full, Closed, Take, is_open_content, object_after}
use Rattle.oneshot_laws.proofs.Names.{action_of, nothing_yet_of, reply_on, stepped, Rule, First, Last, acts, has_acted, receive_rule, works_on_word, finds_full_or_closed, agrees, is_object_step}
use Rattle.oneshot_machine.specs.declared.machine.receiver.ReceiverStart.TheVariants as RC
use Rattle.oneshot_laws.proofs.HistoryReader.{kind, Watch, due, hit, owed, object_if, may_say, pays_receive, may_owe, has_reply}
use Rattle.oneshot_laws.proofs.HistoryOwed.{fine_as, not_owed}

-- one more entry of a call
pub any_more : {X : Type 0} (test : X → Bool) (xs : List X) (x : X)
    → list_any test (xs ++ x ∷ []) ≡ (list_any test xs || test x)
any_more test [] x = elim (test x) as (λ b. (b || false) ≡ b) [ true ↦ refl | false ↦ refl ]
any_more test (y ∷ xs) x =
    elim (test y) as (λ b. (b || list_any test (xs ++ x ∷ [])) ≡ ((b || list_any test xs) || test x)) [
      | true ↦ refl
      | false ↦ any_more test xs x
    ]

pub owed_is : (now : Bool) (owes expected : Option Reply) → has_reply (now && not (is_some owes)) expected ≡ true
    → is_some (owed now owes expected) ≡ (is_some owes || now)
owed_is now (Some y) expected h = refl
owed_is true None expected h = h
owed_is false None expected h = refl

-- what a reading knows of a call under way
pub record FollowsAt (call : Call) (x : Watch) (earlier : List Made) : Type 0 where
  pub begun : is_none_left earlier ≡ not x.begun
  pub acted : list_any (hit (kind call)) earlier ≡ is_some x.owes
  pub worked : list_any works_on_word earlier ≡ x.worked

-- a claim for an entry at which the call acts
if_acts : (now : Bool) (owes expected answer : Option Reply) → has_reply (now && not (is_some owes)) expected ≡ true
    → ((y : Reply) → owed now owes expected ≡ Some y → agrees answer (Some y) ≡ true)
    → only_if (now && not (is_some owes)) (agrees answer expected) ≡ true
if_acts true None (Some y) answer h paid = paid y refl
if_acts true None None answer h paid = cc
if_acts true (Some z) expected answer h paid = refl
if_acts false owes expected answer h paid = refl

no_hit : (now : Bool) (owes expected : Option Reply) → has_reply (now && not (is_some owes)) expected ≡ true
    → owed now owes expected ≡ None → (now && not (is_some owes)) ≡ false
no_hit true None (Some y) h none = cc
no_hit true None None h none = cc
no_hit true (Some z) expected h none = cc
no_hit false owes expected h none = refl

stepped_if : (b : Bool) (call : Call) (o : Object)
    → (elim b as (λ _. Object) [ true ↦ stepped (action_of call) o | false ↦ o ]) ≡ object_if b call o
stepped_if true call o = refl
stepped_if false call o = refl

-- a receive with a reply for "nothing yet" is a take, and a take of nothing changes nothing
takes : (call : Call) (n : Reply) → nothing_yet_of call ≡ Some n → action_of call ≡ Some Take
takes (Of_receiver RC.TryRecv) n h = refl
takes (Of_receiver RC.RecvDeadline) n h = refl
takes (Of_receiver (RC.RecvTimeout true)) n h = refl
takes (Poll number) n h = refl
takes (Of_receiver RC.AsyncTryRecv) n h = refl
takes _ n h = cc

open_stays_at : (c : Content) (s r : Bool) → is_open_content c ≡ true
    → object_after Take (record { content = c; sender_here = s; receiver_here = r })
    ≡ record { content = c; sender_here = s; receiver_here = r }
open_stays_at Open s r h = refl
open_stays_at Full s r h = cc
open_stays_at Closed s r h = cc

open_stays : (o : Object) → is_open_content o.content ≡ true → object_after Take o ≡ o
open_stays o h = open_stays_at o.content o.sender_here o.receiver_here h

open_gives_at : (call : Call) (c : Content) (s r : Bool) → is_open_content c ≡ true
    → reply_on call (record { content = c; sender_here = s; receiver_here = r }) (Some Take) ≡ nothing_yet_of call
open_gives_at call Open s r h = refl
open_gives_at call Full s r h = cc
open_gives_at call Closed s r h = cc

open_gives : (c : Call) (o : Object) → is_open_content o.content ≡ true → reply_on c o (Some Take) ≡ nothing_yet_of c
open_gives call o h = open_gives_at call o.content o.sender_here o.receiver_here h

-- What the definition states of a call's entry: its reply is the object's, the object changes as the
-- reader's, the call has acted when it replies, and a call without a reply for "nothing yet" acts where the
-- reader finds that it does.
pub record EntryRight (by : Rule) (call : Call) (o next : Object) (acting : Bool) (answer reply : Option Reply)
    (earlier : List Made) (e : Made) (later : List Made) : Type 0 where
  pub legal : only_if (acts by earlier e later) (agrees answer (due call o)) ≡ true
  pub object : (elim (acts by earlier e later) as (λ _. Object) [ true ↦ stepped (action_of call) o | false ↦ o ])
      ≡ next
  pub complete : only_if (is_some reply && is_object_step call) (has_acted by (earlier ++ e ∷ []) later) ≡ true
  pub acts : nothing_yet_of call ≡ None → acts by earlier e later ≡ acting

-- a call that acts at its first entry that passes a test
pub first_right : (test : Made → Bool) (call : Call) (o : Object) (owes answer reply : Option Reply)
    (earlier : List Made) (e : Made) (later : List Made) → list_any test earlier ≡ is_some owes
    → has_reply (test e && not (is_some owes)) (due call o) ≡ true
    → ((y : Reply) → owed (test e) owes (due call o) ≡ Some y → agrees answer (Some y) ≡ true)
    → (is_some reply ≡ true → is_some (owed (test e) owes (due call o)) ≡ true)
    → EntryRight (First test) call o (object_if (test e && not (is_some owes)) call o) (test e && not (is_some owes))
    answer reply earlier e later
first_right test call o owes answer reply earlier e later acted has paid answers =
    record {
      legal = rw acted (if_acts (test e) owes (due call o) answer has paid);
      object = rw acted (stepped_if (test e && not (is_some owes)) call o);
      complete =
          elim (is_some reply) as (λ b. (b ≡ true → is_some (owed (test e) owes (due call o)) ≡ true) → only_if
          (b && is_object_step call) (list_any test (earlier ++ e ∷ [])) ≡ true) [
            | true ↦ λ answers.
                let has_test : list_any test (earlier ++ e ∷ []) ≡ true =
                any_more test earlier e ∙ ap (λ b. b || test e) acted ∙ sym (owed_is (test e) owes (due call o) has)
                ∙ answers refl
                in rw has_test (elim (is_object_step call) as (λ b. only_if b true ≡ true)
                [ true ↦ refl | false ↦ refl ])
            | false ↦ λ answers. refl
          ] answers;
      acts = λ word. ap (λ b. test e && not b) acted;
    }

not_nothing : (answer : Option Reply) → is_nothing_yet answer ≡ false → receive_rule answer ≡ First finds_full_or_closed
not_nothing answer h = rw (h, receive_rule) refl

is_nothing : (answer : Option Reply) → is_nothing_yet answer ≡ true → receive_rule answer ≡ Last works_on_word
is_nothing answer h = rw (h, receive_rule) refl

own_word : (answer own : Option Reply) → is_nothing_yet answer ≡ true → agrees answer own ≡ true
    → (n : Reply) × (own ≡ Some n)
own_word None own h agree = absurd (cc h)
own_word (Some r) None h agree = absurd (cc agree)
own_word (Some r) (Some n) h agree = (n, refl)

says_if_free : (call : Call) (worked : Bool) (r : Reply) → pays_receive call worked None (Some r) ≡ true
    → says_nothing_yet r ≡ true
says_if_free call worked r h =
    elim (nothing_yet_of call) as (λ n. (may_say n r && worked) ≡ true → says_nothing_yet r ≡ true) [
      | None ↦ λ h. cc
      | Some n ↦ λ h. and_right _ (says_nothing_yet r) (and_left _ worked h)
    ] h

worked_if_free : (call : Call) (worked : Bool) (r : Reply) → pays_receive call worked None (Some r) ≡ true
    → worked ≡ true
worked_if_free call worked r h = and_right (may_say (nothing_yet_of call) r) worked h

implied : (b c : Bool) → c ≡ true → only_if b c ≡ true
implied true c h = h
implied false c h = refl

-- a receive that owes nothing replies only "nothing yet"
free_reply : {P : Type 0} (call : Call) (worked : Bool) (answer reply : Option Reply)
    → pays_receive call worked None reply ≡ true → is_nothing_yet answer ≡ false
    → ((r : Reply) → reply ≡ Some r → answer ≡ Some r) → is_some reply ≡ true → P
free_reply call worked answer None ok something replies h = absurd (cc h)
free_reply call worked answer (Some r) ok something replies h =
    let says : is_nothing_yet answer ≡ true = rw (replies r refl) (says_if_free call worked r ok) in absurd (cc)

-- the last operation of a receive that replies "nothing yet"
nothing_right : (call : Call) (o : Object) (answer reply : Option Reply) (worked : Bool) (earlier : List Made)
    (e : Made) (later : List Made) → list_any works_on_word earlier ≡ worked → is_nothing_yet answer ≡ true
    → agrees answer (nothing_yet_of call) ≡ true → pays_receive call (worked || works_on_word e) None reply ≡ true
    → may_owe (works_on_word e) o.content None ≡ true → (is_some reply ≡ true → later ≡ [])
    → EntryRight (Last works_on_word) call o o false answer reply earlier e later
nothing_right call o answer reply worked earlier e later did nothing own paid may ended =
    let word = own_word answer (nothing_yet_of call) nothing own in
    let taken : action_of call ≡ Some Take = takes call word.0 word.1 in
    let says : nothing_yet_of call ≡ Some word.0 = word.1 in
    record {
      legal =
          elim (works_on_word e) as (λ b. (not b || is_open_content o.content) ≡ true → only_if
          (b && not (list_any works_on_word later)) (agrees answer (due call o)) ≡ true) [
            | true ↦ λ opened. implied (not (list_any works_on_word later)) (agrees answer (due call o))
                (rw (taken, open_gives call o opened) own)
            | false ↦ λ opened. refl
          ] may;
      object =
          elim (works_on_word e) as (λ b. (not b || is_open_content o.content) ≡ true
          → (elim (b && not (list_any works_on_word later)) as (λ _. Object)
          [ true ↦ stepped (action_of call) o | false ↦ o ]) ≡ o) [
            | true ↦ λ opened.
                elim (not (list_any works_on_word later)) as
                (λ b. (elim b as (λ _. Object) [ true ↦ stepped (action_of call) o | false ↦ o ]) ≡ o) [
                  | true ↦ rw taken (open_stays o opened)
                  | false ↦ refl
                ]
            | false ↦ λ opened. refl
          ] may;
      complete =
          elim reply as (λ a. pays_receive call (worked || works_on_word e) None a ≡ true
          → (is_some a ≡ true → later ≡ []) → only_if (is_some a && is_object_step call)
          (list_any works_on_word (earlier ++ e ∷ []) && not (list_any works_on_word later)) ≡ true) [
            | None ↦ λ paid ended. refl
            | Some r ↦ λ paid ended.
                let has : list_any works_on_word (earlier ++ e ∷ []) ≡ true =
                any_more works_on_word earlier e ∙ ap (λ b. b || works_on_word e) did
                ∙ worked_if_free call (worked || works_on_word e) r paid
                in rw (ended refl, has) (implied (is_object_step call) true refl)
          ] paid ended;
      acts = λ none. absurd (cc);
    }

same_rule : (one other : Rule) (call : Call) (o next : Object) (acting : Bool) (answer reply : Option Reply)
    (earlier : List Made) (e : Made) (later : List Made) → one ≡ other
    → EntryRight one call o next acting answer reply earlier e later
    → EntryRight other call o next acting answer reply earlier e later
same_rule one other call o next acting answer reply earlier e later same right =
    subst (λ by. EntryRight by call o next acting answer reply earlier e later) same right

pub receive_right : (call : Call) (o : Object) (owes answer reply : Option Reply) (worked : Bool) (earlier : List Made)
    (e : Made) (later : List Made) → list_any finds_full_or_closed earlier ≡ is_some owes
    → list_any works_on_word earlier ≡ worked
    → has_reply (finds_full_or_closed e && not (is_some owes)) (due call o) ≡ true
    → ((y : Reply) → owed (finds_full_or_closed e) owes (due call o) ≡ Some y → agrees answer (Some y) ≡ true)
    → (is_nothing_yet answer ≡ true → agrees answer (nothing_yet_of call) ≡ true)
    → pays_receive call (worked || works_on_word e) (owed (finds_full_or_closed e) owes (due call o)) reply ≡ true
    → may_owe (works_on_word e) o.content (owed (finds_full_or_closed e) owes (due call o)) ≡ true
    → ((r : Reply) → reply ≡ Some r → answer ≡ Some r) → (is_some reply ≡ true → later ≡ [])
    → EntryRight (receive_rule answer) call o (object_if (finds_full_or_closed e && not (is_some owes)) call o)
    (finds_full_or_closed e && not (is_some owes)) answer reply earlier e later
receive_right call o owes answer reply worked earlier e later acted did has paid says ok may replies ended =
    elim (owed (finds_full_or_closed e) owes (due call o)) as
    (λ w. owed (finds_full_or_closed e) owes (due call o) ≡ w
    → pays_receive call (worked || works_on_word e) w reply ≡ true → may_owe (works_on_word e) o.content w ≡ true
    → EntryRight (receive_rule answer) call o (object_if (finds_full_or_closed e && not (is_some owes)) call o)
    (finds_full_or_closed e && not (is_some owes)) answer reply earlier e later) [
      | None ↦ λ none ok may.
          elim (is_nothing_yet answer) as
          (λ b. is_nothing_yet answer ≡ b → EntryRight (receive_rule answer) call o
          (object_if (finds_full_or_closed e && not (is_some owes)) call o)
          (finds_full_or_closed e && not (is_some owes)) answer reply earlier e later) [
            | true ↦ λ nothing.
                rw (no_hit (finds_full_or_closed e) owes (due call o) has none)
                (same_rule (Last works_on_word) (receive_rule answer) call o o false answer reply earlier e later
                (sym (is_nothing answer nothing))
                (nothing_right call o answer reply worked earlier e later did nothing (says nothing) ok may ended))
            | false ↦ λ something.
                same_rule (First finds_full_or_closed) (receive_rule answer) call o _ _ answer reply earlier e later
                (sym (not_nothing answer something))
                (first_right finds_full_or_closed call o owes answer reply earlier e later acted has paid
                (free_reply call (worked || works_on_word e) answer reply ok something replies))
          ] refl
      | Some y ↦ λ some ok may.
          same_rule (First finds_full_or_closed) (receive_rule answer) call o _ _ answer reply earlier e later
          (sym (not_nothing answer (not_owed y answer (fine_as (works_on_word e) o.content (Some y) may)
          (paid y some))))
          (first_right finds_full_or_closed call o owes answer reply earlier e later acted has paid (λ h. rw some refl))
    ] refl ok may
