-- A trace that the reader accepts has a legal history, whatever made it: this file has no table and no world.
use Rattle.oneshot_laws.proofs.Names.{◌≡◌, ℕ, ◌+◌, Bool, true, false, not, ◌&&◌, ◌||◌, List, [], ◌∷◌, ◌++◌, map, Option, Some, None, is_some, refl, sym, ◌∙◌, ap, subst, if◌then◌else◌, list_all, End}
use Rattle.oneshot_laws.proofs.Names.{Sender, Receiver, Reply, Call, Of_sender, Of_receiver, Poll, Stray, Unanswered, is_none_left, left_by, by_end, Entry, Made, and_left, and_right, both, only_if}
use Rattle.oneshot_laws.proofs.Names.{Object, nothing_yet_of, fixed_reply_of, is_stray, is_end_of_sender, is_end_of_receiver, rule, works_on_word, until_reply, to_reply, Reading, read_by, Mark}
use Rattle.oneshot_laws.proofs.Names.{mark_at, marks_from, call_under_way, object_then, ends, agrees, object_reply, is_object_step, is_legal, is_complete, is_right_outside, is_covered, history}
use Rattle.oneshot_laws.proofs.Names.{has_legal_history, acts_last}
use Rattle.oneshot_machine.specs.declared.machine.receiver.ReceiverStart.TheVariants as RC
use Rattle.oneshot_machine.specs.declared.machine.sender.SenderCall.TheVariants as SC
use Rattle.oneshot_world.specs.declared.trace.Entry.TheVariants.{Idle, Made as Made_entry}
use Rattle.oneshot_laws.proofs.PastViews.{PastView, past_of, past_at, pasts}
use Rattle.oneshot_laws.proofs.HistoryReader.{kind, Watch, Reader, due, hit, hits, owes_then, object_by, watch_at, has_reply, accepts_call, reads}
use Rattle.oneshot_laws.proofs.HistoryOwed.{AcceptedFrom, Goes_on, answer_from, answer_pays, pays_in, answer_says, says_in}
use Rattle.oneshot_laws.proofs.Product.{left_after}
use Rattle.oneshot_laws.proofs.HistoryEntries.{any_more, owed_is, FollowsAt, EntryRight}
use Rattle.oneshot_laws.proofs.HistoryCalls.{local_right}

not_stray : (call : Call) (e : Made) (o : Object) (x : Watch) → accepts_call call e o x ≡ true
    → not (is_stray call) ≡ true
not_stray Stray e o x h = cc
not_stray _ e o x h = refl

answers_as_ever : (call : Call) (e : Made) (o : Object) (x : Watch) → accepts_call call e o x ≡ true
    → only_if (not (is_object_step call) && not (is_stray call)) (agrees e.reply (fixed_reply_of call)) ≡ true
answers_as_ever (Of_sender SC.AsInner) e o x h = and_right (not (is_some x.owes)) _ h
answers_as_ever (Of_sender SC.IntoInner) e o x h = and_right (not (is_some x.owes)) _ h
answers_as_ever (Of_sender SC.DropError) e o x h = and_right (not (is_some x.owes)) _ h
answers_as_ever (Of_receiver RC.IntoFuture) e o x h = and_right (not (is_some x.owes)) _ h
answers_as_ever Stray e o x h = cc
answers_as_ever _ e o x h = refl

-- the reading and the reader advance together
more_than_none : {X : Type 0} (xs : List X) (x : X) → is_none_left (xs ++ x ∷ []) ≡ false
more_than_none [] x = refl
more_than_none (y ∷ xs) x = refl

follows_on : (call next : Call) (x : Watch) (earlier : List Made) (e : Made) (o : Object) (a : Option Reply)
    → FollowsAt call x earlier → has_reply (hits (kind call) e x) (due call o) ≡ true → (a ≡ None → next ≡ call)
    → FollowsAt next
    (record {
      begun = until_reply a true false;
      owes = until_reply a (owes_then call e o x) None;
      worked = until_reply a
          (x.worked || works_on_word e) false;
    }) (until_reply a (earlier ++ e ∷ []) [])
follows_on call next x earlier e o None f has same =
    subst (λ c. FollowsAt c (record { begun = true; owes = owes_then call e o x; worked = x.worked || works_on_word e })
    (earlier ++ e ∷ [])) (sym (same refl))
    (record {
      begun = more_than_none earlier e;
      acted = any_more (hit (kind call)) earlier e ∙ ap (λ b. b || hit (kind call) e) f.acted
          ∙ sym (owed_is (hit (kind call) e) x.owes (due call o) has);
      worked = any_more works_on_word earlier e ∙ ap (λ b. b || works_on_word e) f.worked;
    })
follows_on call next x earlier e o (Some r) f has same = record { begun = refl; acted = refl; worked = refl }

pub record Follows (m : Reader) (s r : Reading) : Type 0 where
  pub sender : FollowsAt (call_under_way s.left) m.sender s.earlier
  pub receiver : FollowsAt (call_under_way r.left) m.receiver r.earlier

-- what is claimed of each mark
pub record MarkRight (m : Mark) : Type 0 where
  pub legal : only_if m.acting (agrees m.answer (object_reply m)) ≡ true
  pub complete : only_if (ends m && is_object_step m.call) m.acted ≡ true
  pub outside : only_if (not (is_object_step m.call) && not (is_stray m.call))
      (agrees m.entry.reply (fixed_reply_of m.call)) ≡ true
  pub covered : not (is_stray m.call) ≡ true

abbrev pub AllRight : List Mark → Type 0
AllRight [] = Unit {0}
AllRight (m ∷ ms) = MarkRight m × AllRight ms

-- a call that ends its end has no reply for "nothing yet"
no_word : (call : Call) → (is_end_of_sender call || is_end_of_receiver call) ≡ true → nothing_yet_of call ≡ None
no_word (Of_receiver RC.TryRecv) h = cc
no_word (Of_receiver RC.RecvDeadline) h = cc
no_word (Of_receiver (RC.RecvTimeout true)) h = cc
no_word (Poll number) h = cc
no_word (Of_receiver RC.AsyncTryRecv) h = cc
no_word _ h = refl

both_false : (a b : Bool) → (a && false) ≡ (b && false)
both_false true true = refl
both_false true false = refl
both_false false true = refl
both_false false false = refl

same_last : (call : Call) (acting hitting : Bool) → (nothing_yet_of call ≡ None → acting ≡ hitting)
    → (acting && (is_end_of_sender call || is_end_of_receiver call))
    ≡ (hitting && (is_end_of_sender call || is_end_of_receiver call))
same_last call acting hitting same =
    elim (is_end_of_sender call || is_end_of_receiver call) as
    (λ b. (is_end_of_sender call || is_end_of_receiver call) ≡ b → (acting && b) ≡ (hitting && b)) [
      | true ↦ λ h. ap (λ a. a && true) (same (no_word call h))
      | false ↦ λ h. both_false acting hitting
    ] refl

past_with : Made → Call → Bool → Bool → Object → Object → PastView
past_with e call begins last o next =
    record { entry = e; call = call; begins = begins; last = last; object = o; next = next }

abbrev Claim : List Entry → Type 0
Claim es =
    (m : Reader) (s r : Reading) (n : ℕ) → Follows m s r → AcceptedFrom m s.left r.left es
    → AllRight (marks_from s r n m.object es)
    × (map past_of (marks_from s r n m.object es) ≡ pasts m s.left r.left es)

abbrev pub MarksRight : List Mark → List PastView → Type 0
MarksRight ms gs = AllRight ms × (map past_of ms ≡ gs)

mark_right : (n : ℕ) (o : Object) (at : Reading) (x : Watch) (e : Made) (later : List Made)
    → FollowsAt (call_under_way at.left) x at.earlier
    → EntryRight (rule (call_under_way at.left) (answer_from e later)) (call_under_way at.left) o
    (object_by (call_under_way at.left) e o x) (hits (kind (call_under_way at.left)) e x) (answer_from e later) e.reply
    at.earlier e (until_reply e.reply later []) → accepts_call (call_under_way at.left) e o x ≡ true
    → MarkRight (mark_at n o at e (until_reply e.reply later []))
    × (past_of (mark_at n o at e (until_reply e.reply later [])) ≡ past_at (call_under_way at.left) e o x)
unfolding past_with
mark_right n o at x e later f right ok =
    let call : Call = call_under_way at.left in
    let last = same_last call _ (hits (kind call) e x) right.acts in (
      record {
        legal = right.legal;
        complete = right.complete;
        outside = answers_as_ever call e o x ok;
        covered =
            not_stray call e o x ok;
      },
      ap (λ begins. past_with e call begins (acts_last (mark_at n o at e (until_reply e.reply later []))) o
          (object_then (mark_at n o at e (until_reply e.reply later [])))) f.begun
          ∙ ap (λ last. past_with e call (not x.begun) last o
          (object_then (mark_at n o at e (until_reply e.reply later [])))) last
          ∙ ap (λ next. past_with e call (not x.begun)
          (hits (kind call) e x && (is_end_of_sender call || is_end_of_receiver call)) o next) right.object,
    )

same_left : (left : Unanswered) (d : End) (a : Option Reply) → a ≡ None
    → call_under_way (left_by d a left) ≡ call_under_way left
same_left left d a none = rw none refl

-- a mark, and the marks after it
with_later : (m : Mark) (ms : List Mark) (g : PastView) (gs : List PastView) → MarkRight m × (past_of m ≡ g)
    → MarksRight ms gs → MarksRight (m ∷ ms) (g ∷ gs)
with_later m ms g gs now later = ((now.0, later.0), ap (λ g. g ∷ map past_of ms) now.1 ∙ ap (λ gs. g ∷ gs) later.1)

legal_at : (d : End) (e : Made) (es : List Entry) → Claim es → (m : Reader) (s r : Reading) (n : ℕ) → Follows m s r
    → Goes_on d e es m s.left r.left
    → MarksRight (mark_at n m.object (by_end d s r) e (until_reply e.reply (to_reply d es) []) ∷ marks_from
    (by_end d (read_by d s e) s) (by_end d r (read_by d r e)) (n + 1)
    (object_then (mark_at n m.object (by_end d s r) e (until_reply e.reply (to_reply d es) []))) es)
    (past_at (call_under_way (by_end d s.left r.left)) e m.object (watch_at d m)
    ∷ pasts (reads d (call_under_way (by_end d s.left r.left)) e m) (left_after d Sender e.reply s.left)
    (left_after d Receiver e.reply r.left) es)
legal_at Sender e es later m s r n f go =
    let call : Call = call_under_way s.left in
    let right = local_right call m.object m.sender s.earlier e (to_reply Sender es) f.sender go.0
    (λ y h. answer_pays Sender e es y (pays_in Sender es y) m s.left r.left h go)
    (λ is h. answer_says Sender e es call is (says_in Sender es call is) m s.left r.left refl go h) in
    with_later _ _ _ _
    (mark_right n m.object s m.sender e (to_reply Sender es) f.sender right go.0)
    (subst (λ o. MarksRight (marks_from (read_by Sender s e) r (n + 1) o es)
    (pasts (reads Sender call e m) (left_by Sender e.reply s.left) r.left es)) (sym right.object)
    (later (reads Sender call e m) (read_by Sender s e) r (n + 1)
    (record {
      sender = follows_on call (call_under_way (left_by Sender e.reply s.left)) m.sender s.earlier e m.object e.reply
          f.sender (and_left _ _ go.0) (same_left s.left Sender e.reply);
      receiver = f.receiver;
    })
    go.1))
legal_at Receiver e es later m s r n f go =
    let call : Call = call_under_way r.left in
    let right = local_right call m.object m.receiver r.earlier e (to_reply Receiver es) f.receiver go.0
    (λ y h. answer_pays Receiver e es y (pays_in Receiver es y) m s.left r.left h go)
    (λ is h. answer_says Receiver e es call is (says_in Receiver es call is) m s.left r.left refl go h) in
    with_later _ _ _ _
    (mark_right n m.object r m.receiver e (to_reply Receiver es) f.receiver right go.0)
    (subst (λ o. MarksRight (marks_from s (read_by Receiver r e) (n + 1) o es)
    (pasts (reads Receiver call e m) s.left (left_by Receiver e.reply r.left) es)) (sym right.object)
    (later (reads Receiver call e m) s (read_by Receiver r e) (n + 1)
    (record {
      sender = f.sender;
      receiver =
          follows_on call (call_under_way (left_by Receiver e.reply r.left)) m.receiver r.earlier e m.object e.reply
          f.receiver (and_left _ _ go.0) (same_left r.left Receiver e.reply);
    })
    go.1))

pub all_right : (es : List Entry) → Claim es
all_right [] m s r n f a = (tt, refl)
all_right (Idle side ∷ es) m s r n f a = all_right es m s r (n + 1) f a
all_right (Made_entry e ∷ es) m s r n f a = legal_at e.side e es (all_right es) m s r n f a

-- the definition, from the claims on its marks
legal_of : (ms : List Mark) → AllRight ms → is_legal ms ≡ true
legal_of [] right = refl
legal_of (m ∷ ms) right =
    elim m.acting as (λ b. only_if b (agrees m.answer (object_reply m)) ≡ true → list_all
    (λ m. agrees m.answer (object_reply m)) (if b then m ∷ history ms else history ms) ≡ true) [
      | true ↦ λ h. both _ _ h (legal_of ms right.1)
      | false ↦ λ h. legal_of ms right.1
    ] right.0.legal

complete_of : (ms : List Mark) → AllRight ms → is_complete ms ≡ true
complete_of [] right = refl
complete_of (m ∷ ms) right = both _ _ right.0.complete (complete_of ms right.1)

outside_of : (ms : List Mark) → AllRight ms → is_right_outside ms ≡ true
outside_of [] right = refl
outside_of (m ∷ ms) right = both _ _ right.0.outside (outside_of ms right.1)

covered_of : (ms : List Mark) → AllRight ms → is_covered ms ≡ true
covered_of [] right = refl
covered_of (m ∷ ms) right = both _ _ right.0.covered (covered_of ms right.1)

pub legal : (ms : List Mark) → AllRight ms → has_legal_history ms ≡ true
legal ms right =
    both _ _ (both _ _ (both _ _ (legal_of ms right) (complete_of ms right)) (outside_of ms right))
    (covered_of ms right)
