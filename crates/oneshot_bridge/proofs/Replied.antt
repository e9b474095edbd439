-- The calls that have replied in a trace that grows at its end, and those that its marks show.
use Rattle.std.proofs.Common.{if◌then◌else◌}
use Rattle.oneshot_bridge.proofs.Names.{◌≡◌, ℕ, ◌+◌, Bool, true, false, List, [], ◌∷◌, ◌++◌, Option, Some, None, refl, sym, ap, ◌∙◌, append_assoc, append-nil, cons_option, option_map, End, Receiver}
use Rattle.oneshot_bridge.proofs.Names.{Reply, Unanswered, left_by, calls_of, by_end, ReceiverScript, SenderScript, Entry, Made, is_same_end, Reading, read_by, call_under_way, marks, marks_from}
use Rattle.oneshot_bridge.proofs.Names.{until_reply, to_reply, mark_at, object_then, sender_reading, receiver_reading, Object, new_object, answered_by, Answered, answers_with, opening_sender}
use Rattle.oneshot_bridge.proofs.Names.{opening_receiver}
use Rattle.oneshot_machine.specs.declared.machine.End.TheVariants.{Sender}
use Rattle.oneshot_world.specs.declared.trace.Entry.TheVariants.{Idle, Made as Made_entry}

-- the calls that reply from here on, of an end that has these left
abbrev pub replied_by : End → Unanswered → List Entry → List Answered
replied_by end left [] = []
replied_by end left (Idle side ∷ entries) = replied_by end left entries
replied_by end left (Made_entry e ∷ entries) =
    if is_same_end e.side end then answers_with left e.reply ++ replied_by end (left_by end e.reply left) entries
    else replied_by end left entries

-- one more entry: of this end, with the call that replies, or of the other
module _ (end : End) (entry : Entry) (entries : List Entry) where
  pub replies_more : (from left next : Unanswered) (replies answers : List Answered)
      → ((more : List Entry) → replied_by end from (entries ++ more) ≡ replies ++ replied_by end left more)
      → ((more : List Entry) → replied_by end left (entry ∷ more) ≡ answers ++ replied_by end next more)
      → (more : List Entry)
      → replied_by end from ((entries ++ entry ∷ []) ++ more) ≡ (replies ++ answers) ++ replied_by end next more
  replies_more from left next replies answers before last more =
      ap (replied_by end from) (append_assoc entries (entry ∷ []) more) ∙ before (entry ∷ more)
      ∙ ap (λ l. replies ++ l) (last more) ∙ sym (append_assoc replies answers (replied_by end next more))

  pub replies_same : (from left : Unanswered) (replies : List Answered)
      → ((more : List Entry) → replied_by end from (entries ++ more) ≡ replies ++ replied_by end left more)
      → ((more : List Entry) → replied_by end left (entry ∷ more) ≡ replied_by end left more) → (more : List Entry)
      → replied_by end from ((entries ++ entry ∷ []) ++ more) ≡ replies ++ replied_by end left more
  replies_same from left replies before last more =
      ap (replied_by end from) (append_assoc entries (entry ∷ []) more) ∙ before (entry ∷ more)
      ∙ ap (λ l. replies ++ l) (last more)

-- what an end has left after these entries, and the calls that reply from there on
abbrev pub left_all : End → Unanswered → List Entry → Unanswered
left_all end left [] = left
left_all end left (Idle side ∷ entries) = left_all end left entries
left_all end left (Made_entry e ∷ entries) =
    if is_same_end e.side end then left_all end (left_by end e.reply left) entries else left_all end left entries

either_more : {X : Type 0} (f : X → List Answered) (b : Bool) (own xs ys us vs : List Answered) (m n : X)
    → xs ≡ ys ++ f m → us ≡ vs ++ f n
    → (if b then own ++ xs else us) ≡ (if b then own ++ ys else vs) ++ f (if b then m else n)
either_more f true own xs ys us vs m n later skipped = ap (λ l. own ++ l) later ∙ sym (append_assoc own ys (f m))
either_more f false own xs ys us vs m n later skipped = skipped

pub replied_more : (end : End) (left : Unanswered) (entries more : List Entry)
    → replied_by end left (entries ++ more)
    ≡ replied_by end left entries ++ replied_by end (left_all end left entries) more
replied_more end left [] more = refl
replied_more end left (Idle side ∷ entries) more = replied_more end left entries more
replied_more end left (Made_entry e ∷ entries) more =
    either_more (λ left. replied_by end left more) (is_same_end e.side end) (answers_with left e.reply) _ _ _ _
    (left_all end (left_by end e.reply left) entries) (left_all end left entries)
    (replied_more end (left_by end e.reply left) entries more) (replied_more end left entries more)

-- the marks of these entries show the same
abbrev Shown : End → List Entry → Type 0
Shown end entries =
    (s r : Reading) (n : ℕ) (o : Object)
    → answered_by end (marks_from s r n o entries) ≡ replied_by end (by_end end s r).left entries

answers_shown : (left : Unanswered) (reply : Option Reply) (xs ys : List Answered) → xs ≡ ys
    → cons_option (option_map (λ reply. (call_under_way left, reply)) reply) xs ≡ answers_with left reply ++ ys
answers_shown left None xs ys same = same
answers_shown left (Some reply) xs ys same = ap (λ l. (call_under_way left, reply) ∷ l) same

made_shown : (side end : End) (e : Made) (entries : List Entry) → Shown end entries
    → (s r : Reading) (n : ℕ) (o : Object)
    → cons_option
    (if is_same_end side end then option_map (λ reply. (call_under_way (by_end side s r).left, reply)) e.reply
    else None)
    (answered_by end (marks_from (by_end side (read_by side s e) s) (by_end side r (read_by side r e)) n o entries))
    ≡ (if is_same_end side end
    then answers_with (by_end end s r).left e.reply
    ++ replied_by end (left_by end e.reply (by_end end s r).left) entries
    else replied_by end (by_end end s r).left entries)
made_shown Sender Sender e entries shown s r n o =
    answers_shown s.left e.reply _ _ (shown (read_by Sender s e) r n o)
made_shown Receiver Receiver e entries shown s r n o =
    answers_shown r.left e.reply _ _ (shown s (read_by Receiver r e) n o)
made_shown Sender Receiver e entries shown s r n o = shown (read_by Sender s e) r n o
made_shown Receiver Sender e entries shown s r n o = shown s (read_by Receiver r e) n o

shows : (end : End) (entries : List Entry) → Shown end entries
shows end [] s r n o = refl
shows end (Idle side ∷ entries) s r n o = shows end entries s r (n + 1) o
shows end (Made_entry e ∷ entries) s r n o =
    made_shown e.side end e entries (shows end entries) s r (n + 1)
    (object_then (mark_at n o (by_end e.side s r) e (until_reply e.reply (to_reply e.side entries) [])))

-- the same for a whole trace
module _ {T : Type 0} (a : SenderScript T) (b : ReceiverScript) (entries : List Entry) where
  pub shown : (end : End) → answered_by end (marks (calls_of a b) entries)
      ≡ replied_by end (by_end end (opening_sender a).1 (opening_receiver b).1) entries
  shown Sender = shows Sender entries (sender_reading (calls_of a b)) (receiver_reading (calls_of a b)) 1 new_object
  shown Receiver = shows Receiver entries (sender_reading (calls_of a b)) (receiver_reading (calls_of a b)) 1 new_object

  pub replied_in : (end : End) (left : Unanswered) (replies : List Answered)
      → ((more : List Entry)
      → replied_by end (by_end end (opening_sender a).1 (opening_receiver b).1) (entries ++ more)
      ≡ replies ++ replied_by end left more)
      → answered_by end (marks (calls_of a b) entries) ≡ replies
  replied_in end left replies is_run =
      shown end
      ∙ ap (replied_by end (by_end end (opening_sender a).1 (opening_receiver b).1)) (sym (append-nil entries))
      ∙ is_run [] ∙ append-nil replies
