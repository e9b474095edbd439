-- The message is always in one place: it begins as not sent, makes only allowed moves, and ends with somebody
-- once all have ended.
use Rattle.oneshot_laws.proofs.Names.{◌≡◌, ℕ, zero, suc, ◌+◌, Bool, true, false, ◌&&◌, ◌||◌, List, [], ◌∷◌, ◌++◌, Option, Some, None, is_some, map, replicate, refl, sym, ◌∙◌, ap, subst, list_any}
use Rattle.oneshot_laws.proofs.Names.{filter_map, cons_option, Call, Of_sender, calls_of, sender_last, Classes, World, IsRun, opening, opening_place, Move, ReceiverScript, SenderLast, SenderScript}
use Rattle.oneshot_laws.proofs.Names.{Entry, Place, NotSent, both, only_if, Object, is_send, Reading, Mark, marks, marks_from, all_ended, is_path, last_place, is_same_place, is_message_move}
use Rattle.oneshot_laws.proofs.Names.{message_goes_to, message_moves, is_message_followed, last_message_place, is_message_end, is_message_ended}
use Rattle.oneshot_machine.specs.declared.machine.sender.SenderCall.TheVariants as SC
use Rattle.oneshot_world.specs.declared.script.SenderLast.TheVariants as SL
use Rattle.oneshot_world.specs.declared.trace.Entry.TheVariants.{Idle, Made as Made_entry}
use Rattle.oneshot_laws.proofs.Coding.{pairs, by_parts, or_none, flags, places}
use Rattle.oneshot_laws.proofs.EndedRuns.{Ending, EndingNameless, kept, own_after, nothing_asked, at_the_end, or_more, or_false}
use Rattle.oneshot_laws.proofs.PastLaws.{Law, Passes, Nameless, as_past, of_call, Passed, passes_run}
use Rattle.oneshot_laws.proofs.PastViews.{PastView, past_of}
use Rattle.oneshot_laws.proofs.Product.{no_names}

-- the moves that marks show
abbrev moves_of : List Mark → List (Place × Place)
moves_of ms = filter_map (λ m. m.entry.message) ms

moves_shown : (es : List Entry) (s r : Reading) (n : ℕ) (o : Object)
    → message_moves es ≡ moves_of (marks_from s r n o es)
moves_shown [] s r n o = refl
moves_shown (Idle side ∷ es) s r n o = moves_shown es s r (n + 1) o
moves_shown (Made_entry e ∷ es) s r n o = ap (cons_option e.message) (moves_shown es _ _ _ _)

-- a message moves from its place, and without a message nothing moves
abbrev may_go : Option Place → Option (Place × Place) → Bool
may_go place None = true
may_go None (Some move) = false
may_go (Some place) (Some move) = is_same_place move.0 place && is_message_move move.0 move.1

abbrev moves_rightly : Option Place → PastView → Bool
moves_rightly place g = may_go place g.entry.message

abbrev place_then : Option Place → PastView → Option Place
place_then None g = None
place_then (Some place) g = Some (message_goes_to place g.entry.message)

abbrev pub path_law : Law (Option Place)
path_law =
    record {
      coding = or_none places;
      passes = moves_rightly;
      sees = place_then;
      names = no_names;
      first = λ place.
          place;
    }

abbrev or_not_sent : Option Place → Place
or_not_sent None = NotSent
or_not_sent (Some place) = place

abbrev IsPath : Bool → Place → List (Place × Place) → Type 0
IsPath has place moves = is_path is_same_place (λ from to. has && is_message_move from to) place moves ≡ true

no_move : (x : Option (Place × Place)) (later : List (Place × Place)) → may_go None x ≡ true
    → IsPath false NotSent later → IsPath false NotSent (cons_option x later)
no_move None later h k = k
no_move (Some move) later h k = cc

one_move : (x : Option (Place × Place)) (place : Place) (later : List (Place × Place)) → may_go (Some place) x ≡ true
    → IsPath true (message_goes_to place x) later → IsPath true place (cons_option x later)
one_move None place later h k = k
one_move (Some move) place later h k = both _ _ h k

path_of_marks : (ms : List Mark) (place : Option Place) → Passes path_law place (map past_of ms)
    → IsPath (is_some place) (or_not_sent place) (moves_of ms)
path_of_marks [] place p = refl
path_of_marks (m ∷ ms) None p = no_move m.entry.message (moves_of ms) p.0 (path_of_marks ms None p.1)
path_of_marks (m ∷ ms) (Some place) p = one_move m.entry.message place (moves_of ms) p.0 (path_of_marks ms _ p.1)

-- whether the scripts have a message
sends_after_looks : (n : ℕ) (calls : List Call)
    → list_any is_send (replicate n (Of_sender SC.IsClosed) ++ calls) ≡ list_any is_send calls
sends_after_looks zero calls = refl
sends_after_looks (suc n) calls = sends_after_looks n calls

has_it : {T : Type 0} (last : SenderLast T) → is_some (opening_place last) ≡ list_any is_send (sender_last last)
has_it (SL.Send message error) = refl
has_it SL.Drop = refl
has_it SL.Stop = refl

begins_there : {T : Type 0} (last : SenderLast T) → or_not_sent (opening_place last) ≡ NotSent
begins_there (SL.Send message error) = refl
begins_there SL.Drop = refl
begins_there SL.Stop = refl

place_as : (k : Classes) (place : Option Place) (g : PastView) → place_then place (as_past k g) ≡ place_then place g
place_as k None g = refl
place_as k (Some place) g = refl

path_nameless : Nameless path_law
path_nameless = record { none = refl; passes_same = λ k place g. refl; sees_same = place_as }

pub message_followed : {T : Type 0} → Passed path_law T
    → (s : SenderScript T) (r : ReceiverScript) (worlds : List World) (moves : List Move) (entries : List Entry)
    → IsRun (opening s r) worlds moves entries → is_message_followed (calls_of s r) entries ≡ true
message_followed each s r worlds moves entries is_run =
    let at_marks = path_of_marks (marks (calls_of s r) entries) (opening_place s.last)
    (passes_run path_law path_nameless each s r worlds moves entries is_run) in
    let at_entries : IsPath (is_some (opening_place s.last)) (or_not_sent (opening_place s.last))
    (message_moves entries) =
    subst (IsPath _ _) (sym (moves_shown entries _ _ 1 _)) at_marks in
    let from_start : IsPath (is_some (opening_place s.last)) NotSent (message_moves entries) =
    subst (λ place. IsPath (is_some (opening_place s.last)) place (message_moves entries)) (begins_there s.last)
    at_entries in
    subst (λ has. IsPath has NotSent (message_moves entries))
    (has_it s.last ∙ sym (sends_after_looks s.looks (sender_last s.last))) from_start

-- whether a send has begun, and where the message is
pub record Sending : Type 0 where
  pub begun : Bool
  pub place : Place

abbrev sending_then : Sending → PastView → Sending
sending_then x g = record { begun = x.begun || is_send g.call; place = message_goes_to x.place g.entry.message }

abbrev not_sent_yet : Sending
not_sent_yet = record { begun = false; place = NotSent }

abbrev pub sending_ending : Ending Sending
sending_ending =
    record {
      coding =
          by_parts (λ x. (x.begun, x.place)) (λ p. record { begun = p.0; place = p.1 }) (λ x. refl)
          (pairs flags places);
      own_then = sending_then;
      asks = nothing_asked;
      good = λ x. only_if x.begun (is_message_end x.place);
      names = no_names;
      first = λ place. not_sent_yet;
    }

begun_after : (ms : List Mark) (x : Sending)
    → (own_after sending_then x (map past_of ms)).begun ≡ (x.begun || list_any (λ m. is_send m.call) ms)
begun_after [] x = sym (or_false x.begun)
begun_after (m ∷ ms) x =
    begun_after ms (sending_then x (past_of m))
    ∙ sym (or_more x.begun (is_send m.call) (list_any (λ m. is_send m.call) ms))

last_after : (x : Option (Place × Place)) (place : Place) (later : List (Place × Place))
    → last_place (message_goes_to place x) later ≡ last_place place (cons_option x later)
last_after None place later = refl
last_after (Some move) place later = refl

place_after : (ms : List Mark) (x : Sending)
    → (own_after sending_then x (map past_of ms)).place ≡ last_place x.place (moves_of ms)
place_after [] x = refl
place_after (m ∷ ms) x =
    place_after ms (sending_then x (past_of m)) ∙ last_after m.entry.message x.place (moves_of ms)

sending_nameless : EndingNameless sending_ending
sending_nameless =
    record {
      none = refl;
      own_same = λ k x g. of_call k (λ call. sending_then x (record g { call = call })) (λ a b. refl) g.call;
    }

if_both : (a b c : Bool) → only_if a (only_if b c) ≡ true → only_if (a && b) c ≡ true
if_both true b c h = h
if_both false b c h = refl

pub message_ended : {T : Type 0} → Passed (kept sending_ending) T
    → (s : SenderScript T) (r : ReceiverScript) (worlds : List World) (moves : List Move) (entries : List Entry)
    → IsRun (opening s r) worlds moves entries → is_message_ended entries (marks (calls_of s r) entries) ≡ true
message_ended each s r worlds moves entries is_run =
    let last =
    place_after (marks (calls_of s r) entries) not_sent_yet
    ∙ sym (ap (last_place NotSent) (moves_shown entries _ _ 1 _)) in
    if_both (all_ended (marks (calls_of s r) entries)) (list_any (λ m. is_send m.call) (marks (calls_of s r) entries))
    (is_message_end (last_message_place entries))
    (subst (λ begun. only_if (all_ended (marks (calls_of s r) entries))
    (only_if begun (is_message_end (last_message_place entries))) ≡ true)
    (begun_after (marks (calls_of s r) entries) not_sent_yet)
    (subst (λ place. only_if (all_ended (marks (calls_of s r) entries))
    (only_if (own_after sending_then not_sent_yet (map past_of (marks (calls_of s r) entries))).begun
    (is_message_end place)) ≡ true) last
    (at_the_end sending_ending sending_nameless each s r worlds moves entries is_run)))
