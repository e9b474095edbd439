-- A call replies "nothing yet" only if the object was open at one of its entries.
use Rattle.oneshot_laws.proofs.Names.{◌≡◌, Bool, true, false, not, ◌&&◌, ◌||◌, List, [], ◌∷◌, Some, None, map, refl, list_any, End, Sender, Receiver, Reply, both, only_if, is_nothing_yet, is_same_end}
use Rattle.oneshot_laws.proofs.Names.{is_open_content, Mark, side, call_marks, until_reply, is_nothing_only_if_open}
use Rattle.oneshot_laws.proofs.Coding.{Coding, pairs, by_parts, flags}
use Rattle.oneshot_laws.proofs.PastLaws.{Law, Passes, Nameless, nameless_of, Passed, holds_by}
use Rattle.oneshot_laws.proofs.PastViews.{PastView, past_of}
use Rattle.oneshot_laws.proofs.Product.{no_names}
use Rattle.oneshot_laws.proofs.ProductRuns.{EachRun}

-- whether each end's call under way has met an open object
pub record Met : Type 0 where
  pub sender : Bool
  pub receiver : Bool

abbrev met_by : End → Met → Bool
met_by Sender met = met.sender
met_by Receiver met = met.receiver

-- what the call has met before an entry: nothing, if it begins there
abbrev before : Bool → Bool → Bool
before begins met = not begins && met

abbrev met_here : Met → PastView → Bool
met_here met g = before g.begins (met_by g.entry.side met) || is_open_content g.object.content

abbrev says_nothing_rightly : Met → PastView → Bool
says_nothing_rightly met g = only_if (is_nothing_yet g.entry.reply) (met_here met g)

abbrev met_at : End → Bool → Met → Met
met_at Sender here met = record { sender = here; receiver = met.receiver }
met_at Receiver here met = record { sender = met.sender; receiver = here }

abbrev met_then : Met → PastView → Met
met_then met g = met_at g.entry.side (met_here met g) met

abbrev mets : Coding Met
mets =
    by_parts (λ met. (met.sender, met.receiver)) (λ p. record { sender = p.0; receiver = p.1 }) (λ met. refl)
    (pairs flags flags)

abbrev nothing_met : Met
nothing_met = record { sender = false; receiver = false }

abbrev pub met_law : Law Met
met_law =
    record {
      coding = mets;
      passes = says_nothing_rightly;
      sees = met_then;
      names = no_names;
      first = λ place.
          nothing_met;
    }

-- a call's marks from here on, after what it has met
abbrev Claim : Bool → List Mark → Type 0
Claim met own =
    only_if (list_any (λ m. is_nothing_yet m.entry.reply) own)
    (met || list_any (λ m. is_open_content m.object.content) own)
    ≡ true

ends_here : (met opened : Bool) (r : Reply) → only_if (is_nothing_yet (Some r)) (met || opened) ≡ true
    → only_if (is_nothing_yet (Some r) || false) (met || (opened || false)) ≡ true
ends_here true opened r h =
    elim (is_nothing_yet (Some r)) as (λ b. only_if (b || false) true ≡ true) [ true ↦ refl | false ↦ refl ]
ends_here false true r h =
    elim (is_nothing_yet (Some r)) as (λ b. only_if (b || false) true ≡ true) [ true ↦ refl | false ↦ refl ]
ends_here false false r h =
    elim (is_nothing_yet (Some r)) as (λ b. only_if b false ≡ true → only_if (b || false) false ≡ true)
    [ true ↦ λ h. h | false ↦ λ h. h ] h

goes_on : (met opened nothing later : Bool) → only_if nothing ((met || opened) || later) ≡ true
    → only_if nothing (met || (opened || later)) ≡ true
goes_on true opened nothing later h = h
goes_on false opened nothing later h = h

-- the mark of a call, and the call's marks after it
own_mark : (met : Bool) (m : Mark) (later : List Mark)
    → only_if (is_nothing_yet m.entry.reply) (met || is_open_content m.object.content) ≡ true
    → Claim (met || is_open_content m.object.content) later → Claim met (m ∷ until_reply m.entry.reply later [])
own_mark met m later h k =
    elim m.entry.reply as (λ a. only_if (is_nothing_yet a) (met || is_open_content m.object.content) ≡ true → only_if
    (is_nothing_yet a || list_any (λ m. is_nothing_yet m.entry.reply) (until_reply a later []))
    (met || (is_open_content m.object.content
    || list_any (λ m. is_open_content m.object.content) (until_reply a later []))) ≡ true) [
      | None ↦ λ h. goes_on met (is_open_content m.object.content) _ _ k
      | Some r ↦ λ h. ends_here met (is_open_content m.object.content) r h
    ] h

met_more : (begins met : Bool) (own : List Mark) → Claim (before begins met) own → Claim met own
met_more false met own h = h
met_more true false own h = h
met_more true true own h =
    elim (list_any (λ m. is_nothing_yet m.entry.reply) own) as (λ b. only_if b true ≡ true)
    [ true ↦ refl | false ↦ refl ]

-- a mark of this end's call
here : (end : End) (m : Mark) (ms : List Mark) (met : Met)
    → only_if (is_nothing_yet m.entry.reply)
    (before m.begins (met_by end met) || is_open_content m.object.content) ≡ true
    → Claim (met_by end (met_at end (before m.begins (met_by end met) || is_open_content m.object.content) met))
    (call_marks end ms) → Claim (before m.begins (met_by end met))
    (elim (is_same_end end end) as (λ _. List Mark)
    [ true ↦ m ∷ until_reply m.entry.reply (call_marks end ms) [] | false ↦ call_marks end ms ])
here Sender m ms met h k = own_mark (before m.begins met.sender) m (call_marks Sender ms) h k
here Receiver m ms met h k = own_mark (before m.begins met.receiver) m (call_marks Receiver ms) h k

-- a mark of either end, for the call of this one
either : (mover end : End) (m : Mark) (ms : List Mark) (met : Met)
    → only_if (is_nothing_yet m.entry.reply)
    (before m.begins (met_by mover met) || is_open_content m.object.content) ≡ true
    → Claim (met_by end (met_at mover (before m.begins (met_by mover met) || is_open_content m.object.content) met))
    (call_marks end ms) → Claim (met_by end met)
    (elim (is_same_end mover end) as (λ _. List Mark)
    [ true ↦ m ∷ until_reply m.entry.reply (call_marks end ms) [] | false ↦ call_marks end ms ])
either Sender Sender m ms met h k =
    met_more m.begins met.sender (m ∷ until_reply m.entry.reply (call_marks Sender ms) []) (here Sender m ms met h k)
either Sender Receiver m ms met h k = k
either Receiver Sender m ms met h k = k
either Receiver Receiver m ms met h k =
    met_more m.begins met.receiver (m ∷ until_reply m.entry.reply (call_marks Receiver ms) [])
    (here Receiver m ms met h k)

claims : (ms : List Mark) (met : Met) (end : End) → Passes met_law met (map past_of ms)
    → Claim (met_by end met) (call_marks end ms)
claims [] met end p = refl
claims (m ∷ ms) met end p = either m.entry.side end m ms met p.0 (claims ms (met_then met (past_of m)) end p.1)

-- a call that begins has met nothing
begins_with : (begins met : Bool) (own : List Mark) → Claim (before begins met) own
    → only_if begins (only_if (list_any (λ m. is_nothing_yet m.entry.reply) own)
    (list_any (λ m. is_open_content m.object.content) own)) ≡ true
begins_with true met own h = h
begins_with false met own h = refl

each : (ms : List Mark) (met : Met) → Passes met_law met (map past_of ms) → is_nothing_only_if_open ms ≡ true
each [] met p = refl
each (m ∷ ms) met p =
    both _ _
    (begins_with m.begins (met_by (side m) met) (call_marks (side m) (m ∷ ms))
    (here (side m) m ms met p.0 (claims ms (met_then met (past_of m)) (side m) p.1)))
    (each ms _ p.1)

nameless : Nameless met_law
nameless = nameless_of met_law refl (λ k n g. (refl, refl)) (λ n g a b. (refl, refl))

pub nothing_only_if_open : {T : Type 0} → Passed met_law T → EachRun T is_nothing_only_if_open
nothing_only_if_open every = holds_by met_law nameless every is_nothing_only_if_open (λ place ms. each ms nothing_met)
