-- After `has_message` returned true, the receiver's next receive that replies returns the message.
use Rattle.oneshot_laws.proofs.Names.{◌≡◌, Bool, true, false, ◌&&◌, ◌||◌, List, [], ◌∷◌, is_some, map, refl, both, only_if, is_reply, is_receive, is_full_look, Mark, next_receive_gets}
use Rattle.oneshot_laws.proofs.Names.{is_got_after_full}
use Rattle.oneshot_machine.specs.declared.machine.Reply.TheVariants as R
use Rattle.oneshot_laws.proofs.RepliesAfterwards.{replied}
use Rattle.oneshot_laws.proofs.Coding.{flags}
use Rattle.oneshot_laws.proofs.PastLaws.{Law, Passes, Nameless, nameless_of, Passed, holds_by}
use Rattle.oneshot_laws.proofs.PastViews.{PastView, past_of}
use Rattle.oneshot_laws.proofs.Product.{no_names}
use Rattle.oneshot_laws.proofs.ProductRuns.{EachRun}

abbrev full : PastView → Bool
full = replied is_full_look R.Yes

abbrev answers_receive : PastView → Bool
answers_receive g = is_receive g.call && is_some g.entry.reply

-- The flag is whether the message was seen, and no receive has replied since.
abbrev gets : Bool → PastView → Bool
gets seen g = only_if (seen && answers_receive g) (is_reply R.Message g.entry.reply)

abbrev seen_then : Bool → PastView → Bool
seen_then seen g = elim (answers_receive g) [ true ↦ full g | false ↦ seen || full g ]

abbrev pub next_law : Law Bool
next_law = record { coding = flags; passes = gets; sees = seen_then; names = no_names; first = λ place. false }

-- with the next receive here, or later
next_at : (seen receives is_full gets later : Bool) → only_if (seen && receives) gets ≡ true
    → only_if (elim receives as (λ _. Bool) [ true ↦ is_full | false ↦ seen || is_full ]) later ≡ true
    → only_if seen (elim receives as (λ _. Bool) [ true ↦ gets | false ↦ later ]) ≡ true
next_at false receives is_full gets later h k = refl
next_at true true is_full gets later h k = h
next_at true false is_full gets later h k = k

full_now : (seen receives is_full later : Bool)
    → only_if (elim receives as (λ _. Bool) [ true ↦ is_full | false ↦ seen || is_full ]) later ≡ true
    → only_if is_full later ≡ true
full_now seen receives false later h = refl
full_now seen true true later h = h
full_now true false true later h = h
full_now false false true later h = h

never_asked : (seen : Bool) → only_if seen true ≡ true
never_asked true = refl
never_asked false = refl

next_gets : (ms : List Mark) (seen : Bool) → Passes next_law seen (map past_of ms)
    → only_if seen (next_receive_gets ms) ≡ true
next_gets [] seen p = never_asked seen
next_gets (m ∷ ms) seen p =
    next_at seen (answers_receive (past_of m)) (full (past_of m)) _ _ p.0 (next_gets ms _ p.1)

got_next : (ms : List Mark) (seen : Bool) → Passes next_law seen (map past_of ms) → is_got_after_full ms ≡ true
got_next [] seen p = refl
got_next (m ∷ ms) seen p =
    both _ _ (full_now seen (answers_receive (past_of m)) (full (past_of m)) _ (next_gets ms _ p.1)) (got_next ms _ p.1)

nameless : Nameless next_law
nameless = nameless_of next_law refl (λ k n g. (refl, refl)) (λ n g a b. (refl, refl))

pub got_after_full : {T : Type 0} → Passed next_law T → EachRun T is_got_after_full
got_after_full each = holds_by next_law nameless each is_got_after_full (λ place ms. got_next ms false)
