-- Each move of the message belongs to a call that may make it.
use Rattle.oneshot_laws.proofs.Names.{◌≡◌, Bool, true, false, List, [], ◌∷◌, Some, None, map, refl, both, Mark, may_put, is_message_put}
use Rattle.oneshot_laws.proofs.Coding.{flags}
use Rattle.oneshot_laws.proofs.PastLaws.{Law, Passes, Nameless, nameless_of, Passed, holds_by}
use Rattle.oneshot_laws.proofs.PastViews.{PastView, past_of}
use Rattle.oneshot_laws.proofs.Product.{no_names}
use Rattle.oneshot_laws.proofs.ProductRuns.{EachRun}

-- a law of each mark alone: its state means nothing
abbrev puts : Bool → PastView → Bool
puts state g = elim g.entry.message [ None ↦ true | Some move ↦ may_put g.call g.entry.reply move.1 ]

abbrev stays : Bool → PastView → Bool
stays state g = false

abbrev pub put_law : Law Bool
put_law = record { coding = flags; passes = puts; sees = stays; names = no_names; first = λ place. false }

put_by_marks : (ms : List Mark) (state : Bool) → Passes put_law state (map past_of ms) → is_message_put ms ≡ true
put_by_marks [] state p = refl
put_by_marks (m ∷ ms) state p = both _ _ p.0 (put_by_marks ms false p.1)

nameless : Nameless put_law
nameless = nameless_of put_law refl (λ k n g. (refl, refl)) (λ n g a b. (refl, refl))

pub message_put : {T : Type 0} → Passed put_law T → EachRun T is_message_put
message_put each = holds_by put_law nameless each is_message_put (λ place ms. put_by_marks ms false)
