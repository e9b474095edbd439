-- Each reply that has the message comes once the message is where the reply says.
use Rattle.oneshot_laws.proofs.Names.{◌≡◌, true, List, [], ◌∷◌, map, refl, both, Mark, Place, NotSent, message_goes_to, is_reply_placed, are_replies_placed, is_message_there}
use Rattle.oneshot_laws.proofs.Coding.{places}
use Rattle.oneshot_laws.proofs.PastLaws.{Law, Passes, Nameless, nameless_of, Passed, holds_by}
use Rattle.oneshot_laws.proofs.PastViews.{past_of}
use Rattle.oneshot_laws.proofs.Product.{no_names}
use Rattle.oneshot_laws.proofs.ProductRuns.{EachRun}

-- the state is where the message is
abbrev pub there_law : Law Place
there_law =
    record {
      coding = places;
      passes = λ place g. is_reply_placed g.call g.entry.reply (message_goes_to place g.entry.message);
      sees = λ place g. message_goes_to place g.entry.message;
      names = no_names;
      first = λ place. NotSent;
    }

there_by_marks : (ms : List Mark) (place : Place) → Passes there_law place (map past_of ms)
    → are_replies_placed place ms ≡ true
there_by_marks [] place p = refl
there_by_marks (m ∷ ms) place p = both _ _ p.0 (there_by_marks ms (message_goes_to place m.entry.message) p.1)

nameless : Nameless there_law
nameless = nameless_of there_law refl (λ k n g. (refl, refl)) (λ n g a b. (refl, refl))

pub message_there : {T : Type 0} → Passed there_law T → EachRun T is_message_there
message_there each = holds_by there_law nameless each is_message_there (λ place ms. there_by_marks ms NotSent)
