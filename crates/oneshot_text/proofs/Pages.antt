-- What a writer and its page hold together, as lines are added and written.
use Rattle.std.proofs.Common.{◌≡◌, ℕ, List, [], ◌++◌, Option, Some, None, IfSome, Result, Ok, Err, OnOk, sym, ap, ◌∙◌, subst}
use Rattle.std.specs.Fmt.{WritesText}
use Rattle.std.proofs.lemmas.Fmt.{contents_after_writes}
use Rattle.std.proofs.lemmas.Result.{on_ok_weaker}
use Rattle.std.specs.Io.KnownBytes.{Appends, Keeps, append_known}
use Rattle.std.proofs.lemmas.List.{append_assoc, append-nil}

-- before the first line
pub page_begins : (written : Option (List ℕ)) (lines : List ℕ) → lines ≡ []
    → Appends written (append_known written lines) []
page_begins None lines none = tt
page_begins (Some bytes) lines none = ap (λ more. bytes ++ more) none

-- a line joins those that wait
pub joined : (written : Option (List ℕ)) (old new line : List ℕ) → new ≡ old ++ line
    → Appends (append_known written old) (append_known written new) line
joined None old new line is = tt
joined (Some bytes) old new line is = ap (λ lines. bytes ++ lines) is ∙ sym (append_assoc bytes old line)

-- the waiting lines are written, and then the line
pub passed : (written mid new : Option (List ℕ)) (old left line : List ℕ) → left ≡ [] → Appends written mid old
    → Appends mid new line → Appends (append_known written old) (append_known new left) line
passed None mid new old left line none first_part second_part = tt
passed (Some bytes) None new old left line none first_part second_part = elim first_part [ ]
passed (Some bytes) (Some more) None old left line none first_part second_part = elim second_part [ ]
passed (Some bytes) (Some more) (Some most) old left line none first_part second_part =
    ap (λ lines. most ++ lines) none ∙ append-nil most ∙ second_part ∙ ap (λ b. b ++ line) first_part

-- at the end all waiting lines are written, and the writer keeps them
pub written_out : (before written new kept : Option (List ℕ)) (lines text : List ℕ)
    → Appends before (append_known written lines) text → Appends written new lines → Keeps new kept
    → Appends before kept text
written_out None written new kept lines text grew out keeps = tt
written_out (Some first) None new kept lines text grew out keeps = elim grew [ ]
written_out (Some first) (Some bytes) None kept lines text grew out keeps = elim out [ ]
written_out (Some first) (Some bytes) (Some most) None lines text grew out keeps = elim keeps [ ]
written_out (Some first) (Some bytes) (Some most) (Some last) lines text grew out keeps = keeps ∙ out ∙ grew

-- a writer that was empty has the text that was written to it
pub text_is : {W : Type 0} (took : W → List ℕ → W → Type 0) (contents : W → List ℕ)
    (appends : (w : W) (bytes : List ℕ) (v : W) → took w bytes v → contents v ≡ contents w ++ bytes) (w v : W)
    (text : Option (List ℕ)) → contents w ≡ [] → WritesText took w text v → IfSome text (λ bytes. contents v ≡ bytes)
text_is took contents appends w v None empty writes = tt
text_is took contents appends w v (Some bytes) empty writes =
    contents_after_writes took contents appends w bytes v writes ∙ ap (λ b. b ++ bytes) empty

-- a fact about the line is one about the text
pub of_text : {T E : Type 0} (fact : List ℕ → Type 0) (r : Result T E) (text : Option (List ℕ)) (line : List ℕ)
    → IfSome text (λ bytes. line ≡ bytes) → OnOk r (fact line) → OnOk r (IfSome text fact)
of_text fact r None line is done = on_ok_weaker r (λ there. tt) done
of_text fact r (Some bytes) line is done = on_ok_weaker r (λ there. subst fact is there) done

pub if_ok : {T E P : Type 0} (r : Result T E) → P → OnOk r P
if_ok (Ok value) holds = holds
if_ok (Err error) holds = tt
