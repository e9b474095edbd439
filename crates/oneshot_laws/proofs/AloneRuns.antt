-- In each run, a call during which the other end makes no step does just what the object does.
use Rattle.oneshot_laws.proofs.Names.{◌≡◌, Bool, true, false, not, ◌&&◌, ◌||◌, List, [], ◌∷◌, Option, Some, None, is_some, map, refl, if◌then◌else◌, End, and_right, both, only_if, is_same_end, Object}
use Rattle.oneshot_laws.proofs.Names.{is_same_object, action_of, stepped, Mark, side, ends, agrees, lone_reply, is_lone_call, are_lone_calls_right}
use Rattle.oneshot_laws.proofs.Coding.{pairs, by_parts, or_none, both_ends}
use Rattle.oneshot_laws.proofs.PastLaws.{Law, Passes, Nameless, nameless_of, LawExplored, all_past, passed, holds_by}
use Rattle.oneshot_laws.proofs.PastViews.{PastView, past_of}
use Rattle.oneshot_laws.proofs.HistoryReader.{objects}
use Rattle.oneshot_laws.proofs.Product.{no_names}
use Rattle.oneshot_laws.proofs.ProductRuns.{EachRun}

-- the call during which the other end has made no step so far, and the object on which it began
pub data Lone : Type 0 where
  Nobody : Lone
  Of : (end : End) (object : Object) → Lone

abbrev is_of : End → Lone → Bool
is_of mover Nobody = false
is_of mover (Of end o) = is_same_end mover end

abbrev still : End → Lone → Lone
still mover Nobody = Nobody
still mover (Of end o) = if is_same_end mover end then Of end o else Nobody

abbrev lone_at : Lone → PastView → Lone
lone_at lone g = if g.begins then Of g.entry.side g.object else still g.entry.side lone

abbrev answers_as : PastView → Lone → Bool
answers_as g Nobody = true
answers_as g (Of end o) =
    agrees g.entry.reply (lone_reply g.call o) && is_same_object g.next (stepped (action_of g.call) o)

-- a call does not begin again, and if it ran alone it replies as the object
abbrev answers_alone : Lone → PastView → Bool
answers_alone lone g =
    not (g.begins && is_of g.entry.side lone) && only_if (is_some g.entry.reply) (answers_as g (lone_at lone g))

abbrev lone_then : Lone → PastView → Lone
lone_then lone g = if is_some g.entry.reply then Nobody else lone_at lone g

abbrev lone_parts : Lone → Option (End × Object)
lone_parts Nobody = None
lone_parts (Of end o) = Some (end, o)

abbrev lone_of : Option (End × Object) → Lone
lone_of None = Nobody
lone_of (Some p) = Of p.0 p.1

lone_back : (lone : Lone) → lone_of (lone_parts lone) ≡ lone
lone_back Nobody = refl
lone_back (Of end o) = refl

abbrev lone_law : Law Lone
lone_law =
    record {
      coding = by_parts lone_parts lone_of lone_back (or_none (pairs both_ends objects));
      passes = answers_alone;
      sees = lone_then;
      names = no_names;
      first = λ place. Nobody;
    }

abbrev claim : List Mark → Lone → Bool
claim ms Nobody = true
claim ms (Of end o) = is_lone_call o end ms

-- a mark during a call that began before
going_on : (same begins ended : Bool) (own new : Lone) (right later : Lone → Bool)
    → (not (begins && same) && only_if ended (right (if begins then new else (if same then own else Nobody)))) ≡ true
    → later (if ended then Nobody else (if begins then new else (if same then own else Nobody))) ≡ true
    → (not same || (if ended then right own else later own)) ≡ true
going_on false begins ended own new right later h k = refl
going_on true true ended own new right later h k = cc
going_on true false true own new right later h k = h
going_on true false false own new right later h k = k

-- the mark with which a call begins
beginning : (begins again ended x : Bool) (old new : Lone) (right later : Lone → Bool)
    → (not again && only_if ended (right (if begins then new else old))) ≡ true
    → later (if ended then Nobody else (if begins then new else old)) ≡ true
    → only_if begins (x || (if ended then right new else later new)) ≡ true
beginning false again ended x old new right later h k = refl
beginning true again ended true old new right later h k = refl
beginning true again true false old new right later h k = and_right (not again) (right new) h
beginning true again false false old new right later h k = k

lone_claim : (ms : List Mark) (lone : Lone) → Passes lone_law lone (map past_of ms) → claim ms lone ≡ true
lone_claim ms Nobody p = refl
lone_claim [] (Of end o) p = refl
lone_claim (m ∷ ms) (Of end o) p =
    going_on (is_same_end (side m) end) m.begins (ends m) (Of end o) (Of (side m) m.object) (answers_as (past_of m))
    (claim ms) p.0
    (lone_claim ms (lone_then (Of end o) (past_of m)) p.1)

lone_calls : (ms : List Mark) (lone : Lone) → Passes lone_law lone (map past_of ms) → are_lone_calls_right ms ≡ true
lone_calls [] lone p = refl
lone_calls (m ∷ ms) lone p =
    both _ _
    (beginning m.begins (m.begins && is_of (side m) lone) (ends m) (not (is_same_end (side m) (side m)))
    (still (side m) lone) (Of (side m) m.object) (answers_as (past_of m)) (claim ms) p.0
    (lone_claim ms (lone_then lone (past_of m)) p.1))
    (lone_calls ms _ p.1)

nameless : Nameless lone_law
nameless = nameless_of lone_law refl (λ k n g. (refl, refl)) (λ n g a b. (refl, refl))

lone_explored : LawExplored lone_law
lone_explored = record { found = all_past lone_law; all = refl }

pub lone_calls_right : {T : Type 0} → EachRun T are_lone_calls_right
lone_calls_right =
    holds_by lone_law nameless (passed lone_law refl lone_explored) are_lone_calls_right
    (λ place ms. lone_calls ms Nobody)
