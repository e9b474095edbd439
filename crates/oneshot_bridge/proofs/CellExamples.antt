-- The examples of cells: each is computed.
use Rattle.oneshot_bridge.proofs.Names.{◌≡◌, ℕ, true, false, List, [], ◌∷◌, ◌++◌, Some, None, refl, sym, ap, subst, ◌∙◌, World, turn, ReceiverScript, SenderScript, Entry, Delivered, Parker, worlds_by}
use Rattle.oneshot_bridge.proofs.Names.{WorkedCells, WrongCells, WrongUses, sends, receives, r, WakesNext}
use Rattle.oneshot_world.specs.declared.script.Move.TheVariants.{Sender}
use Rattle.oneshot_world.specs.declared.trace.Entry.TheVariants.{Made as Made_entry}
use Rattle.oneshot_world.specs.declared.trace.Place.TheVariants.{InCell}
use Rattle.oneshot_replay.specs.declared.rest.Rest.TheVariants as Rests
use Rattle.oneshot_bridge.specs.Woken.{waits}
use Rattle.oneshot_bridge.proofs.Given.{same_value}
use Rattle.oneshot_bridge.proofs.Joined.{not_none, full_waker, passed_one}

pub worked_cells : {T : Type 0} (m : T) → WorkedCells m
worked_cells {T} m =
    record {
      message = refl;
      cells = record {
        message = λ is. refl;
        no_message = λ is. absurd (cc is);
        waker = λ is. absurd (cc is);
        no_waker = λ is. refl;
        freed = λ freed. absurd (cc freed);
      };
      slots = record {
        has_it = λ other is. let same : m ≡ other = cc is in ap (λ m. Some (Rests.InCell m)) same;
        has_none = λ is. absurd (cc is);
        has_one = λ k is. absurd (full_waker {T = T} k (cc is));
        has_no_waker = λ is. refl;
      };
      parks = refl;
      woken = record { made = _; next = _; turns = refl; by_sender = refl; wakes = refl; woken = refl };
      task_waits = refl;
      task_woken = record { made = _; next = _; turns = refl; by_sender = refl; wakes = refl; woken = refl };
      finds_gone = refl;
      finds_here = refl;
      has_slot = refl;
      before = record {
        run = record {
          worlds = worlds_by m receives (r ∷ []);
          is_run = (refl, tt);
          ends = refl;
          count = refl;
          message = refl;
        };
        sender_log = refl;
        receiver_log = refl;
        leaves = refl;
      };
      is_empty = refl;
      after = record {
        run = record {
          worlds = worlds_by m receives (r ∷ r ∷ []);
          is_run = (refl, (refl, tt));
          ends = refl;
          count =
              refl;
          message = refl;
        };
        sender_log = refl;
        receiver_log = refl;
        leaves = refl;
      };
      is_full = refl;
    }

-- a step after which the receiver waits wakes nobody
wakes_not : {T : Type 0} (a : SenderScript T) (b : ReceiverScript) (entries : List Entry) (k : ℕ) (w : World)
    (entry : Entry) (next : World) → turn k w Sender ≡ Some (entry, next)
    → waits a b (entries ++ entry ∷ []) next ≡ true → WakesNext a b entries k w → ⊥
wakes_not a b entries k w entry next turned waiting wakes =
    let both : ◌≡◌ {A = Entry × World} (Made_entry wakes.made, wakes.next) (entry, next) =
    same_value (sym wakes.turns ∙ turned) in
    let woken : waits a b (entries ++ entry ∷ []) next ≡ false =
    subst (λ (t : Entry × World). waits a b (entries ++ t.0 ∷ []) t.1 ≡ false) both wakes.woken in
    let apart : true ≡ false = sym waiting ∙ woken in cc apart

pub wrong_cells : {T : Type 0} (m : T) → WrongCells m
wrong_cells m =
    record {
      takes_early = λ so. let is : Some Delivered ≡ Some InCell = so.message refl in cc is;
      sends_and_drops = λ so. let is : true ≡ false = so.no_message refl in cc is;
      stores_nothing = λ so. let is : false ≡ true = so.waker refl in cc is;
      leaves_waker = λ so. let is : Some Parker ≡ None = so.no_waker refl in cc is;
      frees_early = λ so. let is : false ≡ true = so.freed refl in cc is;
      other_message =
          λ other differs so. let is : Some (Rests.InCell m) ≡ Some (Rests.InCell other) = so.has_it other refl in
          differs (sym (cc is));
      passed_another = λ other differs passed. differs (passed_one passed refl);
      no_message = λ so. let is : true ≡ false = so.has_none refl in cc is;
      wakes_another = λ so. wakes_not (sends m) receives _ 8 _ _ _ refl refl so;
      wakes_nobody = λ so. not_none so.turns refl;
    }

pub wrong_uses : {T : Type 0} (m : T) → WrongUses m
wrong_uses m = record { after_free = refl; by_no_holder = refl }
