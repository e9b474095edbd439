-- Lemmas that the grounds of a receiver cite: what a ground keeps, a step that changes nothing keeps, and so do two
-- steps that keep it. These are proofs. They stand here because the code cites nothing from `proofs`.
use Rattle.std.specs.Prelude.{◌≡◌, ℕ, Option, Some, None, IfSome}
use Rattle.std.proofs.Common.{refl, sym, subst, ◌∙◌, List}
use Rattle.std.proofs.Math.Nat.{le_refl, le_trans}
use Rattle.futures.specs.declared.task.context.Context.{Context}
use Rattle.oneshot_machine.specs.Noted.{Noted}
use Rattle.oneshot_machine.specs.Slots.{held}
use Rattle.oneshot_word.specs.Side.{Side}
use Rattle.oneshot_ends.specs.OwnWakers.{RealWaker, IsHalfOf, BlockHas}
use Rattle.oneshot_ends.specs.declared.patience.Patience.{Patience}
use Rattle.oneshot_ends.specs.Tokens.{ParkingView}
use Rattle.oneshot_ends.specs.Keeps.{KeepsOwn, KeepsLent, KeepsPolled}
use Rattle.oneshot_ends.specs.Taken.{KeepsTaken}

abbrev pub taken_stays : {T : Type 0} {took : Option T} {log : List Noted} → KeepsTaken took took log log
taken_stays = record { stays = λ _ is. is; found = λ so. so }

abbrev pub taken_stays_on : {T : Type 0} {before now after : Option T} {log next last : List Noted}
    → KeepsTaken before now log next → KeepsTaken now after next last → KeepsTaken before after log last
taken_stays_on first second =
    record { stays = λ x is. second.stays x (first.stays x is); found = λ so. second.found (first.found so) }

module _ {T P : Type 0} where
  abbrev pub own_stays : {s : Side T RealWaker P} → KeepsOwn s s
  own_stays =
      record {
        about = refl;
        halves = λ _ own. own;
        no_thread = λ free. free;
        copies = λ _ own. own;
        same = λ _ own. own;
        taken = taken_stays;
      }

  abbrev pub own_stays_on : {a b c : Side T RealWaker P} → KeepsOwn a b → KeepsOwn b c → KeepsOwn a c
  own_stays_on e f =
      record {
        about = f.about ∙ e.about;
        halves = λ parker own. f.halves parker (e.halves parker own);
        no_thread = λ free. f.no_thread (e.no_thread free);
        copies = λ cx own. f.copies cx (e.copies cx own);
        same = λ k own. f.same k (e.same k own);
        taken = taken_stays_on e.taken f.taken;
      }

  abbrev pub lent_stays : {s : Side T RealWaker P} {patience : Patience} {half : ParkingView}
      → KeepsLent s s patience patience half half
  lent_stays {s} {patience} =
      record {
        about = refl;
        deadline = refl;
        spins = le_refl patience.spins;
        token = λ took. took;
        parker = refl;
        halves = λ own. own;
        taken = taken_stays;
      }

  abbrev pub lent_stays_on : {a b c : Side T RealWaker P} {p q r : Patience} {half now next : ParkingView}
      → KeepsLent a b p q half now → KeepsLent b c q r now next → KeepsLent a c p r half next
  lent_stays_on e f =
      record {
        about = f.about ∙ e.about;
        deadline = f.deadline ∙ e.deadline;
        spins = le_trans e.spins f.spins;
        token = λ took. f.token (e.token took);
        parker = f.parker ∙ e.parker;
        halves = λ own. f.halves (e.halves own);
        taken = taken_stays_on e.taken f.taken;
      }

  abbrev pub polled_stays : {s : Side T RealWaker P} {cx : Context} {id : ℕ} → KeepsPolled s s cx cx id id
  polled_stays =
      record { task = λ fact h. h; source = refl; about = refl; no_thread = λ free. free; taken = taken_stays }

  abbrev pub polled_stays_on : {a b c : Side T RealWaker P} {x y z : Context} {i j k : ℕ}
      → KeepsPolled a b x y i j → KeepsPolled b c y z j k → KeepsPolled a c x z i k
  polled_stays_on e f =
      record {
        task = λ fact h. f.task fact (e.task fact h);
        source = e.source ∙ f.source;
        about = f.about ∙ e.about;
        no_thread = λ free. f.no_thread (e.no_thread free);
        taken = taken_stays_on e.taken f.taken;
      }

  -- what a call that blocks has, it has after such a step, and a waker that it takes back is its own
  abbrev pub has_lent_on : {a b : Side T RealWaker P} {p q : Patience} {half next : ParkingView}
      (hand : Option RealWaker) → KeepsLent a b p q half next → BlockHas half.parker a hand
      → BlockHas next.parker b hand
  has_lent_on hand k h = (k.halves h.0, subst (λ parker. IfSome hand (IsHalfOf parker)) (sym k.parker) h.1)

  abbrev pub has_lent_back : {a b : Side T RealWaker P} {p q : Patience} {half next : ParkingView}
      (waker : RealWaker) → a.waker ≡ held waker → KeepsLent a b p q half next → BlockHas half.parker a None
      → BlockHas next.parker b (Some waker)
  has_lent_back waker slot k h = (
    k.halves h.0,
    subst (λ parker. IsHalfOf parker waker) (sym k.parker) (h.0.slot waker slot),
  )
