-- Each operation of a receiver leaves its wakers its own: computed for each row of the phases' table.
use Rattle.std.proofs.Common.{◌≡◌, ℕ, Bool, true, false, Option, Some, refl, sym, ap, ◌∙◌, subst}
use Rattle.std.proofs.Math.Nat.{le_refl}
use Rattle.std.proofs.lemmas.Bool.{and_parts}
use Rattle.std.specs.Prelude.{◌≤◌, ◌&&◌, ◌||◌, if◌then◌else◌, IfSome}
use Rattle.atomic_table.specs.Seated.{TableId}
use Rattle.oneshot_word.proofs.WakerPasses.{is_put, is_got}
use Rattle.oneshot_machine.proofs.GrownLogs.{phase_from-snoc}
use Rattle.oneshot_machine.proofs.EachPhase.{in_each_receiver_row, if_so}
use Rattle.oneshot_machine.specs.declared.states.Op.{Op}
use Rattle.oneshot_machine.specs.Noted.{saw}
use Rattle.oneshot_machine.specs.Phases.{Share, none, Row, ReceiverAt, untouched, after_load, after_timeout, receiver_at, receiver_next, receiver_moves}
use Rattle.oneshot_machine.specs.Slots.{IsSlot, is_away, is_vacant, Held, away, vacant, held, Finds, finds, SlotChange, stays_away, stays_held, gives_thing, gets_thing}
use Rattle.oneshot_drive.specs.BetweenCalls.{AtRest, Rests, rests_new, rests_open, rests_closed}
use Rattle.oneshot_drive.specs.Grounds.{receiver_slots}
use Rattle.oneshot_word.specs.declared.any_waker.AnyWaker.{AnyWaker}
use Rattle.oneshot_word.specs.Seats.{gave}
use Rattle.oneshot_word.specs.Side.{Side, ReceiverDid}
use Rattle.oneshot_ends.specs.declared.token.WakingHalf.{WakingHalf}
use Rattle.oneshot_ends.specs.Grounds.{left_of, unless_freed, state_of, IsNewReceiver}
use Rattle.oneshot_ends.specs.OwnWakers.{RealWaker, IsTaskOf, IsHalfOf, is_waiting, Gave, WaitsBy, IsNoThread, WaitsByHalvesOf}
use Rattle.oneshot_ends.specs.Keeps.{KeepsOwn, KeepsLent}
use Rattle.oneshot_ends.specs.declared.patience.Patience.{Patience}
use Rattle.oneshot_ends.specs.Patience.{unread}
use Rattle.oneshot_ends.specs.Tokens.{ParkingView}
use Rattle.oneshot_ends.proofs.GrewByRuns.{words_of}
use Rattle.oneshot_ends.proofs.Taken.{side_keeps, ground_keeps}

abbrev pub is_out : Share → Share → Bool
is_out none none = true
is_out _ _ = false

-- a receiver that waits has given a waker by this row, or it waited before and has no share of the slot
abbrev pub left_by : ReceiverAt → Row ReceiverAt → Bool
left_by q row =
    if is_waiting (receiver_next q row.0 (saw row.0 row.2))
    then is_put row.1.1 row.4.1 || (is_waiting q && is_out row.1.1 row.4.1)
    else true

-- it gets back only a waker that it gave
abbrev got_by : ReceiverAt → Row ReceiverAt → Bool
got_by q row = if is_got row.1.1 row.4.1 then is_waiting q else true

pub no_and : (b : Bool) → (b && false) ≡ true → ⊥
no_and true e = cc e
no_and false e = cc e

module _ {W : Type 0} (own : W → Type 0) where
  pub same_put : {put : Option W} {k : W} → Gave own put → put ≡ Some k → own k
  same_put {k} was is = let e : Some was.0 ≡ Some k = sym was.1 ∙ is in subst own (cc e) was.2

  slot_on : {s s' : Share} {w w' : Held W} {put put' : Option W} (was_left : Bool)
      → (if is_got s s' then was_left else true) ≡ true → SlotChange s s' w w'
      → ((k : W) → w ≡ held k → own k) → (was_left ≡ true → Gave own put) → put' ≡ gave w w' put
      → ((k : W) → w ≡ away → w' ≡ held k → put' ≡ Some k) → (k : W) → w' ≡ held k → own k
  slot_on was_left test (stays_held x) slot left hands gets k so = slot k so
  slot_on was_left test (gets_thing x) slot left hands gets k so =
      same_put (left test) (sym hands ∙ gets k refl so)
  slot_on was_left test _ slot left hands gets k so = absurd (cc so)

  left_on : {s s' : Share} {w w' : Held W} {put put' : Option W} (was_left : Bool)
      → (is_put s s' || (was_left && is_out s s')) ≡ true → SlotChange s s' w w' → ((k : W) → w ≡ held k → own k)
      → (was_left ≡ true → Gave own put) → put' ≡ gave w w' put → Gave own put'
  left_on was_left test stays_away slot left hands =
      subst (Gave own) (sym hands) (left (and_parts was_left true test).0)
  left_on was_left test (gives_thing x) slot left hands = (x, hands, slot x refl)
  left_on was_left test _ slot left hands = absurd (no_and was_left test)

  changed : {T P : Type 0} (s next : Side T W P) (q : ReceiverAt) {op : Op} {word : ℕ} → receiver_at s.log ≡ q
      → receiver_at next.log ≡ receiver_next q op (saw op word)
      → Finds receiver_moves q op word s.message s.waker next.message next.waker
      → next.handed ≡ gave s.waker next.waker s.handed
      → ((k : W) → s.waker ≡ away → next.waker ≡ held k → next.handed ≡ Some k) → WaitsBy own s → WaitsBy own next
  changed s next q {op} {word} was after (finds {before} {after = slots} row changes changes') hands gets owned =
      let left : is_waiting q ≡ true → Gave own s.handed = λ e. owned.gave (ap is_waiting was ∙ e) in
      record {
        slot = slot_on (is_waiting q) (in_each_receiver_row got_by refl q row) changes' owned.slot left hands gets;
        gave = λ e. left_on (is_waiting q)
            (if_so (is_waiting (receiver_next q op (saw op word)))
            (is_put before.1 slots.1 || (is_waiting q && is_out before.1 slots.1))
            (in_each_receiver_row left_by refl q row) (sym (ap is_waiting after) ∙ e))
            changes' owned.slot left hands;
      }

  pub after_op : {T P : Type 0} (s next : Side T W P) {op : Op} {word : ℕ} → ReceiverDid s op word next
      → WaitsBy own s → WaitsBy own next
  after_op {T} {P} s next {op} {word} did owned =
      changed {T = T} {P = P} s next (receiver_at s.log) {op = op} {word = word} refl
      (ap receiver_at did.list ∙ phase_from-snoc receiver_next untouched s.log (op, saw op word)) did.finds did.handed
      did.gets owned

  -- with another waker in its slot, or none
  pub with_slot : {T P : Type 0} (s next : Side T W P) → next.log ≡ s.log → next.handed ≡ s.handed
      → ((k : W) → next.waker ≡ held k → own k) → WaitsBy own s → WaitsBy own next
  with_slot s next logs puts slot owned =
      record {
        slot = slot;
        gave = λ e. subst (Gave own) (sym puts) (owned.gave (sym (ap (λ xs. is_waiting (receiver_at xs)) logs) ∙ e));
      }

-- so it is with a ground of this side
module _ {T W P : Type 0} (freed : Bool) (s : Side T W P) {now : Side T W P} (is : left_of freed s ≡ now) where
  ground_after : {op : Op} {word : ℕ} (own : W → Type 0) (next : Side T W P) → freed ≡ false
      → ReceiverDid s op word next → WaitsBy own now → WaitsBy own (left_of freed next)
  ground_after own next unfreed did owned =
      subst (WaitsBy own) (λ i. left_of (sym unfreed i) next)
      (after_op own s next did (subst (WaitsBy own) (sym is ∙ (λ i. left_of (unfreed i) s)) owned))

-- what an operation keeps of a real receiver's ground
pub operated : {T P : Type 0} (freed : Bool) (s : Side T RealWaker P) {now : Side T RealWaker P}
    → left_of freed s ≡ now → freed ≡ false
    → (next : Side T RealWaker P) {op : Op} {word : ℕ} → ReceiverDid s op word next
    → KeepsOwn now (left_of freed next)
operated freed s is unfreed next did =
    record {
      about = did.about ∙ ap (λ s. s.about) is;
      halves = λ parker. ground_after freed s is (IsHalfOf parker) next unfreed did;
      no_thread = ground_after freed s is IsNoThread next unfreed did;
      copies = λ cx. ground_after freed s is (IsTaskOf cx) next unfreed did;
      same = λ k. ground_after freed s is (λ other. other ≡ k) next unfreed did;
      taken = (ground_keeps freed s is did).1;
    }

no_room : (freed : Bool) {k : RealWaker} → unless_freed freed vacant ≡ held k → ⊥
no_room true e = cc e
no_room false e = cc e

-- a step that leaves all but a slot, and puts no waker into its own
module _ {T P : Type 0} where
  kept_but_slot : (s next : Side T RealWaker P) → next.about ≡ s.about → next.log ≡ s.log → next.handed ≡ s.handed
      → next.passed ≡ s.passed → ((k : RealWaker) → next.waker ≡ held k → s.waker ≡ held k) → KeepsOwn s next
  kept_but_slot s next about logs puts passed slot =
      record {
        about = about;
        halves = λ parker own. still (IsHalfOf parker) own;
        no_thread = still IsNoThread;
        copies = λ cx own. still (IsTaskOf cx) own;
        same = λ k own. still (λ other. other ≡ k) own;
        taken = side_keeps s next passed logs;
      }
    where
      still : (own : RealWaker → Type 0) → WaitsBy own s → WaitsBy own next
      still own owned = with_slot own s next logs puts (λ k e. owned.slot k (slot k e)) owned

  -- so does a receiver that takes the message out of its slot, or its waker back
  pub took_out : (freed : Bool) (s next : Side T RealWaker P) {now : Side T RealWaker P} → left_of freed s ≡ now
      → next ≡ record s { message = vacant } → KeepsOwn now (left_of freed next)
  took_out freed s next {now} is rest =
      subst (λ now. KeepsOwn now (left_of freed next)) is
      (kept_but_slot (left_of freed s) (left_of freed next) (ap (λ s. s.about) rest) (ap (λ s. s.log) rest)
      (ap (λ s. s.handed) rest) (ap (λ s. s.passed) rest)
      (λ k e. ap (λ s. unless_freed freed s.waker) (sym rest) ∙ e))

  pub took_back : (freed : Bool) (s next : Side T RealWaker P) {now : Side T RealWaker P} → left_of freed s ≡ now
      → next ≡ record s { waker = vacant } → KeepsOwn now (left_of freed next)
  took_back freed s next {now} is rest =
      subst (λ now. KeepsOwn now (left_of freed next)) is
      (kept_but_slot (left_of freed s) (left_of freed next) (ap (λ s. s.about) rest) (ap (λ s. s.log) rest)
      (ap (λ s. s.handed) rest) (ap (λ s. s.passed) rest)
      (λ k e. absurd (no_room freed (ap (λ s. unless_freed freed s.waker) (sym rest) ∙ e))))

no_slot : {W : Type 0} {w : Held W} {k : W} → IsSlot none w → w ≡ held k → ⊥
no_slot is_away e = cc e

module _ {T K P : Type 0} where
  -- what a receiver lends to a call
  pub has_lent : {own s : Side T (AnyWaker WakingHalf K) P} {p q : ParkingView} (hand : Option (AnyWaker WakingHalf K))
      → s ≡ own → q ≡ p → WaitsByHalvesOf p.parker own → IfSome hand (IsHalfOf p.parker)
      → WaitsByHalvesOf q.parker s × IfSome hand (IsHalfOf q.parker)
  has_lent {own} {s} {p} {q} hand is same owned its = (
    subst (λ s. WaitsByHalvesOf q.parker s) (sym is)
        (subst (λ (p : ParkingView). WaitsByHalvesOf p.parker own) (sym same) owned),
    subst (λ (p : ParkingView). IfSome hand (IsHalfOf p.parker)) (sym same) its,
  )

  -- a new receiver has given none
  pub own_new : (parker : TableId) (s now : Side T (AnyWaker WakingHalf K) P) → now ≡ s → IsNewReceiver s
      → WaitsByHalvesOf parker now
  own_new parker s now is new =
      subst (λ s. WaitsByHalvesOf parker s) (sym is)
      (record {
        slot = λ k e. absurd (no_slot new.waker e);
        gave = λ e. let none = sym (ap (λ xs. is_waiting (receiver_at xs)) new.log) ∙ e in absurd (cc none);
      })

-- a park that does not spin leaves the channel as it is, and may take the token of its own parker
pub parked : {T P : Type 0} {patience waits : Patience} {half next : ParkingView} (s : Side T RealWaker P)
    → waits ≡ unread patience → (half.taken ≡ true → next.taken ≡ true) → next.parker ≡ half.parker
    → KeepsLent s s patience waits half next
parked {patience = patience} s rests token same =
    record {
      about = refl;
      deadline = ap (λ (p : Patience). p.deadline) rests;
      spins = subst (λ (p : Patience). patience.spins ≤ p.spins) (sym rests) (le_refl patience.spins);
      token = token;
      parker = same;
      halves = λ owned. subst (λ parker. WaitsByHalvesOf parker s) (sym same) owned;
      taken = side_keeps s s refl refl;
    }

-- a receiver between two calls has no waker in its slot, and does not wait
slot_unheld : {W : Type 0} {at : ReceiverAt} {w : Held W} {k : W} → Rests at → IsSlot (receiver_slots at).1 w
    → w ≡ held k → ⊥
slot_unheld rests_new is_away e = cc e
slot_unheld (rests_open after_load) is_vacant e = cc e
slot_unheld (rests_open after_timeout) is_vacant e = cc e
slot_unheld (rests_closed c) is_vacant e = cc e

rests_idle : {at : ReceiverAt} → Rests at → is_waiting at ≡ true → ⊥
rests_idle rests_new e = cc e
rests_idle (rests_open o) e = cc e
rests_idle (rests_closed c) e = cc e

pub rests_free : {T W P : Type 0} (own : W → Type 0) (s : Side T W P) → AtRest (state_of s) → WaitsBy own s
rests_free {T} {W} own s rests =
    record {
      slot = λ k e. absurd (slot_unheld rests.is_one rests.stands.waker e);
      gave = λ e. absurd (rests_idle rests.is_one
          (sym (ap is_waiting (sym (ap receiver_at (words_of T W s.log)) ∙ rests.stands.phase)) ∙ e));
    }
