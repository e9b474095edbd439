-- For each log that an order allows the receiver: a walk meets each standpoint that its table can reach by the log.
use Rattle.oneshot_bridge.proofs.Names.{◌≡◌, ℕ, Bool, true, false, ◌&&◌, List, [], ◌∷◌, zero, suc, Option, Some, None, refl, sym, subst, list_all, flat_map, option_map, and_parts, Seen, ReceiverPos}
use Rattle.oneshot_bridge.proofs.Names.{Noted, op_of, receiver_step, receiver_row, In, Standpoint, plainly, standpoint_row, standpoint_step, standpoint_follows, outcome_at, receiver_table, sights}
use Rattle.oneshot_bridge.proofs.Names.{onward, Outcome, Goes, Answers, each_passes, may_see}
use Rattle.std.specs.Prelude.{is_some, if◌then◌else◌}
use Rattle.oneshot_machine.specs.Standing.{future_at}
use Rattle.oneshot_bridge.proofs.Among.{only, AmongEach, in_each}
use Rattle.oneshot_bridge.proofs.ReceiverStands.{After, calls, polling, nothing, Stands, IsReady, Steps, rests, goes, answers}
use Rattle.oneshot_bridge.proofs.Standpoints.{pos_of, after_of, is_met, Comes, stays_on, stays_ready, follows}

-- a step within a call does not change which calls may follow
abbrev is_same_after : After → After → Bool
is_same_after calls calls = true
is_same_after polling polling = true
is_same_after nothing nothing = true
is_same_after _ _ = false

after_is : (a b : After) → is_same_after a b ≡ true → a ≡ b
after_is calls calls e = refl
after_is polling polling e = refl
after_is nothing nothing e = refl
after_is _ _ e = absurd (cc e)

abbrev pub keeps : Standpoint → Outcome Standpoint → Bool
keeps s (Goes next) = is_same_after (after_of s) (after_of next) && is_met next
keeps s (Answers reply) = true

-- where a row leads
abbrev pub Came : List Noted → Standpoint → Outcome Standpoint → Type 0
Came ys s (Goes next) = Comes ys next
Came ys s (Answers reply) = stays_on s reply ≡ true → IsReady ys (after_of s)

module _ {ys zs : List Noted} {seen : Seen} where
  -- by a row of either kind of standpoint
  steps_by : (kind : ReceiverPos → Standpoint) → ((p : ReceiverPos) → pos_of (kind p) ≡ p) → (s : Standpoint)
      (row : Option (Outcome ReceiverPos)) (o : Outcome Standpoint) → Comes ys s → Steps ys (pos_of s) seen zs
      → receiver_row (pos_of s) seen ≡ row → option_map (outcome_at kind) row ≡ Some o → keeps s o ≡ true
      → Came zs s o
  steps_by kind at s None o comes steps rows is kept = absurd (cc is)
  steps_by kind at s (Some (Goes next)) o comes steps rows is kept =
      let same : Goes (kind next) ≡ o = cc is in
      let kept_so = and_parts (is_same_after (after_of s) (after_of (kind next))) (is_met (kind next))
      (subst (λ o. keeps s o ≡ true) (sym same) kept) in
      subst (Came zs s) same
      (record {
        met = kept_so.1;
        stands =
            subst (λ p. Stands zs p (after_of (kind next))) (sym (at next))
            (subst (Stands zs next) (after_is (after_of s) (after_of (kind next)) kept_so.0)
            (goes next comes.stands steps rows));
      })
  steps_by kind at s (Some (Answers reply)) o comes steps rows is kept =
      let same : Answers reply ≡ o = cc is in
      subst (Came zs s) same (λ stays. answers reply comes.stands steps rows (stays_ready s reply stays))

  pub steps_on : (s : Standpoint) (o : Outcome Standpoint) → Comes ys s → Steps ys (pos_of s) seen zs
      → standpoint_row s seen ≡ Some o → keeps s o ≡ true → Came zs s o
  steps_on (plainly p) o comes steps =
      steps_by plainly (λ p. refl) (plainly p) (receiver_row p seen) o comes steps refl
  steps_on (future_at p) o comes steps =
      steps_by future_at (λ p. refl) (future_at p) (receiver_row p seen) o comes steps refl

-- The test of each row: the steps that are no operations lead on as walks do, until the next operation.
abbrev sees_well : (Standpoint → Outcome Standpoint → Bool) → Standpoint → Seen → Option (Outcome Standpoint) → Bool
sees_well well s seen None = true
sees_well well s seen (Some o) = may_see (receiver_step (pos_of s)) seen && (keeps s o && well s o)

abbrev pub leads_well : ℕ → Standpoint → Outcome Standpoint → Bool
leads_well zero s o = false
leads_well (suc fuel) s (Answers reply) =
    list_all (λ q. stays_on s reply && leads_well fuel q (Goes q)) (standpoint_follows s reply)
leads_well (suc fuel) s (Goes p) =
    if is_some (op_of (standpoint_step p)) then true
    else list_all (λ seen. sees_well (leads_well fuel) p seen (standpoint_row p seen)) sights

pub nothing_onward : (fuel : ℕ) (s : Standpoint) → onward receiver_table fuel s None ≡ []
nothing_onward zero s = refl
nothing_onward (suc fuel) s = refl

module _ {ys : List Noted} where
  -- a walk meets the next standpoint
  pub comes_onward : {q : Standpoint} (fuel : ℕ) (s : Standpoint) (o : Outcome Standpoint) → is_met s ≡ true
      → leads_well fuel s o ≡ true → Came ys s o → In q (onward receiver_table fuel s (Some o)) → Comes ys q
  comes_onward zero s o met well came there = absurd (cc well)
  comes_onward (suc fuel) s (Answers reply) met well came there =
      let each : AmongEach (λ p. onward receiver_table fuel p (Some (Goes p))) (standpoint_follows s reply) _ =
      in_each (λ p. onward receiver_table fuel p (Some (Goes p))) (standpoint_follows s reply) there in
      let parts = and_parts (stays_on s reply) (leads_well fuel each.one (Goes each.one))
      (each_passes (λ q. stays_on s reply && leads_well fuel q (Goes q)) (standpoint_follows s reply) well
      each.among) in
      let next : Comes ys each.one = follows s reply met parts.0 (came parts.0) each.among in
      comes_onward fuel each.one (Goes each.one) next.met parts.1 next each.found
  comes_onward {q} (suc fuel) s (Goes p) met well came there =
      by (is_some (op_of (standpoint_step p))) well there (λ o. comes_onward fuel p o came.met)
    where
      by_row : (seen : Seen) (row : Option (Outcome Standpoint)) → standpoint_row p seen ≡ row
          → sees_well (leads_well fuel) p seen row ≡ true
          → ((o : Outcome Standpoint) → leads_well fuel p o ≡ true → Came ys p o
          → In q (onward receiver_table fuel p (Some o)) → Comes ys q)
          → In q (onward receiver_table fuel p row) → Comes ys q
      by_row seen None rows well later there = elim (subst (In q) (nothing_onward fuel p) there) [ ]
      by_row seen (Some o) rows well later there =
          let sees = and_parts (may_see (receiver_step (pos_of p)) seen) (keeps p o && leads_well fuel p o) well in
          let kept = and_parts (keeps p o) (leads_well fuel p o) sees.1 in
          later o kept.1 (steps_on p o came (rests sees.0) rows kept.0) there

      by : (b : Bool) → (if b then true
          else list_all (λ seen. sees_well (leads_well fuel) p seen (standpoint_row p seen)) sights) ≡ true
          → In q (if b then p ∷ [] else flat_map (λ seen. onward receiver_table fuel p (standpoint_row p seen)) sights)
          → ((o : Outcome Standpoint) → leads_well fuel p o ≡ true → Came ys p o
          → In q (onward receiver_table fuel p (Some o)) → Comes ys q) → Comes ys q
      by true well there later = subst (Comes ys) (only there) came
      by false well there later =
          let each : AmongEach (λ seen. onward receiver_table fuel p (standpoint_row p seen)) sights q =
          in_each (λ seen. onward receiver_table fuel p (standpoint_row p seen)) sights there in
          by_row each.one (standpoint_row p each.one) refl
          (each_passes (λ seen. sees_well (leads_well fuel) p seen (standpoint_row p seen)) sights well each.among)
          later each.found
