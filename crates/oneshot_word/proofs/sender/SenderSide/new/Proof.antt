-- A share of the table and a seat make a side. Assumes `Logic`.
use Rattle.atomic_table.proofs.Names.{◌≡◌, [], ◌∷◌, refl, dnil, RattleType, owns}
use Rattle.std.proofs.Common.{Bool, true, false}
use Rattle.oneshot_word.proofs.Names.{a_type, dcons, bounded, Val, vstruct, vcons, vnil, inst_fn, SProp, emp, ‵, raw, ◌⊛◌, ◌$◌, ◌∵◌, !, qed, by, move, keep, split, fjoin, use0, of_opd, no_more}
use Rattle.oneshot_word.proofs.Names.{and_then, returns, enter, alloc_all, pass_all, free_all, look_at, get, sets, agg, tables, no, types_at, plain, nothing, param, alive, Stays, stay_dropped}
use Rattle.oneshot_word.proofs.Names.{walk_of, Goes-dropped, fact, fact_i, T, ◌&&◌, has_ty, layout, param_laws, heard, use1, proved, leaves, arc_value, IsAt, SenderSeat, side_of, clauses}
use Rattle.oneshot_word.specs.contracts.sender.SenderSide as side
use Rattle.oneshot_word.proofs.sender.SenderSide.TheInside.TheFields.TheLaws as fields
use Rattle.oneshot_word.proofs.SidePartsSend.{Shared, WordSeat}
use Rattle.oneshot_word.proofs.MadeSides.{makes_side}
use Rattle.oneshot_word.specs.contracts.sender.SenderSide.new.{ended}
use Rattle.oneshot_word.specs.contracts.sender.SenderSide.new.Key.{name as #self}
use Rattle.oneshot_word.proofs.sender.SenderSide.new.Statement.{statement}
use Rattle.oneshot_word.proofs.sender.SenderSide.new.Code as code

both_true : (a b : Bool) → T a → T b → T (a && (b && true))
both_true true true p q = tt
both_true true false p q = q
both_true false b p q = p

pub new_spec : {M : Type 1} → statement M
new_spec 𝓤 𝓛 𝓜 𝓡 wired X Y W Q L K N O g d _ =
    let 𝓣 = tables 𝓤 𝓛.H 𝓜 𝓡 𝓡.env in
    let R = param 0 X in let Z = param 1 Y in let V = param 2 W in let P = param 3 Q in
    let En = ended X Y W Q g d in let c = clauses X Y W Q g d 𝓛 𝓜.mem 𝓡.returns in
    let inst = bounded (a_type ∷ a_type ∷ a_type ∷ a_type ∷ []) (X, (Y, (W, (Q, tt)))) (dcons d dnil) in
    let fn = inst_fn inst code.function in
    let Br : RattleType = Shared R Z V P g in let Sr : RattleType = WordSeat R Z V P in
    let laws = fields.the_laws R Z V P g (param_laws 0 X L) (param_laws 1 Y K) (param_laws 2 W N) (param_laws 3 Q O) in
    let hs : Stays En.signature.params En.kept =
    (stay_dropped (plain (λ _. Br)) no, (stay_dropped (plain (λ _. Sr)) no, tt)) in
    proved 𝓛 En hs c 𝓜 𝓡 (
      Goes-dropped 𝓛 4 (plain (λ _. Br)) no (λ κs x f. refl),
      (Goes-dropped 𝓛 4 (plain (λ _. Sr)) no (λ κs x f. refl), tt),
    )
    (#self inst) fn (code.unfolded 𝓤 𝓛.H 𝓜 𝓡 wired (X, (Y, (W, (Q, tt)))) d)
    (λ κs. ((λ x. laws.0.val x ∷ []), ((λ x. laws.1.0.val x ∷ []), tt))) (λ κs. (laws.0.tells, (laws.1.0.tells, tt)))
    (λ κs qs bounds a gh are.
    let x : Br.Denot = a.0 in let s : Sr.Denot = a.1.0 in
    let v : Val = laws.0.val x in let w : Val = laws.1.0.val s in let u : Val = vstruct (vcons v (vcons w vnil)) in
    let fv = ((laws.0.lawful 𝓛).typed x (v ∷ []) are.0).0 in
    let fw = ((laws.1.0.lawful 𝓛).typed s (w ∷ []) are.1.0).0 in
    let r : (side.the_row R Z V P g).Denot = side_of s.table_id s.me in
    let Ok : Type 0 = SenderSeat g.keeps s.me × IsAt (arc_value x).shared.table_id s.table_id in
    let y : (walk_of 𝓛 En hs c).Ghost = ((κs, qs, bounds, a, (v ∷ [], (w ∷ [], tt))), gh) in
    let Post : Val → SProp 𝓤 = (walk_of 𝓛 En hs c).post y in
    qed 𝓛 ((raw (alive 𝓛 En.signature κs qs) ⊛ ‵ (owns (types_at En.signature.params κs) a y.0.4)) ∷ raw (fact 𝓤 _)
    ∷ raw (fact 𝓤 _) ∷ raw (fact 𝓤 _) ∷ raw (fact 𝓤 _) ∷ raw (fact 𝓤 Ok) ∷ []) ∵
    keep ! (5 ∷ 0 ∷ []) $ heard ! Ok (λ ok. split ! $ move ! (1 ∷ 0 ∷ []) $
    use1 𝓛 (‵ ((side.the_row R Z V P g).own_val r (u ∷ []))) (makes_side 𝓛 R Z V P g x s v w ok) $
    enter ! 𝓣.C 𝓣.Λ fn (v ∷ w ∷ []) Post $ alloc_all ! (λ l. pass_all ! refl (fv, (fw, tt)) $
    sets ! (of_opd ! (get ! refl)) refl fv $ sets ! (of_opd ! (get ! refl)) refl fw $
    sets ! (agg ! (and_then ! (get ! refl) (and_then ! (get ! refl) (no_more !)))) refl
    (both_true (has_ty (layout Br) v) (has_ty (layout Sr) w) fv.0 fw.0, (fv.1, (fw.1, tt))) $
    use0 𝓛 (raw (fact 𝓤 (r ≡ r))) (fact_i 𝓤 (r ≡ r) (emp 𝓤) refl) $ nothing ! $ nothing ! $ fjoin ! $ nothing ! $
    fjoin ! $ returns ! (look_at ! 0 refl) $ free_all ! refl $ keep ! (3 ∷ 0 ∷ 2 ∷ 1 ∷ []) $ by !
    (leaves 𝓛 En hs c y u r (tt, (tt, tt)) (tt, (tt, tt))))))
