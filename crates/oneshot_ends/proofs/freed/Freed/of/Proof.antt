-- `of` returns a value of no bytes, whose ghost field is its argument. Assumes `Logic`.
use Rattle.atomic_table.proofs.Names.{◌≡◌, [], ◌∷◌, refl, Val, SProp, emp, vstruct, vnil, ‵, raw, ◌⊛◌, ◌$◌, ◌∵◌, !, qed, by, keep, split, fjoin, use0, no_more, returns, enter, alloc_all, pass_all}
use Rattle.atomic_table.proofs.Names.{free_all, look_at, sets, agg, tables, owns, types_at, plain, nothing, alive, Stays, stay_dropped, walk_of, Goes-dropped, fact, fact_i}
use Rattle.atomic_table.proofs.Walks.{proved, leaves}
use denote.Builtin.{bool}
use denote.Exit.{yes}
use denote.Plain.{bool_vals, bool_Tells}
use denote.Shadow.{makes_shadow}
use Rattle.oneshot_ends.specs.contracts.freed.Freed.{the_row}
use Rattle.oneshot_ends.specs.contracts.freed.Freed.of.{ended, clauses}
use Rattle.oneshot_ends.specs.contracts.freed.Freed.of.Key.{name as #self}
use Rattle.oneshot_ends.proofs.freed.Freed.of.Statement.{statement}
use Rattle.oneshot_ends.proofs.freed.Freed.of.Code as code

abbrev stayed : Stays ended.signature.params ended.kept
stayed = (stay_dropped (plain (λ _. bool)) yes, tt)

pub of_spec : {M : Type 1} → statement M
of_spec 𝓤 𝓛 𝓜 𝓡 wired =
    let 𝓣 = tables 𝓤 𝓛.H 𝓜 𝓡 𝓡.env in let c = clauses 𝓛 𝓜.mem 𝓡.returns in
    proved 𝓛 ended stayed c 𝓜 𝓡 (Goes-dropped 𝓛 0 (plain (λ _. bool)) yes (λ κs x w. refl), tt)
    #self code.function (code.unfolded 𝓤 𝓛.H 𝓜 𝓡 wired)
    (λ κs. (bool_vals, tt)) (λ κs. (bool_Tells, tt)) (λ κs qs bounds a gh are.
    let made : the_row.Denot = record { value = a.0 } in let v : Val = vstruct vnil in
    let Told : Type 0 = made.value ≡ a.0 in let O = the_row.own_val made (v ∷ []) in
    let y : (walk_of 𝓛 ended stayed c).Ghost = ((κs, qs, bounds, a, (bool_vals a.0, tt)), gh) in
    let Post : Val → SProp 𝓤 = (walk_of 𝓛 ended stayed c).post y in
    qed 𝓛 ((raw (alive 𝓛 ended.signature κs qs) ⊛ ‵ (owns (types_at ended.signature.params κs) a y.0.4))
    ∷ raw ((c κs a).requires gh) ∷ []) ∵
    split ! $ keep ! (0 ∷ []) $ use0 𝓛 (‵ O) (makes_shadow 𝓛 O ((λ vss. (tt, tt)), tt) ((tt, (refl, tt)), tt)) $
    enter ! 𝓣.C 𝓣.Λ code.function (bool_vals a.0) Post $ alloc_all ! (λ l. pass_all ! refl ((tt, tt), tt) $
    sets ! (agg ! (no_more !)) refl (tt, tt) $
    use0 𝓛 (raw (fact 𝓤 Told)) (fact_i 𝓤 Told (emp 𝓤) refl) $ nothing ! $ nothing ! $ fjoin ! $
    returns ! (look_at ! 0 refl) $ free_all ! refl $ keep ! (3 ∷ 0 ∷ 2 ∷ 1 ∷ []) $ by !
    (leaves 𝓛 ended stayed c y v made (tt, tt) (tt, tt))))
