-- An owner of a share of the table, and of a seat at it, owns a sender's side. Assumes `Logic`.
use Rattle.atomic_table.proofs.Names.{◌≡◌, List, [], ◌∷◌, refl, RattleType, owns}
use Rattle.oneshot_word.proofs.Names.{Val, vstruct, vcons, vnil, fsep, ftrue, ‵, ◌$◌, ◌∵◌, !, qed, move, fjoin, fpack, feq_i, Valss, nothing, Ura, ent, done, Logic, sem, shape, within, arc_value}
use Rattle.oneshot_word.proofs.Names.{Ghosts, IsAt, SenderSeat, side_of}
use Rattle.oneshot_word.specs.contracts.sender.SenderSide as side
use Rattle.oneshot_word.specs.contracts.sender.SenderSide.TheInside as Inside
use Rattle.oneshot_word.proofs.SidePartsSend.{Shared, WordSeat}

module _ {M : Type 1} {𝓤 : Ura M} (𝓛 : Logic 𝓤) (R Z V P : RattleType) (g : Ghosts P.Denot R.Denot) where
  abbrev both_types : List RattleType
  both_types = Shared R Z V P g ∷ WordSeat R Z V P ∷ []

  pub makes_side : (x : (Shared R Z V P g).Denot) (s : (WordSeat R Z V P).Denot) (v w : Val)
      → SenderSeat g.keeps s.me × IsAt (arc_value x).shared.table_id s.table_id
      → ent 𝓤 (sem 𝓛 (owns both_types (x, (s, tt)) (v ∷ [], (w ∷ [], tt))))
      (sem 𝓛 ((side.the_row R Z V P g).own_val (side_of s.table_id s.me) (vstruct (vcons v (vcons w vnil)) ∷ [])))
  makes_side x s v w ok =
      let u : Val = vstruct (vcons v (vcons w vnil)) in
      let F : RattleType = Inside.the_row R Z V P g in
      let r : (side.the_row R Z V P g).Denot = side_of s.table_id s.me in
      qed 𝓛 (‵ (owns both_types (x, (s, tt)) (v ∷ [], (w ∷ [], tt))) ∷ []) ∵
      feq_i ! (List Val) (u ∷ []) (u ∷ []) refl $ fjoin ! $
      fpack ! (Valss both_types) (within (shape (Inside.the_type R Z V P g)) (x, (s, tt)) (u ∷ []))
      (v ∷ [], (w ∷ [], tt)) $
      nothing ! $ move ! (1 ∷ 0 ∷ []) $ fjoin ! $ nothing ! $ move ! (1 ∷ 0 ∷ []) $ fjoin ! $
      fpack ! ((i : F.Denot) × ((side.the_view R Z V P g i ≡ r) × side.the_invariant R Z V P g i))
      (λ z. fsep (F.own_val z.0 (u ∷ [])) ftrue) (record { table = x; seat = s }, (refl, ok)) $ done !
