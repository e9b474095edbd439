-- A side is `Sync` if its parts are: a `&` to it holds nothing else.
use denote.RattleType.{RattleType}
use Rattle.oneshot_word.proofs.Names.{IsSend, IsSync, struct_sync, shape, to, Ghosts, the_row, the_type}
use Rattle.oneshot_word.proofs.SidePartsSend.{parts_sync}

pub sync : (T H K P : RattleType) (g : Ghosts P.Denot T.Denot) → IsSend T → IsSend H → IsSend K → IsSync T
    → IsSync (the_row T H K P g)
sync T H K P g s u v _ = record {
  shared = λ d b o κ x. (
    (
      (struct_sync (shape (the_type T H K P g)) (parts_sync T H K P g s u v)).shared (to (the_type T H K P g) x.0) b o
          κ,
      tt,
    ),
    tt,
  );
}
