-- A side is `Send` if its parts are: it owns nothing else.
use denote.RattleType.{RattleType}
use Rattle.oneshot_word.proofs.Names.{IsSend, struct_send, shape, to, Ghosts, the_row, the_type}
use Rattle.oneshot_word.proofs.SidePartsSend.{parts_send}

pub send : (T H K P : RattleType) (g : Ghosts P.Denot T.Denot) → IsSend T → IsSend H → IsSend K
    → IsSend (the_row T H K P g)
send T H K P g s u v = record {
  owned = λ d vs x. (
    (
      (struct_send (shape (the_type T H K P g)) (parts_send T H K P g s u v)).owned (to (the_type T H K P g) x.0) vs,
      tt,
    ),
    tt,
  );
  leaving = λ k d w. tt;
}
