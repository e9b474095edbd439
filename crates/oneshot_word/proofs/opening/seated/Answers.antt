-- Proofs of the goals that `seated` leaves.
use Rattle.oneshot_word.proofs.Names.{rules, opened}
use Rattle.oneshot_word.proofs.TableOpens.{deal_allowed, split_allowed}
use Rattle.oneshot_word.proofs.opening.seated.Goals as goal

pub new-requires : goal.new-requires
new-requires g c = rw c.in_ok-empty_slots.ensures opened

pub load-requires : goal.load-requires
load-requires g c = (search rules, search rules, deal_allowed g.P.Promise.keeps _ _ _ _ (search rules))

pub split_seat-other-requires : goal.split_seat-other-requires
split_seat-other-requires g c = (search rules, search rules, split_allowed g.P.Promise.keeps _ _ _ (search rules))
