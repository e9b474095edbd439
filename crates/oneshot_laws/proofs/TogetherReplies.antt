-- The laws on replies, explored together: each run passes each; a new law is one more line.
use Rattle.oneshot_laws.proofs.Names.{refl}
use Rattle.oneshot_laws.proofs.PastLaws.{Laws, no_laws, also, all_of, Each, each_passed, LawExplored, all_past, Passed, passed}
use Rattle.oneshot_laws.proofs.RepliesAfterwards.{got_law, closed_law, refused_law}
use Rattle.oneshot_laws.proofs.RepliesDroppedOnce.{story_law}
use Rattle.oneshot_laws.proofs.RepliesNextReceive.{next_law}
use Rattle.oneshot_laws.proofs.RepliesNothingYet.{met_law}

abbrev reply_laws : Laws
reply_laws =
    also got_law
    (also closed_law
    (also refused_law
    (also next_law
    (also met_law
    (also story_law
    no_laws)))))

reply_explored : LawExplored (all_of reply_laws)
reply_explored = record { found = all_past (all_of reply_laws); all = refl }

module _ {T : Type 0} where
  each : Each reply_laws T
  each = each_passed reply_laws (passed (all_of reply_laws) refl reply_explored)

  pub got : Passed got_law T
  got = each.0

  pub closed : Passed closed_law T
  closed = each.1.0

  pub refused : Passed refused_law T
  refused = each.1.1.0

  pub next : Passed next_law T
  next = each.1.1.1.0

  pub met : Passed met_law T
  met = each.1.1.1.1.0

  pub story : Passed story_law T
  story = each.1.1.1.1.1.0
