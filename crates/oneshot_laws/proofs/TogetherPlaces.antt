-- The laws on places and on the block, explored together: each run passes each; a new law is one more line.
use Rattle.oneshot_laws.proofs.Names.{refl}
use Rattle.oneshot_laws.proofs.EndedRuns.{kept}
use Rattle.oneshot_laws.proofs.PastLaws.{Laws, no_laws, also, all_of, Each, each_passed, LawExplored, all_past, Passed, passed}
use Rattle.oneshot_laws.proofs.HoldersRuns.{held_law, free_law, freed_ending}
use Rattle.oneshot_laws.proofs.MessagePlacesPut.{put_law}
use Rattle.oneshot_laws.proofs.MessagePlacesRuns.{path_law, sending_ending}
use Rattle.oneshot_laws.proofs.MessagePlacesThere.{there_law}
use Rattle.oneshot_laws.proofs.WakerPlacesRuns.{parker_moves}
use Rattle.oneshot_laws.proofs.WakerCellRuns.{write_law}

abbrev place_laws : Laws
place_laws =
    also path_law
    (also (kept sending_ending)
    (also put_law
    (also (kept parker_moves)
    (also write_law
    (also held_law
    (also free_law
    (also (kept freed_ending)
    (also there_law
    no_laws))))))))

place_explored : LawExplored (all_of place_laws)
place_explored = record { found = all_past (all_of place_laws); all = refl }

module _ {T : Type 0} where
  each : Each place_laws T
  each = each_passed place_laws (passed (all_of place_laws) refl place_explored)

  pub path : Passed path_law T
  path = each.0

  pub sending : Passed (kept sending_ending) T
  sending = each.1.0

  pub put : Passed put_law T
  put = each.1.1.0

  pub parker : Passed (kept parker_moves) T
  parker = each.1.1.1.0

  pub write : Passed write_law T
  write = each.1.1.1.1.0

  pub held : Passed held_law T
  held = each.1.1.1.1.1.0

  pub free : Passed free_law T
  free = each.1.1.1.1.1.1.0

  pub freed : Passed (kept freed_ending) T
  freed = each.1.1.1.1.1.1.1.0

  pub there : Passed there_law T
  there = each.1.1.1.1.1.1.1.1.0
