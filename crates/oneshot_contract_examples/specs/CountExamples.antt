-- Logs that grow by at most so many operations, and some that do not.
use Rattle.std.specs.Prelude.{[], ◌∷◌}
use Rattle.oneshot_machine.specs.declared.machine.Seen.TheVariants.{Done, Word}
use Rattle.oneshot_machine.specs.declared.states.Op.TheVariants.{Load, Store, Swap, Exchange, Add}
use Rattle.oneshot_machine.specs.declared.states.TheConstants.{RECEIVING, UNPARKING, DISCONNECTED, EMPTY, MESSAGE}
use Rattle.oneshot_machine.specs.Counts.{GrewAtMost}

pub record CountsThatAre : Type 0 where
  pub sends_by_two : GrewAtMost 2 [] ((Add, Word RECEIVING) ∷ (Swap MESSAGE, Word UNPARKING) ∷ [])
  pub had_made_others : GrewAtMost 2 ((Load, Word EMPTY) ∷ [])
      ((Load, Word EMPTY) ∷ (Load, Word MESSAGE) ∷ (Store DISCONNECTED, Done) ∷ [])
  pub makes_none : GrewAtMost 0 ((Load, Word DISCONNECTED) ∷ []) ((Load, Word DISCONNECTED) ∷ [])
  pub polls_too_late : GrewAtMost 2 [] ((Load, Word RECEIVING) ∷ (Exchange RECEIVING EMPTY, Word UNPARKING) ∷ [])

pub record CountsThatAreNot : Type 0 where
  pub sends_by_one : GrewAtMost 1 [] ((Add, Word RECEIVING) ∷ (Swap MESSAGE, Word UNPARKING) ∷ []) → ⊥
  pub forgets_a_load : GrewAtMost 1 [] ((Load, Word UNPARKING) ∷ (Load, Word MESSAGE) ∷ []) → ⊥
  pub forgets_what_found_1 :
      GrewAtMost 1 [] ((Load, Word RECEIVING) ∷ (Exchange RECEIVING EMPTY, Word UNPARKING) ∷ []) → ⊥
  pub forgets_what_it_made : GrewAtMost 2 ((Load, Word EMPTY) ∷ []) [] → ⊥
