-- For each log that an order allows the sender, there are a script and a walk.
use Rattle.oneshot_bridge.proofs.Names.{◌≡◌, ℕ, List, [], ◌∷◌, ◌++◌, refl, sym, subst, Done, SendWrite, SendAdd, SendTakeWaker, SendFinal, SendWake, SendLateWake, DropXor, DropTakeWaker, DropFinal}
use Rattle.oneshot_bridge.proofs.Names.{DropWake, DropLateWake, DropFree, Op, Swap, Add, Xor, Noted, saw, Reaches, has_row, nothing_made, By, sending, dropping, SenderAt, fresh, owes, sender_next}
use Rattle.oneshot_bridge.proofs.Names.{sender_moves, Slots, Row, In, head, tail, Goes, Answers, phase_from-snoc, SenderPos, SenderScript, SendsOnly, SenderIsScripted, begins, quietly, by_one, quiet}
use Rattle.oneshot_bridge.proofs.Names.{operates, opening_sender, SenderStand, SenderWalk}
use Rattle.oneshot_machine.specs.declared.machine.Reply.TheVariants as R
use Rattle.oneshot_machine.specs.declared.machine.Seen.TheVariants.{Word}
use Rattle.oneshot_machine.specs.declared.states.TheConstants.{RECEIVING, UNPARKING, DISCONNECTED, EMPTY, MESSAGE}
use Rattle.oneshot_machine.specs.Orders.{sender_makes, receiver_makes}
use Rattle.oneshot_machine.specs.Phases.{sender_at}
use Rattle.oneshot_world.specs.declared.script.ErrorLast.TheVariants as EL
use Rattle.oneshot_world.specs.declared.script.SenderLast.TheVariants as SL
use Rattle.oneshot_world.specs.declared.state.SenderState.TheVariants as SS

module _ {T : Type 0} (m : T) where
  -- a script of one call, and the position of that call's final swap
  abbrev script_of : By → SenderScript T
  script_of sending = record { looks = 0; last = SL.Send m (record { looks = 0; last = EL.Stop }) }
  script_of dropping = record { looks = 0; last = SL.Drop }

  abbrev swaps_at : By → SenderPos
  swaps_at sending = SendFinal
  swaps_at dropping = DropFinal

  -- the walk at each phase: a sender that owes its final swap is at that position
  data Scripted : List Noted → SenderAt → Type 0 where
    not_begun : Scripted [] fresh
    owing : {xs : List Noted} (by : By)
        → SenderWalk (script_of by) xs (SS.At (swaps_at by), (opening_sender (script_of by)).1, [])
        → Scripted xs (owes by)
    over : {xs : List Noted} {at : SenderAt} (by : By) (s : SenderStand) → sender_moves at ≡ []
        → SenderWalk (script_of by) xs s → Scripted xs at

  writes : SenderWalk (script_of sending) [] (SS.At SendAdd, (opening_sender (script_of sending)).1, [])
  writes = quietly begins (quiet SendWrite Done (Goes SendAdd) refl refl refl)

  more : {xs : List Noted} {p next : SenderAt} {op : Op} {before after : Slots} (word : ℕ) → Scripted xs p
      → In (op, before, word, next, after) (sender_moves p)
      → Scripted (xs ++ (op, saw op word) ∷ []) (sender_next p op (saw op word))
  more _ not_begun head =
      over sending _ refl
      (by_one (Add, Word EMPTY) writes (operates SendAdd (Add, Word EMPTY) (Answers R.Sent) refl refl refl))
  more _ not_begun (tail head) =
      owing sending
      (quietly (by_one (Add, Word RECEIVING) writes
      (operates SendAdd (Add, Word RECEIVING) (Goes SendTakeWaker) refl refl refl))
      (quiet SendTakeWaker Done (Goes SendFinal) refl refl refl))
  more _ not_begun (tail (tail head)) =
      over sending _ refl
      (by_one (Add, Word DISCONNECTED) writes
      (operates SendAdd (Add, Word DISCONNECTED) (Answers R.Refused) refl refl refl))
  more _ not_begun (tail (tail (tail head))) =
      over dropping _ refl
      (by_one (Xor, Word EMPTY) begins (operates DropXor (Xor, Word EMPTY) (Answers R.Done) refl refl refl))
  more _ not_begun (tail (tail (tail (tail head)))) =
      owing dropping
      (quietly (by_one (Xor, Word RECEIVING) begins
      (operates DropXor (Xor, Word RECEIVING) (Goes DropTakeWaker) refl refl refl))
      (quiet DropTakeWaker Done (Goes DropFinal) refl refl refl))
  more _ not_begun (tail (tail (tail (tail (tail head))))) =
      over dropping _ refl
      (by_one (Xor, Word DISCONNECTED) begins
      (operates DropXor (Xor, Word DISCONNECTED) (Goes DropFree) refl refl refl))
  more _ not_begun (tail (tail (tail (tail (tail (tail there)))))) = elim there [ ]
  more _ (owing sending walk) head =
      over sending _ refl
      (by_one (Swap MESSAGE, Word UNPARKING) walk
      (operates SendFinal (Swap MESSAGE, Word UNPARKING) (Goes SendWake) refl refl refl))
  more _ (owing sending walk) (tail head) =
      over sending _ refl
      (by_one (Swap MESSAGE, Word EMPTY) walk
      (operates SendFinal (Swap MESSAGE, Word EMPTY) (Goes SendWake) refl refl refl))
  more _ (owing sending walk) (tail (tail head)) =
      over sending _ refl
      (by_one (Swap MESSAGE, Word DISCONNECTED) walk
      (operates SendFinal (Swap MESSAGE, Word DISCONNECTED) (Goes SendLateWake) refl refl refl))
  more _ (owing sending walk) (tail (tail (tail there))) = elim there [ ]
  more _ (owing dropping walk) head =
      over dropping _ refl
      (by_one (Swap DISCONNECTED, Word UNPARKING) walk
      (operates DropFinal (Swap DISCONNECTED, Word UNPARKING) (Goes DropWake) refl refl refl))
  more _ (owing dropping walk) (tail head) =
      over dropping _ refl
      (by_one (Swap DISCONNECTED, Word EMPTY) walk
      (operates DropFinal (Swap DISCONNECTED, Word EMPTY) (Goes DropWake) refl refl refl))
  more _ (owing dropping walk) (tail (tail head)) =
      over dropping _ refl
      (by_one (Swap DISCONNECTED, Word DISCONNECTED) walk
      (operates DropFinal (Swap DISCONNECTED, Word DISCONNECTED) (Goes DropLateWake) refl refl refl))
  more _ (owing dropping walk) (tail (tail (tail there))) = elim there [ ]
  more {next} {op} {before} {after} word (over by s none walk) there =
      absurd (no_row (subst (λ rows. In (op, before, word, next, after) rows) none there))
    where
      no_row : {row : Row SenderAt} → In row [] → ⊥
      no_row there = elim there [ ]

  scripted : {xs ys : List Noted} {word : ℕ} → Reaches xs ys word → Scripted xs (sender_at xs)
  scripted nothing_made = not_begun
  scripted (sender_makes {xs} {word} op order (has_row row)) =
      let x : Noted = (op, saw op word) in
      subst (λ p. Scripted (xs ++ x ∷ []) p) (sym (phase_from-snoc sender_next fresh xs x))
      (more word (scripted order) row)
  scripted (receiver_makes op order row) = scripted order

  sends_only : (by : By) → SendsOnly m (script_of by)
  sends_only sending other is = cc is
  sends_only dropping other is = absurd (cc is)

  walk_of : {xs : List Noted} {at : SenderAt} → Scripted xs at
      → (s : SenderScript T) × SendsOnly m s × (stand : SenderStand) × SenderWalk s xs stand
  walk_of not_begun = (script_of dropping, sends_only dropping, opening_sender (script_of dropping), begins)
  walk_of (owing by walk) = (script_of by, sends_only by, _, walk)
  walk_of (over by s none walk) = (script_of by, sends_only by, s, walk)

pub sender_scripted : (T : Type 0) → SenderIsScripted T
sender_scripted T m xs ys word order = walk_of m (scripted m order)
