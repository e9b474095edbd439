-- A run that grows by a move.
use Rattle.std.proofs.Common.{arith, ◌≡◌, ℕ, ◌+◌, suc, List, [], ◌∷◌, ◌++◌, length, length-append, Some, refl, sym, ap, subst, ◌∙◌}
use Rattle.oneshot_world.specs.World.{World, opening, turn, IsRunFrom, IsRun}
use Rattle.oneshot_world.specs.declared.script.Move.{Move}
use Rattle.oneshot_world.specs.declared.script.ReceiverScript.{ReceiverScript}
use Rattle.oneshot_world.specs.declared.script.SenderScript.{SenderScript}
use Rattle.oneshot_world.specs.declared.trace.Entry.{Entry}
use Rattle.oneshot_replay.specs.Run.{HasRun, GoesOn}
use Rattle.oneshot_replay.specs.Scene.{Scene}
use Rattle.oneshot_replay.specs.TraceView.{last_of}

-- a move that adds an entry after the last one
pub run_extended : (n : ℕ) (start : World) (worlds : List World) (moves : List Move) (entries : List Entry)
    (move : Move)
    (entry : Entry) (next : World) → IsRunFrom n start worlds moves entries
    → turn (n + length entries) (last_of start worlds) move ≡ Some (entry, next)
    → IsRunFrom n start (worlds ++ next ∷ []) (moves ++ move ∷ []) (entries ++ entry ∷ [])
run_extended n start [] [] [] move entry next is_run turned =
    let here : n + 0 ≡ n = omega arith in
    (subst (λ k. turn k start move ≡ Some (entry, next)) here turned, tt)
run_extended n start (w ∷ worlds) (m ∷ moves) (e ∷ entries) move entry next is_run turned =
    let later : n + suc (length entries) ≡ (n + 1) + length entries = omega arith in (
      is_run.0,
      run_extended (n + 1) w worlds moves entries move entry next is_run.1
          (subst (λ k. turn k (last_of w worlds) move ≡ Some (entry, next)) later turned),
    )
run_extended n start _ _ _ move entry next is_run turned = elim is_run [ ]

pub last_more : (start : World) (worlds : List World) (next : World) → last_of start (worlds ++ next ∷ []) ≡ next
last_more start [] next = refl
last_more start (w ∷ worlds) next = last_more w worlds next

-- one entry for each move
pub run_has_as_many : (n : ℕ) (start : World) (worlds : List World) (moves : List Move) (entries : List Entry)
    → IsRunFrom n start worlds moves entries → length entries ≡ length moves
run_has_as_many n start [] [] [] is_run = refl
run_has_as_many n start (w ∷ worlds) (m ∷ moves) (e ∷ entries) is_run =
    ap (λ n. suc n) (run_has_as_many (n + 1) w worlds moves entries is_run.1)
run_has_as_many n start _ _ _ is_run = elim is_run [ ]

pub length-run : (start : World) (worlds : List World) (moves : List Move) (entries : List Entry)
    → IsRun start worlds moves entries → length entries ≡ length moves
length-run = run_has_as_many 1

module _ {T : Type 0} where
  -- the number of the next entry
  next_entry : (s : SenderScript T) (r : ReceiverScript) (moves : List Move) (entries : List Entry) (now : Scene T)
      → HasRun s r moves entries now → now.count + 1 ≡ 1 + length entries
  next_entry s r moves entries now run =
      omega (arith, run.count, length-run (opening s r) run.worlds moves entries run.is_run)

  -- one more move
  pub goes_on : (from : Scene T) (move : Move) (entry : Entry) (to : Scene T) → turn (from.count + 1) from.world move
      ≡ Some (entry, to.world) → to.count ≡ from.count + 1 → to.message ≡ from.message → GoesOn from move entry to
  goes_on from move entry to turned count message s r moves entries run =
      let number : from.count + 1 ≡ 1 + length entries = next_entry s r moves entries from run in
      let here : turn (1 + length entries) from.world move ≡ Some (entry, to.world) =
      subst (λ n. turn n from.world move ≡ Some (entry, to.world)) number turned in
      record {
        worlds = run.worlds ++ to.world ∷ [];
        is_run = run_extended 1 (opening s r) run.worlds moves entries move entry to.world run.is_run
            (rw run.ends here);
        ends = last_more (opening s r) run.worlds to.world;
        count = count ∙ ap (λ n. n + 1) run.count ∙ sym (length-append moves (move ∷ []));
        message = message ∙ run.message;
      }
