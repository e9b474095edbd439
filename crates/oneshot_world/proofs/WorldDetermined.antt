-- A run is determined by its first world and its moves.
use Rattle.oneshot_world.proofs.Names.{◌≡◌, ℕ, ◌+◌, List, [], ◌∷◌, Option, Some, refl, option_map, option_and_then, World, turn, IsRunFrom, Move, Entry}

-- the run, computed: its entries, and the worlds after the first
abbrev pub run : ℕ → World → List Move → Option (List Entry × List World)
run k w [] = Some ([], [])
run k w (move ∷ moves) =
    option_and_then (λ t. option_map (λ more. (t.0 ∷ more.0, t.1 ∷ more.1)) (run (k + 1) t.1 moves)) (turn k w move)

pub run_is : (k : ℕ) (w : World) (worlds : List World) (moves : List Move) (entries : List Entry)
    → IsRunFrom k w worlds moves entries → run k w moves ≡ Some (entries, worlds)
run_is k w [] [] [] is_run = refl
run_is k w (next ∷ worlds) (move ∷ moves) (entry ∷ entries) is_run =
    rw is_run.0 (rw (run_is (k + 1) next worlds moves entries is_run.1) refl)
run_is k w [] [] (entry ∷ entries) is_run = elim is_run [ ]
run_is k w [] (move ∷ moves) [] is_run = elim is_run [ ]
run_is k w [] (move ∷ moves) (entry ∷ entries) is_run = elim is_run [ ]
run_is k w (next ∷ worlds) [] [] is_run = elim is_run [ ]
run_is k w (next ∷ worlds) [] (entry ∷ entries) is_run = elim is_run [ ]
run_is k w (next ∷ worlds) (move ∷ moves) [] is_run = elim is_run [ ]
