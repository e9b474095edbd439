-- Each run has a legal history: the reader accepts it, as the checker computes over world and reader together.
use Rattle.oneshot_laws.proofs.Names.{◌≡◌, true, List, [], refl, Unanswered, calls_of, all_alike, World, IsRun, opening, Move, ReceiverScript, SenderScript, Entry, marks, sender_reading}
use Rattle.oneshot_laws.proofs.Names.{receiver_reading, call_under_way, has_legal_history}
use Rattle.oneshot_laws.proofs.HistoryReader.{new_reader, new_watch, histories, histories_nameless}
use Rattle.oneshot_laws.proofs.HistoryEntries.{FollowsAt}
use Rattle.oneshot_laws.proofs.HistoryAccepted.{MarksRight, all_right, legal}
use Rattle.oneshot_laws.proofs.PastViews.{pasts}
use Rattle.oneshot_laws.proofs.HistoryOwed.{AcceptedFrom}
use Rattle.oneshot_laws.proofs.Product.{Explored, all_products, alike}
use Rattle.oneshot_laws.proofs.ProductRuns.{all_classed, accepted_run}

histories_explored : Explored histories
histories_explored = record { found = all_products histories; all = refl }

new_follows : (left : Unanswered) → FollowsAt (call_under_way left) new_watch []
new_follows left = record { begun = refl; acted = refl; worked = refl }

run_accepted : {T : Type 0} (s : SenderScript T) (r : ReceiverScript) (worlds : List World) (moves : List Move)
    (entries : List Entry) → IsRun (opening s r) worlds moves entries
    → AcceptedFrom new_reader (opening s r).sender (opening s r).receiver entries
run_accepted s r worlds moves entries is_run =
    alike histories histories_nameless all_alike entries new_reader (opening s r).sender (opening s r).receiver
    (accepted_run histories all_alike (all_classed histories refl) histories_explored s r worlds moves entries refl
    is_run)

-- the marks of a run are right, and their pasts are those that the reader sees
pub marks_run : {T : Type 0} (s : SenderScript T) (r : ReceiverScript) (worlds : List World) (moves : List Move)
    (entries : List Entry) → IsRun (opening s r) worlds moves entries
    → MarksRight (marks (calls_of s r) entries) (pasts new_reader (opening s r).sender (opening s r).receiver entries)
marks_run s r worlds moves entries is_run =
    all_right entries new_reader (sender_reading (calls_of s r)) (receiver_reading (calls_of s r)) 1
    (record { sender = new_follows (opening s r).sender; receiver = new_follows (opening s r).receiver })
    (run_accepted s r worlds moves entries is_run)

pub legal_run : {T : Type 0} (s : SenderScript T) (r : ReceiverScript) (worlds : List World) (moves : List Move)
    (entries : List Entry) → IsRun (opening s r) worlds moves entries
    → has_legal_history (marks (calls_of s r) entries) ≡ true
legal_run s r worlds moves entries is_run =
    legal (marks (calls_of s r) entries) (marks_run s r worlds moves entries is_run).0
