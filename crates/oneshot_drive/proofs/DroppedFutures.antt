-- How the drop of a future takes its copy back, and the runs of the drop.
use Rattle.oneshot_drive.proofs.Names.{◌≡◌, ℕ, true, [], ◌∷◌, Some, refl, AsyncDrop, AsyncLoad, AsyncExchange, AsyncBack, AsyncSwap, Load, Swap, Exchange, Log, Grows, receiver_of, handed, worded}
use Rattle.oneshot_drive.proofs.Names.{ReceiverAt, waits, again, withdrew, receiver_moves, Slots, receiver_step, receiver_row, Goes, Ran, ReceiverRan, vacant, GroundState, Stands, ReceiverAsks, Path}
use Rattle.oneshot_drive.proofs.Names.{has_row_for, landings, RECEIVING, DISCONNECTED, EMPTY}
use Rattle.oneshot_machine.specs.declared.machine.Reply.TheVariants as R
use Rattle.oneshot_machine.specs.declared.machine.Seen.TheVariants as S
use Rattle.oneshot_machine.specs.declared.machine.Step.TheVariants as Steps
use Rattle.oneshot_machine.specs.declared.machine.receiver.ReceiverStart.TheVariants as C
use Rattle.oneshot_drive.proofs.AfterOperations.{Lands, OneOf, one_of, not_at, asks, withdrew_waker}
use Rattle.oneshot_drive.proofs.LeftCopies.{backed_copy, exchanged_to}
use Rattle.oneshot_drive.proofs.PollLoads.{loaded_to}
use Rattle.oneshot_drive.proofs.Stretches.{on, by_word, by_withdraw, before}

-- after this word the exchange leads to the swap that drops the future
abbrev Ends : ℕ → ReceiverAt → Slots → Type 0
Ends n next after =
    (has_row_for (Swap DISCONNECTED) after (receiver_moves next) ≡ true)
    × (receiver_row (AsyncDrop AsyncExchange) (S.Word n) ≡ Some (Goes (AsyncDrop AsyncSwap)))

module _ {T W : Type 0} where
  -- `take_back`: the exchange of the copy
  module _ {n : ℕ} {s : GroundState T W}
      (found : Lands receiver_of n s (landings (Exchange RECEIVING EMPTY) (receiver_moves (waits again)))) where
    pub backed_end : ¬ (n ≡ RECEIVING) → OneOf receiver_of n s Ends
    backed_end a = one_of Ends ((refl, refl), ((refl, refl), ((refl, refl), tt))) (not_at RECEIVING a found)

    pub backed_asks : ¬ (n ≡ RECEIVING) → ReceiverAsks (Swap DISCONNECTED) s
    backed_asks a = let end = backed_end a in asks (Swap DISCONNECTED) end.stands end.is_so.0

    pub withdrawn_ends : {z : GroundState T W} {k : W} → n ≡ RECEIVING
        → Grows s.log z.log (handed Steps.Withdraw k ∷ [])
        → z.message ≡ s.message → z.waker ≡ vacant → Stands withdrew z
    withdrawn_ends e back message waker = withdrew_waker (backed_copy found e) back message waker

  pub backed_out : {s : GroundState T W} {l k : Log T W} (n : ℕ) → OneOf receiver_of n s Ends
      → Grows l k (worded (Exchange RECEIVING EMPTY) n ∷ [])
      → Path (AsyncDrop AsyncExchange) (Goes (AsyncDrop AsyncSwap)) l k
  backed_out n found s = by_word _ (Exchange RECEIVING EMPTY) n s refl found.is_so.1

  pub withdrawn_path : {l k j : Log T W} (z : W) (n : ℕ) → n ≡ RECEIVING
      → Grows l k (worded (Exchange RECEIVING EMPTY) n ∷ [])
      → Grows k j (handed Steps.Withdraw z ∷ []) → Path (AsyncDrop AsyncExchange) (Goes (AsyncDrop AsyncSwap)) l j
  withdrawn_path z n e s t =
      on (exchanged_to RECEIVING EMPTY (Goes (AsyncDrop AsyncBack)) n RECEIVING refl refl e s)
      (by_withdraw _ z t refl refl)

  -- `drop_async`: what it does before its swap
  module _ {l k : Log T W} (n : ℕ) (s : Grows l k (worded Load n ∷ [])) where
    pub drop_after : {j z : Log T W} → n ≡ RECEIVING → Path (AsyncDrop AsyncExchange) (Goes (AsyncDrop AsyncSwap)) k j
        → Ran receiver_step receiver_row (AsyncDrop AsyncSwap) j z R.Done [] []
        → ReceiverRan C.DropAsync l z R.Done [] []
    drop_after e path run = before (on (loaded_to (Goes (AsyncDrop AsyncExchange)) n RECEIVING refl refl e s) path) run

    pub drop_at_once : {z : Log T W} → receiver_row (AsyncDrop AsyncLoad) (S.Word n) ≡ Some (Goes (AsyncDrop AsyncSwap))
        → Ran receiver_step receiver_row (AsyncDrop AsyncSwap) k z R.Done [] []
        → ReceiverRan C.DropAsync l z R.Done [] []
    drop_at_once leads run = before (by_word (Goes (AsyncDrop AsyncSwap)) Load n s refl leads) run
