-- What each end's log shows by itself.
use Rattle.std.specs.Prelude.{ℕ, Bool, false, ◌&&◌, ◌||◌, ◌==◌, if◌then◌else◌, List, [], ◌∷◌, Option, Some, None}
use Rattle.oneshot_machine.specs.declared.machine.Seen.{Seen}
use Rattle.oneshot_machine.specs.declared.machine.Seen.TheVariants.{Word}
use Rattle.oneshot_machine.specs.declared.states.Op.{Op}
use Rattle.oneshot_machine.specs.declared.states.Op.TheVariants.{Load, Store, Swap, Exchange, Add, Xor}
use Rattle.oneshot_machine.specs.declared.states.TheConstants.{RECEIVING, UNPARKING, DISCONNECTED, EMPTY, MESSAGE}
use Rattle.oneshot_machine.specs.Noted.{Noted}
use Rattle.oneshot_machine.specs.Phases.{By, sending, dropping}

-- The sender found RECEIVING, and its final swap is to come.
pub data FoundZero : By → List Noted → Type 0 where
  send_found : FoundZero sending ((Add, Word RECEIVING) ∷ [])
  drop_found : FoundZero dropping ((Xor, Word RECEIVING) ∷ [])

-- The sender has performed its last operation, and the receiver was here.
pub data MadeLast : By → List Noted → Type 0 where
  sent : MadeLast sending ((Add, Word EMPTY) ∷ [])
  sent_to_it : MadeLast sending ((Add, Word RECEIVING) ∷ (Swap MESSAGE, Word UNPARKING) ∷ [])
  sent_to_overdue : MadeLast sending ((Add, Word RECEIVING) ∷ (Swap MESSAGE, Word EMPTY) ∷ [])
  dropped : MadeLast dropping ((Xor, Word EMPTY) ∷ [])
  dropped_before_it : MadeLast dropping ((Xor, Word RECEIVING) ∷ (Swap DISCONNECTED, Word UNPARKING) ∷ [])
  dropped_before_overdue : MadeLast dropping ((Xor, Word RECEIVING) ∷ (Swap DISCONNECTED, Word EMPTY) ∷ [])

-- The sender has performed its last operation, which found the receiver gone and left this word.
pub data MadeLate : By → ℕ → List Noted → Type 0 where
  sent_late : MadeLate sending EMPTY ((Add, Word DISCONNECTED) ∷ [])
  dropped_late : MadeLate dropping EMPTY ((Xor, Word DISCONNECTED) ∷ [])
  sent_overtaken : MadeLate sending MESSAGE ((Add, Word RECEIVING) ∷ (Swap MESSAGE, Word DISCONNECTED) ∷ [])
  dropped_overtaken :
      MadeLate dropping DISCONNECTED ((Xor, Word RECEIVING) ∷ (Swap DISCONNECTED, Word DISCONNECTED) ∷ [])

-- a fold over a log, from its first operation on
abbrev pub along : {A : Type 0} → (A → Op → Seen → A) → A → List Noted → A
along next a [] = a
along next a (x ∷ xs) = along next (next a x.0 x.1) xs

abbrev pub stores_next : Bool → Op → Seen → Bool
stores_next before Load (Word word) = before && (word == RECEIVING || word == UNPARKING)
stores_next before (Swap new) (Word word) = new == RECEIVING && word == EMPTY
stores_next before (Exchange expected new) (Word word) =
    if word == expected then new == RECEIVING else before && word == UNPARKING
stores_next before _ seen = false

-- The receiver stores a waker: it put RECEIVING in over EMPTY, by a swap or an exchange, and has since only loaded
-- RECEIVING or UNPARKING, or found UNPARKING by an exchange.
abbrev pub stores_waker : List Noted → Bool
stores_waker = along stores_next false

abbrev pub overdue_next : Bool → Op → Seen → Bool
overdue_next before Load (Word word) = before && word == EMPTY
overdue_next before (Swap new) (Word word) = new == EMPTY && word == UNPARKING
overdue_next before _ seen = false

-- The receiver is overdue: its swap of EMPTY found UNPARKING, and it has since only loaded EMPTY.
abbrev pub is_overdue : List Noted → Bool
is_overdue = along overdue_next false

abbrev pub gone_next : Bool → Op → Seen → Bool
gone_next before (Swap new) seen = before || new == DISCONNECTED
gone_next before _ seen = before

-- The receiver is gone: it swapped DISCONNECTED in.
abbrev pub is_gone : List Noted → Bool
is_gone = along gone_next false

abbrev pub wrote_next : Option ℕ → Op → Seen → Option ℕ
wrote_next before (Store new) seen = Some new
wrote_next before (Swap new) (Word word) = if word == MESSAGE || word == DISCONNECTED then Some new else before
wrote_next before _ seen = before

-- What the receiver wrote last since the sender's last operation: by a store, or by a swap that found MESSAGE or
-- DISCONNECTED.
abbrev pub wrote_since : List Noted → Option ℕ
wrote_since = along wrote_next None
