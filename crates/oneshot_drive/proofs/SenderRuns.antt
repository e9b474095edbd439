-- The steps of each call of the sender are a run.
use Rattle.oneshot_drive.proofs.Names.{◌≡◌, ℕ, Bool, true, false, List, [], ◌∷◌, Some, refl, sym, ◌∙◌, TakeWaker, Wake, Free, Send, IntoInner, DropError, SendAdd, SendTakeWaker, SendFinal}
use Rattle.oneshot_drive.proofs.Names.{SendWake, SendLateWake}
use Rattle.oneshot_drive.proofs.Names.{DropTakeWaker, DropFinal, DropWake, DropLateWake, IntoFree, ErrorFree, SenderPos, Swap, Add, Xor, Log, Grows, did, wrote, took, handed, worded, Goes, Answers}
use Rattle.oneshot_drive.proofs.Names.{last, more, SenderRan, sender_step, sender_row, and_then, finishing, LastFinds, finds_waiting, finds_overdue, finds_gone}
use Rattle.oneshot_drive.proofs.Names.{Finishes, send_reply, RECEIVING, DISCONNECTED, EMPTY, MESSAGE}
use Rattle.oneshot_machine.specs.declared.machine.Reply.{Reply}
use Rattle.oneshot_machine.specs.declared.machine.Reply.TheVariants as R
use Rattle.oneshot_machine.specs.declared.machine.Seen.TheVariants as S
use Rattle.oneshot_machine.specs.declared.machine.Step.TheVariants.{DropMessage}
use Rattle.oneshot_machine.specs.declared.machine.sender.SenderCall.{SenderCall}
use Rattle.oneshot_machine.specs.declared.machine.sender.SenderCall.TheVariants.{Drop}
use Rattle.oneshot_machine.specs.declared.machine.sender.SenderPos.TheVariants.{DropFree}
use Rattle.oneshot_machine.specs.Logs.{words}
use Rattle.oneshot_drive.specs.Wakes.{found_receiver_waiting}

-- after its last operation a sender wakes the receiver, then replies whether it was here
abbrev send_wake : Bool → SenderPos
send_wake true = SendWake
send_wake false = SendLateWake

send_final : {n : ℕ} {here : Bool} → LastFinds n here → sender_row SendFinal (S.Word n) ≡ Some (Goes (send_wake here))
send_final finds_waiting = refl
send_final finds_overdue = refl
send_final finds_gone = refl

wake_is : (here : Bool) → Wake ≡ sender_step (send_wake here)
wake_is true = refl
wake_is false = refl

woke : (here : Bool) → sender_row (send_wake here) S.Done ≡ Some (Answers (send_reply here))
woke true = refl
woke false = refl

drop_final : {n : ℕ} → LastFinds n true → sender_row DropFinal (S.Word n) ≡ Some (Goes DropWake)
drop_final finds_waiting = refl
drop_final finds_overdue = refl

drop_late : {n : ℕ} → LastFinds n false → sender_row DropFinal (S.Word n) ≡ Some (Goes DropLateWake)
drop_late finds_gone = refl

-- between the two logs a ground made one run of the call, and used the waker of a receiver that it found waiting
pub record SenderWoke {T W : Type 0} (woken : W → Type 0) (call : SenderCall) (before after : Log T W) (reply : Reply)
    (given got : List T) : Type 0 where
  pub ran : SenderRan call before after reply given got
  pub woke : found_receiver_waiting (words ran.run) ≡ true → (k : W) × woken k

none_waits : {W : Type 0} {woken : W → Type 0} {waits : Bool} → waits ≡ false → waits ≡ true → (k : W) × woken k
none_waits none found = absurd (let e = sym none ∙ found in cc e)

module _ {T W : Type 0} (woken : W → Type 0) where
  -- the runs of `send`
  pub send_ran : {l k j : Log T W} {x : T} (n : ℕ) → n ≡ EMPTY → Grows l k (wrote x ∷ [])
      → Grows k j (worded Add n ∷ [])
      → SenderWoke woken Send l j R.Sent (x ∷ []) []
  send_ran {x} n e s t =
      record {
        ran = record {
          run = wrote x ∷ worded Add n ∷ [];
          is_run = more SendAdd _ _ refl refl (last _ refl (rw e));
          grows = and_then _ _ s t;
          gives = refl;
          gets = refl;
        };
        woke = none_waits (rw e);
      }

  pub send_refused : {l k j : Log T W} {x : T} (n : ℕ) → n ≡ DISCONNECTED → Grows l k (wrote x ∷ [])
      → Grows k j (worded Add n ∷ []) → SenderWoke woken Send l j R.Refused (x ∷ []) []
  send_refused {x} n e s t =
      record {
        ran = record {
          run = wrote x ∷ worded Add n ∷ [];
          is_run = more SendAdd _ _ refl refl (last _ refl (rw e));
          grows = and_then _ _ s t;
          gives = refl;
          gets = refl;
        };
        woke = none_waits (rw e);
      }

  pub send_woke : {l k j z : Log T W} {x : T} (n : ℕ) (here : Bool) → n ≡ RECEIVING → Grows l k (wrote x ∷ [])
      → Grows k j (worded Add n ∷ []) → Finishes MESSAGE here woken j z
      → SenderWoke woken Send l z (send_reply here) (x ∷ []) []
  send_woke {x} n here e s t f =
      record {
        ran = record {
          run = wrote x ∷ worded Add n ∷ finishing MESSAGE f.found f.waker;
          is_run = more SendAdd _ _ refl refl
              (more SendTakeWaker _ _ refl (rw e)
              (more SendFinal _ _ refl refl (more (send_wake here) _ _ refl (send_final f.finds)
              (last _ (wake_is here) (woke here)))));
          grows = and_then (wrote x ∷ []) _ s (and_then (worded Add n ∷ []) _ t f.grows);
          gives = refl;
          gets = refl;
        };
        woke = λ _. (f.waker, f.woke);
      }

  -- those of the drop
  pub drop_ran : {l k : Log T W} (n : ℕ) → n ≡ EMPTY → Grows l k (worded Xor n ∷ [])
      → SenderWoke woken Drop l k R.Done [] []
  drop_ran n e s =
      record {
        ran = record { run = worded Xor n ∷ []; is_run = last _ refl (rw e); grows = s; gives = refl; gets = refl };
        woke = none_waits (rw e);
      }

  pub drop_woke : {l k j : Log T W} (n : ℕ) → n ≡ RECEIVING → Grows l k (worded Xor n ∷ [])
      → Finishes DISCONNECTED true woken k j
      → SenderWoke woken Drop l j R.Done [] []
  drop_woke n e s f =
      record {
        ran = record {
          run = worded Xor n ∷ finishing DISCONNECTED f.found f.waker;
          is_run = more DropTakeWaker _ _ refl (rw e)
              (more DropFinal _ _ refl refl (more DropWake _ _ refl (drop_final f.finds) (last _ refl refl)));
          grows = and_then _ _ s f.grows;
          gives = refl;
          gets = refl;
        };
        woke = λ _. (f.waker, f.woke);
      }

  pub drop_freed_late : {l k j z : Log T W} {was : W → Type 0} (n : ℕ) → n ≡ RECEIVING → Grows l k (worded Xor n ∷ [])
      → Finishes DISCONNECTED false was k j → Grows j z (did Free ∷ []) → ((waker : W) → was waker → woken waker)
      → SenderWoke woken Drop l z R.Done [] []
  drop_freed_late n e s f t still =
      record {
        ran = record {
          run = worded Xor n ∷ handed TakeWaker f.waker ∷ worded (Swap DISCONNECTED) f.found ∷ handed Wake f.waker
              ∷ did Free ∷ [];
          is_run = more DropTakeWaker _ _ refl (rw e)
              (more DropFinal _ _ refl refl (more DropLateWake _ _ refl (drop_late f.finds)
              (more DropFree _ _ refl refl (last _ refl refl))));
          grows = and_then (worded Xor n ∷ []) _ s (and_then (finishing DISCONNECTED f.found f.waker) _ f.grows t);
          gives = refl;
          gets = refl;
        };
        woke = λ _. (f.waker, still f.waker f.woke);
      }

  pub drop_freed : {l k j : Log T W} (n : ℕ) → n ≡ DISCONNECTED → Grows l k (worded Xor n ∷ [])
      → Grows k j (did Free ∷ [])
      → SenderWoke woken Drop l j R.Done [] []
  drop_freed n e s t =
      record {
        ran = record {
          run = worded Xor n ∷ did Free ∷ [];
          is_run = more DropFree _ _ refl (rw e) (last _ refl refl);
          grows = and_then _ _ s t;
          gives = refl;
          gets = refl;
        };
        woke = none_waits (rw e);
      }

module _ {T W : Type 0} where
  -- the error's calls
  pub into_ran : {l k j : Log T W} (x : T) → Grows l k (took x ∷ []) → Grows k j (did Free ∷ [])
      → SenderRan IntoInner l j R.Message [] (x ∷ [])
  into_ran x s t =
      record {
        run = took x ∷ did Free
            ∷ [];
        is_run =
            more IntoFree _ _ refl refl (last _ refl refl);
        grows = and_then _ _ s t;
        gives = refl;
        gets = refl;
      }

  pub error_ran : {l k j : Log T W} → Grows l k (did DropMessage ∷ []) → Grows k j (did Free ∷ [])
      → SenderRan DropError l j R.Done [] []
  error_ran s t =
      record {
        run = did DropMessage ∷ did Free
            ∷ [];
        is_run =
            more ErrorFree _ _ refl refl (last _ refl refl);
        grows = and_then _ _ s t;
        gives = refl;
        gets = refl;
      }
