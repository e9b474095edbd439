-- Proofs of the goals that `equality_agrees_with_hashing` leaves.
use Rattle.std.proofs.Common.{refl, sym}
use Rattle.oneshot_errors.specs.declared.recv_timeout.RecvTimeoutError.TheVariants.{Timeout, Disconnected as Gone}
use Rattle.oneshot_errors.specs.declared.try_recv.TryRecvError.TheVariants.{Empty, Disconnected}
use Rattle.oneshot_errors.proofs.Equality.{usize-apart}
use Rattle.oneshot_errors.proofs.laws.equality_agrees_with_hashing.Goals as goal

pub returns-clause-recv_timeout : goal.returns-clause-recv_timeout
returns-clause-recv_timeout c = record {
  same = elim [
    | Timeout ↦ elim [ Timeout ↦ (λ _. refl, λ _. refl) | Gone ↦ (λ e. cc, λ e. cc) ]
    | Gone ↦ elim [ Timeout ↦ (λ e. cc, λ e. cc) | Gone ↦ (λ _. refl, λ _. refl) ]
  ];
  alike = elim [
    | Timeout ↦ elim [ Timeout ↦ (λ _. refl, λ _. refl) | Gone ↦ (λ e. cc, λ e. absurd (usize-apart e)) ]
    | Gone ↦ elim [ Timeout ↦ (λ e. cc, λ e. absurd (usize-apart (sym e))) | Gone ↦ (λ _. refl, λ _. refl) ]
  ];
}

pub returns-clause-try_recv : goal.returns-clause-try_recv
returns-clause-try_recv c = record {
  same = elim [
    | Empty ↦ elim [ Empty ↦ (λ _. refl, λ _. refl) | Disconnected ↦ (λ e. cc, λ e. cc) ]
    | Disconnected ↦ elim [ Empty ↦ (λ e. cc, λ e. cc) | Disconnected ↦ (λ _. refl, λ _. refl) ]
  ];
  alike = elim [
    | Empty ↦ elim [ Empty ↦ (λ _. refl, λ _. refl) | Disconnected ↦ (λ e. cc, λ e. absurd (usize-apart e)) ]
    | Disconnected ↦ elim [
      | Empty ↦ (λ e. cc, λ e. absurd (usize-apart (sym e)))
      | Disconnected ↦ (λ _. refl, λ _. refl)
    ]
  ];
}
