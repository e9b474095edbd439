-- Examples of where a row leads.
use Rattle.std.specs.Prelude.{◌≡◌, Some, None}
use Rattle.oneshot_machine.specs.declared.machine.Reply.TheVariants.{Sent}
use Rattle.oneshot_machine.specs.declared.machine.RowEnd.TheVariants as Code
use Rattle.oneshot_machine.specs.declared.machine.sender.SenderPos.{SenderPos}
use Rattle.oneshot_machine.specs.declared.machine.sender.SenderPos.TheVariants.{SendAdd, SendWake}
use Rattle.oneshot_machine.specs.TableRows.{Goes, Answers, outcome, leads}

pub record RowsThatLead : Type 0 where
  pub goes : leads {P = SenderPos} (Code.Goes SendAdd) ≡ Goes SendAdd
  pub answers : leads {P = SenderPos} (Code.Answers Sent) ≡ Answers Sent
  pub goes_on : outcome (SendAdd, None) ≡ Goes SendAdd
  pub ends : outcome (SendWake, Some Sent) ≡ Answers Sent
