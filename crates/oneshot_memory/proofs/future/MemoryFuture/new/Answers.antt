-- A new receiver is at rest, so it is a future that was not polled.
use Rattle.oneshot_drive.specs.Polls.{unpolled}
use Rattle.oneshot_memory.proofs.future.MemoryFuture.new.Goals as goal

pub returns-clause-rests : goal.returns-clause-rests
returns-clause-rests g c =
    let rests = c.new.ensures.rests in record { at = rests.at; is_one = unpolled rests.is_one; stands = rests.stands }
