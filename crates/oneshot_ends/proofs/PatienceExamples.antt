-- The examples of receives that wait, computed.
use Rattle.std.proofs.Common.{◌≡◌, Option, Some, None, true, false, refl, ap, arith}
use Rattle.oneshot_ends.specs.declared.patience.Patience.{Patience}
use Rattle.oneshot_ends.specs.Tokens.{ParkingView}
use Rattle.oneshot_ends.specs.declared.deadline.Deadline.TheVariants.{Never}
use Rattle.oneshot_ends.specs.declared.deadline.NextReading.{NextReading}
use Rattle.oneshot_ends.specs.declared.deadline.NextReading.TheVariants.{Due, Taken}
use Rattle.oneshot_ends.specs.declared.deadline.Reading.{Reading}
use Rattle.oneshot_ends.specs.Patience.{MaySpin, instant_of}
use Rattle.oneshot_ends.specs.PatienceExamples.{in_time, WaitsThatAre, WaitsThatAreNot}

took_of : {half next : ParkingView} → half ≡ next → half.taken ≡ next.taken
took_of e = ap (λ (half : ParkingView). half.taken) e

-- the reading that a receive has taken
abbrev reading_of : NextReading → Option Reading
reading_of (Taken reading) = Some reading
reading_of Due = None

pub waits_that_are : WaitsThatAre
waits_that_are =
    record {
      begins = λ deadline. refl;
      spins_first = λ deadline. (omega arith, λ e. absurd (cc));
      spins_in_time = λ end now e. (omega arith, λ _. omega arith);
      spins_again = λ deadline. (omega arith, λ e. absurd (cc));
      spins_once = λ half.
          let may : MaySpin false (in_time Never None 3) = (omega arith, λ e. absurd (cc)) in
          record {
            spins = λ _. (refl, refl);
            rests = λ never. absurd (never may);
            sleeps = λ never _. absurd (never may);
            returns = λ never _. absurd (never may);
          };
      sleeps = λ parker.
          record {
            spins = λ may. absurd (let few = may.0 in omega arith);
            rests = λ _. refl;
            sleeps = λ _ _. refl;
            returns = λ _ e. absurd (cc);
          };
      returns = λ parker.
          record {
            spins = λ may. absurd (let few = may.0 in omega arith);
            rests = λ _. refl;
            sleeps = λ _ _. refl;
            returns = λ _ _. refl;
          };
      reads_in_time = λ end now e.
          record {
            first = λ reading taken. absurd (cc taken);
            due = refl;
            told = (λ over. absurd (cc), λ past. absurd (omega arith));
            deadline = refl;
            spins = refl;
            late = refl;
          };
      reads_past_it = λ end now e.
          record {
            first = λ reading taken. absurd (cc taken);
            due = refl;
            told = (λ _. e, λ _. refl);
            deadline = refl;
            spins = refl;
            late = refl;
          };
      uses_its_reading = λ end now e.
          record {
            first = λ reading taken. ap reading_of taken;
            due = refl;
            told = (λ over. absurd (cc), λ past. absurd (omega arith));
            deadline = refl;
            spins = refl;
            late = refl;
          };
      reads_nothing = λ end.
          record {
            first = λ reading taken. absurd (cc taken);
            due = refl;
            told = (λ _. tt, λ _. refl);
            deadline = refl;
            spins = refl;
            late = refl;
          };
    }

pub waits_that_are_not : WaitsThatAreNot
waits_that_are_not =
    record {
      spins_on = λ timed deadline reading may. let few = may.0 in omega arith;
      spins_on_past_it = λ timed deadline reading may. let few = may.0 in omega arith;
      spins_late = λ end now e may. let far = may.1 refl in omega arith;
      spins_unread = λ end may. may.1 refl;
      spins_after_a_failure = λ end may. may.1 refl;
      spins_with_no_end = λ reading may. may.1 refl;
      counts_none = λ half parked.
          let e = ap (λ (p : Patience). p.spins) (parked.spins (omega arith, λ e. absurd (cc))).0 in cc e;
      keeps_its_reading = λ end now half parked.
          let e = ap (λ (p : Patience). p.reading) (parked.rests (λ may. let few = may.0 in omega arith)) in cc e;
      sleeps_without_it = λ parker parked.
          let e = took_of (parked.sleeps (λ may. let few = may.0 in omega arith) refl) in cc e;
      gives_it_back = λ parker deadline parked.
          let e = took_of (parked.returns (λ may. let few = may.0 in omega arith) refl) in cc e;
      reads_another = λ end now over reads.
          let e = ap instant_of (reads.first (record { instant = Some now }) refl) in cc e;
      uses_it_twice = λ end now over reads. let e = reads.due in cc e;
      over_at_once = λ end now e reads. let past = reads.told.0 refl in omega arith;
      never_over = λ end now e reads. let over : false ≡ true = reads.told.1 e in cc over;
      unread = λ end reads. reads.told;
      spins_all_again = λ end reads. let e = reads.spins in cc e;
    }
