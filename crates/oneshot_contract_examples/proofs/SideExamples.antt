-- The examples of sides: each by its row of the table, and what the counterexamples lack.
use Rattle.std.proofs.Common.{◌≡◌, ℕ, List, [], Some, None, refl}
use Rattle.oneshot_word.proofs.Names.{get_or, ap, TableId, Seen, Done, Word, Add, Noted, Held, held}
use Rattle.oneshot_contract_examples.specs.RowExamples.{no_slot, no_content, has}
use Rattle.oneshot_contract_examples.proofs.RowExamples.{slots_that_are, slots_that_are_not}
use Rattle.oneshot_contract_examples.specs.SeatExamples.{sent_at_once}
use Rattle.oneshot_contract_examples.specs.SideExamples.{SidesThatAre}
use Rattle.oneshot_word.proofs.Names.{RECEIVING, EMPTY}
use Rattle.oneshot_contract_examples.specs.SideExamples.{SidesThatAreNot}
use Rattle.oneshot_contract_examples.specs.ExampleLogs.{claims, loaded}

-- a slot holds one thing
same_waker : {j k : ℕ} → ◌≡◌ {A = Held ℕ} (held j) (held k) → Some j ≡ Some k
same_waker e = ap Some (cc e)

pub sides_that_are : SidesThatAre
sides_that_are =
    record {
      shows = refl;
      shows_none = refl;
      ends = record {
        sender_about = refl;
        receiver_about = refl;
        table = refl;
        sender_log = refl;
        sender_slots = (refl, refl);
        sender_passed = refl;
        sender_handed = refl;
        receiver_log = refl;
        receiver_slots = (refl, refl);
        receiver_passed = refl;
        receiver_handed = refl;
      };
      may_send = slots_that_are.sends;
      may_drop = slots_that_are.drops;
      may_swap = slots_that_are.sends_at_last;
      may_load = slots_that_are.loads;
      may_wait = slots_that_are.stores;
      sends = record {
        about = refl;
        table = refl;
        list = refl;
        finds = slots_that_are.gives_its_message;
        passed = refl;
        handed = refl;
        gets = λ k from to. absurd (cc to);
        stays = λ x is. absurd (cc is);
        takes = tt;
      };
      claims_a_waker = record {
        about = refl;
        table = refl;
        list = refl;
        finds = slots_that_are.gets_a_waker;
        passed = refl;
        handed = refl;
        gets = λ k from to. same_waker to;
        stays = λ x is. absurd (cc is);
        takes = tt;
      };
      gives_its_waker = record {
        about = refl;
        table = refl;
        list = refl;
        finds = slots_that_are.stores_its_waker;
        passed = refl;
        handed = refl;
        gets = λ k from to. absurd (cc from);
        stays = λ x is. absurd (cc is);
        takes = refl;
      };
      takes_it_back = record {
        about = refl;
        table = refl;
        list = refl;
        finds = slots_that_are.takes_it_back;
        passed = refl;
        handed = refl;
        gets = λ k from to. same_waker to;
        stays = λ x is. absurd (cc is);
        takes = refl;
      };
      receives = record {
        about = refl;
        table = refl;
        list = refl;
        finds = slots_that_are.gets_a_message;
        passed = refl;
        handed = refl;
        gets = λ k from to. absurd (cc to);
        stays = λ x is. absurd (cc is);
        takes = refl;
      };
    }

-- a table's block
abbrev block : TableId → ℕ
block t = t.block

-- what the first operation of a log saw
abbrev first_seen : List Noted → Seen
first_seen log = (get_or log 0 (Add, Done)).1

pub sides_that_are_not : SidesThatAreNot
sides_that_are_not =
    record {
      sender_about_another = λ ends. let is : 8 ≡ 7 = ends.sender_about in cc is;
      receiver_about_another = λ ends. let is : 8 ≡ 7 = ends.receiver_about in cc is;
      of_two_tables = λ ends. let is : 5 ≡ 6 = ap block ends.table in cc is;
      sender_has_operated = λ ends. let is : claims ≡ [] = ends.sender_log in cc is;
      sender_has_a_message = λ ends. let is : has 7 ≡ no_content = ends.sender_slots.0 in cc is;
      sender_has_the_waker = λ ends. let is : no_content ≡ no_slot = ends.sender_slots.1 in cc is;
      sender_has_given = λ ends. let is : Some 7 ≡ None = ends.sender_passed in cc is;
      sender_has_woken = λ ends. let is : Some 1 ≡ None = ends.sender_handed in cc is;
      receiver_has_operated = λ ends. let is : loaded ≡ [] = ends.receiver_log in cc is;
      receiver_has_the_message = λ ends. let is : no_content ≡ no_slot = ends.receiver_slots.0 in cc is;
      receiver_has_the_waker = λ ends. let is : no_content ≡ no_slot = ends.receiver_slots.1 in cc is;
      receiver_has_given = λ ends. let is : Some 1 ≡ None = ends.receiver_handed in cc is;
      receiver_has_taken = λ ends. let is : Some 7 ≡ None = ends.receiver_passed in cc is;
      sends_nothing = slots_that_are_not.sends_nothing;
      sends_twice = slots_that_are_not.sends_twice;
      waits_without_a_waker = slots_that_are_not.waits_without_a_waker;
      becomes_about_another = λ did. let is : 8 ≡ 7 = did.about in cc is;
      moves_to_another = λ did. let is : 6 ≡ 5 = ap block did.table in cc is;
      is_not_logged = λ did. let is : [] ≡ sent_at_once = did.list in cc is;
      logs_another_word = λ did. let is : Word RECEIVING ≡ Word EMPTY = ap first_seen did.list in cc is;
      keeps_its_message = λ did. slots_that_are_not.sends_and_keeps did.finds;
      gives_none = λ did. let is : None ≡ Some 7 = did.passed in cc is;
      gives_another = λ did. let is : Some 8 ≡ Some 7 = did.passed in cc is;
      gets_no_message = λ did. slots_that_are_not.gets_no_message did.finds;
      claims_and_notes_none = λ did. let is : None ≡ Some 1 = did.handed in cc is;
      claims_and_notes_another = λ did. let is : Some 2 ≡ Some 1 = did.handed in cc is;
      gets_another_back = λ did. let is : Some 1 ≡ Some 2 = did.gets 2 refl refl in cc is;
      takes_none = λ did. let is : None ≡ Some 7 = did.passed in cc is;
      takes_again = λ did. let is : Some 7 ≡ Some 8 = did.stays 8 refl in cc is;
    }
