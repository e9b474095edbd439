-- No task waits unwoken: in each run, once the sender's send or drop has replied, the last poll that left
-- its task was woken.
use Rattle.oneshot_laws.proofs.Names.{◌≡◌, ℕ, ◌==◌, Bool, true, false, not, ◌&&◌, ◌||◌, List, [], ◌∷◌, map, Option, Some, None, is_some, get_or, refl, sym, ◌∙◌, ap, option_map, Call, Poll, number_of}
use Rattle.oneshot_laws.proofs.Names.{calls_of, Classes, as_call, as_move, bool_code, WakerMove, World, IsRun, opening, Move, ReceiverScript, SenderScript, Entry, Parker, Copy, is_listed}
use Rattle.oneshot_laws.proofs.Names.{is_end_of_sender, is_drop_of_receiver, Mark, marks, has_answered, uses_copy_of, is_own, is_poll, waits_in_task}
use Rattle.oneshot_world.specs.declared.trace.WakerPlace.TheVariants as W
use Rattle.oneshot_laws.proofs.Coding.{listed, pairs, by_parts, flags}
use Rattle.oneshot_laws.proofs.EndedRuns.{own_after, or_more, or_false}
use Rattle.oneshot_laws.proofs.PastLaws.{Law, Passes, as_past, of_call, with_history, LawExplored, all_past, passes_by}
use Rattle.oneshot_laws.proofs.PastViews.{PastView, past_of}
use Rattle.oneshot_laws.proofs.Product.{Names}
use Rattle.oneshot_laws.proofs.ProductRuns.{Classed}
use Rattle.oneshot_laws.proofs.LastPollRead.{Nap, Calm, Polling, Left, nap_then, nap_after, left_after_nap, left_by_number}

-- WHAT IS SEEN BY CLASSES: the number's own class is 1, and that of all others 0
abbrev of_number : ℕ → Classes
of_number number =
    record { copies = λ other entry. bool_code (other == number); polls = λ other. bool_code (other == number) }

is_one : (b : Bool) → (bool_code b == 1) ≡ b
is_one true = refl
is_one false = refl

used_as : (number : ℕ) (x : Option WakerMove)
    → uses_copy_of 1 (option_map (as_move (of_number number)) x) ≡ uses_copy_of number x
used_as number None = refl
used_as number (Some (Parker, from, W.New)) = refl
used_as number (Some (Parker, from, W.Hand)) = refl
used_as number (Some (Parker, from, W.Cell)) = refl
used_as number (Some (Parker, from, W.SenderHand)) = refl
used_as number (Some (Parker, from, W.Used)) = refl
used_as number (Some (Parker, from, W.Dropped)) = refl
used_as number (Some (Copy other entry, from, W.New)) = refl
used_as number (Some (Copy other entry, from, W.Hand)) = refl
used_as number (Some (Copy other entry, from, W.Cell)) = refl
used_as number (Some (Copy other entry, from, W.SenderHand)) = refl
used_as number (Some (Copy other entry, from, W.Used)) = is_one (other == number)
used_as number (Some (Copy other entry, from, W.Dropped)) = refl

own_as : (number : ℕ) (x : Option ℕ) → is_own 1 (option_map (of_number number).polls x) ≡ is_own number x
own_as number None = refl
own_as number (Some other) = is_one (other == number)

polled_as : (number : ℕ) (call : Call)
    → is_own 1 (number_of (as_call (of_number number) call)) ≡ is_own number (number_of call)
polled_as number (Poll other) = is_one (other == number)
polled_as number _ = refl

nap_as : (number : ℕ) (nap : Nap) (g : PastView) → nap_then 1 nap (as_past (of_number number) g) ≡ nap_then number nap g
nap_as number nap g =
    let k = of_number number in
    let poll : is_poll (as_call k g.call) ≡ is_poll g.call = of_call k is_poll (λ a b. refl) g.call in
    let drops : is_drop_of_receiver (as_call k g.call) ≡ is_drop_of_receiver g.call =
    of_call k is_drop_of_receiver (λ a b. refl) g.call in
    rw (poll, drops, used_as number g.entry.waker, own_as number g.entry.own, polled_as number g.call) refl

-- THE READER: the last poll of the number, and whether the sender's last call has replied
pub record TaskStory : Type 0 where
  pub nap : Nap
  pub ended : Bool

abbrev ends_sender : PastView → Bool
ends_sender g = is_some g.entry.reply && is_end_of_sender g.call

abbrev story_then : TaskStory → PastView → TaskStory
story_then x g = record { nap = nap_then 1 x.nap g; ended = x.ended || ends_sender g }

abbrev is_left : Nap → Bool
is_left Left = true
is_left _ = false

abbrev is_well : TaskStory → Bool
is_well x = not (x.ended && is_left x.nap)

abbrev goes_well : TaskStory → PastView → Bool
goes_well x g = is_well (story_then x g)

abbrev nap_code : Nap → ℕ
nap_code Calm = 0
nap_code Polling = 1
nap_code Left = 2

nap_back : (x : Nap) → get_or (Calm ∷ Polling ∷ Left ∷ []) (nap_code x) Calm ≡ x
nap_back Calm = refl
nap_back Polling = refl
nap_back Left = refl

-- a copy has the class of the poll that makes it
abbrev two_polls : Names TaskStory
two_polls = record { polls = 0 ∷ 1 ∷ []; copies = λ x number. number ∷ [] }

abbrev at_first : TaskStory
at_first = record { nap = Calm; ended = false }

abbrev task_law : Law TaskStory
task_law =
    record {
      coding =
          by_parts (λ x. (x.nap, x.ended)) (λ p. record { nap = p.0; ended = p.1 }) (λ x. refl)
          (pairs (listed 3 nap_code (Calm ∷ Polling ∷ Left ∷ []) Calm nap_back) flags);
      passes = goes_well;
      sees = story_then;
      names = two_polls;
      first = λ place. at_first;
    }

task_explored : LawExplored task_law
task_explored = record { found = all_past task_law; all = refl }

either : (b : Bool) → is_listed (bool_code b) (0 ∷ 1 ∷ []) ≡ true
either true = refl
either false = refl

itself : (b : Bool) → is_listed (bool_code b) (bool_code b ∷ []) ≡ true
itself true = refl
itself false = refl

abbrev classed : (number : ℕ) → Classed (with_history task_law) (of_number number)
classed number =
    record {
      apt = λ n x. true;
      polled = λ other. either (other == number);
      copied = λ n x apt other. itself (other == number);
      stays = λ n x apt. refl;
      goes = λ n x side call e apt a fresh. refl;
    }

-- a trace that the reader accepts ends well
well_after : (gs : List PastView) (x : TaskStory) → is_well x ≡ true → Passes task_law x gs
    → is_well (own_after story_then x gs) ≡ true
well_after [] x well p = well
well_after (g ∷ gs) x well p = well_after gs (story_then x g) p.0 p.1

nap_of : (number : ℕ) (ms : List Mark) (x : TaskStory)
    → (own_after story_then x (map (as_past (of_number number)) (map past_of ms))).nap ≡ nap_after number x.nap ms
nap_of number [] x = refl
nap_of number (m ∷ ms) x =
    nap_of number ms (story_then x (as_past (of_number number) (past_of m)))
    ∙ ap (λ nap. nap_after number nap ms) (nap_as number x.nap (past_of m))

ended_as : (number : ℕ) (m : Mark)
    → ends_sender (as_past (of_number number) (past_of m)) ≡ (is_some m.entry.reply && is_end_of_sender m.call)
ended_as number m =
    of_call (of_number number) (λ call. is_some m.entry.reply && is_end_of_sender call) (λ a b. refl) m.call

ended_of : (number : ℕ) (ms : List Mark) (x : TaskStory)
    → (own_after story_then x (map (as_past (of_number number)) (map past_of ms))).ended
    ≡ (x.ended || has_answered is_end_of_sender ms)
ended_of number [] x = sym (or_false x.ended)
ended_of number (m ∷ ms) x =
    ended_of number ms (story_then x (as_past (of_number number) (past_of m)))
    ∙ ap (λ ends. (x.ended || ends) || has_answered is_end_of_sender ms) (ended_as number m)
    ∙ sym (or_more x.ended (is_some m.entry.reply && is_end_of_sender m.call) (has_answered is_end_of_sender ms))

not_both : (a b : Bool) → (a ≡ true → b ≡ true → false ≡ true) → not (a && b) ≡ true
not_both false b h = refl
not_both true false h = refl
not_both true true h = h refl refl

pub no_task_waits : {T : Type 0} (s : SenderScript T) (r : ReceiverScript) (worlds : List World) (moves : List Move)
    (entries : List Entry) → IsRun (opening s r) worlds moves entries
    → not (has_answered is_end_of_sender (marks (calls_of s r) entries) && waits_in_task (marks (calls_of s r) entries))
    ≡ true
no_task_waits s r worlds moves entries is_run =
    let ms : List Mark = marks (calls_of s r) entries in
    not_both _ _ (λ ended waits.
    let it = left_by_number ms waits in
    let x : TaskStory = own_after story_then at_first (map (as_past (of_number it.0)) (map past_of ms)) in
    let well : is_well x ≡ true = well_after _ at_first refl
    (passes_by task_law (of_number it.0) (classed it.0) task_explored s r worlds moves entries refl is_run) in
    let nap : x.nap ≡ Left = nap_of it.0 ms at_first ∙ left_after_nap it.0 ms Calm it.1 in
    let over : x.ended ≡ true = ended_of it.0 ms at_first ∙ ended in
    sym (ap (λ nap. not (x.ended && is_left nap)) nap ∙ ap (λ b. not (b && true)) over) ∙ well)
