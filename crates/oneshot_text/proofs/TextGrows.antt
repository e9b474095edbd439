-- The text of a run, which grows by a line for each move.
use Rattle.std.proofs.Common.{arith, ◌≡◌, ℕ, ◌+◌, suc, List, [], ◌∷◌, ◌++◌, length, Option, Some, None, refl, sym, subst, ap, ◌∙◌}
use Rattle.std.specs.Prelude.{codes, unwrap_or}
use Rattle.std.specs.Option.{option_and_then}
use Rattle.std.specs.Io.KnownBytes.{Appends}
use Rattle.std.proofs.lemmas.List.{append_assoc, append-nil}
use Rattle.oneshot_world.specs.Calls.{first, as_receiver_call}
use Rattle.oneshot_world.specs.World.{World, turn, IsRunFrom}
use Rattle.oneshot_replay.proofs.Runs.{run_has_as_many, run_extended, last_more}
use Rattle.oneshot_replay.specs.Rest.{rest_at}
use Rattle.oneshot_replay.specs.declared.rest.Rest.{Rest}
use Rattle.oneshot_text.specs.RestText.{rest_text, block_text}
use Rattle.oneshot_replay.specs.TraceView.{last_of}
use Rattle.oneshot_replay.specs.declared.Entry.{Entry}
use Rattle.oneshot_replay.specs.declared.Move.{Move}
use Rattle.oneshot_text.specs.declared.show.entry.EntryLine.{EntryLine}
use Rattle.oneshot_text.specs.EntryText.{entry_text}
use Rattle.oneshot_text.specs.TraceText.{line, line_of, entries_text, end_text, IsTextOf}

-- what is written of the run so far, which has come to the world `now`
pub record IsTextTo (message : ℕ) (number : ℕ) (start : World) (moves : List Move) (text : List ℕ) (now : World) : Type
    0 where
  pub worlds : List World
  pub entries : List Entry
  pub is_run : IsRunFrom number start worlds moves entries
  pub ends : last_of start worlds ≡ now
  pub written : text ≡ entries_text message number start worlds entries

abbrev pub line_at : ℕ → ℕ → World → Entry → List ℕ
line_at message number w entry =
    line (entry_text number (option_and_then as_receiver_call (first w.receiver.calls)) message entry)

pub text_begins : (message number : ℕ) (start : World) → IsTextTo message number start [] [] start
text_begins message number start = record { worlds = []; entries = []; is_run = tt; ends = refl; written = refl }

entries_more : (message n : ℕ) (start : World) (worlds : List World) (moves : List Move) (entries : List Entry)
    (entry : Entry) (next : World) → IsRunFrom n start worlds moves entries
    → entries_text message n start (worlds ++ next ∷ []) (entries ++ entry ∷ [])
    ≡ entries_text message n start worlds entries ++ line_at message (n + length entries) (last_of start worlds) entry
entries_more message n start [] [] [] entry next is_run =
    let here : n + 0 ≡ n = omega arith in rw here (append-nil (line_at message n start entry))
entries_more message n start (w ∷ worlds) (m ∷ moves) (e ∷ entries) entry next is_run =
    let later : n + suc (length entries) ≡ (n + 1) + length entries = omega arith in
    rw later (ap (λ text. line_at message n start e ++ text)
    (entries_more message (n + 1) w worlds moves entries entry next is_run.1)
    ∙ sym (append_assoc (line_at message n start e) (entries_text message (n + 1) w worlds entries) _))
entries_more message n start _ _ _ entry next is_run = elim is_run [ ]

-- one more move, with its line
pub text_grows : (message n : ℕ) (start : World) (moves : List Move) (text : List ℕ) (now : World) (move : Move)
    (entry : Entry) (next : World) → IsTextTo message n start moves text now
    → turn (n + length moves) now move ≡ Some (entry, next)
    → IsTextTo message n start (moves ++ move ∷ []) (text ++ line_at message (n + length moves) now entry) next
text_grows message n start moves text now move entry next so_far turned =
    let many : length so_far.entries ≡ length moves =
    run_has_as_many n start so_far.worlds moves so_far.entries so_far.is_run in
    record {
      worlds = so_far.worlds ++ next ∷ [];
      entries = so_far.entries ++ entry ∷ [];
      is_run = run_extended n start so_far.worlds moves so_far.entries move entry next so_far.is_run
          (rw (so_far.ends, many) turned);
      ends = last_more start so_far.worlds next;
      written =
          rw so_far.written (rw (← so_far.ends, ← many)
          (sym (entries_more message n start so_far.worlds moves so_far.entries entry next so_far.is_run)));
    }

-- the whole text
pub text_ends : (message : Option ℕ) (n : ℕ) (start : World) (moves : List Move) (text : List ℕ) (now : World)
    → IsTextTo (unwrap_or message 0) n start moves text now
    → IsTextOf message n start moves (text ++ end_text message now)
text_ends message n start moves text now so_far =
    record {
      worlds = so_far.worlds;
      entries = so_far.entries;
      is_run = so_far.is_run;
      written = rw (so_far.written, so_far.ends) refl;
    }

-- bytes that are appended in two parts
pub appends_more : (old mid new : Option (List ℕ)) (xs ys : List ℕ) → Appends old mid xs → Appends mid new ys
    → Appends old new (xs ++ ys)
appends_more None mid new xs ys first_part second_part = tt
appends_more (Some old) None new xs ys first_part second_part = elim first_part [ ]
appends_more (Some old) (Some mid) None xs ys first_part second_part = elim second_part [ ]
appends_more (Some old) (Some mid) (Some new) xs ys first_part second_part =
    second_part ∙ ap (λ bytes. bytes ++ ys) first_part ∙ append_assoc old xs ys

-- the last two lines, one after the other
pub ends_written : (old mid new : Option (List ℕ)) (message : Option ℕ) (w : World) (rest : Option (Rest ℕ))
    (word : List ℕ) → rest ≡ rest_at w.state.message message → word ≡ block_text w.state.freed
    → Appends old mid (codes "rest " ++ (rest_text rest ++ 10 ∷ []))
    → Appends mid new (codes "block " ++ (word ++ 10 ∷ [])) → Appends old new (end_text message w)
ends_written old mid new message w rest word is_rest is_word first_line second_line =
    appends_more old mid new (line (codes "rest " ++ rest_text (rest_at w.state.message message)))
    (line (codes "block " ++ block_text w.state.freed))
    (subst (λ r. Appends old mid (codes "rest " ++ (rest_text r ++ 10 ∷ []))) is_rest first_line)
    (subst (λ b. Appends mid new (codes "block " ++ (b ++ 10 ∷ []))) is_word second_line)

-- what a loop over the moves has written, and what a round adds
pub record HasWritten (message n : ℕ) (start : World) (moves : List Move) (old new : Option (List ℕ))
    (now : World) : Type 0 where
  pub text : List ℕ
  pub is_text : IsTextTo message n start moves text now
  pub appends : Appends old new text

pub written_first : (message n : ℕ) (start : World) (old new : Option (List ℕ)) → Appends old new []
    → HasWritten message n start [] old new start
written_first message n start old new nothing =
    record { text = []; is_text = text_begins message n start; appends = nothing }

pub written_more : (message n : ℕ) (start : World) (moves : List Move) (old mid new : Option (List ℕ)) (now : World)
    (move : Move) (entry : Entry) (next : World) → HasWritten message n start moves old mid now
    → turn (n + length moves) now move ≡ Some (entry, next)
    → Appends mid new (line_at message (n + length moves) now entry)
    → HasWritten message n start (moves ++ move ∷ []) old new next
written_more message n start moves old mid new now move entry next so_far turned more =
    record {
      text = so_far.text ++ line_at message (n + length moves) now entry;
      is_text = text_grows message n start moves so_far.text now move entry next so_far.is_text turned;
      appends = appends_more old mid new so_far.text _ so_far.appends more;
    }

-- the same for an `EntryLine`, whose number is the one after `count`
pub written_line : (message n : ℕ) (start : World) (moves : List Move) (old mid new : Option (List ℕ)) (now : World)
    (move : Move) (e : EntryLine) (next : World) (count : ℕ) → HasWritten message n start moves old mid now
    → turn (count + 1) now move ≡ Some (e.entry, next) → e.number ≡ count + 1
    → e.call ≡ option_and_then as_receiver_call (first now.receiver.calls) → e.message ≡ message
    → count + 1 ≡ n + length moves → Appends mid new (line_of e)
    → HasWritten message n start (moves ++ move ∷ []) old new next
written_line message n start moves old mid new now move e next count so_far turned number call says is more =
    let shown : line_of e ≡ line_at message (n + length moves) now e.entry = rw (number, call, says, is) refl in
    written_more message n start moves old mid new now move e.entry next so_far (rw is at turned) (rw shown at more)

pub written_whole : (message own : Option ℕ) (n : ℕ) (start : World) (moves : List Move) (old mid new : Option (List ℕ))
    (now : World) → own ≡ message → HasWritten (unwrap_or message 0) n start moves old mid now
    → Appends mid new (end_text own now) → (text : List ℕ) × IsTextOf message n start moves text × Appends old new text
written_whole message own n start moves old mid new now is so_far more = (
  so_far.text ++ end_text message now,
  text_ends message n start moves so_far.text now so_far.is_text,
  appends_more
      old mid new so_far.text _ so_far.appends (rw is at more),
)
