-- Who holds the block, when an end lets go of it, and the law that its last holder frees it, once.
use Rattle.std.specs.Prelude.{Bool, true, false, not, ◌&&◌, ◌||◌, List, [], ◌∷◌}
use Rattle.std.specs.List.{list_any}
use Rattle.oneshot_machine.specs.declared.machine.End.{End}
use Rattle.oneshot_machine.specs.declared.machine.End.TheVariants.{Sender, Receiver}
use Rattle.oneshot_world.specs.World.{by_end}
use Rattle.oneshot_laws.specs.Entries.{only_if, is_word, is_on_a_cell, is_free}
use Rattle.oneshot_laws.specs.Object.{Object}
use Rattle.oneshot_laws.specs.Actions.{is_end_of_sender, is_end_of_receiver}
use Rattle.oneshot_laws.specs.Marks.{Mark, side}
use Rattle.oneshot_laws.specs.Ended.{all_ended}

-- the error of a refused send holds the block in the sender's place
pub record Holders : Type 0 where
  pub sender : Bool
  pub receiver : Bool

abbrev pub both_hold : Holders
both_hold = record { sender = true; receiver = true }

abbrev pub holds : End → Holders → Bool
holds end h = by_end end h.sender h.receiver

abbrev pub other : End → End
other Sender = Receiver
other Receiver = Sender

abbrev pub is_here : End → Object → Bool
is_here end o = by_end end o.sender_here o.receiver_here

-- an operation on the word, a step on a cell, or a free; a wake is none of these
abbrev pub uses_block : Mark → Bool
uses_block m = is_word m.entry.step || is_on_a_cell m.entry.step || is_free m.entry.step

abbrev pub frees : Mark → Bool
frees m = is_free m.entry.step

-- the acting entry of a call that ends an end
abbrev pub acts_last : Mark → Bool
acts_last m = m.acting && (is_end_of_sender m.call || is_end_of_receiver m.call)

-- an end lets go at its last call's acting entry if the other end is here, and else at its free
abbrev pub lets_go : Mark → Bool
lets_go m = frees m || (acts_last m && is_here (other (side m)) m.object)

abbrev pub holders_then : Holders → Mark → Holders
holders_then h m =
    record {
      sender = h.sender && not (by_end (side m) (lets_go m) false);
      receiver = h.receiver && not (by_end (side m) false (lets_go m));
    }

-- only a holder uses the block, and only the last one frees it
abbrev pub is_held : Holders → List Mark → Bool
is_held h [] = true
is_held h (m ∷ later) =
    only_if (uses_block m) (holds (side m) h)
    && only_if (frees m) (not (holds (other (side m)) h))
    && is_held (holders_then h m) later

-- Nothing uses the block after a free, and nothing frees it again. This follows from `is_held`, since who
-- frees is the last holder and lets go of it; it is here because readers look for it.
abbrev pub is_free_last : List Mark → Bool
is_free_last [] = true
is_free_last (m ∷ later) = only_if (frees m) (not (list_any uses_block later)) && is_free_last later

-- what `block_freed` returns
abbrev pub is_freed : List Mark → Bool
is_freed ms = list_any frees ms

-- once all have ended the block is freed
abbrev pub is_freed_at_end : List Mark → Bool
is_freed_at_end ms = only_if (all_ended ms) (is_freed ms)

abbrev pub is_freed_right : List Mark → Bool
is_freed_right ms = is_held both_hold ms && is_free_last ms && is_freed_at_end ms
