-- Views of the past: the part of a mark that looks only back, from the mark and as the reader of histories sees it.
use Rattle.oneshot_laws.proofs.Names.{Bool, not, ◌&&◌, ◌||◌, List, [], ◌∷◌, Sender, Receiver, Call, Unanswered, by_end, Entry, Made, Object, is_end_of_sender, is_end_of_receiver, Mark, call_under_way}
use Rattle.oneshot_laws.proofs.Names.{object_then, acts_last}
use Rattle.oneshot_world.specs.declared.trace.Entry.TheVariants.{Idle, Made as Made_entry}
use Rattle.oneshot_laws.proofs.HistoryReader.{kind, Watch, Reader, hits, object_by, watch_at, reads}
use Rattle.oneshot_laws.proofs.Product.{left_after}

-- `last` is whether a call that ends its end acts here, and `next` is the object afterwards.
pub record PastView : Type 0 where
  pub entry : Made
  pub call : Call
  pub begins : Bool
  pub last : Bool
  pub object : Object
  pub next : Object

abbrev pub past_of : Mark → PastView
past_of m =
    record {
      entry = m.entry;
      call = m.call;
      begins = m.begins;
      last = acts_last m;
      object = m.object;
      next = object_then m;
    }

-- the same, as the reader sees it
abbrev pub past_at : Call → Made → Object → Watch → PastView
past_at call e o x =
    record {
      entry = e;
      call = call;
      begins = not x.begun;
      last = hits (kind call) e x && (is_end_of_sender call || is_end_of_receiver call);
      object = o;
      next = object_by call e o x;
    }

abbrev pub pasts : Reader → Unanswered → Unanswered → List Entry → List PastView
pasts m s r [] = []
pasts m s r (Idle side ∷ es) = pasts m s r es
pasts m s r (Made_entry e ∷ es) =
    past_at (call_under_way (by_end e.side s r)) e m.object (watch_at e.side m)
    ∷ pasts (reads e.side (call_under_way (by_end e.side s r)) e m) (left_after e.side Sender e.reply s)
    (left_after e.side Receiver e.reply r) es
