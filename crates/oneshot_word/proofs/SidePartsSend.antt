-- The parts of the sender's side are `Send` and `Sync` where the message and the waker are `Send`.
use mathlib.Core.List.{[]}
use mir.Syntax.{dnil}
use denote.RattleType.{RattleType}
use Rattle.oneshot_word.proofs.Names.{impl, tnil, IsSend, IsSync, AllSend, AllSync, part_keyless, fields, frees, Ghosts, the_type}
use Rattle.std.specs.contracts.alloc.Global as Global
use Rattle.std.specs.contracts.impls.GlobalAllocator.TheImpl as heap
use Rattle.std.specs.contracts.sync.Arc as Arc
use Rattle.std.proofs.sync.Arc.TheSendSync as arc
use Rattle.std.proofs.alloc.Global.TheSendSync as global
use Rattle.atomic_table.specs.contracts.owned.Table as Table
use Rattle.atomic_table.specs.contracts.shared.Seat as Seat
use Rattle.atomic_table.proofs.owned.Table.TheSendSync as table
use Rattle.atomic_table.proofs.shared.Seat.TheSendSync as seat
use Rattle.oneshot_word.specs.contracts.rule.Slot as Slot
use Rattle.oneshot_word.specs.contracts.rule.View as View
use Rattle.oneshot_word.specs.contracts.rule.WordRule as WordRule
use Rattle.oneshot_word.specs.contracts.rule.WordRuleTableRuleSlotView.TheImpl as rule
use Rattle.oneshot_word.proofs.rule.Slot.TheSendSync as slot

-- A `&` to a seat holds shares of the seat, which name no thread.
seat_sync : (S V : RattleType) → IsSend S → IsSync (Seat.the_row S V)
seat_sync S V s = record { shared = λ d b o κ q. part_keyless (Seat.the_row S V) (seat.the_send S V s) q d b o }

abbrev pub WordSeat : RattleType → RattleType → RattleType → RattleType → RattleType
WordSeat T H K P = Seat.the_row (Slot.the_row T H K) (View.the_row T H K P)

module _ (T H K P : RattleType) (g : Ghosts P.Denot T.Denot) where
  abbrev WordTable : RattleType
  WordTable =
      Table.the_row (Slot.the_row T H K) (View.the_row T H K P) P WordRule.the_row Global.the_row
      (rule.ghosts T H K P g (impl [] tnil dnil)) heap.ghosts

  abbrev pub Shared : RattleType
  Shared = Arc.the_row WordTable Global.the_row heap.ghosts

module _ (T H K P : RattleType) (g : Ghosts P.Denot T.Denot) (s : IsSend T) (u : IsSend H) (v : IsSend K) where
  slot_send : IsSend (Slot.the_row T H K)
  slot_send = slot.the_send T H K s u v

  table_send : IsSend (WordTable T H K P g)
  table_send =
      table.the_send (Slot.the_row T H K) (View.the_row T H K P) P WordRule.the_row Global.the_row
      (rule.ghosts T H K P g (impl [] tnil dnil)) heap.ghosts slot_send global.the_send frees

  table_sync : IsSync (WordTable T H K P g)
  table_sync =
      table.the_sync (Slot.the_row T H K) (View.the_row T H K P) P WordRule.the_row Global.the_row
      (rule.ghosts T H K P g (impl [] tnil dnil)) heap.ghosts slot_send global.the_send global.the_sync frees

  shared_send : IsSend (Shared T H K P g)
  shared_send =
      arc.the_send (WordTable T H K P g) Global.the_row heap.ghosts table_send global.the_send table_sync
      global.the_sync frees

  shared_sync : IsSync (Shared T H K P g)
  shared_sync =
      arc.the_sync (WordTable T H K P g) Global.the_row heap.ghosts table_send global.the_send table_sync
      global.the_sync frees

  pub parts_send : AllSend (fields (the_type T H K P g))
  parts_send = (shared_send, (seat.the_send (Slot.the_row T H K) (View.the_row T H K P) slot_send, tt))

  pub parts_sync : AllSync (fields (the_type T H K P g))
  parts_sync = (shared_sync, (seat_sync (Slot.the_row T H K) (View.the_row T H K P) slot_send, tt))
