-- Examples and counterexamples of the words, slots at home and views that readers of the rule find.
use Rattle.std.specs.Prelude.{ℕ, List, [], ◌∷◌, Option, Some, None}
use Rattle.oneshot_machine.specs.declared.machine.Seen.TheVariants.{Word}
use Rattle.oneshot_machine.specs.declared.states.Op.TheVariants.{Load, Add}
use Rattle.oneshot_machine.specs.declared.states.TheConstants.{UNPARKING, DISCONNECTED, EMPTY, MESSAGE}
use Rattle.oneshot_machine.specs.Noted.{Noted}
use Rattle.oneshot_word.specs.declared.rule.Role.{Role}
use Rattle.oneshot_word.specs.declared.rule.Role.TheVariants.{Maker, MakerWithSlot, Sender}
use Rattle.oneshot_word.specs.declared.rule.View.{View}
use Rattle.oneshot_word.specs.Ordered.{Ordered, RuleOrders}
use Rattle.oneshot_word.specs.ReadRule.{Ruled, RuleReads}
use Rattle.oneshot_word.specs.Received.{both_views}
use Rattle.oneshot_word.specs.Rule.{Home, out, bare, has_message}
use Rattle.oneshot_contract_examples.specs.SeatExamples.{keeps}
use Rattle.oneshot_word.specs.Seats.{view}
use Rattle.oneshot_contract_examples.specs.ExampleLogs.{claims, loaded, sent_over, waits}

abbrev pub Homes : Type 0
Homes = List (Home ℕ ℕ ℕ)

abbrev pub both_out : Homes
both_out = out ∷ out ∷ []

abbrev pub one_out : Homes
one_out = out ∷ bare ∷ []

abbrev pub both_in : Homes
both_in = bare ∷ bare ∷ []

abbrev pub message_in : Homes
message_in = has_message 7 ∷ bare ∷ []

-- the views of one seat, and of both ends, of a channel about 7
abbrev pub alone : Role → List (View ℕ ℕ ℕ ℕ)
alone role = view 7 role [] None None ∷ []

abbrev pub views : List Noted → Option ℕ → List Noted → Option ℕ → List (View ℕ ℕ ℕ ℕ)
views xs given ys taken = both_views 7 xs given None ys taken None

-- a `send`, a load before it, and a load after it that finds the message
abbrev pub sent : List Noted
sent = (Add, Word EMPTY) ∷ []

abbrev pub found : List Noted
found = (Load, Word MESSAGE) ∷ []

pub record ReadsThatAre : Type 0 where
  pub new : Ruled {P = ℕ} 7 (EMPTY ∷ []) both_in (alone Maker)
  pub slot_taken : Ruled {P = ℕ} 7 (EMPTY ∷ []) one_out (alone MakerWithSlot)
  pub both_new : Ruled {P = ℕ} 7 (EMPTY ∷ []) one_out (views [] None [] None)
  pub was_sent : Ruled {P = ℕ} 7 (MESSAGE ∷ []) message_in (views sent (Some 7) [] None)
  pub was_received : Ruled {P = ℕ} 7 (MESSAGE ∷ []) both_out (views sent (Some 7) found (Some 7))
  pub ordered_as_new : Ordered {H = ℕ} {K = ℕ} {P = ℕ} 7 (EMPTY ∷ []) (alone Maker)
  pub ordered_with_slot : Ordered {H = ℕ} {K = ℕ} {P = ℕ} 7 (EMPTY ∷ []) (alone MakerWithSlot)
  pub ordered : Ordered {H = ℕ} {K = ℕ} {P = ℕ} 7 (MESSAGE ∷ []) (views sent (Some 7) found (Some 7))
  -- what both laws state of a message in the table
  pub is_read : RuleReads ℕ ℕ keeps → Ruled {P = ℕ} 7 (MESSAGE ∷ []) message_in (views sent (Some 7) [] None)
  pub is_ordered : RuleOrders ℕ ℕ keeps → Ordered {H = ℕ} {K = ℕ} {P = ℕ} 7 (MESSAGE ∷ []) (views sent (Some 7) [] None)

pub record ReadsThatAreNot : Type 0 where
  -- before there are ends
  pub new_word : Ruled {P = ℕ} 7 (DISCONNECTED ∷ []) both_in (alone Maker) → ⊥
  pub new_slots : Ruled {P = ℕ} 7 (EMPTY ∷ []) both_out (alone Maker) → ⊥
  pub two_slots_taken : Ruled {P = ℕ} 7 (EMPTY ∷ []) both_out (alone MakerWithSlot) → ⊥
  pub no_ends : Ruled {P = ℕ} 7 (EMPTY ∷ []) both_in [] → ⊥
  pub one_end : Ruled {P = ℕ} 7 (EMPTY ∷ []) one_out (alone Sender) → ⊥
  -- once there are ends: a state that has no row of owners
  pub waits_at_3 : {h k : Home ℕ ℕ ℕ} {given taken : Option ℕ}
      → Ruled {P = ℕ} 7 (EMPTY ∷ []) (h ∷ k ∷ []) (views claims given waits taken) → ⊥
  pub sent_and_is_bare : {given taken : Option ℕ}
      → Ruled {P = ℕ} 7 (MESSAGE ∷ []) both_in (views (sent_over UNPARKING) given waits taken) → ⊥
  -- another word, one seat alone, and logs that have no order
  pub new_order : Ordered {H = ℕ} {K = ℕ} {P = ℕ} 7 (DISCONNECTED ∷ []) (alone Maker) → ⊥
  pub order_of_one : Ordered {H = ℕ} {K = ℕ} {P = ℕ} 7 (EMPTY ∷ []) (alone Sender) → ⊥
  pub finds_what_nobody_left : {word : ℕ} {given taken : Option ℕ}
      → Ordered {H = ℕ} {K = ℕ} {P = ℕ} 7 (word ∷ []) (views [] given found taken) → ⊥
  pub leaves_3 : {given taken : Option ℕ} → Ordered {H =
      ℕ} {K = ℕ} {P = ℕ} 7 (EMPTY
      ∷ []) (views sent given loaded taken) →
      ⊥
