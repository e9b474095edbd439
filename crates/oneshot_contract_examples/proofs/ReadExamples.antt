-- The examples of what readers of the rule find: each by its row or its order, and why the counterexamples have none.
use Rattle.std.proofs.Common.{◌≡◌, ℕ, List, [], ◌∷◌, Option, None, refl}
use Rattle.oneshot_word.proofs.Names.{◌⊎◌, inl, inr, sym, ap, subst, Load, Add, Noted, Reaches, nothing_made, sender_makes, receiver_makes, has_row, head, tail}
use Rattle.oneshot_word.specs.declared.rule.Role.{Role}
use Rattle.oneshot_word.specs.declared.rule.Role.TheVariants.{Maker}
use Rattle.oneshot_contract_examples.proofs.OrderExamples.{orders_that_are_not}
use Rattle.oneshot_word.proofs.Names.{Ordered, maker_before, maker_with_slot_before, in_order, Home}
use Rattle.oneshot_word.specs.declared.rule.Role.TheVariants.{MakerWithSlot}
use Rattle.oneshot_word.specs.declared.rule.View.{View}
use Rattle.oneshot_word.specs.declared.any_waker.AnyWaker.{AnyWaker}
use Rattle.oneshot_contract_examples.specs.ReadExamples.{both_in, both_out, one_out, alone, views, found, ReadsThatAre, ReadsThatAreNot}
use Rattle.oneshot_word.proofs.Names.{both_views, view, MESSAGE, DISCONNECTED, EMPTY}
use Rattle.oneshot_machine.proofs.InOrders.{order_is as reached_in_order}
use Rattle.oneshot_word.specs.declared.rule.Role.TheVariants.{Sender, Receiver}
use Rattle.oneshot_word.specs.EndLogs.{sent as sent_alone}
use Rattle.oneshot_contract_examples.specs.ReadExamples.{sent}
use Rattle.oneshot_word.specs.ReadRule.{Owned, both_open, sender_sent, sender_has_it, left_for_receiver, receiver_has_it, receiver_found_it, waits_for_receiver, Ruled, maker_alone}
use Rattle.oneshot_word.specs.ReadRule.{maker_with_slot_alone}
use Rattle.oneshot_word.specs.ReadRule.{two_ends}
use Rattle.oneshot_contract_examples.specs.SeatExamples.{keeps}
use Rattle.oneshot_contract_examples.proofs.StateExamples.{states_that_are_not}
use Rattle.oneshot_contract_examples.proofs.ReceivedExamples.{messages_that_pass}

sends : Reaches sent [] MESSAGE
sends = sender_makes Add nothing_made (has_row head)

pub reads_that_are : ReadsThatAre
reads_that_are =
    record {
      new = maker_alone;
      slot_taken = maker_with_slot_alone;
      both_new = two_ends [] [] (both_open refl refl refl sender_has_it left_for_receiver);
      was_sent = two_ends sent [] (sender_sent sent_alone refl (waits_for_receiver 7) left_for_receiver);
      was_received = two_ends sent found (sender_sent sent_alone refl receiver_found_it receiver_has_it);
      ordered_as_new = maker_before;
      ordered_with_slot = maker_with_slot_before;
      ordered = in_order sent found (receiver_makes Load sends (has_row (tail head)));
      is_read = λ reads. reads 7 _ _ _ ((messages_that_pass ℕ ℕ keeps).lies_there 7 7 refl);
      is_ordered = λ orders. orders 7 _ _ _ ((messages_that_pass ℕ ℕ keeps).lies_there 7 7 refl);
    }

-- equal views of both ends have equal logs
module _ {xs xs' ys ys' : List Noted} {given given' taken taken' : Option ℕ} {put woke : Option (AnyWaker ℕ ℕ)} where
  logs_alike : both_views 7 xs given woke ys taken put ≡ views xs' given' ys' taken' → (xs ≡ xs') × (ys ≡ ys')
  logs_alike are =
      let senders : ◌≡◌ {A = View ℕ ℕ ℕ ℕ} (view 7 Sender xs given woke) (view 7 Sender xs' given' None) = cc are in
      let receivers : ◌≡◌ {A = View ℕ ℕ ℕ ℕ} (view 7 Receiver ys taken put) (view 7 Receiver ys' taken' None) = cc
      are in
      (ap (λ (v : View ℕ ℕ ℕ ℕ). v.log) senders, ap (λ (v : View ℕ ℕ ℕ ℕ). v.log) receivers)

has_order : {words : List ℕ} {seats : List (View ℕ ℕ ℕ ℕ)} {word : ℕ} {xs ys : List Noted} {given taken : Option ℕ}
    → Ordered {P = ℕ} 7 words seats → words ≡ word ∷ [] → seats ≡ views xs given ys taken → Reaches xs ys word
has_order maker_before is are = absurd (cc are)
has_order maker_with_slot_before is are = absurd (cc are)
has_order {word} {xs} {ys} (in_order {word = left} xs' ys' order) is are =
    let alike = logs_alike are in
    let same : left ≡ word = cc is in
    subst (λ word. Reaches xs ys word) same
    (subst (λ ys. Reaches xs ys left) alike.1 (subst (λ xs. Reaches xs ys' left) alike.0 order))

has_owners : {words : List ℕ} {seats : List (View ℕ ℕ ℕ ℕ)} {word : ℕ} {xs ys : List Noted} {given taken : Option ℕ}
    {homes : List (Home ℕ ℕ ℕ)} {h k : Home ℕ ℕ ℕ} → Ruled {P = ℕ} 7 words homes seats → words ≡ word ∷ []
    → homes ≡ h ∷ k ∷ [] → seats ≡ views xs given ys taken → Owned xs ys word h k
has_owners maker_alone is slots are = absurd (cc are)
has_owners maker_with_slot_alone is slots are = absurd (cc are)
has_owners {word} {xs} {ys} {h} {k} (two_ends {w = left} {h = h'} {k = k'} xs' ys' owned) is slots are =
    let alike = logs_alike are in
    let same : left ≡ word = cc is in
    let first : h' ≡ h = cc slots in
    let second : k' ≡ k = cc slots in
    subst (λ k. Owned xs ys word h k) second
    (subst (λ h. Owned xs ys word h k') first
    (subst (λ word. Owned xs ys word h' k') same
    (subst (λ ys. Owned xs ys left h' k') alike.1 (subst (λ xs. Owned xs ys' left h' k') alike.0 owned))))

-- with one seat the table is new, or its maker has the message's slot
abbrev IsNew : Role → List (Home ℕ ℕ ℕ) → Type 0
IsNew role homes = ((role ≡ Maker) × (homes ≡ both_in)) ⊎ ((role ≡ MakerWithSlot) × (homes ≡ one_out))

role_is : {v : View ℕ ℕ ℕ ℕ} (role : Role) → alone role ≡ v ∷ [] → v.role ≡ role
role_is {v} role are =
    let same : ◌≡◌ {A = View ℕ ℕ ℕ ℕ} (view 7 role [] None None) v = cc are in sym
    (ap (λ (v : View ℕ ℕ ℕ ℕ). v.role) same)

first_word : {words : List ℕ} {seats : List (View ℕ ℕ ℕ ℕ)} {v : View ℕ ℕ ℕ ℕ} {homes : List (Home ℕ ℕ ℕ)}
    → Ruled {P = ℕ} 7 words homes seats → seats ≡ v ∷ [] → words ≡ EMPTY ∷ []
first_word maker_alone are = refl
first_word maker_with_slot_alone are = refl
first_word (two_ends xs ys owned) are = absurd (cc are)

first_slots : {words : List ℕ} {seats : List (View ℕ ℕ ℕ ℕ)} {v : View ℕ ℕ ℕ ℕ} {homes : List (Home ℕ ℕ ℕ)}
    → Ruled {P = ℕ} 7 words homes seats → seats ≡ v ∷ [] → IsNew v.role homes
first_slots maker_alone are = inl (role_is Maker are, refl)
first_slots maker_with_slot_alone are = inr (role_is MakerWithSlot are, refl)
first_slots (two_ends xs ys owned) are = absurd (cc are)

first_order : {words : List ℕ} {seats : List (View ℕ ℕ ℕ ℕ)} {v : View ℕ ℕ ℕ ℕ} → Ordered {P = ℕ} 7 words seats
    → seats ≡ v ∷ [] → (words ≡ EMPTY ∷ []) × ((v.role ≡ Maker) ⊎ (v.role ≡ MakerWithSlot))
first_order maker_before are = (refl, inl (role_is Maker are))
first_order maker_with_slot_before are = (refl, inr (role_is MakerWithSlot are))
first_order (in_order xs ys order) are = absurd (cc are)

not_new : IsNew Maker both_out → ⊥
not_new (inl is) = let homes : both_out ≡ both_in = is.1 in cc homes
not_new (inr is) = let role : Maker ≡ MakerWithSlot = is.0 in cc role

not_new_with_slot : IsNew MakerWithSlot both_out → ⊥
not_new_with_slot (inl is) = let role : MakerWithSlot ≡ Maker = is.0 in cc role
not_new_with_slot (inr is) = let homes : both_out ≡ one_out = is.1 in cc homes

not_a_sender : IsNew Sender one_out → ⊥
not_a_sender (inl is) = let role : Sender ≡ Maker = is.0 in cc role
not_a_sender (inr is) = let role : Sender ≡ MakerWithSlot = is.0 in cc role

no_sender_alone : (Sender ≡ Maker) ⊎ (Sender ≡ MakerWithSlot) → ⊥
no_sender_alone (inl is) = cc is
no_sender_alone (inr is) = cc is

pub reads_that_are_not : ReadsThatAreNot
reads_that_are_not =
    record {
      new_word = λ ruled. let is : DISCONNECTED ∷ [] ≡ EMPTY ∷ [] = first_word ruled refl in cc is;
      new_slots = λ ruled. not_new (first_slots ruled refl);
      two_slots_taken = λ ruled. not_new_with_slot (first_slots ruled refl);
      no_ends = λ ruled. elim ruled [ ];
      one_end = λ ruled. not_a_sender (first_slots ruled refl);
      waits_at_3 = λ ruled. states_that_are_not.waits_at_3 (has_owners ruled refl refl refl);
      sent_and_is_bare = λ ruled. states_that_are_not.message_lies_with_nobody (has_owners ruled refl refl refl);
      new_order = λ ordered. let is : DISCONNECTED ∷ [] ≡ EMPTY ∷ [] = (first_order ordered refl).0 in cc is;
      order_of_one = λ ordered. no_sender_alone (first_order ordered refl).1;
      finds_what_nobody_left =
          λ ordered. orders_that_are_not.finds_what_nobody_left (reached_in_order (has_order ordered refl refl));
      leaves_3 = λ ordered. orders_that_are_not.skips_the_last (reached_in_order (has_order ordered refl refl));
    }
