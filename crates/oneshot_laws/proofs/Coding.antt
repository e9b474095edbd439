-- Codes that sort the values of a type while the checker explores, and tests that only equal values pass.
use Rattle.oneshot_laws.proofs.Names.{◌≡◌, ℕ, ◌+◌, ◌*◌, ◌==◌, Bool, true, false, ◌&&◌, List, [], ◌∷◌, Option, Some, None, refl, sym, ◌∙◌, ap, get_or, eqb-true, End, Sender, Receiver, Reply, bool_code}
use Rattle.oneshot_laws.proofs.Names.{Place, NotSent, InCell, InError, Delivered, FromError, and_left, and_right, same_by, reply_code, place_code, Content, Open, Full, Closed, content_code}
use Rattle.oneshot_laws.proofs.Names.{is_same_flag}
use Rattle.oneshot_machine.specs.declared.machine.Reply.TheVariants as R
use Rattle.oneshot_world.specs.declared.trace.Place.TheVariants.{Dropped}

-- each code is below `width`
pub record Coding (X : Type 0) : Type 0 where
  pub width : ℕ
  pub code : X → ℕ
  pub is_same : X → X → Bool
  pub sound : (a b : X) → is_same a b ≡ true → a ≡ b

-- values that a list has at their codes
abbrev pub listed : {X : Type 0} (width : ℕ) (code : X → ℕ) (values : List X) (d : X)
    → ((x : X) → get_or values (code x) d ≡ x) → Coding X
listed width code values d back =
    record { width = width; code = code; is_same = λ a b. code a == code b; sound = same_by code values d back }

abbrev pub numbers_below : ℕ → Coding ℕ
numbers_below width = record { width = width; code = λ n. n; is_same = λ n k. n == k; sound = eqb-true }

pub flag_is : (a b : Bool) → is_same_flag a b ≡ true → a ≡ b
flag_is true b h = sym h
flag_is false true h = h
flag_is false false h = refl

abbrev pub flags : Coding Bool
flags = record { width = 2; code = bool_code; is_same = is_same_flag; sound = flag_is }

-- a type with one value
abbrev pub alone : Coding (Unit {0})
alone = record { width = 1; code = λ _. 0; is_same = λ _ _. true; sound = λ a b h. refl }

-- two values, one after the other
abbrev pub pairs : {X Y : Type 0} → Coding X → Coding Y → Coding (X × Y)
pairs c d =
    record {
      width = c.width * d.width;
      code = λ p. c.code p.0 * d.width + d.code p.1;
      is_same = λ p q. c.is_same p.0 q.0 && d.is_same p.1 q.1;
      sound = λ p q h.
          let first : p.0 ≡ q.0 = c.sound p.0 q.0 (and_left _ _ h) in
          let second : p.1 ≡ q.1 = d.sound p.1 q.1 (and_right (c.is_same p.0 q.0) _ h) in
          ap (λ x. (x, p.1)) first ∙ ap (λ y. (q.0, y)) second;
    }

-- a value by its parts, which determine it
abbrev pub by_parts : {X Y : Type 0} (parts : X → Y) (whole : Y → X) → ((x : X) → whole (parts x) ≡ x) → Coding Y
    → Coding X
by_parts parts whole back c =
    record {
      width = c.width;
      code = λ x. c.code (parts x);
      is_same = λ a b. c.is_same (parts a) (parts b);
      sound = λ a b h. sym (back a) ∙ ap whole (c.sound (parts a) (parts b) h) ∙ back b;
    }

module _ {X : Type 0} (c : Coding X) where
  abbrev code_or_none : Option X → ℕ
  code_or_none None = 0
  code_or_none (Some x) = 1 + c.code x

  abbrev is_same_or_none : Option X → Option X → Bool
  is_same_or_none None None = true
  is_same_or_none None (Some b) = false
  is_same_or_none (Some a) None = false
  is_same_or_none (Some a) (Some b) = c.is_same a b

  pub same_or_none : (a b : Option X) → is_same_or_none a b ≡ true → a ≡ b
  same_or_none None None h = refl
  same_or_none None (Some b) h = cc
  same_or_none (Some a) None h = cc
  same_or_none (Some a) (Some b) h = ap (λ x. Some x) (c.sound a b h)

  abbrev pub or_none : Coding (Option X)
  or_none = record { width = 1 + c.width; code = code_or_none; is_same = is_same_or_none; sound = same_or_none }

-- WHAT ENTRIES SHOW
abbrev end_code : End → ℕ
end_code Sender = 0
end_code Receiver = 1

pub end_back : (x : End) → get_or (Sender ∷ Receiver ∷ []) (end_code x) Sender ≡ x
end_back Sender = refl
end_back Receiver = refl

abbrev pub both_ends : Coding End
both_ends = listed 2 end_code (Sender ∷ Receiver ∷ []) Sender end_back

abbrev all_replies : List Reply
all_replies =
    R.Sent ∷ R.Refused ∷ R.Yes ∷ R.No ∷ R.Message ∷ R.Empty ∷ R.Timeout ∷ R.Disconnected ∷ R.Pending ∷ R.Future ∷ R.Done
    ∷ []

pub reply_back : (x : Reply) → get_or all_replies (reply_code x) R.Done ≡ x
reply_back R.Sent = refl
reply_back R.Refused = refl
reply_back R.Yes = refl
reply_back R.No = refl
reply_back R.Message = refl
reply_back R.Empty = refl
reply_back R.Timeout = refl
reply_back R.Disconnected = refl
reply_back R.Pending = refl
reply_back R.Future = refl
reply_back R.Done = refl

abbrev pub replies : Coding Reply
replies = listed 11 reply_code all_replies R.Done reply_back

pub content_back : (x : Content) → get_or (Open ∷ Full ∷ Closed ∷ []) (content_code x) Open ≡ x
content_back Open = refl
content_back Full = refl
content_back Closed = refl

abbrev pub contents : Coding Content
contents = listed 3 content_code (Open ∷ Full ∷ Closed ∷ []) Open content_back

abbrev all_places : List Place
all_places = NotSent ∷ InCell ∷ InError ∷ Delivered ∷ FromError ∷ Dropped ∷ []

pub place_back : (x : Place) → get_or all_places (place_code x) NotSent ≡ x
place_back NotSent = refl
place_back InCell = refl
place_back InError = refl
place_back Delivered = refl
place_back FromError = refl
place_back Dropped = refl

abbrev pub places : Coding Place
places = listed 6 place_code all_places NotSent place_back
