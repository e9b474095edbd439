-- The names of a channel and of a loop, with a count, are the arguments of exactly one command.
use Rattle.std.proofs.Common.{◌≡◌, ◌↔◌, ◌⊎◌, inl, inr, ℕ, List, [], ◌∷◌, Some, length, get_or, map, ap, refl, sym, subst, arith}
use Rattle.oneshot_loops.specs.declared.channels.Channel.{Channel}
use Rattle.oneshot_loops.specs.declared.channels.Channel.TheVariants.{Oneshot}
use Rattle.oneshot_loops.specs.declared.command.Command.{Command}
use Rattle.oneshot_loops.specs.declared.command.Command.TheVariants.{Usage, Measure}
use Rattle.oneshot_loops.specs.declared.loops.Loop.{Loop}
use Rattle.oneshot_loops.specs.Channel.{channel_name}
use Rattle.oneshot_loops.specs.Loop.{name_of}
use Rattle.oneshot_loops.specs.Command.{Asks, AsksOver, Writes}

-- the loop, or the channel, of this name
abbrev IsLoop : Loop → List ℕ → Type 0
IsLoop kind name = (other : Loop) → (Some kind ≡ Some other) ↔ (name_of other ≡ name)

abbrev IsChannel : Channel → List ℕ → Type 0
IsChannel channel name = (other : Channel) → (Some channel ≡ Some other) ↔ (channel_name other ≡ name)

-- a word is the numeral of one number
writes-one : (word : List ℕ) (m n : ℕ) → Writes word m → Writes word n → m ≡ n
writes-one word m n one other = cc (one.value, other.value)

asked-measure : (over : Channel) (name word : List ℕ) (kind : Loop) (count : ℕ) (command : Command)
    → IsLoop kind name
    → Writes word count → AsksOver over (name ∷ word ∷ []) command → Measure over kind count ≡ command
asked-measure over name word kind count Usage named writes asks = absurd asks
asked-measure over name word kind count (Measure channel other number) named writes (text, same_channel, is, wrote) =
    let same : text ≡ word = cc in
    let found : Some kind ≡ Some other = (named other).1 (cc) in
    let value : count ≡ number = writes-one word count number writes (rw same at wrote) in
    cc

pub measure-asked : (over : Channel) (name word : List ℕ) (kind : Loop) (count : ℕ) (command : Command)
    → IsLoop kind name
    → Writes word count → (Some (Measure over kind count) ≡ Some command) ↔ AsksOver over (name ∷ word ∷ []) command
measure-asked over name word kind count command named writes =
    let asks : AsksOver over (name ∷ word ∷ []) (Measure over kind count) =
    (word, refl, (cc ((named kind).0 refl)), writes) in (
      (λ is. let same : Measure over kind count ≡ command = cc in
          subst (λ asked. AsksOver over (name ∷ word ∷ []) asked) same asks),
      (λ asked. ap Some (asked-measure over name word kind count command named writes asked)),
    )

-- the words begin with this channel's name, or name none, which means `Oneshot`
abbrev Over : List (List ℕ) → Channel → List (List ℕ) → Type 0
Over words channel rest = (words ≡ channel_name channel ∷ rest) ⊎ ((channel ≡ Oneshot) × (words ≡ rest))

over-two : (name word text : List ℕ) (channel : Channel) (kind : Loop)
    → Over (name ∷ word ∷ []) channel (name_of kind ∷ text ∷ [])
    → (Oneshot ≡ channel) × (name ∷ word ∷ [] ≡ name_of kind ∷ text ∷ [])
over-two name word text channel kind (inl long) = absurd cc
over-two name word text channel kind (inr short) = (sym short.0, short.1)

over-three : (first name word text : List ℕ) (over channel : Channel) (kind : Loop) → IsChannel over first
    → Over (first ∷ name ∷ word ∷ []) channel (name_of kind ∷ text ∷ [])
    → (over ≡ channel) × (name ∷ word ∷ [] ≡ name_of kind ∷ text ∷ [])
over-three first name word text over channel kind named (inl long) =
    let found : Some over ≡ Some channel = (named channel).1 (cc) in (cc, cc)
over-three first name word text over channel kind named (inr short) = let long = short.1 in absurd cc

-- two words are read as those over `Oneshot`
pub asks-two : (name word : List ℕ) (command : Command)
    → AsksOver Oneshot (name ∷ word ∷ []) command ↔ Asks (name ∷ word ∷ []) command
asks-two name word Usage = ((λ asks. absurd asks), (λ is. absurd cc))
asks-two name word (Measure channel kind count) = (
  (λ asks. (asks.0, inr (sym asks.1, asks.2), asks.3)),
  (λ asks. let over = over-two name word asks.0 channel kind asks.1 in (asks.0, over.0, over.1, asks.2)),
)

-- three words are read as the last two over the channel that the first names
pub asks-three : (first name word : List ℕ) (over : Channel) (command : Command) → IsChannel over first
    → AsksOver over (name ∷ word ∷ []) command ↔ Asks (first ∷ name ∷ word ∷ []) command
asks-three first name word over Usage named = ((λ asks. absurd asks), (λ is. absurd cc))
asks-three first name word over (Measure channel kind count) named = (
  (λ asks. let its = (named over).0 refl in let same = asks.1 in let rest = asks.2 in
      (asks.0, inl (cc), asks.3)),
  (λ asks. let over = over-three first name word asks.0 over channel kind named asks.1 in
      (asks.0, over.0, over.1, asks.2)),
)

-- a list of two, by its elements
pub map-pair : {A B : Type 0} (f : A → B) (xs : List A) (a b : A) → length xs ≡ 2 → a ≡ get_or xs 0 a
    → b ≡ get_or xs 1 b → map f xs ≡ f a ∷ f b ∷ []
map-pair f [] a b two first second = absurd (omega arith)
map-pair f (x ∷ []) a b two first second = absurd (omega arith)
map-pair f (x ∷ y ∷ []) a b two first second = cc
map-pair f (x ∷ y ∷ z ∷ xs) a b two first second = absurd (omega arith)

-- a list of three, by its elements
pub map-triple : {A B : Type 0} (f : A → B) (xs : List A) (a b c : A) → length xs ≡ 3 → a ≡ get_or xs 0 a
    → b ≡ get_or xs 1 b
    → c ≡ get_or xs 2 c → map f xs ≡ f a ∷ f b ∷ f c ∷ []
map-triple f [] a b c three first second third = absurd (omega arith)
map-triple f (x ∷ []) a b c three first second third = absurd (omega arith)
map-triple f (x ∷ y ∷ []) a b c three first second third = absurd (omega arith)
map-triple f (x ∷ y ∷ z ∷ []) a b c three first second third = cc
map-triple f (x ∷ y ∷ z ∷ w ∷ xs) a b c three first second third = absurd (omega arith)
