-- The arguments of each command.
use Rattle.std.specs.Prelude.{◌≡◌, ℕ, ◌^◌, ◌<◌, ◌⊎◌, List, [], ◌∷◌}
use Rattle.std.specs.Str.Parse.{IsNumeral, digits_value, without_leading_plus}
use Rattle.oneshot_loops.specs.declared.channels.Channel.{Channel}
use Rattle.oneshot_loops.specs.declared.channels.Channel.TheVariants.{Oneshot}
use Rattle.oneshot_loops.specs.declared.command.Command.{Command}
use Rattle.oneshot_loops.specs.declared.command.Command.TheVariants.{Usage, Measure}
use Rattle.oneshot_loops.specs.Channel.{channel_name}
use Rattle.oneshot_loops.specs.Loop.{name_of}

-- the word is the number in decimal digits, with or without a plus before them
pub record Writes (word : List ℕ) (count : ℕ) : Type 0 where
  pub numeral : IsNumeral 10 (without_leading_plus word)
  pub fits : digits_value 10 (without_leading_plus word) < 2 ^ 64
  pub value : digits_value 10 (without_leading_plus word) ≡ count

-- the words that follow the channel's name: a loop's name and a count
abbrev pub AsksOver : Channel → List (List ℕ) → Command → Type 0
AsksOver over words Usage = ⊥
AsksOver over words (Measure channel kind count) =
    (word : List ℕ) × (over ≡ channel) × (words ≡ name_of kind ∷ word ∷ []) × Writes word count

-- no word at all, or a loop's name and a count, with or without a channel's name before them
abbrev pub Asks : List (List ℕ) → Command → Type 0
Asks words Usage = words ≡ []
Asks words (Measure channel kind count) =
    (word : List ℕ)
    × ((words ≡ channel_name channel ∷ name_of kind ∷ word ∷ [])
    ⊎ ((channel ≡ Oneshot) × (words ≡ name_of kind ∷ word ∷ [])))
    × Writes word count
