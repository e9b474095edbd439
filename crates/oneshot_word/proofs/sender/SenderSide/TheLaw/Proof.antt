-- A `&` to a side holds nothing but those to its fields.
use denote.RattleType.{RattleType}
use Rattle.oneshot_word.proofs.Names.{Laws, nothing_shr_laws, of_Lends, Lends-nothing, Ghosts}
use Rattle.oneshot_word.specs.contracts.sender.SenderSide.TheInside as Inside
use Rattle.oneshot_word.proofs.sender.SenderSide.TheInside.TheFields.TheLaws as fields
use Rattle.oneshot_word.proofs.sender.SenderSide.TheLaw.Statement.{statement}

pub shares : (T H K P : RattleType) (g : Ghosts P.Denot T.Denot) (L : Laws T) (M : Laws H) (N : Laws K) (O : Laws P)
    → statement T H K P g L M N O
shares T H K P g L M N O =
    of_Lends (Inside.struct T H K P g)
    (Inside.the_codes T.Denot H.Denot K.Denot P.Denot T.coded H.coded K.coded P.coded) (Inside.the_heap T H K P g)
    (Inside.the_lent T H K P g)
    (λ d p. nothing_shr_laws) (fields.the_shared T H K P g L M N O)
    (λ _ 𝓤 𝓛 d p. Lends-nothing 𝓛 (Inside.the_heap T H K P g d) (Inside.the_row T H K P g).lives)
