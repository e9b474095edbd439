-- Proofs of the goals that `parse_command` leaves.
use Rattle.std.proofs.Common.{◌≡◌, [], ◌∷◌, map, string_bytes, arith}
use Rattle.oneshot_loops.proofs.Asked.{map-pair, map-triple, asks-two, asks-three}
use Rattle.oneshot_loops.proofs.command.parse_command.Goals as goal

pub returns-in-len2 : goal.returns-in-len2
returns-in-len2 c =
    let pair =
    map-pair string_bytes c.args.words.now c.name-item.result c.count-item.result (omega arith) c.name-item.is
    c.count-item.is in
    let words : map string_bytes c.args.words.now ≡ c.as_str.result.now ∷ c.as_str-in-len2.result.now ∷ [] = cc in
    rw words (λ command.
    let parsed = c.parse_measure.ensures command in
    let asks = asks-two c.as_str.result.now c.as_str-in-len2.result.now command in
    ((λ is. asks.0 (parsed.0 is)), (λ asked. parsed.1 (asks.1 asked))))

pub returns-in_ok-named-in-len3 : goal.returns-in_ok-named-in-len3
returns-in_ok-named-in-len3 c =
    let first = c.as_str-in-len3.result.now in
    let name = c.as_str-in-len3-2.result.now in
    let count = c.as_str-in-len3-3.result.now in
    let triple =
    map-triple string_bytes c.args.words.now c.channel-item.result c.name-item-then-words-lt4.result
    c.count-item-then-words-lt4.result
    (omega arith) c.channel-item.is c.name-item-then-words-lt4.is c.count-item-then-words-lt4.is in
    let words : map string_bytes c.args.words.now ≡ first ∷ name ∷ count ∷ [] = cc in
    rw words (λ command.
    let parsed = c.parse_measure-in-len3.ensures command in
    let asks = asks-three first name count c.in_ok-named-in-len3.field-0 command c.in_ok-named-in-len3.ensures in
    ((λ is. asks.0 (parsed.0 is)), (λ asked. parsed.1 (asks.1 asked))))
