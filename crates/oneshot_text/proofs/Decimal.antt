-- A number has only one text: its decimal digits, with no sign and no leading zero.
use Rattle.std.proofs.Common.{◌≡◌, ◌≢◌, ℕ, zero, suc, ◌^◌, ◌<◌, List, [], ◌∷◌, length, get_or, Result, Ok, Err, Some, IfSome, decimal, sym, ap, ◌∙◌, arith}
use Rattle.std.specs.Result.{result_ok}
use Rattle.std.specs.Str.Parse.{ParsesUnsigned, AllDigits, digits_value}
use Rattle.std.proofs.lemmas.Fmt.{decimal_is_IsNumeral, decimal_digit, first_decimal, decimal-digits_value, parse-decimal}
use Rattle.std.proofs.lemmas.Str.Parse.{digit_from_value, IsNumeralModel, numerals_by_value, tells_digits, parse_plain}

numerals : IsNumeralModel (AllDigits 10) (digits_value 10)
numerals = numerals_by_value _ tells_digits

-- the first byte of a decimal is no '+'
pub decimal-unsigned : (n : ℕ) → n < 2 ^ 64 → get_or (decimal n) 0 0 ≢ 43
decimal-unsigned zero small = rw (decimal_digit 0 (omega arith)) (omega arith)
decimal-unsigned (suc n) small = let first = first_decimal (suc n) (omega arith) small in omega arith

-- only 0 begins with a '0'
pub decimal-leads : (n : ℕ) → n < 2 ^ 64 → get_or (decimal n) 0 0 ≡ 48 → length (decimal n) ≡ 1
decimal-leads zero small leads = rw (decimal_digit 0 (omega arith))
decimal-leads (suc n) small leads = let first = first_decimal (suc n) (omega arith) small in omega arith

-- what `parse` returns for a text with no '+' and no leading zero
pub parse-plain_decimal : {E : Type 0} (bs : List ℕ) (r : Result ℕ E) → ParsesUnsigned 64 10 bs r
    → get_or bs 0 0 ≢ 43 → (get_or bs 0 0 ≡ 48 → length bs ≡ 1) → IfSome (result_ok r) (λ n. bs ≡ decimal n)
parse-plain_decimal {E} bs (Ok n) parses plain leads =
    let read = parse_plain numerals {E = E} 64 bs (Ok n) parses plain in
    sym (ap decimal read.1 ∙ decimal-digits_value numerals bs read.0.0 read.0.1 leads read.0.2)
parse-plain_decimal bs (Err e) parses plain leads = tt

-- what `parse` returns for a decimal
pub parse-of_decimal : {E : Type 0} (bs : List ℕ) (r : Result ℕ E) (n : ℕ) → ParsesUnsigned 64 10 bs r → n < 2 ^ 64
    → bs ≡ decimal n → result_ok r ≡ Some n
parse-of_decimal bs r n parses small is = ap result_ok (parse-decimal 64 n bs r small small is parses)

first_of_digits : (bs : List ℕ) → AllDigits 10 bs → get_or bs 0 0 < 58
first_of_digits [] digits = omega arith
first_of_digits (b ∷ bs) digits = omega (arith, digit_from_value b digits.0)

-- a decimal begins with no letter
pub decimal-no_letter : (n : ℕ) (word : List ℕ) → n < 2 ^ 64 → 57 < get_or word 0 0 → decimal n ≢ word
decimal-no_letter n word small letter is =
    omega (arith, first_of_digits (decimal n) (decimal_is_IsNumeral n small).0.1, ap (λ w. get_or w 0 0) is)

pub ruleset one_text = (decimal-unsigned, decimal-leads, parse-plain_decimal, parse-of_decimal)
